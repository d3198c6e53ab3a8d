use Rattle.hub_runs.proofs.OfModule.{steps_are_the_modules}
use Rattle.hub_runs.proofs.model.steps_are_the_modules.Goals as goal

pub returns : goal.returns
returns g c = steps_are_the_modules g.R.Register.rule
