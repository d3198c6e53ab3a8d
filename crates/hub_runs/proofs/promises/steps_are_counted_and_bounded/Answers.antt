use Rattle.hub_runs.proofs.Promised.{steps_are_counted_and_bounded}
use Rattle.hub_runs.proofs.promises.steps_are_counted_and_bounded.Goals as goal

pub returns : goal.returns
returns g c = steps_are_counted_and_bounded g.R.Register.start g.R.Register.rule
