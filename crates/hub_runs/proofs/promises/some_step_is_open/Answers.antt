use Rattle.hub_runs.proofs.Promised.{some_step_is_open}
use Rattle.hub_runs.proofs.promises.some_step_is_open.Goals as goal

pub returns : goal.returns
returns g c = some_step_is_open g.R.Register.start g.R.Register.rule
