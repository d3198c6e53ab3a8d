use Rattle.hub_runs.proofs.Promised.{no_command_is_taken_twice}
use Rattle.hub_runs.proofs.promises.no_command_is_taken_twice.Goals as goal

pub returns : goal.returns
returns g c = no_command_is_taken_twice g.R.Register.start g.R.Register.rule
