use Rattle.hub_runs.proofs.Promised.{done_commands_are_in_both_last_lists}
use Rattle.hub_runs.proofs.promises.done_commands_are_in_both_last_lists.Goals as goal

pub returns : goal.returns
returns g c = done_commands_are_in_both_last_lists g.R.Register.start g.R.Register.rule
