use Rattle.hub_runs.proofs.Promised.{fatal_means_both_cards_of_a_command_are_gone}
use Rattle.hub_runs.proofs.promises.fatal_means_both_cards_of_a_command_are_gone.Goals as goal

pub returns : goal.returns
returns g c = fatal_means_both_cards_of_a_command_are_gone g.R.Register.start g.R.Register.rule
