use Rattle.hub_runs.proofs.Promised.{at_most_one_card_of_a_role_is_active}
use Rattle.hub_runs.proofs.promises.at_most_one_card_of_a_role_is_active.Goals as goal

pub returns : goal.returns
returns g c = at_most_one_card_of_a_role_is_active g.R.Register.start g.R.Register.rule
