-- The maker is a card that the search found.
use Rattle.std.proofs.Common.{sym, arith}
use Rattle.hub_steps.proofs.CardTables.{active_within}
use Rattle.hub_steps.proofs.card_steps.choose.Goals as goal

pub returns-clause-within : goal.returns-clause-within
returns-clause-within g c = (active_within c.args.makers.now _ (sym c.in-Some-None-Some.ensures), (omega arith, omega arith))
