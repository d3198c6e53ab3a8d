-- The card that the search found is one of the table's, and is written back as lost.
use Rattle.std.proofs.Common.{arith, rules}
use Rattle.hub_steps.proofs.CardLosses.{card_lost}
use Rattle.hub_steps.proofs.CardTables.{active_is_within}
use Rattle.hub_steps.proofs.card_steps.lose.Goals as goal

pub overflow_sub-number : goal.overflow_sub-number
overflow_sub-number g c = (active_is_within _ _ _ c.in-Some.ensures c.number.ensures).0

pub offset_bounds-cards-number : goal.offset_bounds-cards-number
offset_bounds-cards-number g c =
    let within = active_is_within _ _ _ c.in-Some.ensures c.number.ensures in
    search rules

pub bounds-cards-number : goal.bounds-cards-number
bounds-cards-number g c =
    let within = active_is_within _ _ _ c.in-Some.ensures c.number.ensures in
    omega arith

pub bounds-cards-number-in-Some : goal.bounds-cards-number-in-Some
bounds-cards-number-in-Some g c =
    let within = active_is_within _ _ _ c.in-Some.ensures c.number.ensures in
    omega arith

pub returns : goal.returns
returns g c =
    card_lost _ _ _ c.args.cards.now _ c.in-Some.ensures c.number.ensures (active_is_within _ _ _ c.in-Some.ensures c.number.ensures)
