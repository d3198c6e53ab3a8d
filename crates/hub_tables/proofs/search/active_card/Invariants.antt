-- The cards before the loop's place hold no answer: what is left gives it.
use Rattle.std.proofs.Common.{◌≡◌, ◌+◌, drop}
use Rattle.hub_cards.specs.Statuses.{is_active}
use Rattle.hub_tables.specs.Search.{active_card, first}
use Rattle.hub_tables.proofs.search.active_card.Given as goal

abbrev pub invariant-loop-i : goal.invariant-loop-i
invariant-loop-i g l = active_card l.cards ≡ first is_active (l.i + 1) (drop l.i l.cards)
