-- What is left gives the answer, or else what was found so far is it.
use Rattle.std.proofs.Common.{◌≡◌, ◌+◌, Bool, drop}
use Rattle.std.specs.Option.{option_map}
use Rattle.hub_cards.specs.declared.Status.{Status}
use Rattle.hub_tables.specs.Search.{Tells, last, or_else}
use Rattle.hub_tables.proofs.search.last.Given as goal

abbrev pub invariant-loop-i : goal.invariant-loop-i
invariant-loop-i g l =
    (test : Status → Bool) → Tells (goal.F-post g l.passes) test
    → last test 1 l.cards ≡ or_else (last test (l.i + 1) (drop l.i l.cards)) (option_map g.N.CardNumber.plain l.found)
