-- The list of a card that takes a command.
use Rattle.std.proofs.Common.{◌≡◌, ℕ, ◌+◌, ◌≤◌, List, [], ◌∷◌, ◌++◌, length, ap, ◌∙◌}
use Rattle.hub_cards.specs.Tables.{at}
use Rattle.hub_runs.specs.Promises.{times}
use Rattle.hub_runs.specs.Runs.{appended}
use Rattle.hub_runs.proofs.Places.{at_put_same}
use Rattle.hub_runs.proofs.Times.{times-append}

-- How often it then holds a command.
pub list_grows : (lists : List (List ℕ)) (m c last d : ℕ) → m ≡ last → 1 ≤ m → m ≤ length lists → times d (at [] (appended lists m c) last) ≡ times d (at [] lists last) + times d (c ∷ [])
list_grows lists m c last d same low high =
    rw (← same) (ap (times d) (at_put_same [] (at [] lists m ++ (c ∷ [])) lists m low high) ∙ times-append d (at [] lists m) (c ∷ []))
