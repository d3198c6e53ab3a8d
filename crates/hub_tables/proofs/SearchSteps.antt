-- What one turn of a search's loop does to the answer that the rest of the cards gives.
use Rattle.std.proofs.Common.{◌≡◌, ℕ, suc, ◌+◌, ◌<◌, ◌≤◌, Bool, true, false, cond, List, length, get_or, drop, Some, None, Option, sym, refl, ap, ◌∙◌, add-one}
use Rattle.std.proofs.lemmas.List.{at_drop_all, at_drop_more}
use Rattle.hub_tables.specs.Search.{first, last, or_else}
use Rattle.hub_cards.specs.declared.Card.{Card}
use Rattle.hub_cards.specs.declared.Status.{Status}

pub first_step : {P : Type 0} (test : Status → Bool) (cards : List (Card P)) (i : ℕ) (card : Card P) → i < length cards → card ≡ get_or cards i card → first test (i + 1) (drop i cards) ≡ cond (test card.status) (Some (i + 1)) (first test (i + 1 + 1) (drop (i + 1) cards))
unfolding first
first_step test cards i card within is =
    at_drop_more (first test (i + 1)) cards i card within
    ∙ ap (λ (c : Card _). cond (test c.status) (Some (i + 1)) (first test (suc (i + 1)) (drop (i + 1) cards))) (sym is)
    ∙ ap (λ k. cond (test card.status) (Some (i + 1)) (first test k (drop (i + 1) cards))) (sym (add-one (i + 1)))

pub first_end : {P : Type 0} (test : Status → Bool) (cards : List (Card P)) (i : ℕ) → length cards ≤ i → first test (i + 1) (drop i cards) ≡ None
unfolding first
first_end test cards i past = at_drop_all (first test (i + 1)) cards i past

or_else_here : (o : Option ℕ) (here : Bool) (n : ℕ) (found : Option ℕ) → or_else (or_else o (cond here (Some n) None)) found ≡ or_else o (cond here (Some n) found)
or_else_here None true n found = refl
or_else_here None false n found = refl
or_else_here (Some m) here n found = refl

pub last_step : {P : Type 0} (test : Status → Bool) (cards : List (Card P)) (i : ℕ) (card : Card P) (found : Option ℕ) → i < length cards → card ≡ get_or cards i card → or_else (last test (i + 1) (drop i cards)) found ≡ or_else (last test (i + 1 + 1) (drop (i + 1) cards)) (cond (test card.status) (Some (i + 1)) found)
unfolding last
last_step test cards i card found within is =
    at_drop_more (λ cs. or_else (last test (i + 1) cs) found) cards i card within
    ∙ or_else_here (last test (suc (i + 1)) (drop (i + 1) cards)) (test (get_or cards i card).status) (i + 1) found
    ∙ ap (λ (c : Card _). or_else (last test (suc (i + 1)) (drop (i + 1) cards)) (cond (test c.status) (Some (i + 1)) found)) (sym is)
    ∙ ap (λ k. or_else (last test k (drop (i + 1) cards)) (cond (test card.status) (Some (i + 1)) found)) (sym (add-one (i + 1)))

pub last_end : {P : Type 0} (test : Status → Bool) (cards : List (Card P)) (i : ℕ) (found : Option ℕ) → length cards ≤ i → or_else (last test (i + 1) (drop i cards)) found ≡ found
unfolding last
last_end test cards i found past = at_drop_all (λ cs. or_else (last test (i + 1) cs) found) cards i past
