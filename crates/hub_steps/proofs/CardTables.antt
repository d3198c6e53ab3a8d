-- Tables numbered from 1, as code finds and indexes them.
use Rattle.std.proofs.Common.{◌≡◌, ℕ, zero, suc, ◌-◌, ◌≤◌, List, [], ◌∷◌, length, get_or, set, Some, sym, ap, ◌∙◌, sub-one, arith}
use Rattle.std.proofs.lemmas.List.{get_or_default}
use Rattle.hub_tables.specs.Search.{active_card, first}
use Rattle.hub_cards.specs.Tables.{at, put}
use Rattle.hub_cards.specs.declared.Card.{Card}
use Rattle.hub_steps.specs.CardSteps.{Within}
use Rattle.hub_tables.proofs.Searches.{active_card_is}

pub put_is_set : {A : Type 0} (xs : List A) (n : ℕ) (x : A) → 1 ≤ n → put xs n x ≡ set xs (n - 1) x
put_is_set xs zero x low = let z : ⊥ = omega arith in absurd z
put_is_set xs (suc i) x low = ap (λ k. set xs k x) (sym (sub-one (suc i)))

pub at_is_getD : {A : Type 0} (blank : A) (xs : List A) (n : ℕ) → 1 ≤ n → at blank xs n ≡ get_or xs (n - 1) blank
at_is_getD blank xs zero low = let z : ⊥ = omega arith in absurd z
at_is_getD blank xs (suc i) low = ap (λ k. get_or xs k blank) (sym (sub-one (suc i)))

-- A read of a place that the table has, whatever would be read past the end.
pub read_is_at : {A : Type 0} (blank d : A) (xs : List A) (n : ℕ) → 1 ≤ n → n ≤ length xs → get_or xs (n - 1) d ≡ at blank xs n
read_is_at blank d xs n low high = get_or_default xs (n - 1) d blank (omega arith) ∙ sym (at_is_getD blank xs n low)

-- What a search finds is a number of the table.
pub active_within : {P : Type 0} (cards : List (Card P)) (n : ℕ) → active_card cards ≡ Some n → Within n (length cards)
unfolding first
active_within [] n e = let no : ⊥ = cc in absurd no
active_within (card ∷ cards) n e = let found = active_card_is card.partner (card ∷ cards) n e in (found.1, found.2)

-- The same of what a call answered.
pub active_is_within : {P : Type 0} (cards : List (Card P)) (a n : ℕ) → Some a ≡ active_card cards → n ≡ a → Within n (length cards)
active_is_within cards a n is same = let found = active_within cards a (sym is) in (omega arith, omega arith)
