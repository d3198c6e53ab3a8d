-- Places of a table that is numbered from 1, from the index of a number.
use Rattle.std.proofs.Common.{◌≡◌, ℕ, zero, suc, List, [], ◌∷◌, get_or, set, refl, ap}
use Rattle.hub_cards.specs.Tables.{at, blank_card, put}
use Rattle.hub_cards.specs.declared.Card.{Card}

pub at_index : {A : Type 0} (blank : A) (xs : List A) (n i : ℕ) → n ≡ suc i → at blank xs n ≡ get_or xs i blank
at_index blank xs n i e = ap (at blank xs) e

pub put_index : {A : Type 0} (xs : List A) (n i : ℕ) (x : A) → n ≡ suc i → put xs n x ≡ set xs i x
put_index xs n i x e = ap (λ k. put xs k x) e

-- A card's version is the same whatever partner a blank card has.
pub version_is : {P : Type 0} (p q : P) (cards : List (Card P)) (n : ℕ) → (at (blank_card p) cards n).version ≡ (at (blank_card q) cards n).version
version_is p q cards zero = refl
version_is p q [] (suc i) = refl
version_is p q (card ∷ cards) (suc zero) = refl
version_is p q (card ∷ cards) (suc (suc i)) = version_is p q cards (suc i)
