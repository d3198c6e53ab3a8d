-- Tables whose places are numbered from 1. Place 0, and any place past the end, is empty: it reads as a blank record,
-- and nothing can be written there.
use Rattle.std.specs.Prelude.{List, ℕ, zero, suc, get_or, set}
use Rattle.hub_cards.specs.declared.Card.{Card}
use Rattle.hub_cards.specs.declared.Status.TheVariants.{Unused}

abbrev pub at : {A : Type 0} → A → List A → ℕ → A
at blank xs zero = blank
at blank xs (suc i) = get_or xs i blank

abbrev pub put : {A : Type 0} → List A → ℕ → A → List A
put xs zero x = xs
put xs (suc i) x = set xs i x

-- A card that no table has, with this partner.
abbrev pub blank_card : {P : Type 0} → P → Card P
blank_card partner = record { status = Unused; partner = partner; version = 0 }
