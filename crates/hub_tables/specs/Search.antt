-- The searches over the cards of a role. Each answers a card's number, from 1.
use Rattle.std.specs.Prelude.{◌≡◌, ℕ, suc, Bool, cond, List, [], ◌∷◌, Some, None, Option}
use Rattle.hub_cards.specs.Statuses.{is_active, is_lost, is_used}
use Rattle.hub_cards.specs.declared.Card.{Card}
use Rattle.hub_cards.specs.declared.Status.{Status}

-- The first of the numbers from `n` on whose card passes the test; and the last.
unfoldable pub first : {P : Type 0} → (Status → Bool) → ℕ → List (Card P) → Option ℕ
first test n [] = None
first test n (card ∷ cards) = cond (test card.status) (Some n) (first test (suc n) cards)

-- Answers that stand to a status in this relation are those of the test.
abbrev pub Tells : (Status → Bool → Type 0) → (Status → Bool) → Type 0
Tells answers test = (status : Status) (answer : Bool) → answers status answer → answer ≡ test status

abbrev pub or_else : Option ℕ → Option ℕ → Option ℕ
or_else None other = other
or_else (Some n) other = Some n

unfoldable pub last : {P : Type 0} → (Status → Bool) → ℕ → List (Card P) → Option ℕ
last test n [] = None
last test n (card ∷ cards) = or_else (last test (suc n) cards) (cond (test card.status) (Some n) None)

-- Which of several active cards a search takes: the lowest-numbered.
abbrev pub active_card : {P : Type 0} → List (Card P) → Option ℕ
active_card cards = first is_active 1 cards

abbrev pub last_lost : {P : Type 0} → List (Card P) → Option ℕ
last_lost cards = last is_lost 1 cards

abbrev pub last_card : {P : Type 0} → List (Card P) → Option ℕ
last_card cards = last is_used 1 cards
