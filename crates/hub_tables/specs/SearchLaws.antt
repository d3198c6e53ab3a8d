-- What the answers of the searches mean, for any table and any partner of a blank card.
use Rattle.std.specs.Prelude.{◌≡◌, ℕ, ◌<◌, ◌≤◌, Bool, true, false, List, length, Some, None, Option}
use Rattle.hub_cards.specs.Statuses.{is_active, is_lost, is_used}
use Rattle.hub_tables.specs.Search.{active_card, last_card, last_lost}
use Rattle.hub_cards.specs.Tables.{at, blank_card}
use Rattle.hub_cards.specs.declared.BackupNumber.{BackupNumber}
use Rattle.hub_cards.specs.declared.Card.{Card}
use Rattle.hub_cards.specs.declared.MasterNumber.{MasterNumber}
use Rattle.hub_cards.specs.declared.Status.{Status}

-- The status at a number: unused at 0 and past the end.
abbrev pub status_at : {P : Type 0} → P → List (Card P) → ℕ → Status
status_at p cards n = (at (blank_card p) cards n).status

-- The number is that of a card of the table which passes the test.
abbrev pub Passes : {P : Type 0} → (Status → Bool) → P → List (Card P) → ℕ → Type 0
Passes test p cards n = (test (status_at p cards n) ≡ true) × (1 ≤ n) × (n ≤ length cards)

-- A search that answers a number answers that of a card which passes; and one that answers none had none to answer.
abbrev pub Finds : {P : Type 0} → (Status → Bool) → (List (Card P) → Option ℕ) → Type 0
Finds {P} test search_of =
    ((p : P) (cards : List (Card P)) (n : ℕ) → search_of cards ≡ Some n → Passes test p cards n)
    × ((p : P) (cards : List (Card P)) → search_of cards ≡ None → (n : ℕ) → test (status_at p cards n) ≡ false)

-- No card below the answer passes; and none above it.
abbrev pub Lowest : {P : Type 0} → (Status → Bool) → (List (Card P) → Option ℕ) → Type 0
Lowest {P} test search_of =
    (p : P) (cards : List (Card P)) (n : ℕ) → search_of cards ≡ Some n → (i : ℕ) → i < n → test (status_at p cards i) ≡ false

abbrev pub Highest : {P : Type 0} → (Status → Bool) → (List (Card P) → Option ℕ) → Type 0
Highest {P} test search_of =
    (p : P) (cards : List (Card P)) (n : ℕ) → search_of cards ≡ Some n → (i : ℕ) → n < i → test (status_at p cards i) ≡ false

-- The laws of the three searches, over cards with partners of one kind.
pub record SearchLaws (P : Type 0) : Type 0 where
  pub active : Finds {P = P} is_active active_card
  pub active_lowest : Lowest {P = P} is_active active_card
  pub lost : Finds {P = P} is_lost last_lost
  pub lost_highest : Highest {P = P} is_lost last_lost
  pub used : Finds {P = P} is_used last_card
  pub used_highest : Highest {P = P} is_used last_card

abbrev pub LawsOfSearches : Type 0
LawsOfSearches = SearchLaws BackupNumber × SearchLaws MasterNumber
