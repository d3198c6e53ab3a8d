-- Laws of the searches: what an answer says of the table.
use Rattle.std.proofs.Common.{◌≡◌, ℕ, zero, suc, ◌+◌, ◌<◌, Bool, true, false, cond, ◌⊎◌, List, [], ◌∷◌, length, get_or, Some, None, Option, sym, refl, subst, inl, inr, ⊎_elim, arith}
use Rattle.hub_cards.specs.Statuses.{is_active, is_lost, is_used}
use Rattle.hub_tables.specs.Search.{active_card, first, last, last_card, last_lost, or_else}
use Rattle.hub_tables.specs.SearchLaws.{Finds, Highest, Lowest, Passes, SearchLaws, status_at}
use Rattle.hub_cards.specs.Tables.{blank_card}
use Rattle.hub_cards.specs.declared.Card.{Card}
use Rattle.hub_cards.specs.declared.Status.{Status}
use Rattle.hub_cards.specs.declared.Status.TheVariants.{Unused}

-- the status at an index from 0
abbrev status_of : {P : Type 0} → P → List (Card P) → ℕ → Status
status_of p cards j = (get_or cards j (blank_card p)).status

-- an answer of a search that numbers the cards from `k` on
abbrev Answers : {P : Type 0} → (Status → Bool) → P → ℕ → List (Card P) → ℕ → ℕ → Type 0
Answers test p k cards n j = (n ≡ k + j) × (j < length cards) × (test (status_of p cards j) ≡ true)

some_same : (m n : ℕ) → Some m ≡ Some n → m ≡ n
some_same m n e = cc

some_none : (A : Type 0) (n : ℕ) → Some n ≡ None → A
some_none A n e = let z : ◌≡◌ {A = ℕ} 0 1 = cc in let no : ⊥ = omega arith in absurd no

cond_some : (b : Bool) (k n : ℕ) (o : Option ℕ) → cond b (Some k) o ≡ Some n → ((b ≡ true) × (k ≡ n)) ⊎ ((b ≡ false) × (o ≡ Some n))
cond_some true k n o e = inl (refl, some_same k n e)
cond_some false k n o e = inr (refl, e)

cond_none : (b : Bool) (k : ℕ) (o : Option ℕ) → cond b (Some k) o ≡ None → (b ≡ false) × (o ≡ None)
cond_none true k o e = some_none _ k e
cond_none false k o e = (refl, e)

-- The first card that passes.

abbrev FirstAt : {P : Type 0} → (Status → Bool) → P → ℕ → List (Card P) → ℕ → Type 0
FirstAt test p k cards n =
    (j : ℕ) × Answers test p k cards n j × ((i : ℕ) → i < j → test (status_of p cards i) ≡ false)

first_at : {P : Type 0} (test : Status → Bool) (p : P) (k n : ℕ) (cards : List (Card P)) → first test k cards ≡ Some n → FirstAt test p k cards n
unfolding first
first_at test p k n [] e = some_none _ n (sym e)
first_at test p k n (card ∷ cards) e =
    ⊎_elim
    (λ here. (0, (omega arith, omega arith, here.0), λ i below. let z : ⊥ = omega arith in absurd z))
    (λ later. let further = first_at test p (suc k) n cards later.1 in
    (suc further.0, (omega arith, omega arith, further.1.2), below_more later.0 further.2))
    (cond_some _ k n _ e)
  where
    below_more : {j : ℕ} → test card.status ≡ false → ((i : ℕ) → i < j → test (status_of p cards i) ≡ false) → (i : ℕ) → i < suc j → test (status_of p (card ∷ cards) i) ≡ false
    below_more f below zero h = f
    below_more f below (suc i) h = below i (omega arith)

first_none : {P : Type 0} (test : Status → Bool) (p : P) (k : ℕ) (cards : List (Card P)) → test Unused ≡ false → first test k cards ≡ None → (j : ℕ) → test (status_of p cards j) ≡ false
unfolding first
first_none test p k [] unused e j = unused
first_none test p k (card ∷ cards) unused e zero = (cond_none _ k _ e).0
first_none test p k (card ∷ cards) unused e (suc j) = first_none test p (suc k) cards unused (cond_none _ k _ e).1 j

-- The last card that passes.

or_else_some : (o other : Option ℕ) (n : ℕ) → or_else o other ≡ Some n → (o ≡ Some n) ⊎ ((o ≡ None) × (other ≡ Some n))
or_else_some None other n e = inr (refl, e)
or_else_some (Some m) other n e = inl e

or_else_none : (o other : Option ℕ) → or_else o other ≡ None → (o ≡ None) × (other ≡ None)
or_else_none None other e = (refl, e)
or_else_none (Some m) other e = some_none _ m e

here_some : (b : Bool) (k n : ℕ) → cond b (Some k) None ≡ Some n → (b ≡ true) × (k ≡ n)
here_some b k n e = ⊎_elim (λ here. here) (λ later. some_none _ n (sym later.1)) (cond_some b k n None e)

last_none : {P : Type 0} (test : Status → Bool) (p : P) (k : ℕ) (cards : List (Card P)) → test Unused ≡ false → last test k cards ≡ None → (j : ℕ) → test (status_of p cards j) ≡ false
unfolding last
last_none test p k [] unused e j = unused
last_none test p k (card ∷ cards) unused e zero = (cond_none _ k None (or_else_none _ _ e).1).0
last_none test p k (card ∷ cards) unused e (suc j) =
    last_none test p (suc k) cards unused (or_else_none _ _ e).0 j

abbrev LastAt : {P : Type 0} → (Status → Bool) → P → ℕ → List (Card P) → ℕ → Type 0
LastAt test p k cards n =
    (j : ℕ) × Answers test p k cards n j × ((i : ℕ) → j < i → test (status_of p cards i) ≡ false)

last_at : {P : Type 0} (test : Status → Bool) (p : P) (k n : ℕ) (cards : List (Card P)) → test Unused ≡ false → last test k cards ≡ Some n → LastAt test p k cards n
unfolding last
last_at test p k n [] unused e = some_none _ n (sym e)
last_at test p k n (card ∷ cards) unused e =
    ⊎_elim
    (λ later. let further = last_at test p (suc k) n cards unused later in
    (suc further.0, (omega arith, omega arith, further.1.2), above_more further.2))
    (λ here. let is = here_some _ k n here.1 in
    (0, (omega arith, omega arith, is.0), above_here (last_none test p (suc k) cards unused here.0)))
    (or_else_some _ _ n e)
  where
    above_more : {j : ℕ} → ((i : ℕ) → j < i → test (status_of p cards i) ≡ false) → (i : ℕ) → suc j < i → test (status_of p (card ∷ cards) i) ≡ false
    above_more above zero h = let z : ⊥ = omega arith in absurd z
    above_more above (suc i) h = above i (omega arith)

    above_here : ((i : ℕ) → test (status_of p cards i) ≡ false) → (i : ℕ) → 0 < i → test (status_of p (card ∷ cards) i) ≡ false
    above_here none zero h = let z : ⊥ = omega arith in absurd z
    above_here none (suc i) h = none i

-- The numbers of a table's cards are from 1.

numbered : {P : Type 0} (test : Status → Bool) (p : P) (cards : List (Card P)) (n j : ℕ) → Answers test p 1 cards n j → Passes test p cards n
numbered test p cards n j is =
    let e : suc j ≡ n = omega arith in
    let passes : test (status_at p cards (suc j)) ≡ true = is.2 in
    (subst (λ m. test (status_at p cards m) ≡ true) e passes, omega arith, omega arith)

none_numbered : {P : Type 0} (test : Status → Bool) (p : P) (cards : List (Card P)) → test Unused ≡ false → ((j : ℕ) → test (status_of p cards j) ≡ false) → (n : ℕ) → test (status_at p cards n) ≡ false
none_numbered test p cards unused none zero = unused
none_numbered test p cards unused none (suc j) = none j

pub first_finds : {P : Type 0} (test : Status → Bool) → test Unused ≡ false → Finds {P = P} test (first test 1)
first_finds test unused = (
  λ p cards n e. let found = first_at test p 1 n cards e in numbered test p cards n found.0 found.1,
  λ p cards e. none_numbered test p cards unused (first_none test p 1 cards unused e),
)

pub first_lowest : {P : Type 0} (test : Status → Bool) → test Unused ≡ false → Lowest {P = P} test (first test 1)
first_lowest test unused p cards n e zero below = unused
first_lowest test unused p cards n e (suc i) below =
    let found = first_at test p 1 n cards e in found.2 i (omega arith)

pub last_finds : {P : Type 0} (test : Status → Bool) → test Unused ≡ false → Finds {P = P} test (last test 1)
last_finds test unused = (
  λ p cards n e. let found = last_at test p 1 n cards unused e in numbered test p cards n found.0 found.1,
  λ p cards e. none_numbered test p cards unused (last_none test p 1 cards unused e),
)

pub last_highest : {P : Type 0} (test : Status → Bool) → test Unused ≡ false → Highest {P = P} test (last test 1)
last_highest test unused p cards n e zero above = unused
last_highest test unused p cards n e (suc i) above =
    let found = last_at test p 1 n cards unused e in found.2 i (omega arith)

pub searches_lawful : (P : Type 0) → SearchLaws P
searches_lawful P =
    record {
      active = first_finds is_active refl;
      active_lowest = first_lowest is_active refl;
      lost = last_finds is_lost refl;
      lost_highest = last_highest is_lost refl;
      used = last_finds is_used refl;
      used_highest = last_highest is_used refl;
    }

-- The same laws by name, one for each search and each kind of answer.

pub active_card_is : {P : Type 0} (p : P) (cards : List (Card P)) (n : ℕ) → active_card cards ≡ Some n → Passes is_active p cards n
active_card_is = (searches_lawful _).active.0

pub active_card_none : {P : Type 0} (p : P) (cards : List (Card P)) → active_card cards ≡ None → (n : ℕ) → is_active (status_at p cards n) ≡ false
active_card_none = (searches_lawful _).active.1

pub active_card_lowest : {P : Type 0} (p : P) (cards : List (Card P)) (n : ℕ) → active_card cards ≡ Some n → (i : ℕ) → i < n → is_active (status_at p cards i) ≡ false
active_card_lowest = (searches_lawful _).active_lowest

pub last_lost_is : {P : Type 0} (p : P) (cards : List (Card P)) (n : ℕ) → last_lost cards ≡ Some n → Passes is_lost p cards n
last_lost_is = (searches_lawful _).lost.0

pub last_lost_none : {P : Type 0} (p : P) (cards : List (Card P)) → last_lost cards ≡ None → (n : ℕ) → is_lost (status_at p cards n) ≡ false
last_lost_none = (searches_lawful _).lost.1

pub last_lost_highest : {P : Type 0} (p : P) (cards : List (Card P)) (n : ℕ) → last_lost cards ≡ Some n → (i : ℕ) → n < i → is_lost (status_at p cards i) ≡ false
last_lost_highest = (searches_lawful _).lost_highest

pub last_card_is : {P : Type 0} (p : P) (cards : List (Card P)) (n : ℕ) → last_card cards ≡ Some n → Passes is_used p cards n
last_card_is = (searches_lawful _).used.0

pub last_card_none : {P : Type 0} (p : P) (cards : List (Card P)) → last_card cards ≡ None → (n : ℕ) → is_used (status_at p cards n) ≡ false
last_card_none = (searches_lawful _).used.1

pub last_card_highest : {P : Type 0} (p : P) (cards : List (Card P)) (n : ℕ) → last_card cards ≡ Some n → (i : ℕ) → n < i → is_used (status_at p cards i) ≡ false
last_card_highest = (searches_lawful _).used_highest
