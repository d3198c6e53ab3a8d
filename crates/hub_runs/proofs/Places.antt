-- What a table holds after a write: the new record at its place, and elsewhere what stood there.
use Rattle.std.proofs.Common.{◌≡◌, ℕ, zero, suc, ◌<◌, ◌≤◌, ◌≢◌, List, [], ◌∷◌, length, get_or, set, replicate, refl, ap, ⊎_elim, arith}
use Rattle.std.proofs.lemmas.Bool.{cases_lt}
use Rattle.std.proofs.lemmas.List.{length-replicate, length-set, get_or-set_same, get_or_past, get_or-replicate}
use Rattle.hub_cards.specs.Tables.{at, put}

pub length-put : {A : Type 0} (xs : List A) (i : ℕ) (x : A) → length (put xs i x) ≡ length xs
length-put xs zero x = refl
length-put xs (suc i) x = length-set xs i x

pub at_put_same : {A : Type 0} (blank x : A) (xs : List A) (i : ℕ) → 1 ≤ i → i ≤ length xs → at blank (put xs i x) i ≡ x
at_put_same blank x xs zero low high = absurd (omega arith)
at_put_same blank x xs (suc i) low high = get_or-set_same xs i x blank (omega arith)

-- What holds of the new record, if it is at this place, and of what stood there holds of what stands there now.
set_either : {A : Type 0} (Q : A → Type 0) (blank x : A) (xs : List A) (i j : ℕ) → (i ≡ j → Q x) → Q (get_or xs j blank) → Q (get_or (set xs i x) j blank)
set_either Q blank x [] i j new old = old
set_either Q blank x (y ∷ ys) zero zero new old = new refl
set_either Q blank x (y ∷ ys) zero (suc j) new old = old
set_either Q blank x (y ∷ ys) (suc i) zero new old = old
set_either Q blank x (y ∷ ys) (suc i) (suc j) new old = set_either Q blank x ys i j (λ e. new (ap suc e)) old

pub put_either : {A : Type 0} (Q : A → Type 0) (blank x : A) (xs : List A) (i j : ℕ) → (i ≡ j → Q x) → Q (at blank xs j) → Q (at blank (put xs i x) j)
put_either Q blank x xs zero j new old = old
put_either Q blank x xs (suc i) zero new old = old
put_either Q blank x xs (suc i) (suc j) new old = set_either Q blank x xs i j (λ e. new (ap suc e)) old

pub at_put_other : {A : Type 0} (blank x : A) (xs : List A) (i j : ℕ) → i ≢ j → at blank (put xs i x) j ≡ at blank xs j
at_put_other blank x xs i j ne = put_either (λ y. y ≡ at blank xs j) blank x xs i j (λ e. absurd (ne e)) refl

-- a part that the new record has in common with the old one is unchanged at every place
pub at_put_like : {A B : Type 0} (part : A → B) (blank x : A) (xs : List A) (i j : ℕ) → part x ≡ part (at blank xs i) → part (at blank (put xs i x) j) ≡ part (at blank xs j)
at_put_like part blank x xs i j same = put_either (λ y. part y ≡ part (at blank xs j)) blank x xs i j (λ e. rw (← e) same) refl

pub at_past : {A : Type 0} (blank : A) (xs : List A) (i : ℕ) → length xs < i → at blank xs i ≡ blank
at_past blank xs zero past = refl
at_past blank xs (suc i) past = get_or_past xs i blank (omega arith)

-- in a table of equal records
pub at_replicate : {A : Type 0} (blank x : A) (n i : ℕ) → 1 ≤ i → i ≤ n → at blank (replicate n x) i ≡ x
at_replicate blank x n zero low high = absurd (omega arith)
at_replicate blank x n (suc i) low high = get_or-replicate n i x blank (omega arith)

-- and of blank ones
pub all_blank : {A : Type 0} (blank : A) (n i : ℕ) → at blank (replicate n blank) i ≡ blank
all_blank blank n i = ⊎_elim
    (λ past. at_past blank (replicate n blank) i (omega (arith, length-replicate n blank)))
    (λ within. low_enough i within)
    (cases_lt n i)
  where
    low_enough : (i : ℕ) → i ≤ n → at blank (replicate n blank) i ≡ blank
    low_enough zero within = refl
    low_enough (suc j) within = get_or-replicate n j blank blank (omega arith)
