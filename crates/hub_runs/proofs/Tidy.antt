-- The lists of a role's cards: there is one for each place, no list holds a command twice, and only commands of the hub
-- stand in them.
use Rattle.std.proofs.Common.{◌≡◌, ℕ, ◌+◌, ◌≤◌, List, [], ◌∷◌, ◌++◌, length, replicate, ◌∙◌, ⊎_elim, arith}
use Rattle.std.proofs.lemmas.Bool.{cases_eq}
use Rattle.std.proofs.lemmas.List.{length-replicate}
use Rattle.hub_cards.specs.Tables.{at, put}
use Rattle.hub_runs.specs.Promises.{times}
use Rattle.hub_runs.specs.Runs.{appended}
use Rattle.hub_runs.proofs.Places.{length-put, put_either, all_blank}
use Rattle.hub_runs.proofs.Times.{times-append, times_one, times_none}

abbrev pub TidyList : ℕ → List ℕ → Type 0
TidyList n list = (c : ℕ) → (times c list ≤ 1) × (1 ≤ times c list → (1 ≤ c) × (c ≤ n))

pub record Tidy (n places : ℕ) (lists : List (List ℕ)) : Type 0 where
  pub long : length lists ≡ places
  pub each : (i : ℕ) → TidyList n (at [] lists i)

pub tidy_put : {n places : ℕ} {lists : List (List ℕ)} → Tidy n places lists → (i : ℕ) (list : List ℕ) → TidyList n list → Tidy n places (put lists i list)
tidy_put {n} {places} {lists} tidy i list new = record {
  long = length-put lists i list ∙ tidy.long;
  each = λ j. put_either (TidyList n) [] list lists i j (λ _. new) (tidy.each j);
}

-- One command more, which the list did not hold.
pub tidy_more : (n c : ℕ) (list : List ℕ) → TidyList n list → times c list ≡ 0 → 1 ≤ c → c ≤ n → TidyList n (list ++ (c ∷ []))
tidy_more n c list tidy none low high d =
    let sum : times d (list ++ (c ∷ [])) ≡ times d list + times d (c ∷ []) = times-append d list (c ∷ []) in
    ⊎_elim
    (λ same. let one : times d (c ∷ []) ≡ 1 = rw (← same) (times_one d) in let old : times d list ≡ 0 = rw same none in (omega arith, λ _. (omega arith, omega arith)))
    (λ apart. let one = times_none d c apart in (omega (arith, (tidy d).0), λ h. (tidy d).1 (omega arith)))
    (cases_eq d c)

pub tidy_appended : {n places : ℕ} {lists : List (List ℕ)} → Tidy n places lists → (c i : ℕ) → times c (at [] lists i) ≡ 0 → 1 ≤ c → c ≤ n → Tidy n places (appended lists i c)
tidy_appended {n} {places} {lists} tidy c i none low high =
    tidy_put tidy i (at [] lists i ++ (c ∷ [])) (tidy_more n c (at [] lists i) (tidy.each i) none low high)

-- At first every list is empty.
pub tidy_first : (n places : ℕ) → Tidy n places (replicate places [])
unfolding times
tidy_first n places = record {
  long = length-replicate places [];
  each = λ i. rw (all_blank {A = List ℕ} [] places i) (λ c. (omega arith, λ h. absurd (omega arith)));
}
