-- The order in which a card took its commands does not matter to its figures.
use Rattle.std.proofs.Common.{◌≡◌, ℕ, zero, suc, ◌≤◌, false, cond, ◌&&◌, eqb, leb, List, [], ◌∷◌, ◌++◌, length, get_or, take, ℤ, pos, fold, sym, refl, ap, ◌∙◌, ⊎_elim, add-one, arith}
use Rattle.std.specs.List.{AllByRecursion}
use Rattle.std.proofs.ByRecursion.{All-get_or}
use Rattle.std.proofs.lemmas.List.{get_or_past, take_all}
use Rattle.std.proofs.lemmas.List.Sums.{fold_push, fold_more}
use Rattle.std.proofs.lemmas.Bool.{cases_lt, cond_both, eqb-true, eqb-false}
use Rattle.std.proofs.lemmas.Bool.Decides.{nat_tests}
use Rattle.registers.specs.Kind.{Rule}
use Rattle.registers.specs.Taken.{InRange}
use Rattle.hub_runs.specs.Law.{Reached, at_start, after_move, Commutes}
use Rattle.hub_runs.specs.Promises.{times, Holds, NoRepeats, move_of, figures_of}
use Rattle.hub_runs.proofs.Times.{times-append, times_here, times_other}

-- a number that no command has stands for a move of 0, which is in range too
pub move_in_range : (moves : List ℤ) → AllByRecursion InRange moves → (c : ℕ) → InRange (move_of moves c)
move_in_range moves ranged zero = omega arith
move_in_range moves ranged (suc i) =
    ⊎_elim
    (λ within. All-get_or InRange moves i (pos 0) within ranged)
    (λ past. rw (get_or_past moves i (pos 0) past) (omega arith))
    (cases_lt i (length moves))

-- a list without the first place that holds a command
abbrev without : ℕ → List ℕ → List ℕ
without c [] = []
without c (y ∷ ys) = cond (eqb c y) ys (y ∷ without c ys)

-- a command that a list holds, though not first, stands further on
held_later : (c y : ℕ) (ys : List ℕ) → eqb c y ≡ false → 1 ≤ times c (y ∷ ys) → 1 ≤ times c ys
held_later c y ys ne holds = omega (arith, times_other c y ys (eqb-false c y ne))

times_without : (c d : ℕ) (ys : List ℕ) → 1 ≤ times c ys → times d (c ∷ without c ys) ≡ times d ys
unfolding times
times_without c d [] holds = absurd (omega arith)
times_without c d (y ∷ ys) holds =
    cond_both (eqb c y) ys (y ∷ without c ys) (λ rest. times d (c ∷ rest) ≡ times d (y ∷ ys))
    (λ e. ap (λ k. times d (k ∷ ys)) (eqb-true c y e))
    (λ ne. let later = times_without c d ys (held_later c y ys ne holds) in omega arith)

module _ (start : List ℤ) (rule : Rule) (moves : List ℤ) (law : Commutes start rule) (ranged : AllByRecursion InRange moves) where
  -- a command that a list holds may as well be taken first
  taken_first : (c : ℕ) (ys : List ℕ) (f : List ℤ) → Reached start rule f → 1 ≤ times c ys → figures_of f rule moves ys ≡ figures_of f rule moves (c ∷ without c ys)
  unfolding times
  taken_first c [] f reached holds = absurd (omega arith)
  taken_first c (y ∷ ys) f reached holds =
      let t = move_in_range moves ranged y in
      cond_both (eqb c y) ys (y ∷ without c ys) (λ rest. figures_of f rule moves (y ∷ ys) ≡ figures_of f rule moves (c ∷ rest))
      (λ e. ap (λ k. figures_of f rule moves (k ∷ ys)) (sym (eqb-true c y e)))
      (λ ne. taken_first c ys (rule f (move_of moves y)) (after_move reached t) (held_later c y ys ne holds)
      ∙ ap (λ g. figures_of g rule moves (without c ys)) (law f (move_of moves y) (move_of moves c) reached t (move_in_range moves ranged c)))

  -- two lists that hold every command equally often
  same_figures : (xs ys : List ℕ) (f : List ℤ) → Reached start rule f → ((c : ℕ) → times c xs ≡ times c ys) → figures_of f rule moves xs ≡ figures_of f rule moves ys
  unfolding times
  same_figures [] [] f reached same = refl
  same_figures [] (y ∷ ys) f reached same = absurd (omega (arith, same y, times_here y ys))
  same_figures (x ∷ xs) ys f reached same =
      let holds : 1 ≤ times x ys = omega (arith, same x, times_here x xs) in
      same_figures xs (without x ys) (rule f (move_of moves x)) (after_move reached (move_in_range moves ranged x))
      (λ c. omega (arith, same c, times_without x c ys holds))
      ∙ sym (taken_first x ys f reached holds)

-- the numbers from 1 to n
abbrev numbers : ℕ → List ℕ
numbers zero = []
numbers (suc n) = numbers n ++ (suc n ∷ [])

times_numbers : (c n : ℕ) → times c (numbers n) ≡ cond (leb 1 c && leb c n) 1 0
unfolding times
times_numbers c zero = grind (arith, nat_tests)
times_numbers c (suc n) = let e = times-append c (numbers n) (suc n ∷ []) in let h = times_numbers c n in grind (arith, nat_tests)

numbers_figures : (start : List ℤ) (rule : Rule) (moves : List ℤ) (n : ℕ) → n ≤ length moves → figures_of start rule moves (numbers n) ≡ fold rule start (take n moves)
numbers_figures start rule moves zero within = refl
numbers_figures start rule moves (suc n) within =
    fold_push (λ f c. rule f (move_of moves c)) start (numbers n) (suc n)
    ∙ ap (λ f. rule f (get_or moves n (pos 0))) (numbers_figures start rule moves n (omega arith))
    ∙ sym (fold_more rule start moves n (pos 0) (omega arith))
    ∙ ap (λ k. fold rule start (take k moves)) (add-one n)

pub in_number_order : (start : List ℤ) (rule : Rule) (moves : List ℤ) → Commutes start rule → AllByRecursion InRange moves → (list : List ℕ) → NoRepeats list → ((c : ℕ) → Holds list c → (1 ≤ c) × (c ≤ length moves)) → ((c : ℕ) → 1 ≤ c → c ≤ length moves → Holds list c) → figures_of start rule moves list ≡ fold rule start moves
in_number_order start rule moves law ranged list once known all =
    same_figures start rule moves law ranged list (numbers (length moves)) start at_start
    (λ c. let o = once c in let k = known c in let a = all c in let e = times_numbers c (length moves) in grind (arith, nat_tests))
    ∙ numbers_figures start rule moves (length moves) (omega arith)
    ∙ ap (fold rule start) (take_all (length moves) moves (omega arith))
