-- How often a list holds a command.
use Rattle.std.proofs.Common.{◌≡◌, ℕ, ◌+◌, ◌≢◌, List, [], ◌∷◌, ◌++◌, arith}
use Rattle.std.proofs.lemmas.Bool.Decides.{nat_tests}
use Rattle.hub_runs.specs.Promises.{times}

pub times-append : (c : ℕ) (xs ys : List ℕ) → times c (xs ++ ys) ≡ times c xs + times c ys
unfolding times
times-append c [] ys = omega arith
times-append c (x ∷ xs) ys = omega (arith, times-append c xs ys)

pub times_here : (c : ℕ) (xs : List ℕ) → times c (c ∷ xs) ≡ 1 + times c xs
unfolding times
times_here c xs = grind (arith, nat_tests)

pub times_other : (c d : ℕ) (xs : List ℕ) → c ≢ d → times c (d ∷ xs) ≡ times c xs
unfolding times
times_other c d xs ne = grind (arith, nat_tests)

pub times_one : (c : ℕ) → times c (c ∷ []) ≡ 1
unfolding times
times_one c = times_here c []

pub times_none : (c d : ℕ) → c ≢ d → times c (d ∷ []) ≡ 0
unfolding times
times_none c d ne = times_other c d [] ne
