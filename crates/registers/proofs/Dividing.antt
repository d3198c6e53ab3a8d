-- The steps of the code give the computed mean: it divides toward zero, and goes one farther from zero where a half or more
-- is left.
use Rattle.std.proofs.Common.{◌≡◌, ℕ, zero, suc, ◌+◌, ◌*◌, ◌/◌, ◌%◌, ◌<◌, ◌≤◌, min, ℤ, pos, negsuc, ◌+ℤ◌, neg_ℤ, nat_abs, ap, ◌∙◌, mul-le-mul_right, mod-lt, arith, w64, SFits}
use native.Mathlib.Nat.{zero-mod, mul-div-le}
use lib.Signed.{quot_z, rem_z}
use Rattle.std.proofs.lemmas.Int.{ints}
use Rattle.std.proofs.lemmas.Bool.Decides.{nat_tests}
use Rattle.std.specs.Int.{int_signum}
use Rattle.registers.specs.Mean.{rounded}
use Rattle.registers.proofs.Rounding.{computed}

rounded_low : (a v : ℕ) → 2 * (a % v) < v → a / v ≡ rounded a v
rounded_low a v left = grind (arith, nat_tests)

rounded_high : (a v : ℕ) → v ≤ 2 * (a % v) → a / v + 1 ≡ rounded a v
rounded_high a v left = grind (arith, nat_tests)

pub quotient_stays : (s : ℤ) (v : ℕ) → 2 * nat_abs (rem_z s (pos v)) < v → quot_z s (pos v) ≡ computed s v
quotient_stays (pos a) v left = ap pos (rounded_low a v left)
quotient_stays (negsuc a) v left = ap (λ n. neg_ℤ (pos n)) (rounded_low (suc a) v (omega (arith, ints)))

pub quotient_farther : (s : ℤ) (v : ℕ) → 0 < v → v ≤ 2 * nat_abs (rem_z s (pos v)) → quot_z s (pos v) +ℤ int_signum s ≡ computed s v
quotient_farther (pos zero) v some left = let z : ⊥ = omega (arith, zero-mod v) in absurd z
quotient_farther (pos (suc a)) v some left =
    let one : min (suc a) 1 ≡ 1 = omega arith in
    ap pos (ap (λ n. suc a / v + n) one ∙ rounded_high (suc a) v left)
quotient_farther (negsuc a) v some left =
    let more : suc a / v + 1 ≡ rounded (suc a) v = rounded_high (suc a) v (omega (arith, ints)) in
    omega (arith, ints)

-- where a half or more is left, the version is at least 2, so that there is room for one more
room : (a v : ℕ) → 0 < v → v ≤ 2 * (a % v) → 2 * (a / v) ≤ a
room a v some left =
    let two : 2 ≤ v = omega (arith, mod-lt a some) in
    omega (arith, mul-le-mul_right (a / v) two, mul-div-le a v)

pub farther_fits : (s : ℤ) (v : ℕ) → SFits w64 s → 0 < v → v ≤ 2 * nat_abs (rem_z s (pos v)) → SFits w64 (quot_z s (pos v) +ℤ int_signum s)
farther_fits (pos a) v fits some left = let half = room a v some left in omega (arith, ints)
farther_fits (negsuc a) v fits some left =
    let left' : v ≤ 2 * (suc a % v) = omega (arith, ints) in
    let half = room (suc a) v some left' in
    omega (arith, ints)
