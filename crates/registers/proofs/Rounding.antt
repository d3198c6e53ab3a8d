-- The mean that is computed is a mean, and every mean is that one.
use Rattle.std.proofs.Common.{◌≡◌, ℕ, zero, suc, ◌<◌, Bool, ℤ, pos, negsuc, nat_abs, Some, None, Decides, Option, sym, refl, ap, ◌∙◌, subst, ⊎_elim, suc-mul, arith}
use Rattle.std.proofs.lemmas.Int.{ints}
use Rattle.std.proofs.lemmas.Bool.{both_ways, cases_lt}
use Rattle.std.proofs.lemmas.Bool.Decides.{Decides-int_eq, nat_tests}
use Rattle.std.specs.Option.{option_eq}
use Rattle.std.specs.Ordering.{int_eq}
use Rattle.registers.specs.Mean.{ComputesMean, IsMean, mean_of_sum, MeanIs, Nearest, NoneNearer, off, OneMean, rounded, with_sign}
use Rattle.registers.proofs.Sizes.{off_size, only_rounded, rounded_is}

size_with_sign : (s : ℤ) (n : ℕ) → nat_abs (with_sign s n) ≡ n
size_with_sign (pos a) n = refl
size_with_sign (negsuc a) n = omega (arith, ints)

-- the distance of a number with the sum's sign is that of the sizes
off_sizes : (s : ℤ) (p v : ℕ) → off s v (with_sign s p) ≡ off_size (nat_abs s) v p
off_sizes (pos a) p v = refl
off_sizes (negsuc a) p v = grind (arith, ints)

-- a nearest number has the sum's sign, or is 0
nearest_sign : (s : ℤ) (v : ℕ) (r : ℤ) → 0 < v → Nearest s v r → r ≡ with_sign s (nat_abs r)
nearest_sign (pos a) v (pos p) some near = refl
nearest_sign (pos a) v (negsuc p) some near = let z : ⊥ = omega (arith, ints, suc-mul p v) in absurd z
nearest_sign (negsuc a) v (pos zero) some near = refl
nearest_sign (negsuc a) v (pos (suc p)) some near = let z : ⊥ = omega (arith, ints, suc-mul p v) in absurd z
nearest_sign (negsuc a) v (negsuc p) some near = refl

abbrev pub computed : ℤ → ℕ → ℤ
computed s v = with_sign s (rounded (nat_abs s) v)

pub computed_is : (s : ℤ) (v : ℕ) → 0 < v → IsMean s v (computed s v)
computed_is s v some =
    let is = rounded_is (nat_abs s) v some in
    let d = off_sizes s (rounded (nat_abs s) v) v in
    record { nearest = omega arith; half = λ tie. size_with_sign s _ ∙ is.1 (sym d ∙ tie) }

pub only_computed : (s : ℤ) (v : ℕ) (r : ℤ) → 0 < v → IsMean s v r → r ≡ computed s v
only_computed s v r some is =
    let e = nearest_sign s v r some is.nearest in
    let d : off s v r ≡ off_size (nat_abs s) v (nat_abs r) = ap (off s v) e ∙ off_sizes s (nat_abs r) v in
    e ∙ ap (with_sign s) (only_rounded (nat_abs s) v (nat_abs r) some (omega arith, λ tie. is.half (d ∙ tie)))

pub one_mean : OneMean
one_mean s v r q some one other = only_computed s v r some one ∙ sym (only_computed s v q some other)

-- a number less than a half away would be a mean too
pub none_nearer : NoneNearer
none_nearer s v r q some is =
    ⊎_elim
    (λ lt. let e = one_mean s v r q some is (record { nearest = omega arith; half = λ tie. absurd (omega arith) }) in omega (arith, ap (off s v) e))
    (λ far. omega (arith, is.nearest))
    (cases_lt (off s v q) v)

pub answered : (s : ℤ) (v : ℕ) (r : ℤ) → 0 < v → r ≡ computed s v → (Some r ≡ mean_of_sum s v) × MeanIs s v (Some r)
unfolding mean_of_sum
answered s v r some e = (grind (arith, nat_tests), (some, subst (IsMean s v) (sym e) (computed_is s v some)))

pub unanswered : (s : ℤ) (v : ℕ) → v ≡ 0 → None ≡ mean_of_sum s v
unfolding mean_of_sum
unanswered s v none = grind (arith, nat_tests)

pub computes_mean : ComputesMean
computes_mean s zero = subst (MeanIs s zero) (unanswered s zero refl) refl
computes_mean s (suc n) = let found = answered s (suc n) _ (omega arith) refl in subst (MeanIs s (suc n)) found.0 found.1

-- to compare with the answered mean tells whether a number is a mean
pub decided : (s : ℤ) (v : ℕ) (q : ℤ) (o : Option ℤ) (b : Bool) → MeanIs s v o → b ≡ option_eq int_eq o (Some q) → Decides b ((0 < v) × IsMean s v q)
decided s v q None b none same = (λ yes. absurd (both_ways b same yes), λ is. let z : ⊥ = omega (arith, is.0) in absurd z)
decided s v q (Some x) b mean same =
    let equal = Decides-int_eq x q in
    (λ yes. (mean.0, subst (IsMean s v) (equal.0 (sym same ∙ yes)) mean.1), λ is. same ∙ equal.1 (one_mean s v x q is.0 mean.1 is.1))
