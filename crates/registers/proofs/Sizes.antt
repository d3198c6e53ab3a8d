-- The mean of sizes, which have no sign: the size that is computed is nearest to the quotient, and every other is farther.
use Rattle.std.proofs.Common.{◌≡◌, ℕ, ◌+◌, ◌*◌, ◌/◌, ◌%◌, ◌<◌, ◌≤◌, ◌⊎◌, pos, ◌-ℤ◌, nat_abs, sym, refl, ap, ◌∙◌, subst, inl, inr, ⊎_elim, mul-le-mul_right, mod-lt, add-mul, div-add-mod', arith}
use Rattle.std.proofs.lemmas.Int.{ints}
use Rattle.std.proofs.lemmas.Bool.{cases_order}
use Rattle.std.proofs.lemmas.Bool.Decides.{nat_tests}
use Rattle.registers.specs.Mean.{half_goes, rounded}

-- how far the size p is from the quotient of the sizes a and v, as `off` has it
abbrev pub off_size : ℕ → ℕ → ℕ → ℕ
off_size a v p = 2 * nat_abs (pos a -ℤ pos (p * v))

abbrev pub IsSize : ℕ → ℕ → ℕ → Type 0
IsSize a v p = (off_size a v p ≤ v) × (off_size a v p ≡ v → p ≡ half_goes (a / v))

half_either : (n : ℕ) → (half_goes n ≡ n) ⊎ (half_goes n ≡ n + 1)
half_either n = inr refl

off_low : (a v : ℕ) → off_size a v (a / v) ≡ 2 * (a % v)
off_low a v = omega (arith, ints, div-add-mod' a v)

off_high : (a v : ℕ) → 0 < v → off_size a v (a / v + 1) + 2 * (a % v) ≡ 2 * v
off_high a v some = omega (arith, ints, div-add-mod' a v, add-mul (a / v) 1 v, mod-lt a some)

-- what is chosen, by what is left
chosen : (a v : ℕ) → ((2 * (a % v) < v) × (rounded a v ≡ a / v)) ⊎ (((v < 2 * (a % v)) × (rounded a v ≡ a / v + 1)) ⊎ ((2 * (a % v) ≡ v) × (rounded a v ≡ half_goes (a / v))))
chosen a v = grind (arith, nat_tests)

off_half : (a v : ℕ) → 0 < v → 2 * (a % v) ≡ v → off_size a v (half_goes (a / v)) ≡ v
off_half a v some left =
    ⊎_elim
    (λ e. ap (off_size a v) e ∙ off_low a v ∙ left)
    (λ e. ap (off_size a v) e ∙ omega (arith, off_high a v some))
    (half_either (a / v))

pub rounded_is : (a v : ℕ) → 0 < v → IsSize a v (rounded a v)
rounded_is a v some =
    ⊎_elim
    (λ less. subst (IsSize a v) (sym less.1) (omega (arith, off_low a v), λ tie. absurd (omega (arith, off_low a v))))
    (⊎_elim
    (λ more. subst (IsSize a v) (sym more.1) (omega (arith, off_high a v some), λ tie. absurd (omega (arith, off_high a v some))))
    (λ tied. subst (IsSize a v) (sym tied.1) (omega (arith, off_half a v some tied.0), λ tie. refl)))
    (chosen a v)

-- only the whole part of the quotient and the number after it are near enough
near_either : (a v p : ℕ) → 0 < v → off_size a v p ≤ v → (p ≡ a / v) ⊎ (p ≡ a / v + 1)
near_either a v p some near = ⊎_elim inl (⊎_elim (λ lt. absurd (under lt)) (λ gt. inr (over gt))) (cases_order p (a / v))
  where
    under : p < a / v → ⊥
    under lt =
        let le : p + 1 ≤ a / v = omega arith in
        omega (arith, ints, mul-le-mul_right v le, add-mul p 1 v, div-add-mod' a v)

    beyond : a / v + 1 < p → ⊥
    beyond far =
        let le : a / v + 2 ≤ p = omega arith in
        omega (arith, ints, mul-le-mul_right v le, add-mul (a / v) 2 v, div-add-mod' a v, mod-lt a some)

    over : a / v < p → p ≡ a / v + 1
    over gt = ⊎_elim (λ e. e) (⊎_elim (λ lt. omega arith) (λ far. absurd (beyond far))) (cases_order p (a / v + 1))

pub only_rounded : (a v p : ℕ) → 0 < v → IsSize a v p → p ≡ rounded a v
only_rounded a v p some is = ⊎_elim low high (near_either a v p some is.0)
  where
    low : p ≡ a / v → p ≡ rounded a v
    low e =
        let d : off_size a v p ≡ 2 * (a % v) = ap (off_size a v) e ∙ off_low a v in
        ⊎_elim (λ less. e ∙ sym less.1) (⊎_elim (λ more. omega arith) (λ tied. is.1 (d ∙ tied.0) ∙ sym tied.1)) (chosen a v)

    high : p ≡ a / v + 1 → p ≡ rounded a v
    high e =
        let d : off_size a v p + 2 * (a % v) ≡ 2 * v = ap (λ q. off_size a v q + 2 * (a % v)) e ∙ off_high a v some in
        ⊎_elim (λ less. omega arith) (⊎_elim (λ more. e ∙ sym more.1) (λ tied. is.1 (omega arith) ∙ sym tied.1)) (chosen a v)
