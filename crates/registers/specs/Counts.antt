-- Counting two moves in either order gives the same counts.
use Rattle.std.specs.Prelude.{◌≡◌, ℕ, ◌+◌, ◌-◌, ◌^◌, ◌<◌, ◌≤◌, min, List, [], ◌∷◌, map, length, set, ℤ, pos, negsuc, ◌≢◌, slice_index, slice_index_or, slice_set, refl}
use Rattle.std.proofs.Common.{⊎_elim, sym, ap, subst, ◌∙◌, arith}
use Rattle.std.proofs.lemmas.List.{set_comm, get_or-set_other, map-set, get_or-map}
use Rattle.std.proofs.lemmas.Bool.{cases_eq}
use Rattle.std.proofs.lemmas.Bool.Decides.{nat_tests}
use Rattle.registers.specs.Kind.{Fits64}
use Rattle.registers.specs.Classes.{class_begins, class_of, counted, one_more, reached, IsCount}

apart : (f : List ℤ) (j k : ℕ) → (j ≢ k) → counted (counted f j) k ≡ slice_set (slice_set f j (one_more (slice_index_or f j (pos 0)))) k (one_more (slice_index_or f k (pos 0)))
apart f j k ne = ap (λ c. set (counted f j) k (one_more c)) (get_or-set_other f j k _ (pos 0) (λ e. ne (sym e)))

pub counted_either_order : (f : List ℤ) (j k : ℕ) → counted (counted f j) k ≡ counted (counted f k) j
counted_either_order f j k =
    ⊎_elim
    (λ e. subst (λ (i : ℕ). counted (counted f j) i ≡ counted (counted f i) j) e refl)
    (λ ne. apart f j k ne ∙ set_comm f j k _ _ ne ∙ sym (apart f k j (λ e. ne (sym e))))
    (cases_eq j k)

pub one_more_is : (n : ℕ) → pos (min (n + 1) (2 ^ 32 - 1)) ≡ one_more (pos n)
one_more_is n = grind (arith, nat_tests)

pub one_more_counts : (c : ℤ) → IsCount c → IsCount (one_more c)
one_more_counts (pos n) own = subst IsCount (one_more_is n) (omega arith)
one_more_counts (negsuc n) own = absurd own

-- a size's class is one of the classes
reached_le : (bs : List ℕ) (s : ℕ) → reached bs s ≤ length bs
reached_le [] s = omega arith
reached_le (b ∷ bs) s = let h = reached_le bs s in grind (arith, nat_tests)

pub class_below : (s : ℕ) → class_of s < 8
class_below s = omega (arith, reached_le class_begins s)

-- counts kept as naturals, and the figures that they stand for
pub counted_map : (cs : List ℕ) (k : ℕ) → k < length cs → map pos (slice_set cs k (min (slice_index cs k + 1) (2 ^ 32 - 1))) ≡ counted (map pos cs) k
counted_map cs k within =
    map-set pos cs k _ ∙ ap (set (map pos cs) k) (one_more_is (slice_index cs k) ∙ ap one_more (sym (get_or-map pos cs k 0 (pos 0) within)))

-- a count fits a figure
pub count_fits : (c : ℤ) → IsCount c → Fits64 c
count_fits (pos n) own = omega arith
count_fits (negsuc n) own = absurd own
