-- The order in which two numbers are added to a sum that wraps does not matter.
use Rattle.std.specs.Prelude.{◌≡◌, ℤ, ◌+ℤ◌}
use Rattle.std.proofs.Common.{sym, ap, ◌∙◌, arith}
use Rattle.std.proofs.lemmas.Int.{ints, int_wrap-add_left}
use Rattle.std.specs.Int.{int_wrap, w64}

swapped : (s a b : ℤ) → (s +ℤ a) +ℤ b ≡ (s +ℤ b) +ℤ a
swapped s a b = omega (arith, ints)

pub wrapped_either_order : (s a b : ℤ) → int_wrap w64 (int_wrap w64 (s +ℤ a) +ℤ b) ≡ int_wrap w64 (int_wrap w64 (s +ℤ b) +ℤ a)
wrapped_either_order s a b =
    int_wrap-add_left w64 (s +ℤ a) b ∙ ap (int_wrap w64) (swapped s a b) ∙ sym (int_wrap-add_left w64 (s +ℤ b) a)
