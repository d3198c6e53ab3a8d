-- The classes: eight figures that count the moves by their size.
use Rattle.std.specs.Prelude.{◌≡◌, ℕ, suc, ◌-◌, ◌^◌, ◌<◌, cond, List, [], ◌∷◌, length, replicate, ℤ, pos, negsuc, ◌+ℤ◌, nat_lt, slice_index_or, slice_set}
use Rattle.std.specs.Int.{int_min}
use Rattle.std.specs.List.{AllByRecursion}
use Rattle.registers.specs.Kind.{Kind}
use Rattle.registers.specs.Limits.{size_of}
use Rattle.registers.specs.Taken.{Taken, hundredths_in}

-- The sizes at which the second class and each later one begins. The first begins at 0, the last ends at 9000.
abbrev pub class_begins : List ℕ
class_begins = 50 ∷ 100 ∷ 250 ∷ 500 ∷ 1000 ∷ 2500 ∷ 5000 ∷ []

-- How many of some rising numbers a size has reached.
abbrev pub reached : List ℕ → ℕ → ℕ
reached [] s = 0
reached (b ∷ bs) s = cond (nat_lt s b) 0 (suc (reached bs s))

-- The place of a size's class, from 0.
abbrev pub class_of : ℕ → ℕ
class_of s = reached class_begins s

-- One more, but a count that has come to 2^32 - 1 stays there.
abbrev pub one_more : ℤ → ℤ
one_more c = int_min (c +ℤ pos 1) (pos (2 ^ 32 - 1))

abbrev pub classes_start : List ℤ
classes_start = replicate 8 (pos 0)

-- The move counts in its class, and the other counts stay.
abbrev pub counted : List ℤ → ℕ → List ℤ
counted f k = slice_set f k (one_more (slice_index_or f k (pos 0)))

abbrev pub classes_rule : List ℤ → Taken → List ℤ
classes_rule f t = counted f (class_of (size_of (hundredths_in t)))

-- A count from 0 to 2^32 - 1.
abbrev pub IsCount : ℤ → Type 0
IsCount (pos n) = n < 2 ^ 32
IsCount (negsuc n) = ⊥

abbrev pub IsClasses : List ℤ → Type 0
IsClasses f = (length f ≡ 8) × AllByRecursion IsCount f

abbrev pub the_classes : Kind
the_classes = record { start = classes_start; rule = classes_rule; size = 8 }
