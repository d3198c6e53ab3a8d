-- The sum: one figure, all moves added up modulo 2^64; the residue is read as a signed number. Assumes nothing.
use Rattle.std.specs.Prelude.{List, [], ◌∷◌, ℤ, pos, ◌+ℤ◌}
use Rattle.std.specs.Int.{int_wrap, w64}
use Rattle.registers.specs.Kind.{Kind, Fits64}
use Rattle.registers.specs.Taken.{Taken, hundredths_in}

abbrev pub sum_start : List ℤ
sum_start = pos 0 ∷ []

abbrev pub sum_rule : List ℤ → Taken → List ℤ
sum_rule [] t = []
sum_rule (s ∷ rest) t = int_wrap w64 (s +ℤ hundredths_in t) ∷ rest

-- The one figure is any number of 64 bits.
abbrev pub IsSum : List ℤ → Type 0
IsSum [] = ⊥
IsSum (s ∷ []) = Fits64 s
IsSum (s ∷ q ∷ rest) = ⊥

abbrev pub the_sum : Kind
the_sum = record { start = sum_start; rule = sum_rule; size = 1 }
