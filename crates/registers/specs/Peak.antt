-- The peak: one figure, the largest size of a move so far.
use Rattle.std.specs.Prelude.{◌≤◌, List, [], ◌∷◌, ℤ, pos, negsuc}
use Rattle.std.specs.Int.{int_max}
use Rattle.registers.specs.Kind.{Kind}
use Rattle.registers.specs.Limits.{size_of}
use Rattle.registers.specs.Taken.{Taken, hundredths_in}

abbrev pub peak_start : List ℤ
peak_start = pos 0 ∷ []

abbrev pub peak_rule : List ℤ → Taken → List ℤ
peak_rule [] t = []
peak_rule (p ∷ rest) t = int_max p (pos (size_of (hundredths_in t))) ∷ rest

-- No move is larger than 9000, so no peak is.
abbrev pub IsPeak : List ℤ → Type 0
IsPeak [] = ⊥
IsPeak (pos n ∷ []) = n ≤ 9000
IsPeak (negsuc n ∷ []) = ⊥
IsPeak (p ∷ q ∷ rest) = ⊥

abbrev pub the_peak : Kind
the_peak = record { start = peak_start; rule = peak_rule; size = 1 }
