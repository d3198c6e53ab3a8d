-- A kind of register of one's own: one figure, how many moves there were.
use Rattle.std.specs.Prelude.{◌-◌, ◌^◌, ◌<◌, List, [], ◌∷◌, ℤ, pos, negsuc, ◌+ℤ◌}
use Rattle.std.specs.Int.{int_min}
use Rattle.registers.specs.Taken.{Taken}

abbrev pub count_start : List ℤ
count_start = pos 0 ∷ []

-- One more with each move, whatever it is, but a count that has come to 2^32 - 1 stays there.
abbrev pub count_rule : List ℤ → Taken → List ℤ
count_rule [] t = []
count_rule (n ∷ rest) t = int_min (n +ℤ pos 1) (pos (2 ^ 32 - 1)) ∷ rest

abbrev pub IsMoveCount : List ℤ → Type 0
IsMoveCount [] = ⊥
IsMoveCount (pos n ∷ []) = n < 2 ^ 32
IsMoveCount (negsuc n ∷ []) = ⊥
IsMoveCount (n ∷ q ∷ rest) = ⊥
