-- The law of a rule by which the order of the moves does not matter.
use Rattle.std.specs.Prelude.{◌≡◌, List, ℤ}
use Rattle.registers.specs.Kind.{Rule}
use Rattle.registers.specs.Taken.{Taken, InRange}

-- The figures that a register can come to: those at the start, and those after one more move in range.
pub data Reached (start : List ℤ) (rule : Rule) : List ℤ → Type 0 where
  at_start : Reached start rule start
  after_move : {f : List ℤ} {t : Taken} → Reached start rule f → InRange t → Reached start rule (rule f t)

-- From any figures that a register can come to, two moves in range lead to the same figures in either order.
abbrev pub Commutes : List ℤ → Rule → Type 0
Commutes start rule = (f : List ℤ) (t u : Taken) → Reached start rule f → InRange t → InRange u → rule (rule f t) u ≡ rule (rule f u) t
