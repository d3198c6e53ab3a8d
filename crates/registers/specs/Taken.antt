-- What a register's rule receives when the register takes a move: today the move's number.
use Rattle.std.specs.Prelude.{ℤ}
use Rattle.registers.specs.Limits.{InLimits}

abbrev pub Taken : Type 0
Taken = ℤ

-- The hundredths of a degree of the move that was taken.
abbrev pub hundredths_in : Taken → ℤ
hundredths_in t = t

-- What a register can be given at all: a rule need keep its promises only for these.
abbrev pub InRange : Taken → Type 0
InRange t = InLimits (hundredths_in t)
