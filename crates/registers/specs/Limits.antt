-- A move's number: whole hundredths of a degree, positive toward feather.
use Rattle.std.specs.Prelude.{ℕ, ◌≤◌, ℤ, unsigned_abs}

-- The size of a move: how far the blade turns, whichever way.
abbrev pub size_of : ℤ → ℕ
size_of z = unsigned_abs z

-- A blade turns by at most 90 degrees, either way.
abbrev pub InLimits : ℤ → Type 0
InLimits z = size_of z ≤ 9000
