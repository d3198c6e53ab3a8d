-- What a kind of register is: the figures that it starts from, and how a move changes them.
use Rattle.std.specs.Prelude.{◌≡◌, ℕ, ◌^◌, ◌<◌, List, ℤ}
use Rattle.std.specs.Int.Signed.{mag}
use Rattle.registers.specs.Taken.{Taken, InRange}

-- The figures after a move, from those before it.
abbrev pub Rule : Type 0
Rule = List ℤ → Taken → List ℤ

-- A whole number from -2^63 to 2^63 - 1: `mag` is n both for n and for -(n + 1).
abbrev pub Fits64 : ℤ → Type 0
Fits64 z = mag z < 2 ^ 63

-- A kind: the figures at the start, the rule, and how many figures there are.
pub record Kind : Type 0 where
  pub start : List ℤ
  pub rule : Rule
  pub size : ℕ

-- A kind described by its start, its rule, its figures and their number is the given one: it starts alike, has as many
-- figures, and from every list that can be its figures each move leads to the same figures.
abbrev pub Is : List ℤ → Rule → (List ℤ → Type 0) → ℕ → Kind → Type 0
Is start rule ours size kind =
    (start ≡ kind.start) × (size ≡ kind.size) × ((f : List ℤ) (t : Taken) → ours f → InRange t → rule f t ≡ kind.rule f t)
