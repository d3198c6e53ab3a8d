-- The lines of a report.
use Rattle.std.specs.Prelude.{ℕ, List, [], ◌∷◌, ◌++◌, ℤ, Some, None, codes, Option}
use Rattle.std.specs.Fmt.{signed_decimal}

-- A key, the sign `=` (61), a value, and a line feed (10).
abbrev pub line_text : List ℕ → List ℕ → List ℕ
line_text key value = key ++ (61 ∷ value) ++ (10 ∷ [])

-- The value of the line of a mean.
abbrev pub mean_text : Option ℤ → List ℕ
mean_text None = codes "none"
mean_text (Some z) = signed_decimal z
