-- The figures of a register as a report shows them.
use Rattle.std.specs.Prelude.{ℕ, List, [], ◌∷◌, ◌++◌, ℤ}
use Rattle.std.specs.List.{flat_map}
use Rattle.std.specs.Fmt.{signed_decimal}

-- A figure that is not the first: a comma (44), and then the number.
abbrev pub figure_after_comma : ℤ → List ℕ
figure_after_comma z = 44 ∷ signed_decimal z

-- The numbers with a comma between each two of them; no text where there are none.
abbrev pub figures_text : List ℤ → List ℕ
figures_text [] = []
figures_text (z ∷ rest) = signed_decimal z ++ flat_map figure_after_comma rest
