-- How long a line can be.
use Rattle.std.proofs.Common.{◌≡◌, ℕ, ◌+◌, ◌*◌, ◌^◌, ◌<◌, ◌≤◌, List, [], ◌∷◌, ◌++◌, length, ℤ, IfSome, Some, None, decimal, Option, arith, lit<}
use lib.Signed.{mag}
use Rattle.std.proofs.lemmas.Fmt.{length-decimal-le, length_signed_le}
use Rattle.std.proofs.lemmas.List.{length-append}
use Rattle.std.specs.List.{flat_map, AllByRecursion}
use Rattle.std.specs.Fmt.{signed_decimal}
use Rattle.registers.specs.Kind.{Fits64}
use Rattle.report.specs.Figures.{figure_after_comma, figures_text}
use Rattle.report.specs.Lines.{line_text, mean_text}

pub length_line : (key value : List ℕ) → length (line_text key value) ≡ length key + length value + 2
length_line key value =
    let outer : length (line_text key value) ≡ length (key ++ (61 ∷ value)) + 1 = length-append (key ++ (61 ∷ value)) (10 ∷ []) in
    let inner : length (key ++ (61 ∷ value)) ≡ length key + length (61 ∷ value) = length-append key (61 ∷ value) in
    omega arith

-- A number of 64 bits has at most 20 digits.
pub length_number : (n : ℕ) → n < 2 ^ 64 → length (decimal n) ≤ 20
length_number n h = let small : n < 10 ^ 20 = omega arith in length-decimal-le 20 n (lit< tt) small h

-- A signed one has no more, its sign counted.
pub length_signed : (z : ℤ) → mag z < 2 ^ 63 → length (signed_decimal z) ≤ 20
length_signed z h = let small : mag z + 1 < 10 ^ 19 = omega arith in length_signed_le 19 z small h

-- Nor has the value of the line of a mean.
pub length_mean : (mean : Option ℤ) → IfSome mean (λ z. mag z < 2 ^ 63) → length (mean_text mean) ≤ 20
length_mean None h = omega arith
length_mean (Some z) h = length_signed z h

pub length_count_line : (key : List ℕ) (n : ℕ) → n < 2 ^ 64 → length (line_text key (decimal n)) ≤ length key + 22
length_count_line key n h =
    let digits : length (decimal n) ≤ 20 = length_number n h in
    let whole : length (line_text key (decimal n)) ≡ length key + length (decimal n) + 2 = length_line key (decimal n) in
    omega arith

-- Each figure after the first adds a comma and its own text.
length_after_commas : (zs : List ℤ) → AllByRecursion Fits64 zs → length (flat_map figure_after_comma zs) ≤ 21 * length zs
length_after_commas [] h = omega arith
length_after_commas (z ∷ zs) (h, hs) =
    let one : length (signed_decimal z) ≤ 20 = length_signed z h in
    let rest : length (flat_map figure_after_comma zs) ≤ 21 * length zs = length_after_commas zs hs in
    let both : length (figure_after_comma z ++ flat_map figure_after_comma zs) ≡ length (figure_after_comma z) + length (flat_map figure_after_comma zs) = length-append (figure_after_comma z) (flat_map figure_after_comma zs) in
    omega arith

-- The text of figures that each fit 64 bits has at most 21 bytes for each of them.
pub length_figures : (zs : List ℤ) → AllByRecursion Fits64 zs → length (figures_text zs) ≤ 21 * length zs
length_figures [] h = omega arith
length_figures (z ∷ zs) h = omega (arith, length_after_commas (z ∷ zs) h)
