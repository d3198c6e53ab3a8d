-- The text of figures grows by one figure at a time.
use Rattle.std.proofs.Common.{◌≡◌, ℕ, ◌+◌, ◌<◌, List, [], ◌∷◌, ◌++◌, length, get_or, take, ℤ, Some, sym, ap, ◌∙◌, inl, inr, arith}
use Rattle.std.proofs.lemmas.List.{append-nil, flat_map_more, length-take, take_more}
use Rattle.std.proofs.lemmas.Option.{slice_get-get_or}
use Rattle.std.proofs.lemmas.Bool.{cases_lt}
use Rattle.std.specs.List.{slice_get}
use Rattle.std.specs.Fmt.{signed_decimal}
use Rattle.report.specs.Figures.{figure_after_comma, figures_text}
use Rattle.report.specs.Placed.{Writes}
use Rattle.report.proofs.Writing.{writes_then, writes_as}

-- The first figure stands alone.
figures_first : (zs : List ℤ) (z : ℤ) → length zs ≡ 0 → figures_text zs ++ signed_decimal z ≡ figures_text (zs ++ z ∷ [])
figures_first [] z h = sym (append-nil (signed_decimal z))
figures_first (y ∷ ys) z h = let never : ⊥ = omega arith in absurd never

-- A later one stands after a comma.
figures_later : (zs : List ℤ) (z : ℤ) → 0 < length zs → figures_text zs ++ figure_after_comma z ≡ figures_text (zs ++ z ∷ [])
figures_later [] z h = let never : ⊥ = omega arith in absurd never
figures_later (y ∷ ys) z h = flat_map_more figure_after_comma (signed_decimal y) ys z

-- One figure more of a list, where the next is known.
take_nth : (zs : List ℤ) (i : ℕ) (z : ℤ) → i < length zs → slice_get zs i ≡ Some z → take i zs ++ z ∷ [] ≡ take (i + 1) zs
take_nth zs i z h e =
    let there : slice_get zs i ≡ Some (get_or zs i z) = slice_get-get_or zs i z h in
    let same : get_or zs i z ≡ z = cc in
    let more : take (i + 1) zs ≡ take i zs ++ get_or zs i z ∷ [] = take_more zs i z h in
    cc

-- The figures up to a place were written, and then the figure at that place.
pub writes_figure : (zs : List ℤ) (i : ℕ) (z : ℤ) {out : List ℕ} {at : ℕ} {mid : List ℕ} {r : ℕ} {out' : List ℕ} {r' : ℕ} → i < length zs → slice_get zs i ≡ Some z → Writes (figures_text (take i zs)) out at mid r → (i ≡ 0 → Writes (signed_decimal z) mid r out' r') → (0 < i → Writes (figure_after_comma z) mid r out' r') → Writes (figures_text (take (i + 1) zs)) out at out' r'
writes_figure zs i z h e x first later =
    let long : length (take i zs) ≡ i = length-take i zs ∙ omega arith in
    let grown : figures_text (take i zs ++ z ∷ []) ≡ figures_text (take (i + 1) zs) = ap figures_text (take_nth zs i z h e) in
    elim (cases_lt 0 i) [
      | inl some ↦ writes_as (figures_later (take i zs) z (omega arith) ∙ grown) (writes_then x (later some))
      | inr none ↦ writes_as (figures_first (take i zs) z (omega arith) ∙ grown) (writes_then x (first (omega arith)))
    ]
