-- The lines of the letters, one more at the end.
use Rattle.std.proofs.Common.{◌≡◌, ℕ, suc, ◌+◌, ◌-◌, ◌<◌, true, false, List, [], ◌∷◌, ◌++◌, length, get_or, take, drop, decimal, sym, ap, ◌∙◌, inl, inr, append_assoc, append-nil, add-zero, arith}
use Rattle.std.proofs.lemmas.Bool.{cases_Bool}
use Rattle.std.proofs.lemmas.List.{drop-drop, get_or-drop, length-drop, length-take-le, take_more}
use Rattle.std.specs.Range.{range_inclusive_end, range_inclusive_exhausted, range_inclusive_left, range_inclusive_len, range_inclusive_start}
use Rattle.std.specs.declared.ops.RangeInclusive.{RangeInclusive}
use Rattle.report.specs.Lines.{line_text}
use Rattle.batch.specs.Totals.{letters_text}

letters_push : (letter : ℕ) (ns : List ℕ) (n : ℕ) → letters_text letter ns ++ line_text ((letter + length ns) ∷ []) (decimal n) ≡ letters_text letter (ns ++ (n ∷ []))
letters_push letter [] n = rw add-zero (sym (append-nil _))
letters_push letter (m ∷ ns) n =
    let place : letter + suc (length ns) ≡ suc letter + length ns = omega arith in
    append_assoc (line_text (letter ∷ []) (decimal m)) (letters_text (suc letter) ns) _
    ∙ ap (λ rest. line_text (letter ∷ []) (decimal m) ++ rest) (ap (λ k. letters_text (suc letter) ns ++ line_text (k ∷ []) (decimal n)) place ∙ letters_push (suc letter) ns n)

pub letters_more : (letters : List ℕ) (i k n : ℕ) → i < length letters → k ≡ 65 + i → n ≡ get_or letters i 0 → letters_text 65 (take i letters) ++ line_text (k ∷ []) (decimal n) ≡ letters_text 65 (take (i + 1) letters)
letters_more letters i k n inside letter count =
    let long : length (take i letters) ≡ i = length-take-le i letters (omega arith) in
    let here : k ≡ 65 + length (take i letters) = omega arith in
    ap (λ x. letters_text 65 (take i letters) ++ line_text (x ∷ []) (decimal n)) here ∙ letters_push 65 (take i letters) n
    ∙ ap (λ x. letters_text 65 (take i letters ++ (x ∷ []))) count ∙ ap (letters_text 65) (sym (take_more letters i 0 inside))

-- A range from which a letter came had letters left.
pub not_spent : (s : RangeInclusive ℕ) (m : ℕ) → m + 1 ≡ range_inclusive_left (λ x y. y - x) s → range_inclusive_exhausted s ≡ false
not_spent s m e = elim (cases_Bool (range_inclusive_exhausted s)) [
  | inl spent ↦
      let none : m + 1 ≡ range_inclusive_len (λ x y. y - x) (range_inclusive_start s) (range_inclusive_end s) true = e ∙ ap (range_inclusive_len (λ x y. y - x) (range_inclusive_start s) (range_inclusive_end s)) spent in
      let never : ⊥ = omega arith in
      absurd never
  | inr more ↦ more
]

-- The next of the counts that are left.
pub next_count : (letters rest : List ℕ) (i n : ℕ) → n ∷ rest ≡ drop i letters → (i < length letters) × (n ≡ get_or letters i 0) × (rest ≡ drop (i + 1) letters)
next_count letters rest i n e = (
  omega (arith, ap length e, length-drop i letters),
  ap (λ xs. get_or xs 0 0) e ∙ get_or-drop i letters 0 0 ∙ ap (λ k. get_or letters k 0) (add-zero i),
  ap (drop 1) e ∙ drop-drop 1 i letters,
)
