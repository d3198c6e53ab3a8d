-- The laws of `advanced` and `placed`.
use Rattle.std.proofs.Common.{◌≡◌, ℕ, ◌+◌, ◌<◌, ◌≤◌, leb, List, ◌++◌, length, take, drop, sym, ap, ◌∙◌, inl, inr, arith}
use Rattle.std.proofs.lemmas.List.{append_assoc, take_all, take_at, drop_at, drop-drop, length-append, length-take, length-drop}
use Rattle.std.proofs.lemmas.Bool.{cond-true, cond-false, le-leb, lt-leb, cases_lt}
use Rattle.report.specs.Placed.{placed}

-- A text that fits stands between what was before it and what was after it.
pub placed_fits : (out : List ℕ) (at : ℕ) (t : List ℕ) → at + length t ≤ length out → placed out at t ≡ take at out ++ t ++ drop (at + length t) out
placed_fits out at t h =
    cond-true (leb (at + length t) (length out)) _ _ (le-leb _ _ h)
    ∙ ap (λ (x : List ℕ). take at out ++ x ++ drop (at + length t) out) (take_all (length t) t (omega arith))

-- A text that does not fit changes nothing.
pub placed_misfits : (out : List ℕ) (at : ℕ) (t : List ℕ) → length out < at + length t → placed out at t ≡ out
placed_misfits out at t h = cond-false (leb (at + length t) (length out)) _ _ (lt-leb _ _ h)

pub length-placed : (out : List ℕ) (at : ℕ) (t : List ℕ) → length (placed out at t) ≡ length out
length-placed out at t = elim (cases_lt (length out) (at + length t)) [
  | inl h ↦ ap length (placed_misfits out at t h)
  | inr h ↦ ap length (placed_fits out at t h) ∙ simp (length-append, length-take, length-drop) (omega arith)
]

-- Two texts written one after the other, where both fit, are one text.
pub placed_twice : (out : List ℕ) (a : ℕ) (t u : List ℕ) → a + length (t ++ u) ≤ length out
    → placed (placed out a t) (a + length t) u ≡ placed out a (t ++ u)
placed_twice out a t u h =
    let sum : length (t ++ u) ≡ length t + length u = length-append t u in
    let k : ℕ = a + length t in
    let start : length (take a out ++ t) ≡ k = simp (length-append, length-take) (omega arith) in
    let w : List ℕ = take a out ++ t ++ drop k out in
    let first : placed out a t ≡ w = placed_fits out a t (omega arith) in
    let long : length w ≡ length out = ap length (sym first) ∙ length-placed out a t in
    let second : placed w k u ≡ take k w ++ u ++ drop (k + length u) w = placed_fits w k u (omega arith) in
    let before : take k w ≡ take a out ++ t = take_at (take a out ++ t) (drop k out) k start in
    let after : drop (k + length u) w ≡ drop (k + length u) out =
    sym (drop-drop (length u) k w) ∙ ap (drop (length u)) (drop_at (take a out ++ t) (drop k out) k start) ∙ drop-drop (length u) k out in
    let both : placed out a (t ++ u) ≡ take a out ++ (t ++ u) ++ drop (a + length (t ++ u)) out = placed_fits out a (t ++ u) h in
    let join : take a out ++ t ++ u ≡ take a out ++ (t ++ u) = append_assoc (take a out) t u in
    let place : a + length (t ++ u) ≡ k + length u = omega arith in
    cc
