-- A text printed into a part of a buffer.
use Rattle.std.proofs.Common.{◌≡◌, ℕ, ◌≤◌, List, ◌++◌, length, take, drop, Result, sym, ap, ◌∙◌, subst}
use Rattle.std.proofs.lemmas.List.{append-nil, drop_all, take_all}
use Rattle.refusals.specs.declared.Refusal.{Refusal}
use Rattle.report.specs.Printed.{Printed}

-- The first n bytes of a buffer of no more than n bytes are all of it, and what is printed into them is printed into the buffer.
pub printed_into_all : {text out : List ℕ} {r : Result ℕ Refusal} {part : List ℕ} (n : ℕ) → length out ≤ n → Printed text (take n out) r part → Printed text out r (part ++ drop n out)
printed_into_all {text} {out} {r} {part} n all printed =
    let whole : take n out ≡ out = take_all n out all in
    let none : part ++ drop n out ≡ part = ap (λ (rest : List ℕ). part ++ rest) (drop_all n out all) ∙ append-nil part in
    subst (λ (x : List ℕ). Printed text out r x) (sym none) (subst (λ (x : List ℕ). Printed text x r part) whole printed)
