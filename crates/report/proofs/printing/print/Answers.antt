use Rattle.std.proofs.Common.{◌≡◌, ℕ, ◌^◌, ◌<◌, ◌≤◌, List, length, Ok, Err, ap, ◌∙◌, subst, arith, rules}
use Rattle.refusals.specs.declared.Refusal.TheVariants.{BufferTooShort}
use Rattle.report.specs.Placed.{Puts, placed}
use Rattle.report.specs.Printed.{Printed}
use Rattle.report.specs.Writer.{PutBy}
use Rattle.report.proofs.Placing.{placed_misfits}
use Rattle.report.proofs.printing.print.Goals as goal

-- The text fits, and was written.
put_fits : {text out : List ℕ} {at : ℕ} {out' : List ℕ} {r : ℕ} → length text < 2 ^ 64 → at ≡ 0 → Puts text out at out' r → r ≤ length out → Printed text out (Ok r) out'
put_fits {text} {out} {at} {out'} {r} b e p h = record {
  fits = λ _. (ap Ok (omega arith), subst (λ (k : ℕ). out' ≡ placed out k text) e p.buffer);
  short = λ l. let never : ⊥ = omega arith in absurd never;
}

-- The text does not fit, and nothing was written.
put_refused : {text out : List ℕ} {at : ℕ} {out' : List ℕ} {r : ℕ} → length text < 2 ^ 64 → at ≡ 0 → Puts text out at out' r → length out < r → Printed text out (Err (BufferTooShort r)) out'
put_refused {text} {out} {at} {out'} {r} b e p h = record {
  fits = λ l. let never : ⊥ = omega arith in absurd never;
  short = λ _. (ap (λ (k : ℕ). Err (BufferTooShort k)) (omega arith), p.buffer ∙ placed_misfits out at text (omega arith));
}

pub returns-then-needed-room : goal.returns-then-needed-room
returns-then-needed-room g c = λ text each.
    let short : length text < 2 ^ 64 = (each _ _ c.put_whole.ensures.calls.2).short in
    let put : PutBy text c.new-writer.result c.put_whole.new.self = c.put_whole.ensures.puts text (λ w w' says. (each w w' says).written) in
    let said = put_refused short c.new-writer.ensures.place put.puts (omega (arith, ap length c.new-writer.ensures.bytes)) in
    search rules

pub returns : goal.returns
returns g c = λ text each.
    let short : length text < 2 ^ 64 = (each _ _ c.put_whole.ensures.calls.2).short in
    let put : PutBy text c.new-writer.result c.put_whole.new.self = c.put_whole.ensures.puts text (λ w w' says. (each w w' says).written) in
    let said = put_fits short c.new-writer.ensures.place put.puts (omega (arith, ap length c.new-writer.ensures.bytes)) in
    search rules
