use Rattle.std.proofs.Common.{ap, ◌∙◌, arith, w64}
use Rattle.std.proofs.lemmas.Int.{to_z-of_z}
use Rattle.std.specs.Fmt.{signed_decimal}
use Rattle.report.proofs.Writing.{puts_writes, writes_as, writes_then}
use Rattle.report.proofs.figures.write_figure.Goals as goal

pub returns-then-place-eq0 : goal.returns-then-place-eq0
returns-then-place-eq0 c =
    let text = c.as_bytes-digits.ensures.value ∙ c.format.ensures.text ∙ ap signed_decimal (to_z-of_z w64 c.args.z c.ranges.z) in
    record {
      first = λ _. writes_as text (puts_writes c.put_at.ensures);
      later = λ h. let never : ⊥ = omega arith in absurd never;
    }

pub returns : goal.returns
returns c =
    let text = c.as_bytes-digits.ensures.value ∙ c.format.ensures.text ∙ ap signed_decimal (to_z-of_z w64 c.args.z c.ranges.z) in
    record {
      first = λ h. let never : ⊥ = omega arith in absurd never;
      later = λ _. writes_then (puts_writes c.put_at-after_comma.ensures) (writes_as text (puts_writes c.put_at-2.ensures));
    }
