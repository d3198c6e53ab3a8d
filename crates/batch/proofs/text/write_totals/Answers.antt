use Rattle.std.proofs.Common.{IfSome, codes, ap, ◌∙◌, subst, arith}
use Rattle.registers.specs.Kind.{Fits64}
use Rattle.registers.specs.Numbers.{code_of}
use Rattle.report.specs.Lines.{line_text}
use Rattle.report.proofs.Writing.{put_written, written_as, written_then}
use Rattle.batch.specs.Totals.{mean_text, totals_text}
use Rattle.batch.proofs.Bounds.{same_mean, totals_short}
use Rattle.batch.proofs.text.write_totals.Goals as goal

pub returns : goal.returns
unfolding totals_text
returns g c =
    let kind = g.R.Register in
    let laws = g.met.R.Register in
    let b = c.args.batch.now in
    let ours = laws.own b.register in
    let value = c.mean_of.ensures.value ∙ same_mean (code_of b.kind) (kind.figures b.register) b.commands in
    record {
      short = totals_short b.commands b.kills b.cards (code_of b.kind) (kind.figures b.register) b.letters (omega arith) (omega arith) (omega arith) (laws.fits _ ours) (omega (arith, laws.sized _ ours, laws.small)) (subst (λ m. IfSome m Fits64) value c.mean_of.ensures.fits) c.write_letters.ensures.short;
      written =
          written_then (put_written c.put_number_line.ensures)
          (written_then (put_written c.put_number_line-2.ensures)
          (written_then (put_written c.put_number_line-3.ensures)
          (written_then (written_as (ap (line_text (codes "register")) c.name.ensures) (put_written c.put_line.ensures))
          (written_then (put_written c.put_figures_line.ensures)
          (written_then (written_as (ap (λ m. line_text (codes "mean") (mean_text m)) value) (put_written c.put_mean_line.ensures))
          c.write_letters.ensures.writes)))));
    }
