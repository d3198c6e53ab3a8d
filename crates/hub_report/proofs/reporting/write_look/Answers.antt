use Rattle.std.proofs.Common.{◌≡◌, [], map, IfSome, codes, ap, subst, arith, rules}
use Rattle.registers.specs.Kind.{Fits64}
use Rattle.registers.specs.Numbers.{code_of}
use Rattle.hub_cards.specs.Tables.{at}
use Rattle.report.specs.Lines.{line_text}
use Rattle.report.proofs.Writing.{put_written, written_as, written_then}
use Rattle.hub_report.specs.ReportText.{look_text, mean_text, state_name}
use Rattle.hub_report.proofs.Bounds.{look_short}
use Rattle.hub_report.proofs.reporting.write_look.Goals as goal

pub returns : goal.returns
unfolding look_text
returns g c =
    let kind = g.R.Register in
    let seen = c.args.seen.now in
    let master = at [] (map kind.figures c.args.tables.master_registers.now) seen.master.0 in
    let backup = at [] (map kind.figures c.args.tables.backup_registers.now) seen.backup.0 in
    let name : c.as_bytes.result.now ≡ state_name seen.state = search rules in
    record {
      short = look_short (code_of kind.kind) seen master backup (omega arith) (omega arith) c.write.ensures.short c.write-2.ensures.short (subst (λ m. IfSome m Fits64) c.mean.ensures.value c.mean.ensures.fits);
      written =
          written_then (written_as (ap (line_text (codes "state")) name) (put_written c.put_line.ensures))
          (written_then (put_written c.put_number_line.ensures)
          (written_then (put_written c.put_number_line-2.ensures)
          (written_then c.write.ensures.writes
          (written_then c.write-2.ensures.writes
          (written_as (ap (λ m. line_text (codes "mean") (mean_text m)) c.mean.ensures.value) (put_written c.put_mean_line.ensures))))));
    }
