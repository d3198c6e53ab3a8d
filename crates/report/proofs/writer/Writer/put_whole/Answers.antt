use Rattle.std.proofs.Common.{◌≡◌, length, sym, refl, ap, ◌∙◌, arith}
use Rattle.report.specs.Placed.{advanced}
use Rattle.report.specs.Writer.{WrittenBy}
use Rattle.report.proofs.Placing.{placed_misfits}
use Rattle.report.proofs.writer.Writer.put_whole.Goals as goal

pub returns-clause-puts : goal.returns-clause-puts
returns-clause-puts g c = λ text each.
    let measured : WrittenBy text c.new-measure.result c.write.new.arg2 = each _ _ c.write.ensures in
    let place : c.write.new.arg2.at ≡ advanced c.args.self.now.at (length text) = measured.writes.next ∙ ap (λ at. advanced at (length text)) c.new-measure.ensures.place in
    record { same = refl; puts = record { next = place; buffer = sym (placed_misfits _ _ _ (omega arith)) } }
