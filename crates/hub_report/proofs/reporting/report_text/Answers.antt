use Rattle.std.proofs.Common.{arith, rules}
use Rattle.std.proofs.lemmas.List.{length-map}
use Rattle.report.proofs.Parts.{printed_into_all}
use Rattle.hub_report.proofs.Reported.{reports_seen, seen_within}
use Rattle.hub_report.proofs.reporting.report_text.Goals as goal

pub print-requires : goal.print-requires
print-requires g c =
    let figures = g.R.Register.figures in
    let within = seen_within c.in_ok-seen.was c.look.ensures in
    record { at = λ _. (omega (arith, within.0, length-map c.args.tables.master_registers.now figures), omega (arith, within.1, length-map c.args.tables.backup_registers.now figures)) }

-- The body prints into the buffer itself, and `printed` says it. The lemma beside it is for a body that hands on the whole buffer
-- as a part of it, so that one that hands on too small a part is refused for the bytes that it leaves out, not for taking a part.
pub returns : goal.returns
returns g c =
    let printed = c.print.ensures _ (λ w w' says. says) in
    reports_seen c.in_ok-seen.was c.look.ensures (search (rules, printed, printed_into_all, arith))
