use Rattle.hub_report.proofs.WorkedReport.{worked_report}
use Rattle.hub_report.proofs.worked.worked_report_holds.Goals as goal

pub returns : goal.returns
returns c = worked_report
