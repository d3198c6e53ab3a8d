-- The worked report computes.
use Rattle.std.proofs.Common.{refl}
use Rattle.std.specs.Fmt.{digits}
use Rattle.std.specs.Int.{int_wrap}
use Rattle.registers.specs.Mean.{mean_of_sum}
use Rattle.hub_tables.specs.Search.{first, last}
use Rattle.hub_runs.specs.Hubs.{all_done}
use Rattle.hub_runs.specs.Judging.{guard, with_card, by_card, carried_out, judged, by_letter, step}
use Rattle.hub_runs.specs.Runs.{count_done, lists_after, lists_by_letter, after_answer, after, run_of}
use Rattle.hub_report.specs.ReportText.{look_text, report_text}
use Rattle.hub_report.specs.WorkedReport.{WorkedReport}

pub worked_report : WorkedReport
unfolding digits int_wrap mean_of_sum first last all_done guard with_card by_card carried_out judged by_letter step count_done lists_after lists_by_letter after_answer after run_of look_text report_text
worked_report = refl
