-- A worked report: two commands with the moves 150 and -125 on sum registers, one card place, and no loss.
use Rattle.std.specs.Prelude.{◌≡◌, List, [], ◌∷◌, pos, negsuc, codes}
use Rattle.registers.specs.Sum.{sum_start, sum_rule}
use Rattle.hub_runs.specs.Runs.{Call, step_call, Run, run_of}
use Rattle.hub_runs.specs.WorkedRuns.{sized}
use Rattle.hub_report.specs.ReportText.{report_text}

-- The steps A, B, C, D and F of both commands, by the codes of the letters.
abbrev pub worked_calls : List Call
worked_calls =
    step_call 65 1 ∷ step_call 65 2
    ∷ step_call 66 2 ∷ step_call 66 1
    ∷ step_call 67 1 ∷ step_call 67 2
    ∷ step_call 68 1 ∷ step_call 68 2
    ∷ step_call 70 2 ∷ step_call 70 1
    ∷ []

abbrev pub worked_run : Run
worked_run = run_of (sized 2 0 1) sum_start sum_rule (pos 150 ∷ negsuc 124 ∷ []) worked_calls

abbrev pub WorkedReport : Type 0
WorkedReport =
    report_text 1 worked_run.state
    ≡ codes "state=success\nsteps=10\nlosses=0\nmaster=1\nmaster-version=2\nmaster-register=25\nbackup=1\nbackup-version=2\nbackup-register=25\nmean=13\n"
