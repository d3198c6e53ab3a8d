-- What a report promises.
use Rattle.std.specs.Prelude.{◌≡◌, ℕ, true, false, List, Err, Result}
use Rattle.refusals.specs.declared.Refusal.{Refusal}
use Rattle.refusals.specs.declared.Refusal.TheVariants.{TablesMisfit}
use Rattle.hub_runs.specs.Fits.{state_fits}
use Rattle.hub_runs.specs.Hubs.{Size, State}
use Rattle.report.specs.Printed.{Printed}
use Rattle.hub_report.specs.ReportText.{report_text}

-- Of a hub of this size in the state s, with registers of the kind `code`: tables that do not fit together are refused,
-- and the buffer stays as it was; else the buffer gets the text, or the call says how long it should be.
pub record Reports (code : ℕ) (size : Size) (s : State) (out : List ℕ) (r : Result ℕ Refusal) (out' : List ℕ) : Type 0 where
  pub misfit : state_fits size s ≡ false → (r ≡ Err TablesMisfit) × (out' ≡ out)
  pub printed : state_fits size s ≡ true → Printed (report_text code s) out r out'
