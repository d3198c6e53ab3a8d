-- Whether the tables of a state fit together, and what a step then is: on other tables it is denied with number 4.
use Rattle.std.specs.Prelude.{ℕ, Bool, cond, length}
use Rattle.registers.specs.Kind.{Rule}
use Rattle.hub_tables.specs.Fit.{fits}
use Rattle.hub_runs.specs.Hubs.{Size, State}
use Rattle.hub_runs.specs.Judging.{Answer, denied, step}

-- In a hub of this size.
abbrev pub state_fits : Size → State → Bool
state_fits size s = fits size.client_num size.max_instance s.clients s.master s.backup s.steps (length s.master_figures) (length s.backup_figures)

abbrev pub step_answer : Size → Rule → ℕ → ℕ → State → Answer
step_answer size rule letter c s = cond (state_fits size s) (step size rule letter c s) (denied 4)
