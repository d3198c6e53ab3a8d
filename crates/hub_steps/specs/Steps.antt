-- Everything that a step promises, over the states before and after it and its reply.
use Rattle.std.specs.Prelude.{◌≡◌, ℕ, true, List, ℤ}
use Rattle.registers.specs.Kind.{Rule}
use Rattle.hub_runs.specs.Fits.{state_fits, step_answer}
use Rattle.hub_runs.specs.GoingOn.{ByTheModule, GoesOn, Outcome}
use Rattle.hub_runs.specs.Hubs.{Size, State}
use Rattle.hub_runs.specs.Runs.{Reply, step_call}

pub record Steps (start : List ℤ) (rule : Rule) (size : Size) (letter c : ℕ) (before : State) (reply : Reply) (after : State) : Type 0 where
  -- which reply comes, and the whole of the next state
  pub answered : Outcome (step_answer size rule letter c before) before reply after
  -- on tables that fit it is accepted exactly where the module enables its action
  pub by_the_module : state_fits size before ≡ true → ByTheModule size rule letter c before reply after
  -- a run goes on as a run
  pub goes_on : GoesOn start rule size before (step_call letter c) reply after
