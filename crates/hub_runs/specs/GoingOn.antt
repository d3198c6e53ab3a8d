-- What one call does to a run: whatever the run so far, the call takes it on by one call, and everything that is promised
-- of runs holds afterwards. And what a step is to the module: one of its actions, or none where it enables none.
use Rattle.std.specs.Prelude.{◌≡◌, ℕ, List, [], ◌∷◌, ◌++◌, ℤ, Some}
use Rattle.registers.specs.Kind.{Rule}
use Rattle.actions.specs.Letters.{action_of}
use Rattle.actions.specs.declared.Action.{Action}
use Rattle.hub_runs.specs.Hubs.{Size, State}
use Rattle.hub_runs.specs.Judging.{Answer, denied, moved}
use Rattle.hub_runs.specs.Module.{Next}
use Rattle.hub_runs.specs.EachRun.{Promised}
use Rattle.hub_runs.specs.Runs.{Limits, Call, Reply, stepped, refused, run_of}

-- The state is the one to which these calls lead on a hub that was made with these moves; and everything that is
-- promised of runs holds of this one.
pub record AfterCalls (start : List ℤ) (rule : Rule) (size : Size) (moves : List ℤ) (calls : List Call) (s : State) : Type 0 where
  pub limits : Limits size moves
  pub is_the_runs : s ≡ (run_of size start rule moves calls).state
  pub promised : Promised start rule size moves (run_of size start rule moves calls)

-- A call that finds one state, is replied to and leaves another: where the first is a run's, the second is that of the
-- run with this call added, and so is the reply.
abbrev pub GoesOn : List ℤ → Rule → Size → State → Call → Reply → State → Type 0
GoesOn start rule size before call reply after =
    (moves : List ℤ) (calls : List Call) → AfterCalls start rule size moves calls before
    → AfterCalls start rule size moves (calls ++ (call ∷ [])) after
    × ((run_of size start rule moves (calls ++ (call ∷ []))).replies ≡ (run_of size start rule moves calls).replies ++ (reply ∷ []))

-- The reply to a step that has this answer, and the state that it leaves: a denied step changes nothing.
abbrev pub Outcome : Answer → State → Reply → State → Type 0
Outcome (denied n) before reply after = (reply ≡ refused n) × (after ≡ before)
Outcome (moved s) before reply after = (reply ≡ stepped) × (after ≡ s)

-- A step is accepted exactly where the module enables the action under its letter, and leads to the module's next state.
pub record ByTheModule (size : Size) (rule : Rule) (letter c : ℕ) (before : State) (reply : Reply) (after : State) : Type 0 where
  pub accepted : reply ≡ stepped → (action : Action) × (action_of letter ≡ Some action) × Next size rule action c before after
  pub enabled : (action : Action) (next : State) → action_of letter ≡ Some action → Next size rule action c before next → (reply ≡ stepped) × (after ≡ next)
