-- In every run the step count is the number of accepted steps.
use Rattle.std.proofs.Common.{◌≡◌, ℕ, ◌+◌, ◌≢◌, List, [], ◌∷◌, ◌++◌, ℤ, refl, arith}
use Rattle.registers.specs.Kind.{Rule}
use Rattle.actions.specs.declared.Action.{Action}
use Rattle.actions.specs.declared.Action.TheVariants.{HandlingMasterDoFailed, HandlingBackupGetNewMasterFailed}
use Rattle.hub_runs.specs.Hubs.{Size, State}
use Rattle.hub_runs.specs.Module.{Next}
use Rattle.hub_runs.specs.Promises.{accepted}
use Rattle.hub_runs.specs.Runs.{Call, Reply, stepped, refused, seen, Run, run_of}
use Rattle.hub_runs.proofs.Keeping.{replied, run_keeps}

-- Each action counts one step.
action_counts : (size : Size) (rule : Rule) (action : Action) (c : ℕ) (s s' : State) → Next size rule action c s s' → s'.steps ≡ s.steps + 1
action_counts size rule HandlingMasterDoFailed c s s' next = grind arith
action_counts size rule HandlingBackupGetNewMasterFailed c s s' next = grind arith
action_counts size rule _ c s s' next = cc

-- The accepted steps of two lists of replies, one after the other.
accepted-++ : (xs ys : List Reply) → accepted (xs ++ ys) ≡ accepted xs + accepted ys
unfolding accepted
accepted-++ [] ys = omega arith
accepted-++ (stepped ∷ xs) ys = omega (arith, accepted-++ xs ys)
accepted-++ (refused n ∷ xs) ys = accepted-++ xs ys
accepted-++ (seen look ∷ xs) ys = accepted-++ xs ys

-- The count of a run and its replies agree.
abbrev Agrees : Run → Type 0
Agrees r = r.state.steps ≡ accepted r.replies

still_agrees : (reply : Reply) (r : Run) → reply ≢ stepped → Agrees r → Agrees (replied reply r)
unfolding accepted
still_agrees stepped r other agrees = absurd (other refl)
still_agrees (refused n) r other agrees = omega (arith, accepted-++ r.replies (refused n ∷ []))
still_agrees (seen look) r other agrees = omega (arith, accepted-++ r.replies (seen look ∷ []))

pub steps_counted : (size : Size) (start : List ℤ) (rule : Rule) (moves : List ℤ) (calls : List Call) → (run_of size start rule moves calls).state.steps ≡ accepted (run_of size start rule moves calls).replies
unfolding accepted
steps_counted size start rule moves calls =
    run_keeps size rule Agrees
    (λ action c s r next agrees. omega (arith, action_counts size rule action c r.state s next, accepted-++ r.replies (stepped ∷ [])))
    still_agrees start moves refl calls
