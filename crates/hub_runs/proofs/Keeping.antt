-- What every run keeps: what holds of a run at its beginning, and is kept by each action of the module, and by each call
-- that changes nothing but adds a reply, holds of every run.
use Rattle.std.proofs.Common.{◌≡◌, ℕ, ◌≢◌, List, [], ◌∷◌, ◌++◌, ℤ, fold, refl}
use Rattle.registers.specs.Kind.{Rule}
use Rattle.actions.specs.declared.Action.{Action}
use Rattle.hub_runs.specs.Hubs.{Size, State}
use Rattle.hub_runs.specs.Judging.{Answer, denied, moved, step}
use Rattle.hub_runs.specs.Module.{Next}
use Rattle.hub_runs.specs.Runs.{Call, step_call, look_call, Reply, stepped, refused, seen, Run, look_at, lists_after, lists_by_letter, after_answer, after, begun, run_of}
use Rattle.hub_runs.proofs.OfModule.{steps_are_the_modules}

-- A run after an action that led to this state, and after a call that led nowhere.
abbrev pub acted : Action → ℕ → State → Run → Run
acted action c s r = record { state = s; lists = lists_after action c r.state r.lists; replies = r.replies ++ (stepped ∷ []) }

abbrev pub replied : Reply → Run → Run
replied reply r = record r { replies = r.replies ++ (reply ∷ []) }

module _ (size : Size) (rule : Rule) (Q : Run → Type 0)
    (acts : (action : Action) (c : ℕ) (s : State) (r : Run) → Next size rule action c r.state s → Q r → Q (acted action c s r))
    (rests : (reply : Reply) (r : Run) → reply ≢ stepped → Q r → Q (replied reply r)) where
  answer_keeps : (answer : Answer) (letter c : ℕ) (r : Run) → step size rule letter c r.state ≡ answer → Q r → Q (after_answer answer letter c r)
  unfolding after_answer lists_by_letter
  answer_keeps (denied n) letter c r e q = rests (refused n) r (λ h. cc) q
  answer_keeps (moved s) letter c r e q =
      let next = (steps_are_the_modules rule size letter c r.state s).0 e in
      rw next.1 (acts next.0 c s r next.2 q)

  call_keeps : (call : Call) (r : Run) → Q r → Q (after size rule r call)
  unfolding after
  call_keeps (step_call letter c) r q = answer_keeps (step size rule letter c r.state) letter c r refl q
  call_keeps look_call r q = rests (seen (look_at r.state)) r (λ h. cc) q

  calls_keep : (calls : List Call) (r : Run) → Q r → Q (fold (after size rule) r calls)
  calls_keep [] r q = q
  calls_keep (call ∷ calls) r q = calls_keep calls (after size rule r call) (call_keeps call r q)

  pub run_keeps : (start moves : List ℤ) → Q (begun size start moves) → (calls : List Call) → Q (run_of size start rule moves calls)
  unfolding run_of
  run_keeps start moves q calls = calls_keep calls (begun size start moves) q
