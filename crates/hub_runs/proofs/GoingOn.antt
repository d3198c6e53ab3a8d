-- A call takes every run on.
use Rattle.std.proofs.Common.{◌≡◌, ℕ, true, List, [], ◌∷◌, ◌++◌, ℤ, sym, refl, ap, ◌∙◌}
use Rattle.std.proofs.lemmas.List.Sums.{fold_push}
use Rattle.std.proofs.lemmas.Bool.{cond-true}
use Rattle.registers.specs.Kind.{Rule}
use Rattle.hub_runs.specs.Fits.{state_fits, step_answer}
use Rattle.hub_runs.specs.GoingOn.{AfterCalls, ByTheModule, GoesOn, Outcome}
use Rattle.hub_runs.specs.Hubs.{Size, State}
use Rattle.hub_runs.specs.Judging.{Answer, denied, moved, step}
use Rattle.hub_runs.specs.Law.{Commutes}
use Rattle.hub_runs.specs.Runs.{Limits, Call, step_call, look_call, Reply, seen, Run, look_at, after_answer, after, made, begun, run_of}
use Rattle.hub_runs.proofs.OfModule.{steps_are_the_modules}
use Rattle.hub_runs.proofs.Promised.{every_run_keeps_its_promises}

-- The run with one call more.
run_push : (size : Size) (start : List ℤ) (rule : Rule) (moves : List ℤ) (calls : List Call) (call : Call) → run_of size start rule moves (calls ++ (call ∷ [])) ≡ after size rule (run_of size start rule moves calls) call
unfolding run_of
run_push size start rule moves calls call = fold_push (after size rule) (begun size start moves) calls call

-- What a run's step leaves and replies.
after_outcome : (answer : Answer) (letter c : ℕ) (r : Run) (reply : Reply) (s : State) → Outcome answer r.state reply s → (s ≡ (after_answer answer letter c r).state) × ((after_answer answer letter c r).replies ≡ r.replies ++ (reply ∷ []))
unfolding after_answer
after_outcome (denied n) letter c r reply s o = (o.1, ap (λ x. r.replies ++ (x ∷ [])) (sym o.0))
after_outcome (moved t) letter c r reply s o = (o.1, ap (λ x. r.replies ++ (x ∷ [])) (sym o.0))

module _ (start : List ℤ) (rule : Rule) (law : Commutes start rule) (size : Size) where
  -- A made hub is at the beginning of a run.
  pub begins_run : (moves : List ℤ) → Limits size moves → (s : State) → s ≡ made size start moves → AfterCalls start rule size moves [] s
  unfolding run_of
  begins_run moves limits s e = record { limits = limits; is_the_runs = e; promised = every_run_keeps_its_promises start rule law size moves limits [] }

  -- From what the call leaves and replies in the run to what it does to every run.
  pushed : (moves : List ℤ) (calls : List Call) (call : Call) (reply : Reply) (s : State) → Limits size moves
      → (s ≡ (after size rule (run_of size start rule moves calls) call).state) × ((after size rule (run_of size start rule moves calls) call).replies ≡ (run_of size start rule moves calls).replies ++ (reply ∷ []))
      → AfterCalls start rule size moves (calls ++ (call ∷ [])) s × ((run_of size start rule moves (calls ++ (call ∷ []))).replies ≡ (run_of size start rule moves calls).replies ++ (reply ∷ []))
  pushed moves calls call reply s limits e =
      let more = run_push size start rule moves calls call in (
        record { limits = limits; is_the_runs = rw more e.0; promised = every_run_keeps_its_promises start rule law size moves limits (calls ++ (call ∷ [])) },
        rw more e.1,
      )

  pub step_goes_on : (letter c : ℕ) (s s' : State) (reply : Reply) → Outcome (step_answer size rule letter c s) s reply s' → GoesOn start rule size s (step_call letter c) reply s'
  unfolding after
  step_goes_on letter c s s' reply o moves calls run =
      let r = run_of size start rule moves calls in
      let there : Outcome (step_answer size rule letter c r.state) r.state reply s' = rw (← run.is_the_runs) o in
      pushed moves calls (step_call letter c) reply s' run.limits (after_outcome (step size rule letter c r.state) letter c r reply s' (rw (cond-true _ _ _ run.promised.tables_fit) at there))

  pub look_goes_on : (s : State) → GoesOn start rule size s look_call (seen (look_at s)) s
  unfolding after
  look_goes_on s moves calls run = pushed moves calls look_call (seen (look_at s)) s run.limits (run.is_the_runs, rw run.is_the_runs)

  -- In a run no call finds a misfit.
  pub fits_in_run : (moves : List ℤ) (calls : List Call) (s : State) → AfterCalls start rule size moves calls s → state_fits size s ≡ true
  fits_in_run moves calls s run = rw run.is_the_runs run.promised.tables_fit

-- On tables that fit, a step is the module's.
pub step_by_the_module : (size : Size) (rule : Rule) (letter c : ℕ) (s s' : State) (reply : Reply) → state_fits size s ≡ true → Outcome (step_answer size rule letter c s) s reply s' → ByTheModule size rule letter c s reply s'
step_by_the_module size rule letter c s s' reply fits o =
    from (step size rule letter c s) refl (rw (cond-true _ _ _ fits) at o)
  where
    from : (answer : Answer) → step size rule letter c s ≡ answer → Outcome answer s reply s' → ByTheModule size rule letter c s reply s'
    from (denied n) e o = record {
      accepted = λ yes. absurd cc;
      enabled = λ action next letter_is taken. absurd (cc ((steps_are_the_modules rule size letter c s next).1 action letter_is taken));
    }
    from (moved t) e o = record {
      accepted = λ yes. (steps_are_the_modules rule size letter c s s').0 (e ∙ ap moved (sym o.1));
      enabled = λ action next letter_is taken. (o.0, cc ((steps_are_the_modules rule size letter c s next).1 action letter_is taken));
    }
