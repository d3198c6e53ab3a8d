-- Lines of steps, carried out or not.
use Rattle.std.proofs.Common.{◌≡◌, ℕ, true, List, ℤ, Ok, Err, Result, MatchResult, sym, refl, ap, ◌∙◌}
use Rattle.std.proofs.lemmas.Bool.{cond-true}
use Rattle.refusals.specs.declared.Refusal.{Refusal}
use Rattle.refusals.specs.declared.Refusal.TheVariants.{StepDenied}
use Rattle.registers.specs.Kind.{Rule}
use Rattle.actions.specs.declared.Action.{Action}
use Rattle.hub_records.specs.declared.hub.Hub.{Hub}
use Rattle.hub_runs.specs.States.{Lent, size_of, state_in}
use Rattle.hub_steps.specs.Replied.{step_reply}
use Rattle.hub_steps.specs.Steps.{Steps}
use Rattle.actions.specs.Letters.{letter_of}
use Rattle.hub_runs.specs.Fits.{step_answer}
use Rattle.hub_runs.specs.GoingOn.{GoesOn, Outcome}
use Rattle.hub_runs.specs.Hubs.{Size}
use Rattle.hub_runs.specs.Judging.{Answer, denied, moved}
use Rattle.hub_runs.specs.Judging as judging
use Rattle.hub_runs.specs.Runs.{step_call}
use Rattle.journal.specs.Lines.{entry_of}
use Rattle.journal.specs.Outcomes.{commands_after}
use Rattle.journal.specs.Values.{Entry, commands, kills, cards, register, move, step}
use Rattle.journal.specs.declared.lines.Line.{Line}
use Rattle.journal.specs.declared.place.Place.{Place}
use Rattle.journal.specs.declared.kinds.Accepted.{Accepted}
use Rattle.replay.specs.Replaying.{replay_rest, stopped}
use Rattle.replay.specs.Standing.{Stands, StepNoted}
use Rattle.replay.specs.Told.{Told, by_answer, is_made, noted, size_told, state_told, step_noted, with_call}
use Rattle.replay.proofs.Progress.{Passes, noted_as}

-- The number of commands stays.
commands_kept : (start : List ℤ) (rule : Rule) (number : ℕ) (t more : Told) (entry : Entry) → step_noted start rule number t entry ≡ Ok more → commands_after t.commands entry ≡ more.commands
commands_kept start rule number t more (commands n) e = cc
commands_kept start rule number t more (kills n) e = cc
commands_kept start rule number t more (cards n) e = cc
commands_kept start rule number t more (register n) e = cc
commands_kept start rule number t more (move z) e = cc
commands_kept start rule number t more (step action c) e = from (judging.step (size_told t) rule (letter_of action) c (state_told start rule t)) e
  where
    from : (a : Answer) → by_answer number t (step_call (letter_of action) c) a ≡ Ok more → t.commands ≡ more.commands
    from (denied n) f = cc
    from (moved s) f = cc

-- A line that the reader handed out once the hub is made, noted under its number.
module _ {accepts : Accepted} {start : List ℤ} {rule : Rule} {text : List ℕ} {before after : Place} {t : Told} {known number : ℕ} {line : Line} (passes : Passes accepts start rule text before after t known line) (made : is_made t ≡ true) (counted : number ≡ before.line) where
  as_noted : (r : Result Told Refusal) → step_noted start rule number t (entry_of line) ≡ r → noted start rule before.line t (entry_of line) ≡ r
  as_noted r e = cond-true _ _ _ made ∙ ap (λ n. step_noted start rule n t (entry_of line)) (sym counted) ∙ e

  pub step_carried_out : (stands : Told → Type 0) → StepNoted (step_noted start rule number t (entry_of line)) {T = Unit {0}} (Ok tt) stands t → (more : Told) × stands more × (known ≡ more.commands) × (replay_rest accepts start rule text before t ≡ replay_rest accepts start rule text after more)
  step_carried_out stands n = from (step_noted start rule number t (entry_of line)) refl n
    where
      from : (r : Result Told Refusal) → step_noted start rule number t (entry_of line) ≡ r → StepNoted r {T = Unit {0}} (Ok tt) stands t → (more : Told) × stands more × (known ≡ more.commands) × (replay_rest accepts start rule text before t ≡ replay_rest accepts start rule text after more)
      from (Ok more) e s = (more, s, passes.knows ∙ commands_kept start rule number t more (entry_of line) e, noted_as passes (Ok more) (as_noted (Ok more) e))
      from (Err cause) e never = absurd never

  pub step_refused : (stands : Told → Type 0) (refusal : Refusal) → StepNoted (step_noted start rule number t (entry_of line)) {T = Unit {0}} (Err refusal) stands t → stands t × (replay_rest accepts start rule text before t ≡ stopped t refusal)
  step_refused stands refusal n = from (step_noted start rule number t (entry_of line)) refl n
    where
      from : (r : Result Told Refusal) → step_noted start rule number t (entry_of line) ≡ r → StepNoted r {T = Unit {0}} (Err refusal) stands t → stands t × (replay_rest accepts start rule text before t ≡ stopped t refusal)
      from (Ok more) e never = absurd never
      from (Err cause) e s = (s.1, noted_as passes (Err cause) (as_noted (Err cause) e) ∙ ap (stopped t) (sym s.0))

-- A step that the hub answered: it stands as is told then, or it refuses the step and stands as before.
module _ {R : Type 0} {figures : R → List ℤ} {start : List ℤ} {rule : Rule} (hub hub' : Hub) (tables tables' : Lent R) (t : Told) (action : Action) (c number : ℕ) (stands : Stands figures start rule hub tables t) (size : size_of hub' ≡ size_of hub) where
  judged : step_answer (size_of hub) rule (letter_of action) c (state_in figures hub tables) ≡ judging.step (size_told t) rule (letter_of action) c (state_told start rule t)
  judged =
      let run = stands.after_calls in
      ap (λ (k : Size). step_answer k rule (letter_of action) c (state_in figures hub tables)) stands.its_size ∙ ap (step_answer (size_told t) rule (letter_of action) c) run.is_the_runs ∙ cond-true _ _ _ run.promised.tables_fit

  by_reply : (a : Answer) (r told : Result (Unit {0}) Refusal) → MatchResult r (λ x. told ≡ Ok x) (λ _. told ≡ Err (StepDenied number)) → Outcome a (state_in figures hub tables) (step_reply r) (state_in figures hub' tables')
      → Stands figures start rule hub' tables' (with_call t (step_call (letter_of action) c))
      → StepNoted (by_answer number t (step_call (letter_of action) c) a) told (Stands figures start rule hub' tables') t
  by_reply (denied n) (Ok x) told is outcome on = absurd (let odd = outcome.0 in cc)
  by_reply (denied n) (Err refusal) told is outcome on = rw is (refl, record { made = stands.made; its_size = size ∙ stands.its_size; after_calls = rw outcome.1 stands.after_calls })
  by_reply (moved s) (Ok x) told is outcome on = rw is on
  by_reply (moved s) (Err refusal) told is outcome on = absurd (let odd = outcome.0 in cc)

  pub step_told : (letter : ℕ) (r told : Result (Unit {0}) Refusal) → letter ≡ letter_of action → Steps start rule (size_of hub) letter c (state_in figures hub tables) (step_reply r) (state_in figures hub' tables')
      → MatchResult r (λ x. told ≡ Ok x) (λ _. told ≡ Err (StepDenied number))
      → StepNoted (step_noted start rule number t (step action c)) told (Stands figures start rule hub' tables') t
  step_told letter r told l steps is =
      let named : Steps start rule (size_of hub) (letter_of action) c (state_in figures hub tables) (step_reply r) (state_in figures hub' tables') = rw l at steps in
      let outcome : Outcome (judging.step (size_told t) rule (letter_of action) c (state_told start rule t)) (state_in figures hub tables) (step_reply r) (state_in figures hub' tables') = rw judged at named.answered in
      let going : GoesOn start rule (size_told t) (state_in figures hub tables) (step_call (letter_of action) c) (step_reply r) (state_in figures hub' tables') = rw stands.its_size at named.goes_on in
      by_reply _ r told is outcome (record { made = stands.made; its_size = size ∙ stands.its_size; after_calls = (going t.moves t.calls stands.after_calls).0 })
