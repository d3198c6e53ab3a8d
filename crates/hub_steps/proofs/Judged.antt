-- From the tests of a step to the model's answer.
use Rattle.std.proofs.Common.{◌≡◌, ℕ, ◌+◌, Bool, true, false, cond, ◌≢◌, Some, None, Ok, Err, Result, sym, refl, ap, ◌∙◌, subst, arith}
use Rattle.std.proofs.lemmas.Bool.{cond-true}
use Rattle.std.proofs.lemmas.Bool.Decides.{nat_tests}
use Rattle.refusals.specs.Refusals.{number_of}
use Rattle.refusals.specs.declared.Refusal.{Refusal}
use Rattle.registers.specs.Kind.{Rule}
use Rattle.actions.specs.Letters.{action_of, is_loss, is_of_command}
use Rattle.actions.specs.declared.Action.{Action}
use Rattle.actions.specs.declared.Action.TheVariants.{Starting, MasterDoing, HandlingMasterDone, BackupDoing, DetectingOldMasterId, HandlingBackupDone, HandlingMasterDoFailed, HandlingBackupDoFailed, GettingNewBackup, GettingNewMaster, HandlingBackupGetNewMasterFailed, HandlingMasterGetNewBackupFailed, UpdatingBackupId, UpdatingMasterId, CreatingNewBackup, CreatingNewMaster, KillingMaster, KillingBackup}
use Rattle.hub_records.specs.Commands.{master_in, backup_in}
use Rattle.hub_runs.specs.Hubs.{Size, State, client}
use Rattle.hub_runs.specs.Judging.{Answer, denied, guard, is_numbered, may_lose, is_ready, is_running, carried_out, judged, by_letter, step}
use Rattle.hub_steps.specs.Counting.{in_order, once_counted}
use Rattle.hub_steps.specs.Replied.{Replied}
use Rattle.hub_steps.specs.Seeing.{CommandSteps}
use Rattle.hub_runs.specs.Fits.{state_fits, step_answer}
use Rattle.hub_steps.proofs.OfAdvance.{of_advance}

guard_passes : (b : Bool) (n : ℕ) (answer : Answer) → b ≡ true → guard b n answer ≡ answer
unfolding guard
guard_passes true n answer e = refl
guard_passes false n answer e = cc

guard_stops : (b : Bool) (n : ℕ) (answer : Answer) → b ≡ false → guard b n answer ≡ denied n
unfolding guard
guard_stops true n answer e = cc
guard_stops false n answer e = refl

-- A refusal that leaves all as it was.
pub denied_so : (T : Type 0) (answer : Answer) (s s' : State) (refusal : Refusal) → answer ≡ denied (number_of refusal) → s' ≡ s → Replied {T = T} answer s (Err refusal) s'
denied_so T answer s s' refusal e same = subst (λ a. Replied {T = T} a s (Err refusal) s') (sym e) (refl, same)

-- Every action but the last four is one of a command.
pub else_of_command : (a : Action) → a ≢ CreatingNewBackup → a ≢ CreatingNewMaster → a ≢ KillingMaster → a ≢ KillingBackup → is_of_command a ≡ true
else_of_command Starting o p q r = refl
else_of_command MasterDoing o p q r = refl
else_of_command HandlingMasterDone o p q r = refl
else_of_command BackupDoing o p q r = refl
else_of_command DetectingOldMasterId o p q r = refl
else_of_command HandlingBackupDone o p q r = refl
else_of_command HandlingMasterDoFailed o p q r = refl
else_of_command HandlingBackupDoFailed o p q r = refl
else_of_command GettingNewBackup o p q r = refl
else_of_command GettingNewMaster o p q r = refl
else_of_command HandlingBackupGetNewMasterFailed o p q r = refl
else_of_command HandlingMasterGetNewBackupFailed o p q r = refl
else_of_command UpdatingBackupId o p q r = refl
else_of_command UpdatingMasterId o p q r = refl
else_of_command CreatingNewBackup o p q r = absurd (o refl)
else_of_command CreatingNewMaster o p q r = absurd (p refl)
else_of_command KillingMaster o p q r = absurd (q refl)
else_of_command KillingBackup o p q r = absurd (r refl)

module _ (size : Size) (rule : Rule) (a : Action) (c : ℕ) (s : State) where
  pub not_numbered : is_numbered size a c ≡ false → judged size rule a c s ≡ denied 7
  unfolding judged
  not_numbered e = guard_stops _ 7 _ e

  pub losses_used_up : is_numbered size a c ≡ true → may_lose size a s.killed ≡ false → judged size rule a c s ≡ denied 8
  unfolding judged
  losses_used_up n e = guard_passes _ 7 _ n ∙ guard_stops _ 8 _ e

  pub allowed : is_numbered size a c ≡ true → may_lose size a s.killed ≡ true → judged size rule a c s ≡ in_order size rule a c s
  unfolding judged
  allowed n e = guard_passes _ 7 _ n ∙ guard_passes _ 8 _ e

-- An action on a command is no loss of a card.
no_loss : (a : Action) → is_of_command a ≡ true → is_loss a ≡ false
no_loss a of = grind (arith, nat_tests)

module _ (size : Size) (rule : Rule) (a : Action) (c : ℕ) (s : State) (T : Type 0) (r : Result T Refusal) (s' : State) where
  pub of_command : is_of_command a ≡ true → CommandSteps rule a c s r (once_counted false r s') → Replied (in_order size rule a c s) s r (once_counted (is_loss a) r s')
  of_command of steps =
      subst (λ loss. Replied (in_order size rule a c s) s r (once_counted loss r s')) (sym (no_loss a of))
      (subst (λ answer. Replied answer s r (once_counted false r s')) (sym (of_advance rule c s size a of)) steps)

  of_cards : is_ready a (client s c).phase (client s c).message ≡ true → ((d m b : ℕ) → Replied (carried_out size rule a d m b s) s r (once_counted (is_loss a) r s')) → Replied (in_order size rule a c s) s r (once_counted (is_loss a) r s')
  of_cards ready steps =
      subst (λ answer. Replied answer s r (once_counted (is_loss a) r s')) (sym (guard_passes _ 9 _ ready)) (steps c (master_in (client s c).message) (backup_in (client s c).message))

-- The same where the action is known by an arm of a `match`.
pub of_arm : (size : Size) (rule : Rule) (a arm : Action) (c : ℕ) (s : State) (T : Type 0) (r : Result T Refusal) (s' : State) → a ≡ arm → is_ready arm (client s c).phase (client s c).message ≡ true → ((d m b : ℕ) → Replied (carried_out size rule arm d m b s) s r (once_counted (is_loss arm) r s')) → Replied (in_order size rule a c s) s r (once_counted (is_loss a) r s')
of_arm size rule a arm c s T r s' e ready steps =
    subst (λ x. Replied (in_order size rule x c s) s r (once_counted (is_loss x) r s')) (sym e) (of_cards size rule arm c s T r s' ready steps)

-- What was carried out is counted.
pub then_counted : {T : Type 0} (t : T) (answer : Answer) (s s' : State) (loss : Bool) (losses : ℕ) → losses ≡ cond loss (s'.killed + 1) s'.killed → Replied answer s (Ok t) (once_counted loss (Ok t) s') → Replied answer s (Ok t) (record { exec_state = s'.exec_state; clients = s'.clients; master = s'.master; backup = s'.backup; killed = losses; steps = s'.steps + 1; master_figures = s'.master_figures; backup_figures = s'.backup_figures })
then_counted t answer s s' loss losses is counted =
    subst (λ k. Replied answer s (Ok t) (record { exec_state = s'.exec_state; clients = s'.clients; master = s'.master; backup = s'.backup; killed = k; steps = s'.steps + 1; master_figures = s'.master_figures; backup_figures = s'.backup_figures })) (sym is) counted

module _ (size : Size) (rule : Rule) (letter c : ℕ) (s : State) where
  pub finished : state_fits size s ≡ true → is_running s.exec_state ≡ false → step_answer size rule letter c s ≡ denied 5
  unfolding step
  finished f e = cond-true _ _ _ f ∙ guard_stops _ 5 _ e

  pub unknown : state_fits size s ≡ true → is_running s.exec_state ≡ true → action_of letter ≡ None → step_answer size rule letter c s ≡ denied 6
  unfolding step by_letter
  unknown f e u = cond-true _ _ _ f ∙ guard_passes _ 5 _ e ∙ ap (λ o. by_letter size rule o c s) u

  pub under : (a : Action) → state_fits size s ≡ true → is_running s.exec_state ≡ true → action_of letter ≡ Some a → step_answer size rule letter c s ≡ judged size rule a c s
  unfolding step by_letter
  under a f e u = cond-true _ _ _ f ∙ guard_passes _ 5 _ e ∙ ap (λ o. by_letter size rule o c s) u
