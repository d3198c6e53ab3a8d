-- A command that moves on makes the hub take the model's step.
use Rattle.std.proofs.Common.{◌≡◌, ℕ, Bool, true, false, List, ℤ, Some, None, Ok, Option, sym, refl, ap, ◌∙◌, subst}
use Rattle.std.specs.Option.{option_map}
use Rattle.registers.specs.Kind.{Rule}
use Rattle.actions.specs.Letters.{is_of_command}
use Rattle.actions.specs.declared.Action.{Action}
use Rattle.actions.specs.declared.Action.TheVariants.{Starting, MasterDoing, HandlingMasterDone, BackupDoing, DetectingOldMasterId, HandlingBackupDone, HandlingMasterDoFailed, HandlingBackupDoFailed, GettingNewBackup, GettingNewMaster, HandlingBackupGetNewMasterFailed, HandlingMasterGetNewBackupFailed, UpdatingBackupId, UpdatingMasterId, CreatingNewBackup, CreatingNewMaster, KillingMaster, KillingBackup}
use Rattle.hub_records.specs.Advance.{Advance, goes, check, by_master, by_backup, advance_of}
use Rattle.hub_records.specs.Commands.{the_master, the_backup, master_in, backup_in}
use Rattle.hub_cards.specs.Tables.{put}
use Rattle.hub_records.specs.declared.advance.Effect.{Effect}
use Rattle.hub_records.specs.declared.advance.Effect.TheVariants.{Nothing, MasterTakes, BackupTakes, Completes, GivesUp}
use Rattle.hub_records.specs.declared.advance.Seen.{Seen}
use Rattle.hub_cards.specs.declared.BackupNumber.{BackupNumber}
use Rattle.hub_cards.specs.declared.MasterNumber.{MasterNumber}
use Rattle.hub_records.specs.declared.commands.Command.{Command}
use Rattle.hub_tables.specs.Search.{active_card}
use Rattle.hub_runs.specs.Hubs.{Size, State, client, master_card, backup_card}
use Rattle.hub_runs.specs.Judging.{Answer, moved, guard, by_card, is_ready, carried_out}
use Rattle.hub_steps.specs.Applied.{applied, with_clients}
use Rattle.hub_steps.specs.Replied.{Replied}
use Rattle.hub_steps.specs.Seeing.{seen_by, hub_answer, CommandSteps}

module _ (rule : Rule) (c : ℕ) (s : State) where
  tested : (b : Bool) (n : ℕ) (next : Advance) (answer : Answer) → answer ≡ hub_answer rule c s next → guard b n answer ≡ hub_answer rule c s (check b n next)
  unfolding guard
  tested true n next answer e = e
  tested false n next answer e = refl

  by_a_master : (o : Option ℕ) (without : Advance) (next : MasterNumber → Advance) (w : Answer) (f : ℕ → Answer) → w ≡ hub_answer rule c s without → ((a : ℕ) → f a ≡ hub_answer rule c s (next (the_master a))) → by_card o w f ≡ hub_answer rule c s (by_master (option_map the_master o) without next)
  unfolding by_card
  by_a_master None without next w f e each = e
  by_a_master (Some a) without next w f e each = each a

  by_a_backup : (o : Option ℕ) (without : Advance) (next : BackupNumber → Advance) (w : Answer) (f : ℕ → Answer) → w ≡ hub_answer rule c s without → ((a : ℕ) → f a ≡ hub_answer rule c s (next (the_backup a))) → by_card o w f ≡ hub_answer rule c s (by_backup (option_map the_backup o) without next)
  unfolding by_card
  by_a_backup None without next w f e each = e
  by_a_backup (Some d) without next w f e each = each d

  pub of_advance : (size : Size) (a : Action) → is_of_command a ≡ true → guard (is_ready a (client s c).phase (client s c).message) 9 (carried_out size rule a c (master_in (client s c).message) (backup_in (client s c).message) s) ≡ hub_answer rule c s (advance_of a (client s c) (seen_by s c))
  unfolding carried_out
  of_advance size Starting e = tested _ 9 _ _ refl
  of_advance size MasterDoing e = tested _ 9 _ _ (tested _ 10 _ _ refl)
  of_advance size HandlingMasterDone e = tested _ 9 _ _ refl
  of_advance size BackupDoing e = tested _ 9 _ _ (tested _ 10 _ _ (tested _ 11 _ _ refl))
  of_advance size DetectingOldMasterId e = tested _ 9 _ _ (tested _ 10 _ _ (tested _ 11 _ _ refl))
  of_advance size HandlingBackupDone e = tested _ 9 _ _ refl
  of_advance size HandlingMasterDoFailed e = tested _ 9 _ _ (tested _ 10 _ _ (by_a_backup _ _ _ _ _ refl (λ d. refl)))
  of_advance size HandlingBackupDoFailed e = tested _ 9 _ _ (tested _ 10 _ _ refl)
  of_advance size GettingNewBackup e = tested _ 9 _ _ (tested _ 10 _ _ (tested _ 11 _ _ refl))
  of_advance size GettingNewMaster e = tested _ 9 _ _ (tested _ 10 _ _ (tested _ 11 _ _ refl))
  of_advance size HandlingBackupGetNewMasterFailed e = tested _ 9 _ _ (tested _ 10 _ _ (by_a_master _ _ _ _ _ refl (λ a. tested _ 11 _ _ refl)))
  of_advance size HandlingMasterGetNewBackupFailed e = tested _ 9 _ _ (tested _ 10 _ _ refl)
  of_advance size UpdatingBackupId e = tested _ 9 _ _ refl
  of_advance size UpdatingMasterId e = tested _ 9 _ _ refl
  of_advance size CreatingNewBackup e = cc
  of_advance size CreatingNewMaster e = cc
  of_advance size KillingMaster e = cc
  of_advance size KillingBackup e = cc

  -- The command's place is written, and the effect is applied.
  pub goes_on : (adv : Advance) (y : Command) (effect : Effect) → adv ≡ goes y effect → hub_answer rule c s adv ≡ moved (applied rule effect (client s c).hundredths (with_clients (put s.clients c y) s))
  goes_on adv y effect e = ap (hub_answer rule c s) e ∙ by_effect effect
    where
      by_effect : (f : Effect) → hub_answer rule c s (goes y f) ≡ moved (applied rule f (client s c).hundredths (with_clients (put s.clients c y) s))
      by_effect Nothing = refl
      by_effect (MasterTakes m) = refl
      by_effect (BackupTakes b) = refl
      by_effect Completes = refl
      by_effect GivesUp = refl

  -- What is seen, from the command that was read.
  abbrev pub seen_from : Command → Seen
  seen_from x = record { master = master_card s (master_in x.message); backup = backup_card s (backup_in x.message); active_master = option_map the_master (active_card s.master); active_backup = option_map the_backup (active_card s.backup) }

  advance_seen : (action : Action) (x : Command) (seen : Seen) → x ≡ client s c → seen ≡ seen_from x → advance_of action x seen ≡ advance_of action (client s c) (seen_by s c)
  advance_seen action x seen e f = ap (advance_of action x) f ∙ ap (λ y. advance_of action y (seen_from y)) e

  -- The command moved on: its place was written, and the effect was applied.
  pub stepped : (T : Type 0) (t : T) (action : Action) (x y : Command) (seen : Seen) (effect : Effect) (xs : List Command) (z : ℤ) (s' : State) → z ≡ x.hundredths → x ≡ client s c → seen ≡ seen_from x → goes y effect ≡ advance_of action x seen → xs ≡ put s.clients c y → s' ≡ applied rule effect z (with_clients xs s) → CommandSteps {T = T} rule action c s (Ok t) s'
  stepped T t action x y seen effect xs z s' read e f moves place after =
      let answer = goes_on (advance_of action (client s c) (seen_by s c)) y effect (sym (moves ∙ advance_seen action x seen e f)) in
      let same : applied rule effect z (with_clients xs s) ≡ applied rule effect (client s c).hundredths (with_clients (put s.clients c y) s) =
      ap (λ k. applied rule effect k (with_clients xs s)) (read ∙ ap (λ k. k.hundredths) e) ∙ ap (λ zs. applied rule effect (client s c).hundredths (with_clients zs s)) place in
      subst (λ ans. Replied {T = T} ans s (Ok t) s') (sym answer) (refl, after ∙ same)
