-- How a command moves on under an action, given what it sees of the cards. Causes 9 to 11 are tested here.
use Rattle.std.specs.Prelude.{ℕ, Bool, true, false, cond, not, Some, None, Ok, Err, Option, Result, ◌==◌}
use Rattle.refusals.specs.Refusals.{number_of}
use Rattle.refusals.specs.declared.Refusal.{Refusal}
use Rattle.actions.specs.Letters.{place_of}
use Rattle.actions.specs.declared.Action.{Action}
use Rattle.actions.specs.declared.Action.TheVariants.{Starting, MasterDoing, HandlingMasterDone, BackupDoing, DetectingOldMasterId, HandlingBackupDone, HandlingMasterDoFailed, HandlingBackupDoFailed, GettingNewBackup, GettingNewMaster, HandlingBackupGetNewMasterFailed, HandlingMasterGetNewBackupFailed, UpdatingBackupId, UpdatingMasterId, CreatingNewBackup, CreatingNewMaster, KillingMaster, KillingBackup}
use Rattle.hub_records.specs.Commands.{the_master, the_backup, waits, rests, knows_master, knows_backup, actions_for, is_among, is_pending, master_in, backup_in}
use Rattle.hub_cards.specs.Statuses.{is_active, is_lost}
use Rattle.hub_records.specs.declared.advance.Effect.{Effect}
use Rattle.hub_records.specs.declared.advance.Effect.TheVariants.{Nothing, MasterTakes, BackupTakes, Completes, GivesUp}
use Rattle.hub_records.specs.declared.advance.Seen.{Seen}
use Rattle.hub_cards.specs.declared.BackupNumber.{BackupNumber}
use Rattle.hub_cards.specs.declared.MasterNumber.{MasterNumber}
use Rattle.hub_records.specs.declared.commands.Command.{Command}
use Rattle.hub_records.specs.declared.commands.Message.{Message}
use Rattle.hub_records.specs.declared.commands.Message.TheVariants.{MasterDo, MasterDone, BackupDo, BackupDone, MasterGetNewBackup, BackupGetNewMaster, NewBackupId, NewMasterId}
use Rattle.hub_records.specs.declared.commands.Phase.{Phase}
use Rattle.hub_records.specs.declared.commands.Phase.TheVariants.{Pending, Done, GaveUp}

-- A refusal's number, or the command as it then is and what its step does besides.
pub data Advance : Type 0 where
  stays : ℕ → Advance
  goes : Command → Effect → Advance

abbrev pub check : Bool → ℕ → Advance → Advance
check true n next = next
check false n next = stays n

abbrev pub by_master : Option MasterNumber → Advance → (MasterNumber → Advance) → Advance
by_master None without next = without
by_master (Some a) without next = next a

abbrev pub by_backup : Option BackupNumber → Advance → (BackupNumber → Advance) → Advance
by_backup None without next = without
by_backup (Some d) without next = next d

abbrev pub partner_of_master : Seen → ℕ
partner_of_master seen = seen.master.partner.0

abbrev pub partner_of_backup : Seen → ℕ
partner_of_backup seen = seen.backup.partner.0

-- The action is one for a command in this phase with this message.
abbrev pub is_for : Action → Phase → Option Message → Bool
is_for a phase msg = cond (place_of a == 0) (is_pending phase) (is_among a (actions_for msg))

-- What the action does with a command whose message carries m and b.
abbrev pub gone_on : Action → Command → Seen → ℕ → ℕ → Advance
gone_on Starting x seen m b = goes (waits (MasterDo x.own_master) x) Nothing
gone_on MasterDoing x seen m b = check (is_active seen.master.status) 10 (goes (waits (MasterDone (the_master m) (the_backup (partner_of_master seen))) x) (MasterTakes (the_master m)))
gone_on HandlingMasterDone x seen m b = goes (waits (BackupDo (the_master m) (the_backup b)) (knows_backup b x)) Nothing
gone_on BackupDoing x seen m b = check (is_active seen.backup.status) 10 (check (partner_of_backup seen == m) 11 (goes (waits (BackupDone (the_master m) (the_backup b)) x) (BackupTakes (the_backup b))))
gone_on DetectingOldMasterId x seen m b = check (is_active seen.backup.status) 10 (check (not (partner_of_backup seen == m)) 11 (goes (waits (NewMasterId (the_master (partner_of_backup seen)) (the_backup b)) x) Nothing))
gone_on HandlingBackupDone x seen m b = goes (rests Done x) Completes
gone_on HandlingMasterDoFailed x seen m b = check (is_lost seen.master.status) 10 (by_backup seen.active_backup (goes (rests GaveUp x) GivesUp) (λ d. goes (waits (BackupGetNewMaster x.own_master d) x) Nothing))
gone_on HandlingBackupDoFailed x seen m b = check (is_lost seen.backup.status) 10 (goes (waits (MasterGetNewBackup x.own_master x.own_backup) x) Nothing)
gone_on GettingNewBackup x seen m b = check (is_active seen.master.status) 10 (check (not (partner_of_master seen == b)) 11 (goes (waits (NewBackupId (the_master m) (the_backup (partner_of_master seen))) x) Nothing))
gone_on GettingNewMaster x seen m b = check (is_active seen.backup.status) 10 (check (not (partner_of_backup seen == m)) 11 (goes (waits (NewMasterId (the_master (partner_of_backup seen)) (the_backup b)) x) Nothing))
gone_on HandlingBackupGetNewMasterFailed x seen m b = check (is_lost seen.backup.status) 10 (by_master seen.active_master (goes (rests GaveUp x) GivesUp) (λ a. check (not (a.0 == x.own_master.0)) 11 (goes (rests Pending (knows_master a.0 x)) Nothing)))
gone_on HandlingMasterGetNewBackupFailed x seen m b = check (is_lost seen.master.status) 10 (goes (rests GaveUp x) GivesUp)
gone_on UpdatingBackupId x seen m b = goes (rests Done (knows_backup b x)) Completes
gone_on UpdatingMasterId x seen m b = goes (rests Pending (knows_master m x)) Nothing
gone_on CreatingNewBackup x seen m b = stays 9
gone_on CreatingNewMaster x seen m b = stays 9
gone_on KillingMaster x seen m b = stays 9
gone_on KillingBackup x seen m b = stays 9

abbrev pub advance_of : Action → Command → Seen → Advance
advance_of a x seen = check (is_for a x.phase x.message) 9 (gone_on a x seen (master_in x.message) (backup_in x.message))

-- What a call answers, and the command that it leaves.
abbrev pub answer_of : Result Effect Refusal → Command → Advance
answer_of (Ok effect) x = goes x effect
answer_of (Err refusal) x = stays (number_of refusal)
