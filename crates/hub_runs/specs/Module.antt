-- The eighteen actions of the TLA+ module AsyncFinishReplication, each by its guard and its effect: s is the state
-- before the action, and s' the state after it. The names are the module's.
-- Where the module picks any client or message, the action is taken for the client that is named, c.
-- A message is kept with the client that it goes to or comes from, which has one at most: `waits` gives the client a
-- message in place of the last, and puts it to work, as C_Starting does; `rests` takes the message away.
-- Every effect counts the step as well, and what a card takes is the client's own value.
use Rattle.std.specs.Prelude.{◌≡◌, ℕ, ◌+◌, ◌<◌, ◌≤◌, ◌⊎◌, Some, None, ◌≢◌}
use Rattle.registers.specs.Kind.{Rule}
use Rattle.actions.specs.Letters.{action_of}
use Rattle.actions.specs.declared.Action.{Action}
use Rattle.actions.specs.declared.Action.TheVariants.{Starting, MasterDoing, HandlingMasterDone, BackupDoing, DetectingOldMasterId, HandlingBackupDone, HandlingMasterDoFailed, HandlingBackupDoFailed, GettingNewBackup, GettingNewMaster, HandlingBackupGetNewMasterFailed, HandlingMasterGetNewBackupFailed, UpdatingBackupId, UpdatingMasterId, CreatingNewBackup, CreatingNewMaster, KillingMaster, KillingBackup}
use Rattle.hub_records.specs.Commands.{knows_backup, knows_master, rests, the_backup, the_master, waits}
use Rattle.hub_tables.specs.Search.{active_card, last_lost}
use Rattle.hub_cards.specs.declared.BackupNumber.{BackupNumber}
use Rattle.hub_cards.specs.declared.MasterNumber.{MasterNumber}
use Rattle.hub_cards.specs.declared.Status.TheVariants.{Active, Lost}
use Rattle.hub_records.specs.declared.commands.Message.{Message}
use Rattle.hub_records.specs.declared.commands.Message.TheVariants.{MasterDo, MasterDone, BackupDo, BackupDone, MasterGetNewBackup, BackupGetNewMaster, NewBackupId, NewMasterId}
use Rattle.hub_records.specs.declared.commands.Phase.TheVariants.{Pending, Done}
use Rattle.hub_records.specs.declared.hub.ExecState.TheVariants.{Running}
use Rattle.hub_runs.specs.Hubs.{Size, State, client, master_card, backup_card, backup_of, master_of, with_client, completed, given_up, master_takes, backup_takes, new_backup, new_master, master_lost, backup_lost}
use Rattle.hub_runs.specs.Judging.{moved, step}

-- The client's message is this one.
abbrev pub Heard : State → ℕ → Message → Type 0
Heard s c msg = (client s c).message ≡ Some msg

-- The clients are numbered from 1.
abbrev pub IsClient : Size → ℕ → Type 0
IsClient size c = (1 ≤ c) × (c ≤ size.client_num)

module _ (size : Size) (rule : Rule) where
  -- A pending client sends its command to the master that it knows.
  abbrev pub C_Starting : ℕ → State → State → Type 0
  C_Starting c s s' =
      (s.exec_state ≡ Running)
      × ((client s c).phase ≡ Pending)
      × (s' ≡ with_client c (waits (MasterDo (client s c).own_master) (client s c)) s)

  -- An active master takes the command and answers, naming the backup that is its partner now.
  abbrev pub M_Doing : ℕ → State → State → Type 0
  M_Doing c s s' = (m : MasterNumber)
      × (s.exec_state ≡ Running)
      × Heard s c (MasterDo m)
      × ((master_card s m.0).status ≡ Active)
      × (s' ≡ with_client c (waits (MasterDone m (the_backup (backup_of s m.0))) (client s c)) (master_takes rule m.0 c s))

  -- The client notes the backup that the master named, and sends the command on to it.
  abbrev pub C_HandlingMasterDone : ℕ → State → State → Type 0
  C_HandlingMasterDone c s s' = (m : MasterNumber) × (b : BackupNumber)
      × (s.exec_state ≡ Running)
      × Heard s c (MasterDone m b)
      × (s' ≡ with_client c (waits (BackupDo m b) (knows_backup b.0 (client s c))) s)

  -- An active backup takes the command, if the client's master is still its partner.
  abbrev pub B_Doing : ℕ → State → State → Type 0
  B_Doing c s s' = (m : MasterNumber) × (b : BackupNumber)
      × (s.exec_state ≡ Running)
      × Heard s c (BackupDo m b)
      × ((backup_card s b.0).status ≡ Active)
      × (m.0 ≡ master_of s b.0)
      × (s' ≡ with_client c (waits (BackupDone m b) (client s c)) (backup_takes rule b.0 c s))

  -- An active backup has another master by now: it takes nothing, and tells the client its new master.
  abbrev pub B_DetectingOldMasterId : ℕ → State → State → Type 0
  B_DetectingOldMasterId c s s' = (m : MasterNumber) × (b : BackupNumber)
      × (s.exec_state ≡ Running)
      × Heard s c (BackupDo m b)
      × ((backup_card s b.0).status ≡ Active)
      × (m.0 ≢ master_of s b.0)
      × (s' ≡ with_client c (waits (NewMasterId (the_master (master_of s b.0)) b) (client s c)) s)

  -- Both cards have taken the command: the client is done, and the hub too if it was the last.
  abbrev pub C_HandlingBackupDone : ℕ → State → State → Type 0
  C_HandlingBackupDone c s s' = (m : MasterNumber) × (b : BackupNumber)
      × (s.exec_state ≡ Running)
      × Heard s c (BackupDone m b)
      × (s' ≡ completed c (rests Done (client s c)) s)

  -- The master was lost before it took the command: the client asks the active backup for the new master.
  -- With no active backup it gives up.
  abbrev pub C_HandlingMasterDoFailed : ℕ → State → State → Type 0
  C_HandlingMasterDoFailed c s s' = (m : MasterNumber)
      × (s.exec_state ≡ Running)
      × Heard s c (MasterDo m)
      × ((master_card s m.0).status ≡ Lost)
      × (((active_card s.backup ≡ None) × (s' ≡ given_up c s))
      ⊎ ((d : ℕ) × (active_card s.backup ≡ Some d) × (s' ≡ with_client c (waits (BackupGetNewMaster (client s c).own_master (the_backup d)) (client s c)) s)))

  -- The backup was lost before it took the command: the client asks its master for the new backup.
  abbrev pub C_HandlingBackupDoFailed : ℕ → State → State → Type 0
  C_HandlingBackupDoFailed c s s' = (m : MasterNumber) × (b : BackupNumber)
      × (s.exec_state ≡ Running)
      × Heard s c (BackupDo m b)
      × ((backup_card s b.0).status ≡ Lost)
      × (s' ≡ with_client c (waits (MasterGetNewBackup (client s c).own_master (client s c).own_backup) (client s c)) s)

  -- An active master that has replaced the client's backup names the new one.
  abbrev pub M_GettingNewBackup : ℕ → State → State → Type 0
  M_GettingNewBackup c s s' = (m : MasterNumber) × (b : BackupNumber)
      × (s.exec_state ≡ Running)
      × Heard s c (MasterGetNewBackup m b)
      × ((master_card s m.0).status ≡ Active)
      × (b.0 ≢ backup_of s m.0)
      × (s' ≡ with_client c (waits (NewBackupId m (the_backup (backup_of s m.0))) (client s c)) s)

  -- An active backup that has replaced the client's master names the new one.
  abbrev pub B_GettingNewMaster : ℕ → State → State → Type 0
  B_GettingNewMaster c s s' = (m : MasterNumber) × (b : BackupNumber)
      × (s.exec_state ≡ Running)
      × Heard s c (BackupGetNewMaster m b)
      × ((backup_card s b.0).status ≡ Active)
      × (m.0 ≢ master_of s b.0)
      × (s' ≡ with_client c (waits (NewMasterId (the_master (master_of s b.0)) b) (client s c)) s)

  -- The backup that was asked for the new master is lost too: the client takes the active master, if it is another
  -- than its own, and starts again. With no active master it gives up.
  abbrev pub C_HandlingBackupGetNewMasterFailed : ℕ → State → State → Type 0
  C_HandlingBackupGetNewMasterFailed c s s' = (m : MasterNumber) × (b : BackupNumber)
      × (s.exec_state ≡ Running)
      × Heard s c (BackupGetNewMaster m b)
      × ((backup_card s b.0).status ≡ Lost)
      × (((active_card s.master ≡ None) × (s' ≡ given_up c s))
      ⊎ ((a : ℕ) × (active_card s.master ≡ Some a) × (a ≢ (client s c).own_master.0) × (s' ≡ with_client c (rests Pending (knows_master a (client s c))) s)))

  -- The master that took the command is lost, and so is the backup that did not: the client gives up.
  abbrev pub C_HandlingMasterGetNewBackupFailed : ℕ → State → State → Type 0
  C_HandlingMasterGetNewBackupFailed c s s' = (m : MasterNumber) × (b : BackupNumber)
      × (s.exec_state ≡ Running)
      × Heard s c (MasterGetNewBackup m b)
      × ((master_card s m.0).status ≡ Lost)
      × (s' ≡ given_up c s)

  -- The new backup was copied from a master that had taken the command, so the client is done.
  abbrev pub C_UpdatingBackupId : ℕ → State → State → Type 0
  C_UpdatingBackupId c s s' = (m : MasterNumber) × (b : BackupNumber)
      × (s.exec_state ≡ Running)
      × Heard s c (NewBackupId m b)
      × (s' ≡ completed c (rests Done (knows_backup b.0 (client s c))) s)

  -- The client notes its new master and starts again.
  abbrev pub C_UpdatingMasterId : ℕ → State → State → Type 0
  C_UpdatingMasterId c s s' = (m : MasterNumber) × (b : BackupNumber)
      × (s.exec_state ≡ Running)
      × Heard s c (NewMasterId m b)
      × (s' ≡ with_client c (rests Pending (knows_master m.0 (client s c))) s)

  -- With no active backup, the active master makes the one that follows the last lost, as a copy of itself.
  abbrev pub M_CreatingNewBackup : ℕ → State → State → Type 0
  M_CreatingNewBackup c s s' = (a : ℕ) × (l : ℕ)
      × (s.exec_state ≡ Running)
      × (active_card s.master ≡ Some a)
      × (active_card s.backup ≡ None)
      × (last_lost s.backup ≡ Some l)
      × (l + 1 ≤ size.max_instance)
      × (s' ≡ new_backup a (l + 1) s)

  -- With no active master, the active backup makes the one that follows the last lost, as a copy of itself.
  abbrev pub B_CreatingNewMaster : ℕ → State → State → Type 0
  B_CreatingNewMaster c s s' = (a : ℕ) × (l : ℕ)
      × (s.exec_state ≡ Running)
      × (active_card s.master ≡ None)
      × (active_card s.backup ≡ Some a)
      × (last_lost s.master ≡ Some l)
      × (l + 1 ≤ size.max_instance)
      × (s' ≡ new_master a (l + 1) s)

  -- The active master is lost.
  abbrev pub E_KillingMaster : ℕ → State → State → Type 0
  E_KillingMaster c s s' = (a : ℕ)
      × (s.exec_state ≡ Running)
      × (s.killed < size.max_kill)
      × (active_card s.master ≡ Some a)
      × (s' ≡ master_lost a s)

  -- The active backup is lost.
  abbrev pub E_KillingBackup : ℕ → State → State → Type 0
  E_KillingBackup c s s' = (a : ℕ)
      × (s.exec_state ≡ Running)
      × (s.killed < size.max_kill)
      × (active_card s.backup ≡ Some a)
      × (s' ≡ backup_lost a s)

  -- The module's next-state relation, action by action; an action on cards alone is named with 0 for the client.
  abbrev pub Next : Action → ℕ → State → State → Type 0
  Next Starting c s s' = IsClient size c × C_Starting c s s'
  Next MasterDoing c s s' = IsClient size c × M_Doing c s s'
  Next HandlingMasterDone c s s' = IsClient size c × C_HandlingMasterDone c s s'
  Next BackupDoing c s s' = IsClient size c × B_Doing c s s'
  Next DetectingOldMasterId c s s' = IsClient size c × B_DetectingOldMasterId c s s'
  Next HandlingBackupDone c s s' = IsClient size c × C_HandlingBackupDone c s s'
  Next HandlingMasterDoFailed c s s' = IsClient size c × C_HandlingMasterDoFailed c s s'
  Next HandlingBackupDoFailed c s s' = IsClient size c × C_HandlingBackupDoFailed c s s'
  Next GettingNewBackup c s s' = IsClient size c × M_GettingNewBackup c s s'
  Next GettingNewMaster c s s' = IsClient size c × B_GettingNewMaster c s s'
  Next HandlingBackupGetNewMasterFailed c s s' = IsClient size c × C_HandlingBackupGetNewMasterFailed c s s'
  Next HandlingMasterGetNewBackupFailed c s s' = IsClient size c × C_HandlingMasterGetNewBackupFailed c s s'
  Next UpdatingBackupId c s s' = IsClient size c × C_UpdatingBackupId c s s'
  Next UpdatingMasterId c s s' = IsClient size c × C_UpdatingMasterId c s s'
  Next CreatingNewBackup c s s' = (c ≡ 0) × M_CreatingNewBackup c s s'
  Next CreatingNewMaster c s s' = (c ≡ 0) × B_CreatingNewMaster c s s'
  Next KillingMaster c s s' = (c ≡ 0) × E_KillingMaster c s s'
  Next KillingBackup c s s' = (c ≡ 0) × E_KillingBackup c s s'

-- A step that is accepted is the module's action under its letter, and leads to the module's next state; and an action
-- that the module enables is accepted under its letter, and leads there. So a step is denied exactly where the module
-- does not enable it, whatever the hub's state.
abbrev pub StepsAreTheModules : Rule → Type 0
StepsAreTheModules rule = (size : Size) (letter c : ℕ) (s s' : State) →
    (step size rule letter c s ≡ moved s' → (action : Action) × (action_of letter ≡ Some action) × Next size rule action c s s')
    × ((action : Action) → action_of letter ≡ Some action → Next size rule action c s s' → step size rule letter c s ≡ moved s')
