-- How a step is judged: the causes for which it is denied, in rising order of their numbers, and else what it leads to.
use Rattle.std.specs.Prelude.{ℕ, ◌+◌, Bool, true, false, cond, not, ◌&&◌, Some, None, Option, ◌==◌, nat_le, nat_lt}
use Rattle.registers.specs.Kind.{Rule}
use Rattle.actions.specs.Letters.{action_of, place_of, is_of_command}
use Rattle.actions.specs.declared.Action.{Action}
use Rattle.actions.specs.declared.Action.TheVariants.{Starting, MasterDoing, HandlingMasterDone, BackupDoing, DetectingOldMasterId, HandlingBackupDone, HandlingMasterDoFailed, HandlingBackupDoFailed, GettingNewBackup, GettingNewMaster, HandlingBackupGetNewMasterFailed, HandlingMasterGetNewBackupFailed, UpdatingBackupId, UpdatingMasterId, CreatingNewBackup, CreatingNewMaster, KillingMaster, KillingBackup}
use Rattle.hub_records.specs.Commands.{actions_for, backup_in, is_among, is_pending, knows_backup, knows_master, master_in, rests, the_backup, the_master, waits}
use Rattle.hub_cards.specs.Statuses.{is_active, is_lost}
use Rattle.hub_tables.specs.Search.{active_card, last_lost}
use Rattle.hub_records.specs.declared.commands.Message.{Message}
use Rattle.hub_records.specs.declared.commands.Message.TheVariants.{MasterDo, MasterDone, BackupDo, BackupDone, MasterGetNewBackup, BackupGetNewMaster, NewBackupId, NewMasterId}
use Rattle.hub_records.specs.declared.commands.Phase.{Phase}
use Rattle.hub_records.specs.declared.commands.Phase.TheVariants.{Pending, Done}
use Rattle.hub_records.specs.declared.hub.ExecState.{ExecState}
use Rattle.hub_records.specs.declared.hub.ExecState.TheVariants.{Running, Success, Fatal}
use Rattle.hub_runs.specs.Hubs.{Size, State, client, master_card, backup_card, backup_of, master_of, with_client, completed, given_up, master_takes, backup_takes, new_backup, new_master, master_lost, backup_lost}

-- What comes of a step: a refusal's number, or the hub's next state.
pub data Answer : Type 0 where
  denied : ℕ → Answer
  moved : State → Answer

-- Where the test fails, the step is denied with this number.
unfoldable pub guard : Bool → ℕ → Answer → Answer
guard true n next = next
guard false n next = denied n

-- Where there is such a card, go on with it.
unfoldable pub with_card : Option ℕ → ℕ → (ℕ → Answer) → Answer
with_card None n next = denied n
with_card (Some a) n next = next a

-- A step that goes on differently by whether there is an active card.
unfoldable pub by_card : Option ℕ → Answer → (ℕ → Answer) → Answer
by_card None without next = without
by_card (Some a) without next = next a

-- Whether the client is in the phase, or holds the message, that the action is for. Actions on cards alone ask nothing.
abbrev pub is_ready : Action → Phase → Option Message → Bool
is_ready a phase msg = cond (place_of a == 0) (is_pending phase) (cond (is_of_command a) (is_among a (actions_for msg)) true)

-- The command's number must be one of the hub's for a step of a command, and 0 for one of the cards alone.
abbrev pub is_numbered : Size → Action → ℕ → Bool
is_numbered size a c = cond (is_of_command a) (nat_le 1 c && nat_le c size.client_num) (c == 0)

-- Losses, the last two of the actions, are limited.
abbrev pub may_lose : Size → Action → ℕ → Bool
may_lose size a killed = cond (nat_le 16 (place_of a)) (nat_lt killed size.max_kill) true

abbrev pub is_running : ExecState → Bool
is_running Running = true
is_running Success = false
is_running Fatal = false

module _ (size : Size) (rule : Rule) where
  -- What the action does with client c, whose message, of the kind that the action is for, carries m and b.
  -- Here the causes 10 to 12 are tested.
  unfoldable pub carried_out : Action → ℕ → ℕ → ℕ → State → Answer
  carried_out Starting c m b s = moved (with_client c (waits (MasterDo (client s c).own_master) (client s c)) s)
  carried_out MasterDoing c m b s =
      guard (is_active (master_card s m).status) 10
      (moved (with_client c (waits (MasterDone (the_master m) (the_backup (backup_of s m))) (client s c)) (master_takes rule m c s)))
  carried_out HandlingMasterDone c m b s = moved (with_client c (waits (BackupDo (the_master m) (the_backup b)) (knows_backup b (client s c))) s)
  carried_out BackupDoing c m b s =
      guard (is_active (backup_card s b).status) 10 (guard (master_of s b == m) 11
      (moved (with_client c (waits (BackupDone (the_master m) (the_backup b)) (client s c)) (backup_takes rule b c s))))
  carried_out DetectingOldMasterId c m b s =
      guard (is_active (backup_card s b).status) 10 (guard (not (master_of s b == m)) 11
      (moved (with_client c (waits (NewMasterId (the_master (master_of s b)) (the_backup b)) (client s c)) s)))
  carried_out HandlingBackupDone c m b s = moved (completed c (rests Done (client s c)) s)
  carried_out HandlingMasterDoFailed c m b s =
      guard (is_lost (master_card s m).status) 10
      (by_card (active_card s.backup) (moved (given_up c s))
      (λ d. moved (with_client c (waits (BackupGetNewMaster (client s c).own_master (the_backup d)) (client s c)) s)))
  carried_out HandlingBackupDoFailed c m b s =
      guard (is_lost (backup_card s b).status) 10
      (moved (with_client c (waits (MasterGetNewBackup (client s c).own_master (client s c).own_backup) (client s c)) s))
  carried_out GettingNewBackup c m b s =
      guard (is_active (master_card s m).status) 10 (guard (not (backup_of s m == b)) 11
      (moved (with_client c (waits (NewBackupId (the_master m) (the_backup (backup_of s m))) (client s c)) s)))
  carried_out GettingNewMaster c m b s =
      guard (is_active (backup_card s b).status) 10 (guard (not (master_of s b == m)) 11
      (moved (with_client c (waits (NewMasterId (the_master (master_of s b)) (the_backup b)) (client s c)) s)))
  carried_out HandlingBackupGetNewMasterFailed c m b s =
      guard (is_lost (backup_card s b).status) 10
      (by_card (active_card s.master) (moved (given_up c s))
      (λ a. guard (not (a == (client s c).own_master.0)) 11 (moved (with_client c (rests Pending (knows_master a (client s c))) s))))
  carried_out HandlingMasterGetNewBackupFailed c m b s = guard (is_lost (master_card s m).status) 10 (moved (given_up c s))
  carried_out UpdatingBackupId c m b s = moved (completed c (rests Done (knows_backup b (client s c))) s)
  carried_out UpdatingMasterId c m b s = moved (with_client c (rests Pending (knows_master m (client s c))) s)
  carried_out CreatingNewBackup c m b s =
      with_card (active_card s.master) 10 (λ a. by_card (active_card s.backup)
      (with_card (last_lost s.backup) 10 (λ l. guard (nat_le (l + 1) size.max_instance) 12 (moved (new_backup a (l + 1) s))))
      (λ _. denied 10))
  carried_out CreatingNewMaster c m b s =
      with_card (active_card s.backup) 10 (λ a. by_card (active_card s.master)
      (with_card (last_lost s.master) 10 (λ l. guard (nat_le (l + 1) size.max_instance) 12 (moved (new_master a (l + 1) s))))
      (λ _. denied 10))
  carried_out KillingMaster c m b s = with_card (active_card s.master) 10 (λ a. moved (master_lost a s))
  carried_out KillingBackup c m b s = with_card (active_card s.backup) 10 (λ a. moved (backup_lost a s))

  unfoldable pub judged : Action → ℕ → State → Answer
  judged a c s =
      guard (is_numbered size a c) 7 (guard (may_lose size a s.killed) 8
      (guard (is_ready a (client s c).phase (client s c).message) 9
      (carried_out a c (master_in (client s c).message) (backup_in (client s c).message) s)))

  unfoldable pub by_letter : Option Action → ℕ → State → Answer
  by_letter None c s = denied 6
  by_letter (Some a) c s = judged a c s

  -- The step under a letter, given by its code.
  unfoldable pub step : ℕ → ℕ → State → Answer
  step letter c s = guard (is_running s.exec_state) 5 (by_letter (action_of letter) c s)
