-- Commands: what they hold, which actions are for them, and how they change.
use Rattle.std.specs.Prelude.{ℕ, pos, Bool, true, false, cond, List, [], ◌∷◌, Some, None, Option, ◌==◌}
use Rattle.actions.specs.Letters.{place_of}
use Rattle.actions.specs.declared.Action.{Action}
use Rattle.actions.specs.declared.Action.TheVariants.{MasterDoing, HandlingMasterDone, BackupDoing, DetectingOldMasterId, HandlingBackupDone, HandlingMasterDoFailed, HandlingBackupDoFailed, GettingNewBackup, GettingNewMaster, HandlingBackupGetNewMasterFailed, HandlingMasterGetNewBackupFailed, UpdatingBackupId, UpdatingMasterId}
use Rattle.hub_cards.specs.declared.BackupNumber.{BackupNumber}
use Rattle.hub_cards.specs.declared.MasterNumber.{MasterNumber}
use Rattle.hub_records.specs.declared.commands.Command.{Command}
use Rattle.hub_records.specs.declared.commands.Message.{Message}
use Rattle.hub_records.specs.declared.commands.Message.TheVariants.{MasterDo, MasterDone, BackupDo, BackupDone, MasterGetNewBackup, BackupGetNewMaster, NewBackupId, NewMasterId}
use Rattle.hub_records.specs.declared.commands.Phase.{Phase}
use Rattle.hub_records.specs.declared.commands.Phase.TheVariants.{Pending, Working, Done, GaveUp}

-- The numbers of cards.
abbrev pub the_master : ℕ → MasterNumber
the_master n = record { 0 = n }

abbrev pub the_backup : ℕ → BackupNumber
the_backup n = record { 0 = n }

-- A command that holds nothing yet: it is pending, moves nothing and knows no card.
abbrev pub blank_command : Command
blank_command = record { hundredths = pos 0; phase = Pending; own_master = the_master 0; own_backup = the_backup 0; message = None }

-- A client after a change: of what it waits for, and of what it knows.
abbrev pub waits : Message → Command → Command
waits msg x = record { hundredths = x.hundredths; phase = Working; own_master = x.own_master; own_backup = x.own_backup; message = Some msg }

abbrev pub rests : Phase → Command → Command
rests phase x = record { hundredths = x.hundredths; phase = phase; own_master = x.own_master; own_backup = x.own_backup; message = None }

abbrev pub knows_master : ℕ → Command → Command
knows_master m x = record { hundredths = x.hundredths; phase = x.phase; own_master = the_master m; own_backup = x.own_backup; message = x.message }

abbrev pub knows_backup : ℕ → Command → Command
knows_backup b x = record { hundredths = x.hundredths; phase = x.phase; own_master = x.own_master; own_backup = the_backup b; message = x.message }

-- The actions that a message is for. While a client holds none, only an action on pending clients can be for it.
abbrev pub actions_for : Option Message → List Action
actions_for None = []
actions_for (Some (MasterDo m)) = MasterDoing ∷ HandlingMasterDoFailed ∷ []
actions_for (Some (MasterDone m b)) = HandlingMasterDone ∷ []
actions_for (Some (BackupDo m b)) = BackupDoing ∷ DetectingOldMasterId ∷ HandlingBackupDoFailed ∷ []
actions_for (Some (BackupDone m b)) = HandlingBackupDone ∷ []
actions_for (Some (MasterGetNewBackup m b)) = GettingNewBackup ∷ HandlingMasterGetNewBackupFailed ∷ []
actions_for (Some (BackupGetNewMaster m b)) = GettingNewMaster ∷ HandlingBackupGetNewMasterFailed ∷ []
actions_for (Some (NewBackupId m b)) = UpdatingBackupId ∷ []
actions_for (Some (NewMasterId m b)) = UpdatingMasterId ∷ []

abbrev pub is_among : Action → List Action → Bool
is_among a [] = false
is_among a (x ∷ xs) = cond (place_of a == place_of x) true (is_among a xs)

abbrev pub is_pending : Phase → Bool
is_pending Pending = true
is_pending Working = false
is_pending Done = false
is_pending GaveUp = false

abbrev pub is_done : Phase → Bool
is_done Pending = false
is_done Working = false
is_done Done = true
is_done GaveUp = false

-- The numbers that a message carries; 0 where there is none.
abbrev pub master_in : Option Message → ℕ
master_in None = 0
master_in (Some (MasterDo m)) = m.0
master_in (Some (MasterDone m b)) = m.0
master_in (Some (BackupDo m b)) = m.0
master_in (Some (BackupDone m b)) = m.0
master_in (Some (MasterGetNewBackup m b)) = m.0
master_in (Some (BackupGetNewMaster m b)) = m.0
master_in (Some (NewBackupId m b)) = m.0
master_in (Some (NewMasterId m b)) = m.0

abbrev pub backup_in : Option Message → ℕ
backup_in None = 0
backup_in (Some (MasterDo m)) = 0
backup_in (Some (MasterDone m b)) = b.0
backup_in (Some (BackupDo m b)) = b.0
backup_in (Some (BackupDone m b)) = b.0
backup_in (Some (MasterGetNewBackup m b)) = b.0
backup_in (Some (BackupGetNewMaster m b)) = b.0
backup_in (Some (NewBackupId m b)) = b.0
backup_in (Some (NewMasterId m b)) = b.0

-- The backup that a message names, if it names one.
abbrev pub backup_named : Message → Option BackupNumber
backup_named (MasterDo m) = None
backup_named (MasterDone m b) = Some b
backup_named (BackupDo m b) = Some b
backup_named (BackupDone m b) = Some b
backup_named (MasterGetNewBackup m b) = Some b
backup_named (BackupGetNewMaster m b) = Some b
backup_named (NewBackupId m b) = Some b
backup_named (NewMasterId m b) = Some b
