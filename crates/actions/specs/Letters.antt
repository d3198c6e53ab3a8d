-- The letters under which the actions are known: 'A' for the first of the list to 'R' for the last.
use Rattle.std.specs.Prelude.{ℕ, ◌+◌, ◌-◌, Bool, cond, List, [], ◌∷◌, None, Option, nat_le, nat_lt}
use Rattle.std.specs.List.{slice_get}
use Rattle.actions.specs.declared.Action.{Action}
use Rattle.actions.specs.declared.Action.TheVariants.{Starting, MasterDoing, HandlingMasterDone, BackupDoing, DetectingOldMasterId, HandlingBackupDone, HandlingMasterDoFailed, HandlingBackupDoFailed, GettingNewBackup, GettingNewMaster, HandlingBackupGetNewMasterFailed, HandlingMasterGetNewBackupFailed, UpdatingBackupId, UpdatingMasterId, CreatingNewBackup, CreatingNewMaster, KillingMaster, KillingBackup}

abbrev pub in_letter_order : List Action
in_letter_order = Starting ∷ MasterDoing ∷ HandlingMasterDone ∷ BackupDoing ∷ DetectingOldMasterId ∷ HandlingBackupDone ∷ HandlingMasterDoFailed ∷ HandlingBackupDoFailed ∷ GettingNewBackup ∷ GettingNewMaster ∷ HandlingBackupGetNewMasterFailed ∷ HandlingMasterGetNewBackupFailed ∷ UpdatingBackupId ∷ UpdatingMasterId ∷ CreatingNewBackup ∷ CreatingNewMaster ∷ KillingMaster ∷ KillingBackup ∷ []

-- The action of a letter, given by the letter's code; 65 is 'A'.
abbrev pub action_of : ℕ → Option Action
action_of letter = cond (nat_le 65 letter) (slice_get in_letter_order (letter - 65)) None

-- The place of an action in that list, from 0.
abbrev pub place_of : Action → ℕ
place_of Starting = 0
place_of MasterDoing = 1
place_of HandlingMasterDone = 2
place_of BackupDoing = 3
place_of DetectingOldMasterId = 4
place_of HandlingBackupDone = 5
place_of HandlingMasterDoFailed = 6
place_of HandlingBackupDoFailed = 7
place_of GettingNewBackup = 8
place_of GettingNewMaster = 9
place_of HandlingBackupGetNewMasterFailed = 10
place_of HandlingMasterGetNewBackupFailed = 11
place_of UpdatingBackupId = 12
place_of UpdatingMasterId = 13
place_of CreatingNewBackup = 14
place_of CreatingNewMaster = 15
place_of KillingMaster = 16
place_of KillingBackup = 17

-- The letter of an action, as its code.
abbrev pub letter_of : Action → ℕ
letter_of a = 65 + place_of a

-- 'A' to 'N' are steps of one command; 'O' to 'R' concern the cards alone.
abbrev pub is_of_command : Action → Bool
is_of_command a = nat_lt (place_of a) 14

-- 'Q' and 'R' are the losses of a card.
abbrev pub is_loss : Action → Bool
is_loss a = nat_le 16 (place_of a)
