-- Whether the tables of a hub fit together and fit the hub.
use Rattle.std.specs.Prelude.{ℕ, Bool, true, false, ◌&&◌, List, length, Some, None, Option, ◌==◌, nat_le, nat_lt, unsigned_abs}
use Rattle.std.specs.List.{list_all}
use Rattle.hub_cards.specs.declared.BackupNumber.{BackupNumber}
use Rattle.hub_cards.specs.declared.Card.{Card}
use Rattle.hub_cards.specs.declared.MasterNumber.{MasterNumber}
use Rattle.hub_records.specs.declared.commands.Command.{Command}
use Rattle.hub_records.specs.declared.commands.Message.{Message}
use Rattle.hub_records.specs.declared.commands.Message.TheVariants.{MasterDo, MasterDone, BackupDo, BackupDone, MasterGetNewBackup, BackupGetNewMaster, NewBackupId, NewMasterId}
use Rattle.hub_records.specs.declared.commands.Phase.{Phase}
use Rattle.hub_records.specs.declared.commands.Phase.TheVariants.{Pending, Working, Done, GaveUp}

-- A count of 32 bits has room for one more.
abbrev pub has_room : ℕ → Bool
has_room count = nat_lt count 4294967295

-- A card's partner is one of `s` cards, or none; `number` is the plain number of a partner.
abbrev pub card_fits : {P : Type 0} → (P → ℕ) → ℕ → Card P → Bool
card_fits number s card = nat_le (number card.partner) s && has_room card.version

abbrev pub pair_fits : ℕ → MasterNumber → BackupNumber → Bool
pair_fits s m b = nat_le m.0 s && nat_le b.0 s

-- The numbers that a message carries are of `s` cards.
abbrev pub numbers_fit : ℕ → Message → Bool
numbers_fit s (MasterDo m) = nat_le m.0 s
numbers_fit s (MasterDone m b) = pair_fits s m b
numbers_fit s (BackupDo m b) = pair_fits s m b
numbers_fit s (BackupDone m b) = pair_fits s m b
numbers_fit s (MasterGetNewBackup m b) = pair_fits s m b
numbers_fit s (BackupGetNewMaster m b) = pair_fits s m b
numbers_fit s (NewBackupId m b) = pair_fits s m b
numbers_fit s (NewMasterId m b) = pair_fits s m b

abbrev pub is_working : Phase → Bool
is_working Pending = false
is_working Working = true
is_working Done = false
is_working GaveUp = false

-- Only a working command holds a message.
abbrev pub message_fits : ℕ → Phase → Option Message → Bool
message_fits s phase None = true
message_fits s phase (Some message) = is_working phase && numbers_fit s message

-- A command's move is at most ninety degrees either way.
abbrev pub command_fits : ℕ → Command → Bool
command_fits s command =
    nat_le (unsigned_abs command.hundredths) 9000
    && (pair_fits s command.own_master command.own_backup && message_fits s command.phase command.message)

-- There are `n` commands, and `s` cards and `s` registers of each role.
abbrev pub lengths_fit : (n s commands masters master_registers backups backup_registers : ℕ) → Bool
lengths_fit n s commands masters master_registers backups backup_registers =
    (commands == n) && (masters == s && (master_registers == s && (backups == s && backup_registers == s)))

-- The tables of a hub with `n` commands and `s` cards of each role fit together, after so many steps. Of the registers,
-- only the lengths of their tables matter.
abbrev pub fits : (n s : ℕ) → List Command → List (Card BackupNumber) → List (Card MasterNumber) → (steps master_registers backup_registers : ℕ) → Bool
fits n s commands masters backups steps master_registers backup_registers =
    lengths_fit n s (length commands) (length masters) master_registers (length backups) backup_registers
    && (has_room steps
    && (list_all (command_fits s) commands
    && (list_all (card_fits (λ b. b.0) s) masters && list_all (card_fits (λ m. m.0) s) backups)))
