-- The tables that a caller lends to a hub: the lists that its slices hold, and which slices they are.
use Rattle.std.specs.Prelude.{◌≡◌, List, length}
use Rattle.hub_cards.specs.declared.BackupNumber.{BackupNumber}
use Rattle.hub_cards.specs.declared.Card.{Card}
use Rattle.hub_cards.specs.declared.MasterNumber.{MasterNumber}
use Rattle.hub_records.specs.declared.commands.Command.{Command}
use Rattle.hub_tables.specs.declared.tables.Tables.{Tables}
use Rattle.hub_tables.specs.declared.tables.View.{View}

-- The tables that the caller lends; `R` is the type of the registers.
pub record Lent (R : Type 0) : Type 0 where
  pub of_commands : List Command
  pub of_masters : List (Card BackupNumber)
  pub of_master_registers : List R
  pub of_backups : List (Card MasterNumber)
  pub of_backup_registers : List R

abbrev pub lent : {R : Type 0} → List Command → List (Card BackupNumber) → List R → List (Card MasterNumber) → List R → Lent R
lent cs ms mrs bs brs = record { of_commands = cs; of_masters = ms; of_master_registers = mrs; of_backups = bs; of_backup_registers = brs }

-- The lists that the slices of the tables hold.
abbrev pub held : {R : Type 0} → Tables R → Lent R
held t = lent t.commands.now t.masters.now t.master_registers.now t.backups.now t.backup_registers.now

-- The same of a view of the tables.
abbrev pub viewed : {R : Type 0} → View R → Lent R
viewed v = lent v.commands.now v.masters.now v.master_registers.now v.backups.now v.backup_registers.now

-- The slices are the same ones, and each has as many places as before, whatever they hold.
pub record SameSlices {R : Type 0} (before after : Tables R) : Type 0 where
  pub commands : after.commands.ghost_name ≡ before.commands.ghost_name
  pub masters : after.masters.ghost_name ≡ before.masters.ghost_name
  pub master_registers : after.master_registers.ghost_name ≡ before.master_registers.ghost_name
  pub backups : after.backups.ghost_name ≡ before.backups.ghost_name
  pub backup_registers : after.backup_registers.ghost_name ≡ before.backup_registers.ghost_name
  pub commands_length : length after.commands.now ≡ length before.commands.now
  pub masters_length : length after.masters.now ≡ length before.masters.now
  pub master_registers_length : length after.master_registers.now ≡ length before.master_registers.now
  pub backups_length : length after.backups.now ≡ length before.backups.now
  pub backup_registers_length : length after.backup_registers.now ≡ length before.backup_registers.now
