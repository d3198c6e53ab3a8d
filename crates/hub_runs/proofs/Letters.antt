-- The command that a step is about: each letter leads from the row of its message to the row of the next,
-- and its weight falls.
use Rattle.std.proofs.Common.{◌≡◌, ℕ, ◌+◌, ◌≤◌, Some, None, Option, arith}
use Rattle.hub_records.specs.Commands.{the_backup, the_master}
use Rattle.hub_records.specs.declared.commands.Message.{Message}
use Rattle.hub_records.specs.declared.commands.Message.TheVariants.{MasterDo, MasterDone, BackupDo, BackupDone, MasterGetNewBackup, BackupGetNewMaster, NewBackupId, NewMasterId}
use Rattle.hub_records.specs.declared.commands.Phase.{Phase}
use Rattle.hub_records.specs.declared.commands.Phase.TheVariants.{Pending, Working, Done, GaveUp}
use Rattle.hub_runs.proofs.Rows.{Cards, Sane, Row, Known, weight}

-- Where the command comes to, with what it then knows and how often the last lists then hold it.
pub record Comes (a : Cards) (phase : Phase) (msg : Option Message) (om ob mc bc : ℕ) (before : ℕ) : Type 0 where
  pub row : Row a phase msg om ob mc bc
  pub known : Known a om ob mc bc
  pub lighter : weight a phase msg om + 1 ≤ before

module _ {a : Cards} (sane : Sane a) {om ob mc bc : ℕ} (known : Known a om ob mc bc) where
  pub starts : Row a Pending None om ob mc bc → Comes a Working (Some (MasterDo (the_master om))) om ob mc bc (weight a Pending None om)
  starts r = search arith

  pub master_does : (m : ℕ) → (p : ℕ) → a.ma ≡ 1 → m ≡ a.lm + 1 → p ≡ a.lb + a.ba → Row a Working (Some (MasterDo (the_master m))) om ob mc bc → Comes a Working (Some (MasterDone (the_master m) (the_backup p))) om ob (mc + 1) bc (weight a Working (Some (MasterDo (the_master m))) om)
  master_does m p active last partner r = search arith

  pub hands_on : (m b : ℕ) → Row a Working (Some (MasterDone (the_master m) (the_backup b))) om ob mc bc → Comes a Working (Some (BackupDo (the_master m) (the_backup b))) om b mc bc (weight a Working (Some (MasterDone (the_master m) (the_backup b))) om)
  hands_on m b r = search arith

  -- The backup is active, and its partner, the last master, is the message's: it has not taken the command yet.
  pub not_taken_yet : (m b : ℕ) → a.ba ≡ 1 → b ≡ a.lb + 1 → m ≡ a.lm + a.ma → Row a Working (Some (BackupDo (the_master m) (the_backup b))) om ob mc bc → (bc ≡ 0) × (1 ≤ mc)
  not_taken_yet m b active last partner r = search arith

  pub backup_does : (m b : ℕ) → a.ba ≡ 1 → b ≡ a.lb + 1 → m ≡ a.lm + a.ma → Row a Working (Some (BackupDo (the_master m) (the_backup b))) om ob mc bc → Comes a Working (Some (BackupDone (the_master m) (the_backup b))) om ob mc (bc + 1) (weight a Working (Some (BackupDo (the_master m) (the_backup b))) om)
  backup_does m b active last partner r = search arith

  pub detects : (m b p : ℕ) → a.ba ≡ 1 → b ≡ a.lb + 1 → p ≡ a.lm + a.ma → (p ≡ m → ⊥) → Row a Working (Some (BackupDo (the_master m) (the_backup b))) om ob mc bc → Comes a Working (Some (NewMasterId (the_master p) (the_backup b))) om ob mc bc (weight a Working (Some (BackupDo (the_master m) (the_backup b))) om)
  detects m b p active last partner other r = search arith

  pub finishes : (m b : ℕ) → Row a Working (Some (BackupDone (the_master m) (the_backup b))) om ob mc bc → Comes a Done None om ob mc bc (weight a Working (Some (BackupDone (the_master m) (the_backup b))) om)
  finishes m b r = search arith

  pub asks_backup : (m d : ℕ) → m ≤ a.lm → a.ba ≡ 1 → d ≡ a.lb + 1 → Row a Working (Some (MasterDo (the_master m))) om ob mc bc → Comes a Working (Some (BackupGetNewMaster (the_master om) (the_backup d))) om ob mc bc (weight a Working (Some (MasterDo (the_master m))) om)
  asks_backup m d lost active last r = search arith

  pub gives_up_at_master : (m : ℕ) → m ≤ a.lm → a.ba ≡ 0 → Row a Working (Some (MasterDo (the_master m))) om ob mc bc → Comes a GaveUp None om ob mc bc (weight a Working (Some (MasterDo (the_master m))) om)
  gives_up_at_master m lost none r = search arith

  pub asks_master : (m b : ℕ) → b ≤ a.lb → Row a Working (Some (BackupDo (the_master m) (the_backup b))) om ob mc bc → Comes a Working (Some (MasterGetNewBackup (the_master om) (the_backup ob))) om ob mc bc (weight a Working (Some (BackupDo (the_master m) (the_backup b))) om)
  asks_master m b lost r = search arith

  pub gets_backup : (m b p : ℕ) → a.ma ≡ 1 → m ≡ a.lm + 1 → p ≡ a.lb + a.ba → (p ≡ b → ⊥) → Row a Working (Some (MasterGetNewBackup (the_master m) (the_backup b))) om ob mc bc → Comes a Working (Some (NewBackupId (the_master m) (the_backup p))) om ob mc bc (weight a Working (Some (MasterGetNewBackup (the_master m) (the_backup b))) om)
  gets_backup m b p active last partner other r = search arith

  pub gets_master : (m b p : ℕ) → a.ba ≡ 1 → b ≡ a.lb + 1 → p ≡ a.lm + a.ma → (p ≡ m → ⊥) → Row a Working (Some (BackupGetNewMaster (the_master m) (the_backup b))) om ob mc bc → Comes a Working (Some (NewMasterId (the_master p) (the_backup b))) om ob mc bc (weight a Working (Some (BackupGetNewMaster (the_master m) (the_backup b))) om)
  gets_master m b p active last partner other r = search arith

  pub finds_master : (m b d : ℕ) → b ≤ a.lb → a.ma ≡ 1 → d ≡ a.lm + 1 → Row a Working (Some (BackupGetNewMaster (the_master m) (the_backup b))) om ob mc bc → Comes a Pending None d ob mc bc (weight a Working (Some (BackupGetNewMaster (the_master m) (the_backup b))) om)
  finds_master m b d lost active last r = search arith

  pub gives_up_at_backup : (m b : ℕ) → b ≤ a.lb → Row a Working (Some (BackupGetNewMaster (the_master m) (the_backup b))) om ob mc bc → Comes a GaveUp None om ob mc bc (weight a Working (Some (BackupGetNewMaster (the_master m) (the_backup b))) om)
  gives_up_at_backup m b lost r = search arith

  pub gives_up_between : (m b : ℕ) → m ≤ a.lm → Row a Working (Some (MasterGetNewBackup (the_master m) (the_backup b))) om ob mc bc → Comes a GaveUp None om ob mc bc (weight a Working (Some (MasterGetNewBackup (the_master m) (the_backup b))) om)
  gives_up_between m b lost r = search arith

  pub learns_backup : (m b : ℕ) → Row a Working (Some (NewBackupId (the_master m) (the_backup b))) om ob mc bc → Comes a Done None om b mc bc (weight a Working (Some (NewBackupId (the_master m) (the_backup b))) om)
  learns_backup m b r = search arith

  pub learns_master : (m b : ℕ) → Row a Working (Some (NewMasterId (the_master m) (the_backup b))) om ob mc bc → Comes a Pending None m ob mc bc (weight a Working (Some (NewMasterId (the_master m) (the_backup b))) om)
  learns_master m b r = search arith
