-- Where a command can be, by numbers: what holds of it there, and how many steps it can still take.
use Rattle.std.proofs.Common.{◌≡◌, ℕ, ◌+◌, ◌-◌, ◌*◌, ◌≤◌, Some, None, Option, arith}
use Rattle.hub_records.specs.declared.commands.Message.{Message}
use Rattle.hub_records.specs.declared.commands.Message.TheVariants.{MasterDo, MasterDone, BackupDo, BackupDone, MasterGetNewBackup, BackupGetNewMaster, NewBackupId, NewMasterId}
use Rattle.hub_records.specs.declared.commands.Phase.{Phase}
use Rattle.hub_records.specs.declared.commands.Phase.TheVariants.{Pending, Working, Done, GaveUp}

-- The cards of a hub in numbers: how many masters and backups are lost, 1 or 0 by whether the next one is active,
-- and how many losses there may be. The last master is lm + ma, the last backup lb + ba.
pub record Cards : Type 0 where
  pub lm : ℕ
  pub ma : ℕ
  pub lb : ℕ
  pub ba : ℕ
  pub k : ℕ

pub record Sane (a : Cards) : Type 0 where
  pub one_master : a.ma ≤ 1
  pub one_backup : a.ba ≤ 1
  pub some_master : 1 ≤ a.lm + a.ma
  pub some_backup : 1 ≤ a.lb + a.ba
  pub losses : a.lm + a.lb ≤ a.k

-- Between the master's taking of a command and the backup's. om is the command's own master, m and b are in its message,
-- mc and bc say how often the lists of the last master and the last backup hold it.
pub record Between (a : Cards) (om m b mc bc : ℕ) : Type 0 where
  pub own : m ≡ om
  pub some : 1 ≤ b
  pub known : b ≤ a.lb + a.ba
  -- taken by its master, if that is the last one
  pub by_master : 1 ≤ mc + (a.lm + a.ma - m)
  -- and by the last backup, if its own backup was replaced since
  pub by_new_backup : 1 ≤ bc + (a.lm + a.ma - m) + (1 - (a.lb + a.ba - b))
  -- not yet by its backup, if that one is active; nor then by a master that was made from it
  pub not_by_backup : bc ≤ (a.lb + a.ba - b) + (1 - a.ba)
  pub not_by_new_master : mc ≤ (a.lb + a.ba - b) + (1 - a.ba) + (1 - (a.lm + a.ma - m))

abbrev pub Row : Cards → Phase → Option Message → (om ob mc bc : ℕ) → Type 0
Row a Pending None om ob mc bc = mc ≡ 0
Row a Pending (Some msg) om ob mc bc = ⊥
Row a Working None om ob mc bc = ⊥
Row a Working (Some (MasterDo m)) om ob mc bc = (m.0 ≡ om) × (mc ≡ 0)
Row a Working (Some (MasterDone m b)) om ob mc bc = Between a om m.0 b.0 mc bc
Row a Working (Some (BackupDo m b)) om ob mc bc = Between a om m.0 b.0 mc bc × (b.0 ≡ ob)
Row a Working (Some (BackupDone m b)) om ob mc bc = (1 ≤ mc) × (1 ≤ bc)
Row a Working (Some (MasterGetNewBackup m b)) om ob mc bc = Between a om m.0 b.0 mc bc × (b.0 ≡ ob) × (b.0 ≤ a.lb)
Row a Working (Some (BackupGetNewMaster m b)) om ob mc bc = (m.0 ≡ om) × (m.0 ≤ a.lm) × (mc ≡ 0) × (1 ≤ b.0) × (b.0 ≤ a.lb + a.ba) × (ob ≤ b.0)
Row a Working (Some (NewBackupId m b)) om ob mc bc = (1 ≤ mc) × (1 ≤ bc) × (b.0 ≤ a.lb + a.ba)
Row a Working (Some (NewMasterId m b)) om ob mc bc = (om + 1 ≤ m.0) × (m.0 ≤ a.lm + a.ma) × (mc ≡ 0)
Row a Done None om ob mc bc = (1 ≤ mc) × (1 ≤ bc)
Row a Done (Some msg) om ob mc bc = ⊥
Row a GaveUp None om ob mc bc = (om ≤ a.lm) × (ob ≤ a.lb)
Row a GaveUp (Some msg) om ob mc bc = ⊥

-- How many steps the command can still take at most, and bring about.
abbrev pub rounds : Cards → ℕ → ℕ
rounds a om = 5 * (a.k + 1 - a.lb - om)

abbrev pub weight : Cards → Phase → Option Message → ℕ → ℕ
weight a Pending msg om = rounds a om + 5 + (1 - a.ba)
weight a Working None om = 0
weight a Working (Some (MasterDo m)) om = rounds a om + 4 + (1 - a.ba)
weight a Working (Some (MasterDone m b)) om = rounds a om + 3 + (1 - (b.0 - a.lb))
weight a Working (Some (BackupDo m b)) om = rounds a om + 2 + (1 - (b.0 - a.lb))
weight a Working (Some (BackupDone m b)) om = 1
weight a Working (Some (MasterGetNewBackup m b)) om = 2
weight a Working (Some (BackupGetNewMaster m b)) om = rounds a om + 3 + (a.lb + 1 - b.0)
weight a Working (Some (NewBackupId m b)) om = 1
weight a Working (Some (NewMasterId m b)) om = rounds a om + 1 + (1 - a.ba)
weight a Done msg om = 0
weight a GaveUp msg om = 0

-- What holds of every command, wherever it is.
pub record Known (a : Cards) (om ob mc bc : ℕ) : Type 0 where
  pub some_own : 1 ≤ om
  pub own_master : om ≤ a.lm + a.ma
  pub own_backup : ob ≤ a.lb + a.ba
  pub once : mc ≤ 1
  pub contained : bc ≤ mc

-- The ways in which the cards change: a backup or a master is made, a master or a backup is lost.
abbrev pub made_backup : Cards → Cards
made_backup a = record a { ba = 1 }

abbrev pub made_master : Cards → Cards
made_master a = record a { ma = 1 }

abbrev pub lost_master : Cards → Cards
lost_master a = record a { lm = a.lm + 1; ma = 0 }

abbrev pub lost_backup : Cards → Cards
lost_backup a = record a { lb = a.lb + 1; ba = 0 }

-- What these ways have in common: no card comes back, and no last card is taken away. No more are lost than may be.
pub record Changed (a a' : Cards) : Type 0 where
  pub sane : Sane a'
  pub limit : a'.k ≡ a.k
  pub masters_lost : a.lm ≤ a'.lm
  pub backups_lost : a.lb ≤ a'.lb
  pub last_master : a.lm + a.ma ≤ a'.lm + a'.ma
  pub last_backup : a.lb + a.ba ≤ a'.lb + a'.ba
  pub room : a'.lb + (a.lm + a.ma) ≤ a.k + 1

-- How often the lists of the last master and the last backup hold a command before and after such a change: a new card
-- has the other role's list, and each other card its own.
pub record Copied (a a' : Cards) (mc bc mc' bc' : ℕ) : Type 0 where
  pub fewer : mc' ≤ mc
  pub contained : bc' ≤ mc'
  pub kept : bc ≤ bc'
  pub old_master : mc + (a.lm + a.ma) ≤ mc' + (a'.lm + a'.ma)
  pub new_master : mc' + (a'.lm + a'.ma) ≤ bc + (a.lm + a.ma) + 1
  pub old_backup : bc' + (a.lb + a.ba) ≤ bc + (a'.lb + a'.ba)
  pub new_backup : mc + (a'.lb + a'.ba) ≤ bc' + (a.lb + a.ba) + 1

-- A command that the step is not about: where it is, it stays within its row, and its weight does not rise.
module _ (a a' : Cards) (sane : Sane a) (changed : Changed a a') (om ob mc bc mc' bc' : ℕ) (known : Known a om ob mc bc) (copied : Copied a a' mc bc mc' bc') where
  between_stays : (m b : ℕ) → Between a om m b mc bc → Between a' om m b mc' bc'
  between_stays m b r = search arith

  pub stays : (phase : Phase) (msg : Option Message) → Row a phase msg om ob mc bc → Row a' phase msg om ob mc' bc' × (weight a' phase msg om ≤ weight a phase msg om)
  stays Working (Some (MasterDone m b)) r = (between_stays m.0 b.0 r, omega arith)
  stays Working (Some (BackupDo m b)) r = ((between_stays m.0 b.0 r.0, r.1), omega arith)
  stays Working (Some (MasterGetNewBackup m b)) r = ((between_stays m.0 b.0 r.0, r.1, omega arith), omega arith)
  stays _ _ r = search arith

  pub known_stays : Known a' om ob mc' bc'
  known_stays = search arith

-- Each of the four is such a change.
module _ (a : Cards) (sane : Sane a) where
  pub backup_is_made : a.ba ≡ 0 → Changed a (made_backup a)
  backup_is_made none = search arith

  pub master_is_made : a.ma ≡ 0 → Changed a (made_master a)
  master_is_made none = search arith

  pub master_is_lost : a.ma ≡ 1 → a.lm + a.lb + 1 ≤ a.k → Changed a (lost_master a)
  master_is_lost active rated = search arith

  pub backup_is_lost : a.ba ≡ 1 → a.lm + a.lb + 1 ≤ a.k → Changed a (lost_backup a)
  backup_is_lost active rated = search arith

-- And so the lists are copied.
module _ (a : Cards) (om ob mc bc : ℕ) (known : Known a om ob mc bc) where
  pub copied_by_master : a.ba ≡ 0 → Copied a (made_backup a) mc bc mc mc
  copied_by_master none = search arith

  pub copied_by_backup : a.ma ≡ 0 → Copied a (made_master a) mc bc bc bc
  copied_by_backup none = search arith

  pub not_copied : (a' : Cards) → a'.lm + a'.ma ≡ a.lm + a.ma → a'.lb + a'.ba ≡ a.lb + a.ba → Copied a a' mc bc mc bc
  not_copied a' master backup = search arith
