-- What the steps do to the cards of both roles: one takes a move, is lost or is made.
use Rattle.std.proofs.Common.{◌≡◌, ℕ, ◌+◌, ◌<◌, ◌≤◌, List, refl, arith}
use Rattle.hub_records.specs.Commands.{the_backup, the_master}
use Rattle.hub_cards.specs.Tables.{at, put, blank_card}
use Rattle.hub_cards.specs.declared.BackupNumber.{BackupNumber}
use Rattle.hub_cards.specs.declared.Card.{Card}
use Rattle.hub_cards.specs.declared.MasterNumber.{MasterNumber}
use Rattle.hub_cards.specs.declared.Status.TheVariants.{Active, Lost}
use Rattle.hub_runs.specs.Hubs.{Size, has_status, has_partner, has_taken}
use Rattle.hub_runs.proofs.Rows.{Cards, made_backup, made_master, lost_master, lost_backup}
use Rattle.hub_runs.proofs.Roles.{role_loses, role_gains, role_repartnered, role_taken, role_facing}
use Rattle.hub_runs.proofs.Fine.{Carded}

module _ {size : Size} {a : Cards} {master : List (Card BackupNumber)} {backup : List (Card MasterNumber)} {losses : ℕ} (cd : Carded size a master backup losses) where
  -- The cards in the tables.
  abbrev a_master : ℕ → Card BackupNumber
  a_master m = at (blank_card (the_backup 0)) master m

  abbrev a_backup : ℕ → Card MasterNumber
  a_backup b = at (blank_card (the_master 0)) backup b

  pub master_taken : (m : ℕ) → Carded size a (put master m (has_taken (a_master m))) backup losses
  master_taken m = record { limit = cd.limit; few = cd.few; killed = cd.killed; masters = role_taken cd.masters m; backups = cd.backups }

  pub backup_taken : (b : ℕ) → Carded size a master (put backup b (has_taken (a_backup b))) losses
  backup_taken b = record { limit = cd.limit; few = cd.few; killed = cd.killed; masters = cd.masters; backups = role_taken cd.backups b }

  pub carded_master_lost : (m : ℕ) → a.ma ≡ 1 → m ≡ a.lm + 1 → losses < size.max_kill → Carded size (lost_master a) (put master m (has_status Lost (a_master m))) backup (losses + 1)
  carded_master_lost m active last room = record {
    limit = cd.limit;
    few = omega arith;
    killed = omega (arith, cd.killed);
    masters = role_loses cd.masters m _ active last;
    backups = role_facing cd.backups _ (λ _. omega arith);
  }

  pub carded_backup_lost : (b : ℕ) → a.ba ≡ 1 → b ≡ a.lb + 1 → losses < size.max_kill → Carded size (lost_backup a) master (put backup b (has_status Lost (a_backup b))) (losses + 1)
  carded_backup_lost b active last room = record {
    limit = cd.limit;
    few = omega arith;
    killed = omega (arith, cd.killed);
    masters = role_facing cd.masters _ (λ _. omega arith);
    backups = role_loses cd.backups b _ active last;
  }

  pub carded_backup_made : (m b version : ℕ) → a.ma ≡ 1 → m ≡ a.lm + 1 → a.ba ≡ 0 → b ≡ a.lb + 1 → b ≤ size.max_instance → Carded size (made_backup a) (put master m (has_partner (the_backup b) (a_master m))) (put backup b (record { status = Active; partner = the_master m; version = version })) losses
  carded_backup_made m b version active last none next room = record {
    limit = cd.limit;
    few = cd.few;
    killed = cd.killed;
    masters = role_repartnered cd.masters m _ (the_backup b) active last next;
    backups = role_gains cd.backups b _ _ refl none next room (omega arith);
  }

  pub carded_master_made : (b m version : ℕ) → a.ba ≡ 1 → b ≡ a.lb + 1 → a.ma ≡ 0 → m ≡ a.lm + 1 → m ≤ size.max_instance → Carded size (made_master a) (put master m (record { status = Active; partner = the_backup b; version = version })) (put backup b (has_partner (the_master m) (a_backup b))) losses
  carded_master_made b m version active last none next room = record {
    limit = cd.limit;
    few = cd.few;
    killed = cd.killed;
    masters = role_gains cd.masters m _ _ refl none next room (omega arith);
    backups = role_repartnered cd.backups b _ (the_master m) active last next;
  }
