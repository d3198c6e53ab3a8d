-- Each action of the cards alone leaves the hub fine.
use Rattle.std.proofs.Common.{◌≡◌, ℕ, ◌+◌, ◌≤◌, List, [], length, Some, Option, refl, ap, arith}
use Rattle.registers.specs.Kind.{Rule}
use Rattle.actions.specs.declared.Action.TheVariants.{CreatingNewBackup, CreatingNewMaster}
use Rattle.hub_tables.specs.Search.{active_card, last_lost}
use Rattle.hub_cards.specs.Tables.{at, put}
use Rattle.hub_runs.specs.Hubs.{Size, State}
use Rattle.hub_runs.specs.Module.{M_CreatingNewBackup, B_CreatingNewMaster, E_KillingMaster, E_KillingBackup}
use Rattle.hub_runs.specs.Runs.{Lists, number, lists_after}
use Rattle.hub_runs.proofs.Rows.{Cards, made_backup, made_master, lost_master, lost_backup, backup_is_made, master_is_made, master_is_lost, backup_is_lost, copied_by_master, copied_by_backup, not_copied}
use Rattle.hub_runs.proofs.Roles.{found_active, none_active, found_lost}
use Rattle.hub_runs.proofs.Places.{at_put_same}
use Rattle.hub_runs.proofs.Tidy.{tidy_put}
use Rattle.hub_runs.proofs.Moving.{moves_cards}
use Rattle.hub_runs.proofs.Changing.{carded_master_lost, carded_backup_lost, carded_backup_made, carded_master_made}
use Rattle.hub_runs.proofs.Fine.{Fine, sane}

-- The list of a new card is its maker's.
new_list : (lists other : List (List ℕ)) (lost_card maker_card : Option ℕ) (lost maker place last : ℕ) → lost_card ≡ Some lost → maker_card ≡ Some maker → lost + 1 ≡ place → maker ≡ last → place ≤ length lists → at [] (put lists (number lost_card + 1) (at [] other (number maker_card))) place ≡ at [] other last
new_list lists other lost_card maker_card lost maker place last seen found next same fits =
    rw (seen, found, next, same) (at_put_same [] (at [] other last) lists place (omega arith) fits)

module _ (size : Size) (rule : Rule) (s : State) (l : Lists) (fine : Fine size s l) (c : ℕ) (s' : State) where
  abbrev a : Cards
  a = fine.a

  pub keeps_killing_master : E_KillingMaster size rule c s s' → Fine size s' l
  keeps_killing_master (n, runs, room, found, e) =
      let active = found_active fine.cards.masters n found in
      let rated : a.lm + a.lb + 1 ≤ a.k = omega (arith, fine.cards.killed, fine.cards.limit) in
      let last : a.lm + 1 + 0 ≡ a.lm + a.ma = omega arith in
      rw e (moves_cards fine _ l (lost_master a) refl refl refl (carded_master_lost fine.cards n active.0 active.1 room) fine.lists
      (master_is_lost a (sane fine) active.0 rated)
      (λ d om ob known. rw last (not_copied a om ob _ _ known (lost_master a) last refl))
      (omega arith))

  pub keeps_killing_backup : E_KillingBackup size rule c s s' → Fine size s' l
  keeps_killing_backup (n, runs, room, found, e) =
      let active = found_active fine.cards.backups n found in
      let rated : a.lm + a.lb + 1 ≤ a.k = omega (arith, fine.cards.killed, fine.cards.limit) in
      let last : a.lb + 1 + 0 ≡ a.lb + a.ba = omega arith in
      rw e (moves_cards fine _ l (lost_backup a) refl refl refl (carded_backup_lost fine.cards n active.0 active.1 room) fine.lists
      (backup_is_lost a (sane fine) active.0 rated)
      (λ d om ob known. rw last (not_copied a om ob _ _ known (lost_backup a) refl last))
      (omega arith))

  pub keeps_creating_backup : M_CreatingNewBackup size rule c s s' → Fine size s' (lists_after CreatingNewBackup c s l)
  unfolding lists_after
  keeps_creating_backup (maker, lost, runs, found, none, seen, room, e) =
      let active = found_active fine.cards.masters maker found in
      let free = none_active fine.cards.backups none in
      let next : lost + 1 ≡ a.lb + 1 = ap (λ n. n + 1) (found_lost fine.cards.backups lost seen) in
      let made : at [] (put l.of_backup (number (last_lost s.backup) + 1) (at [] l.of_master (number (active_card s.master)))) (a.lb + 1) ≡ at [] l.of_master (a.lm + a.ma) =
      new_list l.of_backup l.of_master (last_lost s.backup) (active_card s.master) lost maker (a.lb + 1) (a.lm + a.ma) seen found next (omega arith) (omega (arith, fine.lists.backups.long)) in
      rw e (moves_cards fine _ _ (made_backup a) refl refl refl (carded_backup_made fine.cards maker (lost + 1) _ active.0 active.1 free next room)
      (record { masters = fine.lists.masters; backups = tidy_put fine.lists.backups _ _ (fine.lists.masters.each (number (active_card s.master))) })
      (backup_is_made a (sane fine) free)
      (λ d om ob known. rw made (copied_by_master a om ob _ _ known free))
      (omega arith))

  pub keeps_creating_master : B_CreatingNewMaster size rule c s s' → Fine size s' (lists_after CreatingNewMaster c s l)
  unfolding lists_after
  keeps_creating_master (maker, lost, runs, none, found, seen, room, e) =
      let active = found_active fine.cards.backups maker found in
      let free = none_active fine.cards.masters none in
      let next : lost + 1 ≡ a.lm + 1 = ap (λ n. n + 1) (found_lost fine.cards.masters lost seen) in
      let made : at [] (put l.of_master (number (last_lost s.master) + 1) (at [] l.of_backup (number (active_card s.backup)))) (a.lm + 1) ≡ at [] l.of_backup (a.lb + a.ba) =
      new_list l.of_master l.of_backup (last_lost s.master) (active_card s.backup) lost maker (a.lm + 1) (a.lb + a.ba) seen found next (omega arith) (omega (arith, fine.lists.masters.long)) in
      rw e (moves_cards fine _ _ (made_master a) refl refl refl (carded_master_made fine.cards maker (lost + 1) _ active.0 active.1 free next room)
      (record { masters = tidy_put fine.lists.masters _ _ (fine.lists.backups.each (number (active_card s.backup))); backups = fine.lists.backups })
      (master_is_made a (sane fine) free)
      (λ d om ob known. rw made (copied_by_backup a om ob _ _ known free))
      (omega arith))
