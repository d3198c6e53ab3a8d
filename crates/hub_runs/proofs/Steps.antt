-- Each action of a command leaves the hub fine.
use Rattle.std.proofs.Common.{◌≡◌, ℕ, ◌+◌, ◌≤◌, false, ◌≢◌, [], length, Some, None, sym, refl, ap, ◌∙◌, inl, inr, arith}
use Rattle.registers.specs.Kind.{Rule}
use Rattle.hub_records.specs.Commands.{is_done, rests, the_backup, waits}
use Rattle.hub_cards.specs.Tables.{at, put}
use Rattle.hub_records.specs.declared.commands.Command.{Command}
use Rattle.hub_records.specs.declared.commands.Message.{Message}
use Rattle.hub_records.specs.declared.commands.Message.TheVariants.{MasterDo, MasterDone, BackupDo, BackupDone, MasterGetNewBackup, BackupGetNewMaster, NewBackupId, NewMasterId}
use Rattle.hub_records.specs.declared.commands.Phase.TheVariants.{Pending, Working, GaveUp}
use Rattle.hub_records.specs.declared.hub.ExecState.{ExecState}
use Rattle.hub_records.specs.declared.hub.ExecState.TheVariants.{Running, Fatal}
use Rattle.hub_runs.specs.Hubs.{Size, State, client, backup_of, with_client, with_exec, completed, given_up, master_takes, backup_takes}
use Rattle.hub_runs.specs.Module.{Heard, C_Starting, M_Doing, C_HandlingMasterDone, B_Doing, B_DetectingOldMasterId, C_HandlingBackupDone, C_HandlingMasterDoFailed, C_HandlingBackupDoFailed, M_GettingNewBackup, B_GettingNewMaster, C_HandlingBackupGetNewMasterFailed, C_HandlingMasterGetNewBackupFailed, C_UpdatingBackupId, C_UpdatingMasterId}
use Rattle.hub_runs.specs.Promises.{times}
use Rattle.hub_runs.specs.Runs.{Lists, appended}
use Rattle.hub_runs.proofs.Rows.{Cards, Row, weight}
use Rattle.hub_runs.proofs.Letters.{Comes, starts, master_does, hands_on, not_taken_yet, backup_does, detects, finishes, asks_backup, gives_up_at_master, asks_master, gets_backup, gets_master, finds_master, gives_up_at_backup, gives_up_between, learns_backup, learns_master}
use Rattle.hub_runs.proofs.Clients.{RowAt, in_master, in_backup, weight_of, row_working, row_resting}
use Rattle.hub_runs.proofs.Roles.{is_last, pairs, is_gone, found_active, none_active, role_fits}
use Rattle.hub_runs.proofs.Times.{times_one, times_none}
use Rattle.hub_runs.proofs.Changing.{master_taken, backup_taken}
use Rattle.hub_runs.proofs.Taking.{list_grows}
use Rattle.hub_runs.proofs.Tidy.{tidy_appended}
use Rattle.hub_runs.proofs.Moving.{moves_command}
use Rattle.hub_runs.proofs.Fine.{Exec, Fine, sane, goes_on, is_finished, is_fatal}

module _ (size : Size) (rule : Rule) (s : State) (l : Lists) (fine : Fine size s l) (c : ℕ) (low : 1 ≤ c) (high : c ≤ size.client_num) (s' : State) where
  abbrev a : Cards
  a = fine.a

  abbrev x : Command
  x = client s c

  abbrev om : ℕ
  om = x.own_master.0

  abbrev ob : ℕ
  ob = x.own_backup.0

  abbrev mc : ℕ
  mc = in_master a l c

  abbrev bc : ℕ
  bc = in_backup a l c

  inside : c ≤ length s.clients
  inside = omega (arith, fine.commands)

  here : RowAt a mc bc x
  here = fine.rows c low inside

  -- A step that changes the client alone.
  changes_client : (y : Command) (e : ExecState) → Comes a y.phase y.message y.own_master.0 y.own_backup.0 mc bc (weight_of a x) → Exec e (put s.clients c y) → Fine size (with_exec e (with_client c y s)) l
  changes_client y e comes exec =
      moves_command fine c low high (with_exec e (with_client c y s)) l y mc bc refl refl fine.cards fine.lists (λ d apart. (refl, refl)) refl refl comes exec

  -- The client holds this message. Its row and its weight are the message's, and it comes from there to y and goes on,
  -- is done, or gives up, and the hub with it.
  module _ (runs : s.exec_state ≡ Running) (held : Message) (hears : Heard s c held) where
    from_row : (y : Command) (mc' bc' : ℕ) → (Row a Working (Some held) om ob mc bc → Comes a y.phase y.message y.own_master.0 y.own_backup.0 mc' bc' (weight a Working (Some held) om)) → Comes a y.phase y.message y.own_master.0 y.own_backup.0 mc' bc' (weight_of a x)
    from_row y mc' bc' comes = let row = row_working a x.phase x.message held _ _ _ _ hears here.row in rw row.1 (comes row.0)

    moves_on : (y : Command) → is_done y.phase ≡ false → y.phase ≢ GaveUp → (Row a Working (Some held) om ob mc bc → Comes a y.phase y.message y.own_master.0 y.own_backup.0 mc bc (weight a Working (Some held) om)) → Fine size (with_client c y s) l
    moves_on y waiting calm comes = changes_client y s.exec_state (from_row y mc bc comes) (goes_on s.exec_state s.clients fine.exec runs c y low inside waiting calm)

    finishes_as : (y : Command) → y.phase ≢ GaveUp → (Row a Working (Some held) om ob mc bc → Comes a y.phase y.message y.own_master.0 y.own_backup.0 mc bc (weight a Working (Some held) om)) → Fine size (completed c y s) l
    finishes_as y calm comes = changes_client y _ (from_row y mc bc comes) (is_finished s.exec_state s.clients fine.exec runs c y low inside calm)

    gives_up : (Row a Working (Some held) om ob mc bc → Comes a GaveUp None om ob mc bc (weight a Working (Some held) om)) → Fine size (given_up c s) l
    gives_up comes = changes_client (rests GaveUp x) Fatal (from_row (rests GaveUp x) mc bc comes) (is_fatal s.exec_state s.clients fine.exec runs c (rests GaveUp x) low inside refl)

  pub keeps_starting : C_Starting size rule c s s' → Fine size s' l
  keeps_starting (runs, pending, e) =
      let y : Command = waits (MasterDo x.own_master) x in
      let row = row_resting a x.phase x.message Pending _ _ _ _ pending (λ h. cc) here.row in
      rw e (changes_client y s.exec_state (rw row.1 (starts (sane fine) here.known row.0)) (goes_on s.exec_state s.clients fine.exec runs c y low inside refl (λ h. cc)))

  pub keeps_handing_on : C_HandlingMasterDone size rule c s s' → Fine size s' l
  keeps_handing_on (m, b, runs, h, e) = rw e (moves_on runs (MasterDone m b) h _ refl (λ q. cc) (hands_on (sane fine) here.known m.0 b.0))

  pub keeps_finishing : C_HandlingBackupDone size rule c s s' → Fine size s' l
  keeps_finishing (m, b, runs, h, e) = rw e (finishes_as runs (BackupDone m b) h _ (λ q. cc) (finishes (sane fine) here.known m.0 b.0))

  pub keeps_learning_backup : C_UpdatingBackupId size rule c s s' → Fine size s' l
  keeps_learning_backup (m, b, runs, h, e) = rw e (finishes_as runs (NewBackupId m b) h _ (λ q. cc) (learns_backup (sane fine) here.known m.0 b.0))

  pub keeps_learning_master : C_UpdatingMasterId size rule c s s' → Fine size s' l
  keeps_learning_master (m, b, runs, h, e) = rw e (moves_on runs (NewMasterId m b) h _ refl (λ q. cc) (learns_master (sane fine) here.known m.0 b.0))

  pub keeps_detecting : B_DetectingOldMasterId size rule c s s' → Fine size s' l
  keeps_detecting (m, b, runs, h, stands, other, e) =
      let active = is_last fine.cards.backups b.0 stands in
      rw e (moves_on runs (BackupDo m b) h _ refl (λ q. cc) (detects (sane fine) here.known m.0 b.0 _ active.0 active.1 (pairs fine.cards.backups b.0 stands) (λ q. other (sym q))))

  pub keeps_asking_master : C_HandlingBackupDoFailed size rule c s s' → Fine size s' l
  keeps_asking_master (m, b, runs, h, lost, e) =
      rw e (moves_on runs (BackupDo m b) h _ refl (λ q. cc) (asks_master (sane fine) here.known m.0 b.0 (is_gone fine.cards.backups b.0 lost).1))

  pub keeps_getting_backup : M_GettingNewBackup size rule c s s' → Fine size s' l
  keeps_getting_backup (m, b, runs, h, stands, other, e) =
      let active = is_last fine.cards.masters m.0 stands in
      rw e (moves_on runs (MasterGetNewBackup m b) h _ refl (λ q. cc) (gets_backup (sane fine) here.known m.0 b.0 _ active.0 active.1 (pairs fine.cards.masters m.0 stands) (λ q. other (sym q))))

  pub keeps_getting_master : B_GettingNewMaster size rule c s s' → Fine size s' l
  keeps_getting_master (m, b, runs, h, stands, other, e) =
      let active = is_last fine.cards.backups b.0 stands in
      rw e (moves_on runs (BackupGetNewMaster m b) h _ refl (λ q. cc) (gets_master (sane fine) here.known m.0 b.0 _ active.0 active.1 (pairs fine.cards.backups b.0 stands) (λ q. other (sym q))))

  pub keeps_asking_backup : C_HandlingMasterDoFailed size rule c s s' → Fine size s' l
  keeps_asking_backup (m, runs, h, lost, ways) =
      let gone = (is_gone fine.cards.masters m.0 lost).1 in
      elim ways [
        | inl none ↦ rw none.1 (gives_up runs (MasterDo m) h (gives_up_at_master (sane fine) here.known m.0 gone (none_active fine.cards.backups none.0)))
        | inr found ↦
            let active = found_active fine.cards.backups found.0 found.1 in
            rw found.2 (moves_on runs (MasterDo m) h _ refl (λ q. cc) (asks_backup (sane fine) here.known m.0 found.0 gone active.0 active.1))
      ]

  pub keeps_finding_master : C_HandlingBackupGetNewMasterFailed size rule c s s' → Fine size s' l
  keeps_finding_master (m, b, runs, h, lost, ways) =
      let gone = (is_gone fine.cards.backups b.0 lost).1 in
      elim ways [
        | inl none ↦ rw none.1 (gives_up runs (BackupGetNewMaster m b) h (gives_up_at_backup (sane fine) here.known m.0 b.0 gone))
        | inr found ↦
            let active = found_active fine.cards.masters found.0 found.1 in
            rw found.3 (moves_on runs (BackupGetNewMaster m b) h _ refl (λ q. cc) (finds_master (sane fine) here.known m.0 b.0 found.0 gone active.0 active.1))
      ]

  pub keeps_giving_up : C_HandlingMasterGetNewBackupFailed size rule c s s' → Fine size s' l
  keeps_giving_up (m, b, runs, h, lost, e) =
      rw e (gives_up runs (MasterGetNewBackup m b) h (gives_up_between (sane fine) here.known m.0 b.0 (is_gone fine.cards.masters m.0 lost).1))

  -- The active card of a role takes the command, which its list did not hold.
  pub keeps_master_doing : (next : M_Doing size rule c s s') → Fine size s' (record { of_master = appended l.of_master next.0.0 c; of_backup = l.of_backup })
  keeps_master_doing (m, runs, h, stands, e) =
      let y : Command = waits (MasterDone m (the_backup (backup_of s m.0))) x in
      let row = row_working a x.phase x.message (MasterDo m) _ _ _ _ h here.row in
      let active = is_last fine.cards.masters m.0 stands in
      let last : m.0 ≡ a.lm + a.ma = omega arith in
      let listed : m.0 ≤ length l.of_master = omega (arith, role_fits fine.cards.masters, fine.lists.masters.long) in
      let grows = λ (d : ℕ). list_grows l.of_master m.0 c (a.lm + a.ma) d last (omega arith) listed in
      rw e (moves_command fine c low high (with_client c y (master_takes rule m.0 c s)) _ y (mc + 1) bc refl refl
      (master_taken fine.cards m.0)
      (record { masters = tidy_appended fine.lists.masters c m.0 (ap (λ i. times c (at [] l.of_master i)) last ∙ row.0.1) low high; backups = fine.lists.backups })
      (λ d apart. (omega (arith, grows d, times_none d c apart), refl))
      (omega (arith, grows c, times_one c)) refl
      (from_row runs (MasterDo m) h y (mc + 1) bc (master_does (sane fine) here.known m.0 (backup_of s m.0) active.0 active.1 (pairs fine.cards.masters m.0 stands)))
      (goes_on s.exec_state s.clients fine.exec runs c y low inside refl (λ q. cc)))

  pub keeps_backup_doing : (next : B_Doing size rule c s s') → Fine size s' (record { of_master = l.of_master; of_backup = appended l.of_backup next.1.0 c })
  keeps_backup_doing (m, b, runs, h, stands, partner, e) =
      let y : Command = waits (BackupDone m b) x in
      let row = row_working a x.phase x.message (BackupDo m b) _ _ _ _ h here.row in
      let active = is_last fine.cards.backups b.0 stands in
      let last : b.0 ≡ a.lb + a.ba = omega arith in
      let newest : m.0 ≡ a.lm + a.ma = partner ∙ pairs fine.cards.backups b.0 stands in
      let listed : b.0 ≤ length l.of_backup = omega (arith, role_fits fine.cards.backups, fine.lists.backups.long) in
      let grows = λ (d : ℕ). list_grows l.of_backup b.0 c (a.lb + a.ba) d last (omega arith) listed in
      rw e (moves_command fine c low high (with_client c y (backup_takes rule b.0 c s)) _ y mc (bc + 1) refl refl
      (backup_taken fine.cards b.0)
      (record { masters = fine.lists.masters; backups = tidy_appended fine.lists.backups c b.0 (ap (λ i. times c (at [] l.of_backup i)) last ∙ (not_taken_yet (sane fine) here.known m.0 b.0 active.0 active.1 newest row.0).0) low high })
      (λ d apart. (refl, omega (arith, grows d, times_none d c apart)))
      refl (omega (arith, grows c, times_one c))
      (from_row runs (BackupDo m b) h y mc (bc + 1) (backup_does (sane fine) here.known m.0 b.0 active.0 active.1 newest))
      (goes_on s.exec_state s.clients fine.exec runs c y low inside refl (λ q. cc)))
