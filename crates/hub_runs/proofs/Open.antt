-- While the hub runs and has more card places than losses, some step other than a loss is open.
use Rattle.std.proofs.Common.{◌≡◌, ℕ, suc, ◌+◌, ◌<◌, ◌≤◌, false, ◌≢◌, List, [], ◌∷◌, length, get_or, Some, None, Option, refl, ◌∙◌, inl, inr, arith}
use Rattle.std.proofs.lemmas.Bool.{cases_eq, and_cases}
use Rattle.registers.specs.Kind.{Rule}
use Rattle.actions.specs.Letters.{action_of}
use Rattle.actions.specs.declared.Action.{Action}
use Rattle.actions.specs.declared.Action.TheVariants.{Starting, MasterDoing, HandlingMasterDone, BackupDoing, DetectingOldMasterId, HandlingBackupDone, HandlingMasterDoFailed, HandlingBackupDoFailed, GettingNewBackup, GettingNewMaster, HandlingBackupGetNewMasterFailed, HandlingMasterGetNewBackupFailed, UpdatingBackupId, UpdatingMasterId, CreatingNewBackup, CreatingNewMaster}
use Rattle.hub_records.specs.Commands.{is_done}
use Rattle.hub_tables.specs.Search.{active_card}
use Rattle.hub_cards.specs.declared.BackupNumber.{BackupNumber}
use Rattle.hub_cards.specs.declared.MasterNumber.{MasterNumber}
use Rattle.hub_records.specs.declared.commands.Command.{Command}
use Rattle.hub_records.specs.declared.commands.Message.{Message}
use Rattle.hub_records.specs.declared.commands.Message.TheVariants.{MasterDo, MasterDone, BackupDo, BackupDone, MasterGetNewBackup, BackupGetNewMaster, NewBackupId, NewMasterId}
use Rattle.hub_records.specs.declared.commands.Phase.{Phase}
use Rattle.hub_records.specs.declared.commands.Phase.TheVariants.{Pending, Working, Done, GaveUp}
use Rattle.hub_records.specs.declared.hub.ExecState.TheVariants.{Running}
use Rattle.hub_runs.specs.Hubs.{Size, State, blank_client, client, backup_of, master_of, all_done}
use Rattle.hub_runs.specs.Judging.{moved, step}
use Rattle.hub_runs.specs.Module.{IsClient, Next}
use Rattle.hub_runs.specs.Runs.{Lists}
use Rattle.hub_runs.proofs.OfModule.{steps_are_the_modules}
use Rattle.hub_runs.proofs.Rows.{Cards, Row}
use Rattle.hub_runs.proofs.Clients.{RowAt, in_master, in_backup}
use Rattle.hub_runs.proofs.Roles.{answered, pairs, lost_or_active, found_active, active_there, lost_there, none_there}
use Rattle.hub_runs.proofs.Fine.{Fine, sane}

-- Some command is not done where not all are.
some_waits : (xs : List Command) → all_done xs ≡ false → (n : ℕ) × (n < length xs) × (is_done (get_or xs n blank_client).phase ≡ false)
unfolding all_done
some_waits [] e = absurd cc
some_waits (x ∷ xs) e = elim (and_cases _ _ e) [
  | inl here ↦ (0, omega arith, here)
  | inr later ↦ let rest = some_waits xs later in (suc rest.0, omega (arith, rest.1), rest.2)
]

-- Some step other than a loss is open.
abbrev OpenStep : Size → Rule → State → Type 0
OpenStep size rule s = (letter : ℕ) × (c : ℕ) × (next : State) × (letter < 81) × (step size rule letter c s ≡ moved next)

module _ (size : Size) (rule : Rule) (s : State) (l : Lists) (fine : Fine size s l) (runs : s.exec_state ≡ Running) (room : size.max_kill < size.max_instance) where
  abbrev a : Cards
  a = fine.a

  -- A step is open where the module enables the action under its letter.
  opens : (letter c : ℕ) (action : Action) (s' : State) → letter < 81 → action_of letter ≡ Some action → Next size rule action c s s' → OpenStep size rule s
  opens letter c action s' small lettered next = (letter, c, s', small, (steps_are_the_modules rule size letter c s s').1 action lettered next)

  -- A master can make a backup where none is active, and a backup a master. There is room for it, since the lost cards are no more than the losses.
  master_makes : a.ma ≡ 1 → a.ba ≡ 0 → OpenStep size rule s
  master_makes active none =
      let maker = active_there fine.cards.masters active in
      let sane = sane fine in
      let lost = lost_there fine.cards.backups (omega (arith, sane.some_backup)) in
      opens 79 0 CreatingNewBackup _ (omega arith) refl (refl, (maker.0, a.lb, runs, maker.1, none_there fine.cards.backups none, lost, omega (arith, sane.losses, fine.cards.limit), refl))

  backup_makes : a.ba ≡ 1 → a.ma ≡ 0 → OpenStep size rule s
  backup_makes active none =
      let maker = active_there fine.cards.backups active in
      let sane = sane fine in
      let lost = lost_there fine.cards.masters (omega (arith, sane.some_master)) in
      opens 80 0 CreatingNewMaster _ (omega arith) refl (refl, (maker.0, a.lm, runs, none_there fine.cards.masters none, maker.1, lost, omega (arith, sane.losses, fine.cards.limit), refl))

  -- One command, by where it is.
  module _ (c : ℕ) (n : IsClient size c) where
    abbrev x : Command
    x = client s c

    here : RowAt a (in_master a l c) (in_backup a l c) x
    here = fine.rows c n.0 (omega (arith, n.1, fine.commands))

    -- The master takes the command, or its loss is noticed.
    at_master : (m : MasterNumber) → x.message ≡ Some (MasterDo m) → m.0 ≡ x.own_master.0 → OpenStep size rule s
    at_master m h own =
        elim (lost_or_active fine.cards.masters m.0 (omega (arith, here.known.some_own)) (omega (arith, here.known.own_master))) [
          | inl lost ↦ elim (answered (active_card s.backup)) [
            | inl none ↦ opens 71 c HandlingMasterDoFailed _ (omega arith) refl (n, (m, runs, h, lost.0, inl (none, refl)))
            | inr found ↦ opens 71 c HandlingMasterDoFailed _ (omega arith) refl (n, (m, runs, h, lost.0, inr (found.0, found.1, refl)))
          ]
          | inr active ↦ opens 66 c MasterDoing _ (omega arith) refl (n, (m, runs, h, active.0, refl))
        ]

    -- The backup takes the command, or answers with its new master, or its loss is noticed.
    at_backup : (m : MasterNumber) (b : BackupNumber) → x.message ≡ Some (BackupDo m b) → 1 ≤ b.0 → b.0 ≤ a.lb + a.ba → OpenStep size rule s
    at_backup m b h some known =
        elim (lost_or_active fine.cards.backups b.0 some known) [
          | inl lost ↦ opens 72 c HandlingBackupDoFailed _ (omega arith) refl (n, (m, b, runs, h, lost.0, refl))
          | inr active ↦ elim (cases_eq m.0 (master_of s b.0)) [
            | inl same ↦ opens 68 c BackupDoing _ (omega arith) refl (n, (m, b, runs, h, active.0, same, refl))
            | inr other ↦ opens 69 c DetectingOldMasterId _ (omega arith) refl (n, (m, b, runs, h, active.0, other, refl))
          ]
        ]

    -- The master answers with its new backup, or has first to make one; or it is lost too.
    asking_master : (m : MasterNumber) (b : BackupNumber) → x.message ≡ Some (MasterGetNewBackup m b) → m.0 ≡ x.own_master.0 → b.0 ≤ a.lb → OpenStep size rule s
    asking_master m b h own lost_backup =
        elim (lost_or_active fine.cards.masters m.0 (omega (arith, here.known.some_own)) (omega (arith, here.known.own_master))) [
          | inl lost ↦ opens 76 c HandlingMasterGetNewBackupFailed _ (omega arith) refl (n, (m, b, runs, h, lost.0, refl))
          | inr active ↦ elim (cases_eq b.0 (backup_of s m.0)) [
            | inl same ↦
                let last : b.0 ≡ a.lb + a.ba = same ∙ pairs fine.cards.masters m.0 active.0 in
                master_makes active.1 (omega arith)
            | inr other ↦ opens 73 c GettingNewBackup _ (omega arith) refl (n, (m, b, runs, h, active.0, other, refl))
          ]
        ]

    -- The backup answers with its new master, or has first to make one; or it is lost too, and the active master, if any, is a new one.
    asking_backup : (m : MasterNumber) (b : BackupNumber) → x.message ≡ Some (BackupGetNewMaster m b) → m.0 ≡ x.own_master.0 → m.0 ≤ a.lm → 1 ≤ b.0 → b.0 ≤ a.lb + a.ba → OpenStep size rule s
    asking_backup m b h own lost_master some known =
        elim (lost_or_active fine.cards.backups b.0 some known) [
          | inl lost ↦ elim (answered (active_card s.master)) [
            | inl none ↦ opens 75 c HandlingBackupGetNewMasterFailed _ (omega arith) refl (n, (m, b, runs, h, lost.0, inl (none, refl)))
            | inr found ↦
                let new = found_active fine.cards.masters found.0 found.1 in
                opens 75 c HandlingBackupGetNewMasterFailed _ (omega arith) refl (n, (m, b, runs, h, lost.0, inr (found.0, found.1, (λ q. omega arith), refl)))
          ]
          | inr active ↦ elim (cases_eq m.0 (master_of s b.0)) [
            | inl same ↦
                let last : m.0 ≡ a.lm + a.ma = same ∙ pairs fine.cards.backups b.0 active.0 in
                backup_makes active.1 (omega arith)
            | inr other ↦ opens 74 c GettingNewMaster _ (omega arith) refl (n, (m, b, runs, h, active.0, other, refl))
          ]
        ]

    -- Wherever a command is that is neither done nor gave up.
    by_place : (phase : Phase) (msg : Option Message) → x.phase ≡ phase → x.message ≡ msg → is_done phase ≡ false → phase ≢ GaveUp → Row a phase msg x.own_master.0 x.own_backup.0 (in_master a l c) (in_backup a l c) → OpenStep size rule s
    by_place Pending None p h waiting calm row = opens 65 c Starting _ (omega arith) refl (n, (runs, p, refl))
    by_place Working (Some (MasterDo m)) p h waiting calm row = at_master m h row.0
    by_place Working (Some (MasterDone m b)) p h waiting calm row = opens 67 c HandlingMasterDone _ (omega arith) refl (n, (m, b, runs, h, refl))
    by_place Working (Some (BackupDo m b)) p h waiting calm row = at_backup m b h row.0.some row.0.known
    by_place Working (Some (BackupDone m b)) p h waiting calm row = opens 70 c HandlingBackupDone _ (omega arith) refl (n, (m, b, runs, h, refl))
    by_place Working (Some (MasterGetNewBackup m b)) p h waiting calm row = asking_master m b h row.0.own row.2
    by_place Working (Some (BackupGetNewMaster m b)) p h waiting calm row = asking_backup m b h row.0 row.1 row.3 row.4
    by_place Working (Some (NewBackupId m b)) p h waiting calm row = opens 77 c UpdatingBackupId _ (omega arith) refl (n, (m, b, runs, h, refl))
    by_place Working (Some (NewMasterId m b)) p h waiting calm row = opens 78 c UpdatingMasterId _ (omega arith) refl (n, (m, b, runs, h, refl))
    by_place Done msg p h waiting calm row = absurd cc
    by_place GaveUp msg p h waiting calm row = absurd (calm refl)
    by_place _ _ p h waiting calm row = absurd row

pub open_step : (size : Size) (rule : Rule) (s : State) (l : Lists) → Fine size s l → s.exec_state ≡ Running → size.max_kill < size.max_instance → (letter : ℕ) × (c : ℕ) × (next : State) × (letter < 81) × (step size rule letter c s ≡ moved next)
open_step size rule s l fine runs room =
    let still = fine.exec.running runs in
    let found = some_waits s.clients still.1 in
    let c : ℕ = suc found.0 in
    let n : IsClient size c = (omega arith, omega (arith, found.1, fine.commands)) in
    by_place size rule s l fine runs room c n _ _ refl refl found.2 (still.0 c) (here size rule s l fine runs room c n).row
