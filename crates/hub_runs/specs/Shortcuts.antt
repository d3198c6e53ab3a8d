-- Three shortcuts that the actions do not take, each put into a short run at the place of the action: they miscount.
use Rattle.std.specs.Prelude.{◌≡◌, ℕ, List, [], ◌∷◌, codes, fold}
use Rattle.registers.specs.Sum.{sum_rule}
use Rattle.hub_records.specs.Commands.{backup_in, knows_backup, master_in, rests, the_backup, the_master, waits}
use Rattle.hub_cards.specs.declared.Status.TheVariants.{Lost}
use Rattle.hub_records.specs.declared.commands.Message.TheVariants.{BackupDo, BackupDone}
use Rattle.hub_records.specs.declared.commands.Phase.TheVariants.{Pending}
use Rattle.hub_records.specs.declared.hub.ExecState.TheVariants.{Success}
use Rattle.hub_runs.specs.Hubs.{Size, State, client, master_card, backup_card, backup_of, with_client, backup_takes}
use Rattle.hub_runs.specs.Judging.{moved}
use Rattle.hub_runs.specs.Promises.{master_list, backup_list}
use Rattle.hub_runs.specs.Runs.{Run, after_answer, after}
use Rattle.hub_runs.specs.WorkedRuns.{sized, by_letters, worked}

-- The cards that the client's message names.
abbrev pub told_master : State → ℕ → ℕ
told_master s c = master_in (client s c).message

abbrev pub told_backup : State → ℕ → ℕ
told_backup s c = backup_in (client s c).message

-- B_Doing, without asking whether the client's master is still the backup's partner.
abbrev pub doing_unasked : ℕ → State → State
doing_unasked c s = with_client c (waits (BackupDone (the_master (told_master s c)) (the_backup (told_backup s c))) (client s c)) (backup_takes sum_rule (told_backup s c) c s)

-- C_HandlingMasterDone, with the partner that the master has now in place of the one that it named.
abbrev pub sent_to_partner : ℕ → State → State
sent_to_partner c s =
    let b : ℕ = backup_of s (told_master s c) in
    with_client c (waits (BackupDo (the_master (told_master s c)) (the_backup b)) (knows_backup b (client s c))) s

-- C_HandlingBackupDoFailed, starting the client again.
abbrev pub started_again : ℕ → State → State
started_again c s = with_client c (rests Pending (client s c)) s

-- A run of some letters; the shortcut, for command 1, in place of the action of a letter; and some letters more.
abbrev pub with_shortcut : Size → List ℕ → ℕ → (ℕ → State → State) → List ℕ → Run
with_shortcut size before letter shortcut more =
    let r : Run = worked size before in
    fold (after size sum_rule) (after_answer (moved (shortcut 1 r.state)) letter 1 r) (by_letters more)

-- The backup takes the command for a master that is lost, and the hub succeeds with a master that never took it.
abbrev pub TakenForALostMaster : Run → Type 0
TakenForALostMaster r =
    (r.state.exec_state ≡ Success) × ((master_card r.state 1).status ≡ Lost)
    × (backup_list r 1 ≡ 1 ∷ []) × (master_list r 2 ≡ []) × ((master_card r.state 2).version ≡ 0)

-- The new backup, copied from a master that had the command, takes it once more.
abbrev pub TakenTwiceByTheBackup : Run → Type 0
TakenTwiceByTheBackup r = (backup_list r 2 ≡ 1 ∷ 1 ∷ []) × ((backup_card r.state 2).version ≡ 2)

-- The master, which had the command, takes it once more.
abbrev pub TakenTwiceByTheMaster : Run → Type 0
TakenTwiceByTheMaster r = (master_list r 1 ≡ 1 ∷ 1 ∷ []) × ((master_card r.state 1).version ≡ 2)

-- The codes 68, 67 and 72 are those of 'D', 'C' and 'H'.
abbrev pub ShortcutsMiscount : Type 0
ShortcutsMiscount =
    TakenForALostMaster (with_shortcut (sized 1 1 2) (codes "ABCQP") 68 doing_unasked (codes "F"))
    × TakenTwiceByTheBackup (with_shortcut (sized 1 1 2) (codes "ABRO") 67 sent_to_partner (codes "D"))
    × TakenTwiceByTheMaster (with_shortcut (sized 1 1 2) (codes "ABCR") 72 started_again (codes "AB"))
