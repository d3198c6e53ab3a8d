-- Worked runs: what some short lists of calls lead to, on hubs with sum registers whose commands each have the move 25.
use Rattle.std.specs.Prelude.{◌≡◌, ℕ, cond, List, [], ◌∷◌, map, replicate, pos, codes, nat_lt}
use Rattle.registers.specs.Examples.{WorkedExamples}
use Rattle.registers.specs.Sum.{sum_start, sum_rule}
use Rattle.hub_cards.specs.Tables.{at}
use Rattle.hub_cards.specs.declared.Status.TheVariants.{Active}
use Rattle.hub_records.specs.declared.hub.ExecState.TheVariants.{Running, Success, Fatal}
use Rattle.hub_runs.specs.Hubs.{Size, master_card, backup_card}
use Rattle.hub_runs.specs.Runs.{Call, step_call, stepped, refused, Run, run_of, last_master, last_backup}

-- A hub's size: its commands, the losses that it is rated for, and its card places.
abbrev pub sized : ℕ → ℕ → ℕ → Size
sized n k s = record { client_num = n; max_kill = k; max_instance = s }

-- Calls by the codes of their letters: 'A' to 'N' for command 1, and from 'O' on, which is 79, for none.
abbrev pub by_letters : List ℕ → List Call
by_letters letters = map (λ letter. step_call letter (cond (nat_lt letter 79) 1 0)) letters

abbrev pub worked : Size → List ℕ → Run
worked size letters = run_of size sum_start sum_rule (replicate size.client_num (pos 25)) (by_letters letters)

-- After so many steps, all of them accepted, the hub succeeded.
abbrev pub SucceedsIn : ℕ → Run → Type 0
SucceedsIn n r = (r.state.exec_state ≡ Success) × (r.state.steps ≡ n) × (r.replies ≡ replicate n stepped)

-- Nothing is lost. A further step comes too late.
abbrev pub NothingLost : Type 0
NothingLost =
    SucceedsIn 5 (worked (sized 1 0 1) (codes "ABCDF"))
    × ((worked (sized 1 0 1) (codes "ABCDFA")).replies ≡ stepped ∷ stepped ∷ stepped ∷ stepped ∷ stepped ∷ refused 5 ∷ [])

-- The master is lost when it alone has the command. The backup makes another, which has not got it, and tells the
-- command, which starts again and is taken once by each.
abbrev pub MasterLost : Run → Type 0
MasterLost r =
    SucceedsIn 12 r × (last_master r.state ≡ 2) × (last_backup r.state ≡ 1)
    × ((master_card r.state 2).version ≡ 1) × ((backup_card r.state 1).version ≡ 1)
    × (at [] r.state.master_figures 2 ≡ pos 25 ∷ []) × (at [] r.state.backup_figures 1 ≡ pos 25 ∷ [])

-- The backup is lost before it has the command. The master makes another, which has it.
abbrev pub BackupLost : Run → Type 0
BackupLost r = SucceedsIn 8 r × (last_backup r.state ≡ 2)

-- The same with no place for another: the master can neither make a backup nor name one.
abbrev pub NoPlaceLeft : Run → Type 0
NoPlaceLeft r = (r.state.exec_state ≡ Running) × (r.replies ≡ stepped ∷ stepped ∷ stepped ∷ stepped ∷ stepped ∷ refused 12 ∷ refused 11 ∷ [])

-- The master is lost before it has the command, and the backup once it has made another master: the command, which
-- knows the first master and no backup, gives up.
abbrev pub BothLost : Run → Type 0
BothLost r = (r.state.exec_state ≡ Fatal) × (r.state.steps ≡ 5) × (r.replies ≡ replicate 5 stepped) × ((master_card r.state 2).status ≡ Active)

abbrev pub WorkedRuns : Type 0
WorkedRuns =
    NothingLost
    × MasterLost (worked (sized 1 1 2) (codes "ABCQPENABCDF"))
    × BackupLost (worked (sized 1 1 2) (codes "ABCRHOIM"))
    × NoPlaceLeft (worked (sized 1 1 1) (codes "ABCRHOI"))
    -- the master is lost once the command is on its way to the backup
    × SucceedsIn 6 (worked (sized 1 1 2) (codes "ABCQDF"))
    × BothLost (worked (sized 1 2 3) (codes "AQPRG"))
    -- a loss that the hub is not rated for, and a step for which the command holds no message
    × ((worked (sized 1 0 1) (codes "Q")).replies ≡ refused 8 ∷ [])
    × ((worked (sized 1 0 1) (codes "AD")).replies ≡ stepped ∷ refused 9 ∷ [])
    × WorkedExamples
