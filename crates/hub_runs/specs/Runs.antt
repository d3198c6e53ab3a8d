-- Runs: what making a hub sets, and then any list of steps and looks, each on what the earlier ones left.
-- A run also keeps, for each card, the list of the commands that the card has taken.
use Rattle.std.specs.Prelude.{◌≡◌, ℕ, ◌+◌, ◌-◌, ◌≤◌, cond, List, [], ◌∷◌, ◌++◌, map, length, replicate, ℤ, Some, None, fold, Option}
use Rattle.std.specs.List.{AllByRecursion}
use Rattle.registers.specs.Kind.{Rule}
use Rattle.registers.specs.Taken.{InRange}
use Rattle.actions.specs.Letters.{action_of}
use Rattle.actions.specs.declared.Action.{Action}
use Rattle.actions.specs.declared.Action.TheVariants.{Starting, MasterDoing, HandlingMasterDone, BackupDoing, DetectingOldMasterId, HandlingBackupDone, HandlingMasterDoFailed, HandlingBackupDoFailed, GettingNewBackup, GettingNewMaster, HandlingBackupGetNewMasterFailed, HandlingMasterGetNewBackupFailed, UpdatingBackupId, UpdatingMasterId, CreatingNewBackup, CreatingNewMaster, KillingMaster, KillingBackup}
use Rattle.hub_records.specs.Commands.{backup_in, is_done, master_in, the_backup, the_master}
use Rattle.hub_tables.specs.Search.{active_card, last_lost, last_card}
use Rattle.hub_cards.specs.Tables.{at, put, blank_card}
use Rattle.hub_cards.specs.declared.Card.{Card}
use Rattle.hub_cards.specs.declared.Status.TheVariants.{Active}
use Rattle.hub_records.specs.declared.commands.Command.{Command}
use Rattle.hub_records.specs.declared.commands.Phase.TheVariants.{Pending}
use Rattle.hub_records.specs.declared.hub.ExecState.{ExecState}
use Rattle.hub_records.specs.declared.hub.ExecState.TheVariants.{Running}
use Rattle.hub_runs.specs.Hubs.{Size, State, client, master_card, backup_card}
use Rattle.hub_runs.specs.Judging.{Answer, denied, moved, step}

-- Which sizes and moves a hub can be made with.
pub record Limits (size : Size) (moves : List ℤ) : Type 0 where
  pub some_clients : 1 ≤ size.client_num
  pub few_clients : size.client_num ≤ 64
  pub few_kills : size.max_kill ≤ 7
  pub some_instances : 1 ≤ size.max_instance
  pub few_instances : size.max_instance ≤ 8
  pub one_move_each : length moves ≡ size.client_num
  pub in_range : AllByRecursion InRange moves

-- A call of a run: a step, by its letter's code and a command's number, or a look.
pub data Call : Type 0 where
  step_call : ℕ → ℕ → Call
  look_call : Call

-- What a look sees.
pub record Look : Type 0 where
  pub exec_state : ExecState
  pub steps : ℕ
  pub killed : ℕ
  pub done : ℕ
  pub master : ℕ
  pub master_version : ℕ
  pub backup : ℕ
  pub backup_version : ℕ

-- What a call is answered.
pub data Reply : Type 0 where
  stepped : Reply
  refused : ℕ → Reply
  seen : Look → Reply

-- The lists of the commands that the cards have taken, in order.
pub record Lists : Type 0 where
  pub of_master : List (List ℕ)
  pub of_backup : List (List ℕ)

pub record Run : Type 0 where
  pub state : State
  pub lists : Lists
  pub replies : List Reply

-- The number that a search answered; 0 for none.
abbrev pub number : Option ℕ → ℕ
number None = 0
number (Some n) = n

abbrev pub last_master : State → ℕ
last_master s = number (last_card s.master)

abbrev pub last_backup : State → ℕ
last_backup s = number (last_card s.backup)

unfoldable pub count_done : List Command → ℕ
count_done [] = 0
count_done (x ∷ xs) = cond (is_done x.phase) 1 0 + count_done xs

abbrev pub look_at : State → Look
look_at s = record { exec_state = s.exec_state; steps = s.steps; killed = s.killed; done = count_done s.clients; master = last_master s; master_version = (master_card s (last_master s)).version; backup = last_backup s; backup_version = (backup_card s (last_backup s)).version }

-- One more at the end of a card's list.
abbrev pub appended : List (List ℕ) → ℕ → ℕ → List (List ℕ)
appended lists card c = put lists card (at [] lists card ++ (c ∷ []))

-- The lists after an accepted step: taking a move appends the command, and a new card gets a copy of its maker's list.
unfoldable pub lists_after : Action → ℕ → State → Lists → Lists
lists_after Starting c s l = l
lists_after MasterDoing c s l = record { of_master = appended l.of_master (master_in (client s c).message) c; of_backup = l.of_backup }
lists_after HandlingMasterDone c s l = l
lists_after BackupDoing c s l = record { of_master = l.of_master; of_backup = appended l.of_backup (backup_in (client s c).message) c }
lists_after DetectingOldMasterId c s l = l
lists_after HandlingBackupDone c s l = l
lists_after HandlingMasterDoFailed c s l = l
lists_after HandlingBackupDoFailed c s l = l
lists_after GettingNewBackup c s l = l
lists_after GettingNewMaster c s l = l
lists_after HandlingBackupGetNewMasterFailed c s l = l
lists_after HandlingMasterGetNewBackupFailed c s l = l
lists_after UpdatingBackupId c s l = l
lists_after UpdatingMasterId c s l = l
lists_after CreatingNewBackup c s l =
    record { of_master = l.of_master; of_backup = put l.of_backup (number (last_lost s.backup) + 1) (at [] l.of_master (number (active_card s.master))) }
lists_after CreatingNewMaster c s l =
    record { of_master = put l.of_master (number (last_lost s.master) + 1) (at [] l.of_backup (number (active_card s.backup))); of_backup = l.of_backup }
lists_after KillingMaster c s l = l
lists_after KillingBackup c s l = l

unfoldable pub lists_by_letter : Option Action → ℕ → State → Lists → Lists
lists_by_letter None c s l = l
lists_by_letter (Some a) c s l = lists_after a c s l

-- A run after one more call. A denied step changes nothing.
unfoldable pub after_answer : Answer → ℕ → ℕ → Run → Run
after_answer (denied n) letter c r = record { state = r.state; lists = r.lists; replies = r.replies ++ (refused n ∷ []) }
after_answer (moved s) letter c r = record { state = s; lists = lists_by_letter (action_of letter) c r.state r.lists; replies = r.replies ++ (stepped ∷ []) }

unfoldable pub after : Size → Rule → Run → Call → Run
after size rule r (step_call letter c) = after_answer (step size rule letter c r.state) letter c r
after size rule r look_call = record { state = r.state; lists = r.lists; replies = r.replies ++ (seen (look_at r.state) ∷ []) }

-- What making a hub sets.
abbrev pub fresh : ℤ → Command
fresh move = record { hundredths = move; phase = Pending; own_master = the_master 1; own_backup = the_backup 0; message = None }

abbrev pub first_card : {P : Type 0} → P → P → ℕ → List (Card P)
first_card one none s = record { status = Active; partner = one; version = 0 } ∷ replicate (s - 1) (blank_card none)

abbrev pub made : Size → List ℤ → List ℤ → State
made size start moves = record { exec_state = Running; clients = map fresh moves; master = first_card (the_backup 1) (the_backup 0) size.max_instance; backup = first_card (the_master 1) (the_master 0) size.max_instance; killed = 0; steps = 0; master_figures = replicate size.max_instance start; backup_figures = replicate size.max_instance start }

abbrev pub begun : Size → List ℤ → List ℤ → Run
begun size start moves = record { state = made size start moves; lists = record { of_master = replicate size.max_instance []; of_backup = replicate size.max_instance [] }; replies = [] }

unfoldable pub run_of : Size → List ℤ → Rule → List ℤ → List Call → Run
run_of size start rule moves calls = fold (after size rule) (begun size start moves) calls
