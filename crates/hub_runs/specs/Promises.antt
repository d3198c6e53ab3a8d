-- What every run keeps: for each size within the limits, all moves, and each list of calls, however many are denied.
-- `start` and `rule` are those of the register's kind.
use Rattle.std.specs.Prelude.{◌≡◌, ℕ, ◌+◌, ◌*◌, ◌<◌, ◌≤◌, true, cond, ◌⊎◌, List, [], ◌∷◌, length, ℤ, pos, fold, ◌==◌}
use Rattle.registers.specs.Kind.{Rule}
use Rattle.hub_cards.specs.Statuses.{is_used}
use Rattle.hub_cards.specs.Tables.{at}
use Rattle.hub_cards.specs.declared.Status.TheVariants.{Active, Lost}
use Rattle.hub_records.specs.declared.commands.Phase.TheVariants.{Done, GaveUp}
use Rattle.hub_records.specs.declared.hub.ExecState.TheVariants.{Running, Success, Fatal}
use Rattle.hub_runs.specs.Hubs.{Size, State, client, master_card, backup_card}
use Rattle.hub_runs.specs.Judging.{moved, step}
use Rattle.hub_runs.specs.Runs.{Limits, Call, Reply, stepped, refused, seen, Run, last_master, last_backup, run_of}

-- How often a list holds a command.
unfoldable pub times : ℕ → List ℕ → ℕ
times c [] = 0
times c (x ∷ xs) = cond (c == x) 1 0 + times c xs

abbrev pub Holds : List ℕ → ℕ → Type 0
Holds list c = 1 ≤ times c list

abbrev pub NoRepeats : List ℕ → Type 0
NoRepeats list = (c : ℕ) → times c list ≤ 1

-- The list that a run has for a card.
abbrev pub master_list : Run → ℕ → List ℕ
master_list r m = at [] r.lists.of_master m

abbrev pub backup_list : Run → ℕ → List ℕ
backup_list r b = at [] r.lists.of_backup b

-- How many steps of the calls were accepted.
unfoldable pub accepted : List Reply → ℕ
accepted [] = 0
accepted (stepped ∷ replies) = 1 + accepted replies
accepted (refused n ∷ replies) = accepted replies
accepted (seen look ∷ replies) = accepted replies

-- The move of a command, by the moves with which the hub was made.
abbrev pub move_of : List ℤ → ℕ → ℤ
move_of moves c = at (pos 0) moves c

-- The figures after some commands, taken in order from the start.
abbrev pub figures_of : List ℤ → Rule → List ℤ → List ℕ → List ℤ
figures_of start rule moves list = fold (λ f c. rule f (move_of moves c)) start list

-- A card's list holds no command twice, is as long as the card's version, and gives the card's figures.
pub record Counted (start : List ℤ) (rule : Rule) (moves : List ℤ) (list : List ℕ) (version : ℕ) (figures : List ℤ) : Type 0 where
  pub once : NoRepeats list
  pub long : length list ≡ version
  pub gives : figures ≡ figures_of start rule moves list

module _ (start : List ℤ) (rule : Rule) where
  -- Of every run.
  abbrev pub OfRuns : (Size → List ℤ → Run → Type 0) → Type 0
  OfRuns P = (size : Size) (moves : List ℤ) → Limits size moves → (calls : List Call) → P size moves (run_of size start rule moves calls)

  -- Each card that was ever active.
  abbrev pub NoCommandIsTakenTwice : Type 0
  NoCommandIsTakenTwice = OfRuns (λ size moves r.
      ((m : ℕ) → is_used (master_card r.state m).status ≡ true → Counted start rule moves (master_list r m) (master_card r.state m).version (at [] r.state.master_figures m))
      × ((b : ℕ) → is_used (backup_card r.state b).status ≡ true → Counted start rule moves (backup_list r b) (backup_card r.state b).version (at [] r.state.backup_figures b)))

  -- The last cards hold every done command, and the backup none that the master lacks.
  abbrev pub DoneCommandsAreInBothLastLists : Type 0
  DoneCommandsAreInBothLastLists = OfRuns (λ size moves r.
      ((c : ℕ) → 1 ≤ c → c ≤ size.client_num → (client r.state c).phase ≡ Done → Holds (master_list r (last_master r.state)) c × Holds (backup_list r (last_backup r.state)) c)
      × ((c : ℕ) → Holds (backup_list r (last_backup r.state)) c → Holds (master_list r (last_master r.state)) c))

  -- At success both last cards have the figures of all moves, taken in the order of the commands' numbers.
  abbrev pub SuccessCountsEveryCommand : Type 0
  SuccessCountsEveryCommand = OfRuns (λ size moves r. r.state.exec_state ≡ Success →
      (at [] r.state.master_figures (last_master r.state) ≡ fold rule start moves) × (at [] r.state.backup_figures (last_backup r.state) ≡ fold rule start moves))

  abbrev pub AtMostOneCardOfARoleIsActive : Type 0
  AtMostOneCardOfARoleIsActive = OfRuns (λ size moves r.
      ((m n : ℕ) → (master_card r.state m).status ≡ Active → (master_card r.state n).status ≡ Active → m ≡ n)
      × ((b d : ℕ) → (backup_card r.state b).status ≡ Active → (backup_card r.state d).status ≡ Active → b ≡ d))

  -- A hub is fatal only where some command gave up whose own master is lost and whose own backup is lost or unknown.
  abbrev pub FatalMeansBothCardsOfACommandAreGone : Type 0
  FatalMeansBothCardsOfACommandAreGone = OfRuns (λ size moves r. r.state.exec_state ≡ Fatal →
      (c : ℕ) × (1 ≤ c) × (c ≤ size.client_num) × ((client r.state c).phase ≡ GaveUp) × ((master_card r.state (client r.state c).own_master.0).status ≡ Lost)
      × (((client r.state c).own_backup.0 ≡ 0) ⊎ ((backup_card r.state (client r.state c).own_backup.0).status ≡ Lost)))

  abbrev pub StepsAreCountedAndBounded : Type 0
  StepsAreCountedAndBounded = OfRuns (λ size moves r.
      (r.state.steps ≡ accepted r.replies) × (r.state.steps ≤ 5 * (size.client_num * (size.max_kill + 1)) + 2 * size.max_kill))

  -- While the hub runs and has more card places than losses it is rated for, some step other than a loss is open.
  -- 81 and 82 are the codes of 'Q' and 'R', the losses.
  abbrev pub SomeStepIsOpen : Type 0
  SomeStepIsOpen = OfRuns (λ size moves r. r.state.exec_state ≡ Running → size.max_kill < size.max_instance →
      (letter : ℕ) × (c : ℕ) × (next : State) × (letter < 81) × (step size rule letter c r.state ≡ moved next))
