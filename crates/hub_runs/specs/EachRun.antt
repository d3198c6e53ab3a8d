-- What is promised of one run, so that a call can say it of the run that it takes on; and that every run keeps it.
-- `start` and `rule` are those of the register's kind.
use Rattle.std.specs.Prelude.{◌≡◌, ℕ, ◌+◌, ◌*◌, ◌<◌, ◌≤◌, true, ◌⊎◌, List, [], ℤ, fold}
use Rattle.registers.specs.Kind.{Rule}
use Rattle.hub_cards.specs.Statuses.{is_used}
use Rattle.hub_cards.specs.Tables.{at}
use Rattle.hub_cards.specs.declared.Status.TheVariants.{Active, Lost}
use Rattle.hub_records.specs.declared.commands.Phase.TheVariants.{Done, GaveUp}
use Rattle.hub_records.specs.declared.hub.ExecState.TheVariants.{Running, Success, Fatal}
use Rattle.hub_runs.specs.Hubs.{Size, State, client, master_card, backup_card}
use Rattle.hub_runs.specs.Fits.{state_fits}
use Rattle.hub_runs.specs.Judging.{moved, step}
use Rattle.hub_runs.specs.Promises.{accepted, backup_list, Counted, Holds, master_list}
use Rattle.hub_runs.specs.Runs.{Limits, Call, Run, last_master, last_backup, run_of}

module _ (start : List ℤ) (rule : Rule) (size : Size) (moves : List ℤ) (r : Run) where
  -- Each card that was ever active.
  abbrev pub NoCommandIsTakenTwiceIn : Type 0
  NoCommandIsTakenTwiceIn =
      ((m : ℕ) → is_used (master_card r.state m).status ≡ true → Counted start rule moves (master_list r m) (master_card r.state m).version (at [] r.state.master_figures m))
      × ((b : ℕ) → is_used (backup_card r.state b).status ≡ true → Counted start rule moves (backup_list r b) (backup_card r.state b).version (at [] r.state.backup_figures b))

  -- The last cards hold every done command, and the backup none that the master lacks.
  abbrev pub DoneCommandsAreInBothLastListsIn : Type 0
  DoneCommandsAreInBothLastListsIn =
      ((c : ℕ) → 1 ≤ c → c ≤ size.client_num → (client r.state c).phase ≡ Done → Holds (master_list r (last_master r.state)) c × Holds (backup_list r (last_backup r.state)) c)
      × ((c : ℕ) → Holds (backup_list r (last_backup r.state)) c → Holds (master_list r (last_master r.state)) c)

  -- At success both last cards have the figures of all moves, taken in the order of the commands' numbers.
  abbrev pub SuccessCountsEveryCommandIn : Type 0
  SuccessCountsEveryCommandIn = r.state.exec_state ≡ Success →
      (at [] r.state.master_figures (last_master r.state) ≡ fold rule start moves) × (at [] r.state.backup_figures (last_backup r.state) ≡ fold rule start moves)

  abbrev pub AtMostOneCardOfARoleIsActiveIn : Type 0
  AtMostOneCardOfARoleIsActiveIn =
      ((m n : ℕ) → (master_card r.state m).status ≡ Active → (master_card r.state n).status ≡ Active → m ≡ n)
      × ((b d : ℕ) → (backup_card r.state b).status ≡ Active → (backup_card r.state d).status ≡ Active → b ≡ d)

  -- A hub is fatal only where some command gave up whose own master is lost and whose own backup is lost or unknown.
  abbrev pub FatalMeansBothCardsOfACommandAreGoneIn : Type 0
  FatalMeansBothCardsOfACommandAreGoneIn = r.state.exec_state ≡ Fatal →
      (c : ℕ) × (1 ≤ c) × (c ≤ size.client_num) × ((client r.state c).phase ≡ GaveUp) × ((master_card r.state (client r.state c).own_master.0).status ≡ Lost)
      × (((client r.state c).own_backup.0 ≡ 0) ⊎ ((backup_card r.state (client r.state c).own_backup.0).status ≡ Lost))

  abbrev pub StepsAreCountedAndBoundedIn : Type 0
  StepsAreCountedAndBoundedIn =
      (r.state.steps ≡ accepted r.replies) × (r.state.steps ≤ 5 * (size.client_num * (size.max_kill + 1)) + 2 * size.max_kill)

  -- While the hub runs and has more card places than losses it is rated for, some step other than a loss is open.
  -- 81 and 82 are the codes of 'Q' and 'R', the losses.
  abbrev pub SomeStepIsOpenIn : Type 0
  SomeStepIsOpenIn = r.state.exec_state ≡ Running → size.max_kill < size.max_instance →
      (letter : ℕ) × (c : ℕ) × (next : State) × (letter < 81) × (step size rule letter c r.state ≡ moved next)

  -- The tables fit together, so that no call finds a misfit.
  abbrev pub TablesFit : Type 0
  TablesFit = state_fits size r.state ≡ true

-- All of it.
pub record Promised (start : List ℤ) (rule : Rule) (size : Size) (moves : List ℤ) (r : Run) : Type 0 where
  pub no_command_is_taken_twice : NoCommandIsTakenTwiceIn start rule size moves r
  pub done_commands_are_in_both_last_lists : DoneCommandsAreInBothLastListsIn start rule size moves r
  pub success_counts_every_command : SuccessCountsEveryCommandIn start rule size moves r
  pub at_most_one_card_of_a_role_is_active : AtMostOneCardOfARoleIsActiveIn start rule size moves r
  pub fatal_means_both_cards_of_a_command_are_gone : FatalMeansBothCardsOfACommandAreGoneIn start rule size moves r
  pub steps_are_counted_and_bounded : StepsAreCountedAndBoundedIn start rule size moves r
  pub some_step_is_open : SomeStepIsOpenIn start rule size moves r
  pub tables_fit : TablesFit start rule size moves r

abbrev pub EveryRunKeepsItsPromises : List ℤ → Rule → Type 0
EveryRunKeepsItsPromises start rule =
    (size : Size) (moves : List ℤ) → Limits size moves → (calls : List Call) → Promised start rule size moves (run_of size start rule moves calls)
