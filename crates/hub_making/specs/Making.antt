-- Making a hub: for which causes it is denied, and what it sets otherwise.
use Rattle.std.specs.Prelude.{◌≡◌, ℕ, suc, Bool, true, cond, ◌&&◌, List, [], ◌∷◌, map, length, ℤ, Some, None, Err, Option, Result, MatchResult, ◌==◌, nat_le, unsigned_abs}
use Rattle.registers.specs.Kind.{Rule}
use Rattle.refusals.specs.declared.Refusal.{Refusal}
use Rattle.refusals.specs.declared.Refusal.TheVariants.{CountOutsideLimits, WrongTableLength, MoveOutsideLimits}
use Rattle.hub_tables.specs.Fit.{lengths_fit}
use Rattle.hub_tables.specs.Lent.{Lent}
use Rattle.hub_records.specs.declared.hub.Counts.{Counts}
use Rattle.hub_records.specs.declared.hub.ExecState.TheVariants.{Running}
use Rattle.hub_records.specs.declared.hub.Hub.{Hub}
use Rattle.hub_runs.specs.Hubs.{Size}
use Rattle.hub_runs.specs.GoingOn.{AfterCalls}
use Rattle.hub_runs.specs.Runs.{Limits, made}
use Rattle.hub_runs.specs.States.{size_of, state_in, state_of}

abbrev pub sized : (n k s : ℕ) → Size
sized n k s = record { client_num = n; max_kill = k; max_instance = s }

-- The size that the counts ask for.
abbrev pub asked : Counts → Size
asked counts = sized counts.commands counts.kills counts.cards

-- There are 1 to 64 commands, at most 7 losses, and 1 to 8 cards of each role.
abbrev pub counts_fit : Size → Bool
counts_fit size =
    nat_le 1 size.client_num
    && (nat_le size.client_num 64
    && (nat_le size.max_kill 7 && (nat_le 1 size.max_instance && nat_le size.max_instance 8)))

-- A hub's record as it is when the hub is made with counts that fit.
pub record NewHub (size : Size) (hub : Hub) : Type 0 where
  pub fits : counts_fit size ≡ true
  pub as_asked : size_of hub ≡ size
  pub runs : hub.state ≡ Running
  pub no_losses : hub.losses ≡ 0
  pub no_steps : hub.steps ≡ 0

-- There is one move and one record for each command, and one record and one register for each card.
abbrev pub one_each : (n s moves commands masters master_registers backups backup_registers : ℕ) → Bool
one_each n s moves commands masters master_registers backups backup_registers =
    (moves == n) && lengths_fit n s commands masters master_registers backups backup_registers

abbrev pub all_lengths_fit : {R : Type 0} → Size → List ℤ → Lent R → Bool
all_lengths_fit size moves t =
    one_each size.client_num size.max_instance (length moves) (length t.of_commands) (length t.of_masters) (length t.of_master_registers) (length t.of_backups) (length t.of_backup_registers)

-- A move is at most ninety degrees either way.
abbrev pub move_fits : ℤ → Bool
move_fits move = nat_le (unsigned_abs move) 9000

-- The number of the first move that does not fit, where the numbers begin at `n`.
unfoldable pub first_outside : ℕ → List ℤ → Option ℕ
first_outside n [] = None
first_outside n (move ∷ moves) = cond (move_fits move) (first_outside (suc n) moves) (Some n)

-- A move that does not fit is the cause, under its command's number.
abbrev pub by_move : Option ℕ → Option Refusal
by_move None = None
by_move (Some command) = Some (MoveOutsideLimits command)

-- The cause for which making is denied, or none: the counts are looked at first, then the lengths, then the moves.
abbrev pub cause : {R : Type 0} → Size → List ℤ → Lent R → Option Refusal
cause size moves t =
    cond (counts_fit size) (cond (all_lengths_fit size moves t) (by_move (first_outside 1 moves)) (Some WrongTableLength)) (Some CountOutsideLimits)

-- The hub and the tables are as a run of this size with these moves begins, and the limits of a run are kept. What counts
-- of a register are its figures: `figures` gives those of any register, and `start` are those of an empty one.
pub record Begins {R : Type 0} (figures : R → List ℤ) (start : List ℤ) (size : Size) (moves : List ℤ) (t : Lent R) (hub : Hub) : Type 0 where
  pub its_size : size_of hub ≡ size
  pub its_state : state_of hub t.of_commands t.of_masters t.of_backups (map figures t.of_master_registers) (map figures t.of_backup_registers) ≡ made size start moves
  pub its_limits : Limits size moves

-- The hub and the tables are as a run of this size with these moves begins, and from here on every list of calls is such a
-- run: what is promised of runs holds. `figures` gives the figures of any register, `start` are those of an empty one, and
-- `rule` says how a move changes them.
pub record BeginsRun {R : Type 0} (figures : R → List ℤ) (start : List ℤ) (rule : Rule) (size : Size) (moves : List ℤ) (t : Lent R) (hub : Hub) : Type 0 where
  pub its_size : size_of hub ≡ size
  pub its_state : state_in figures hub t ≡ made size start moves
  pub its_run : AfterCalls start rule size moves [] (state_in figures hub t)

-- With a cause, that is the answer and every table is as it was; with none, the answer is a hub that begins.
abbrev pub Follows : {R : Type 0} → Option Refusal → (Lent R → Hub → Type 0) → Lent R → Result Hub Refusal → Lent R → Type 0
Follows (Some refusal) begins before r after = (r ≡ Err refusal) × (after ≡ before)
Follows None begins before r after = MatchResult r (begins after) (λ _. ⊥)

-- What making answers and leaves in the tables.
abbrev pub Makes : {R : Type 0} → (R → List ℤ) → List ℤ → Size → List ℤ → Lent R → Result Hub Refusal → Lent R → Type 0
Makes figures start size moves before r after = Follows (cause size moves before) (Begins figures start size moves) before r after

-- What making answers and leaves in the tables, and that a run begins with it.
abbrev pub MakesRun : {R : Type 0} → (R → List ℤ) → List ℤ → Rule → Size → List ℤ → Lent R → Result Hub Refusal → Lent R → Type 0
MakesRun figures start rule size moves before r after = Follows (cause size moves before) (BeginsRun figures start rule size moves) before r after
