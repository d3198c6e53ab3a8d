-- What the lines of a journal have told so far, and how each line adds to it.
use Rattle.std.specs.Prelude.{ℕ, Bool, cond, ◌&&◌, List, [], ◌∷◌, ◌++◌, length, ℤ, Ok, Err, Result, ◌==◌, nat_le, nat_lt}
use Rattle.refusals.specs.declared.Refusal.{Refusal}
use Rattle.refusals.specs.declared.Refusal.TheVariants.{LineNotDue, StepDenied}
use Rattle.registers.specs.Kind.{Rule}
use Rattle.actions.specs.Letters.{letter_of}
use Rattle.hub_runs.specs.Hubs.{Size, State}
use Rattle.hub_runs.specs.Judging.{Answer, denied, moved}
use Rattle.hub_runs.specs.Judging as judging
use Rattle.hub_runs.specs.Runs.{Call, step_call, run_of}
use Rattle.journal.specs.Values.{Entry, commands, kills, cards, register, move, step}

-- The three counts of the hub, the moves in the order of the commands' numbers, and the steps that the hub accepted.
pub record Told : Type 0 where
  pub commands : ℕ
  pub kills : ℕ
  pub cards : ℕ
  pub moves : List ℤ
  pub calls : List Call

-- Before the first line. A role has one card at least, so that is what stands here until its number is told.
abbrev pub nothing_told : Told
nothing_told = record { commands = 0; kills = 0; cards = 1; moves = []; calls = [] }

-- The hub is made once each command has its move.
abbrev pub is_made : Told → Bool
is_made t = nat_le 1 t.commands && length t.moves == t.commands

abbrev pub size_told : Told → Size
size_told t = record { client_num = t.commands; max_kill = t.kills; max_instance = t.cards }

-- How the hub stands: in the run of the accepted steps.
abbrev pub state_told : List ℤ → Rule → Told → State
state_told start rule t = (run_of (size_told t) start rule t.moves t.calls).state

abbrev pub with_call : Told → Call → Told
with_call t call = record { commands = t.commands; kills = t.kills; cards = t.cards; moves = t.moves; calls = t.calls ++ (call ∷ []) }

-- A line before the hub is made. No step is due there, nor a move for which there is no command.
abbrev pub head_noted : ℕ → Told → Entry → Result Told Refusal
head_noted line t (commands n) = Ok (record { commands = n; kills = t.kills; cards = t.cards; moves = t.moves; calls = t.calls })
head_noted line t (kills n) = Ok (record { commands = t.commands; kills = n; cards = t.cards; moves = t.moves; calls = t.calls })
head_noted line t (cards n) = Ok (record { commands = t.commands; kills = t.kills; cards = n; moves = t.moves; calls = t.calls })
head_noted line t (register kind) = Ok t
head_noted line t (move z) = cond (nat_lt (length t.moves) t.commands) (Ok (record { commands = t.commands; kills = t.kills; cards = t.cards; moves = t.moves ++ (z ∷ []); calls = t.calls })) (Err (LineNotDue line))
head_noted line t (step action c) = Err (LineNotDue line)

-- The hub's answer to the step of this line.
abbrev pub by_answer : ℕ → Told → Call → Answer → Result Told Refusal
by_answer line t call (denied n) = Err (StepDenied line)
by_answer line t call (moved s) = Ok (with_call t call)

-- A line once the hub is made: only steps are due.
abbrev pub step_noted : List ℤ → Rule → ℕ → Told → Entry → Result Told Refusal
step_noted start rule line t (commands n) = Err (LineNotDue line)
step_noted start rule line t (kills n) = Err (LineNotDue line)
step_noted start rule line t (cards n) = Err (LineNotDue line)
step_noted start rule line t (register kind) = Err (LineNotDue line)
step_noted start rule line t (move z) = Err (LineNotDue line)
step_noted start rule line t (step action c) = by_answer line t (step_call (letter_of action) c) (judging.step (size_told t) rule (letter_of action) c (state_told start rule t))

-- What is told after the line of this number, or why the replay stops there.
abbrev pub noted : List ℤ → Rule → ℕ → Told → Entry → Result Told Refusal
noted start rule line t entry = cond (is_made t) (step_noted start rule line t entry) (head_noted line t entry)
