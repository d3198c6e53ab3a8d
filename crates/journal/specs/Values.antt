-- What the value of a line must look like, and what it says.
use Rattle.std.specs.Prelude.{ℕ, Bool, true, cond, List, [], ◌∷◌, ℤ, pos, neg_ℤ, Some, None, codes, Option, ◌==◌}
use Rattle.std.specs.Option.{option_map}
use Rattle.std.specs.Str.{bytes_eq}
use Rattle.actions.specs.Letters.{action_of, is_of_command}
use Rattle.actions.specs.declared.Action.{Action}
use Rattle.registers.specs.Numbers.{code_of}
use Rattle.journal.specs.Numbers.{is_empty, number_up_to, number_between}
use Rattle.journal.specs.declared.keys.Key.{Key}
use Rattle.journal.specs.declared.keys.Key.TheVariants.{Commands, Kills, Cards, Register, Move, Step}
use Rattle.journal.specs.declared.kinds.Accepted.{Accepted}
use Rattle.journal.specs.declared.kinds.Accepted.TheVariants.{AnyNamed, Only}

-- What one line says.
pub data Entry : Type 0 where
  commands : ℕ → Entry  -- how many commands the hub has
  kills : ℕ → Entry  -- how many losses it is rated for
  cards : ℕ → Entry  -- how many card places each role has
  register : ℕ → Entry  -- the number of the register's kind
  move : ℤ → Entry  -- a move in hundredths of a degree
  step : Action → ℕ → Entry  -- an action with its command's number, 0 where it is of no command

-- The kind of register that a name stands for: 1 for the sum, 2 for the classes, 3 for the peak.
abbrev pub kind_named : List ℕ → Option ℕ
kind_named text = cond (bytes_eq text (codes "sum")) (Some 1) (cond (bytes_eq text (codes "classes")) (Some 2) (cond (bytes_eq text (codes "peak")) (Some 3) None))

-- Whether a reader takes a journal of this kind of register.
abbrev pub is_accepted : Accepted → ℕ → Bool
is_accepted AnyNamed kind = true
is_accepted (Only wanted) kind = code_of wanted == kind

abbrev pub if_accepted : Accepted → Option ℕ → Option ℕ
if_accepted accepts None = None
if_accepted accepts (Some kind) = cond (is_accepted accepts kind) (Some kind) None

-- A move: at most 9000 hundredths of a degree either way; a minus stands only before one below 0.
abbrev pub move_written : List ℕ → Option ℤ
move_written [] = None
move_written (b ∷ bs) = cond (b == 45) (option_map (λ n. neg_ℤ (pos n)) (number_between 1 9000 bs)) (option_map pos (number_up_to 9000 (b ∷ bs)))

-- A step: one letter, and then the number of the command it is of, 1 to 64, or nothing.
abbrev pub command_written : Action → List ℕ → Option ℕ
command_written action text = cond (is_of_command action) (number_between 1 64 text) (cond (is_empty text) (Some 0) None)

abbrev pub step_with : Option Action → List ℕ → Option Entry
step_with None rest = None
step_with (Some action) rest = option_map (step action) (command_written action rest)

abbrev pub step_written : List ℕ → Option Entry
step_written [] = None
step_written (letter ∷ rest) = step_with (action_of letter) rest

-- What the value under a key says, if it has the form of that key and keeps its limits.
abbrev pub entry_written : Accepted → Key → List ℕ → Option Entry
entry_written accepts Commands text = option_map commands (number_between 1 64 text)
entry_written accepts Kills text = option_map kills (number_up_to 7 text)
entry_written accepts Cards text = option_map cards (number_between 1 8 text)
entry_written accepts Register text = option_map register (if_accepted accepts (kind_named text))
entry_written accepts Move text = option_map move (move_written text)
entry_written accepts Step text = step_written text
