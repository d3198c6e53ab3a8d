-- What reading the next line comes to.
use Rattle.std.specs.Prelude.{◌≡◌, ℕ, ◌+◌, Bool, true, false, cond, ◌&&◌, List, ◌∷◌, ◌++◌, length, drop, Some, None, Ok, Err, Option, Result, nat_le}
use Rattle.refusals.specs.declared.Refusal.{Refusal}
use Rattle.refusals.specs.declared.Refusal.TheVariants.{JournalTooLong, LineNotDue, ValueNotAllowed}
use Rattle.journal.specs.Rows.{Rows, end, cut, row, rows_of, after_front}
use Rattle.journal.specs.Keys.{front_of, due_key, may_end}
use Rattle.journal.specs.Values.{Entry, commands, kills, cards, register, move, step, entry_written}
use Rattle.journal.specs.Lines.{entry_of, value_of, Sound}
use Rattle.journal.specs.declared.keys.Key.{Key}
use Rattle.journal.specs.declared.lines.Line.{Line}
use Rattle.journal.specs.declared.lines.Part.{Part}
use Rattle.journal.specs.declared.place.Place.{Place}
use Rattle.journal.specs.declared.kinds.Accepted.{Accepted}

pub data Outcome : Type 0 where
  accepted : Entry → Outcome
  finished : Outcome  -- the journal is at its end, where it may end
  refused : Refusal → Outcome

-- The value of the first row, if the row stands under this key.
abbrev pub value_at : Key → Rows → Option (List ℕ)
value_at key end = None
value_at key cut = None
value_at key (row bytes rest) = after_front (front_of key) bytes

abbrev pub by_entry : ℕ → Option Entry → Outcome
by_entry line None = refused (ValueNotAllowed line)
by_entry line (Some entry) = accepted entry

abbrev pub by_value : Accepted → Key → ℕ → Option (List ℕ) → Outcome
by_value accepts key line None = refused (LineNotDue line)
by_value accepts key line (Some value) = by_entry line (entry_written accepts key value)

-- The line of this number, where this key is due.
unfoldable pub line_outcome : Accepted → Key → ℕ → Rows → Outcome
line_outcome accepts key line rows = by_value accepts key line (value_at key rows)

abbrev pub is_end : Rows → Bool
is_end end = true
is_end cut = false
is_end (row bytes rest) = false

-- What comes next in a journal of which these rows are left, where the line of this number is the next.
abbrev pub next_outcome : Accepted → ℕ → ℕ → Rows → Outcome
next_outcome accepts known line rows =
    cond (may_end (due_key line known) && is_end rows) finished (line_outcome accepts (due_key line known) line rows)

-- The same from a place in the journal's bytes, of which there may be 65536 at most.
unfoldable pub outcome_at : Accepted → ℕ → Place → List ℕ → Outcome
outcome_at accepts known place text =
    cond (nat_le (length text) 65536) (next_outcome accepts known place.line (rows_of (drop place.at text))) (refused JournalTooLong)

abbrev pub next_result : Result (Option Line) Refusal → Outcome
next_result (Ok None) = finished
next_result (Ok (Some line)) = accepted (entry_of line)
next_result (Err refusal) = refused refusal

-- The number of commands is known from its line on.
abbrev pub commands_after : ℕ → Entry → ℕ
commands_after known (commands n) = n
commands_after known (kills n) = known
commands_after known (cards n) = known
commands_after known (register kind) = known
commands_after known (move z) = known
commands_after known (step action c) = known

-- How many bytes a line has, its line feed included.
abbrev pub line_length : Key → List ℕ → ℕ
line_length key value = length (front_of key) + length value + 1

-- What a call that takes the due line comes to.
abbrev pub result_outcome : Result Line Refusal → Outcome
result_outcome (Ok line) = accepted (entry_of line)
result_outcome (Err refusal) = refused refusal

-- A line under the key, with this value, stands at the front of the bytes.
pub record Stands (key : Key) (bytes value : List ℕ) : Type 0 where
  pub written : bytes ≡ front_of key ++ (value ++ (10 ∷ drop (line_length key value) bytes))
  pub rows : rows_of bytes ≡ row (front_of key ++ value) (rows_of (drop (line_length key value) bytes))

-- A line that was handed out: it stands at `before`, its parts where they say, and the next line starts at `after`.
pub record Passed (text : List ℕ) (key : Key) (before after : Place) (value : Part) : Type 0 where
  pub stands : Stands key (drop before.at text) value.text.now
  pub place : value.at ≡ before.at + length (front_of key)
  pub next : after.at ≡ before.at + line_length key value.text.now
  pub counted : after.line ≡ before.line + 1

-- Where a reader is: its place, and how many commands the journal has told of.
abbrev pub Moves : Result (Option Line) Refusal → List ℕ → (before after : Place) → (known known' : ℕ) → Type 0
Moves (Ok None) text before after known known' = (after ≡ before) × (known' ≡ known)
Moves (Ok (Some line)) text before after known known' =
    Passed text (due_key before.line known) before after (value_of line) × Sound line × (known' ≡ commands_after known (entry_of line))
Moves (Err refusal) text before after known known' = (after ≡ before) × (known' ≡ known)
