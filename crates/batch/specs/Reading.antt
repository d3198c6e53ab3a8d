-- Reading a whole journal: line after line, until it ends or a line is refused.
use Rattle.std.specs.Prelude.{ℕ, ◌+◌, cond, List, length, Ok, Err, Result, nat_le}
use Rattle.refusals.specs.declared.Refusal.{Refusal}
use Rattle.refusals.specs.declared.Refusal.TheVariants.{JournalTooLong}
use Rattle.journal.specs.Outcomes.{Outcome, accepted, finished, refused, next_outcome}
use Rattle.journal.specs.Rows.{Rows, end, cut, row, rows_of}
use Rattle.journal.specs.Values.{Entry}
use Rattle.journal.specs.declared.kinds.Accepted.TheVariants.{AnyNamed}
use Rattle.batch.specs.Told.{Told, nothing_told, with_entry}

abbrev pub after_outcome : Outcome → Told → (Entry → Result Told Refusal) → Result Told Refusal
after_outcome (accepted entry) told more = more entry
after_outcome finished told more = Ok told
after_outcome (refused refusal) told more = Err refusal

-- What is told by the rows from the line of this number on, after what was told before it.
unfoldable pub told_from : ℕ → Told → Rows → Result Told Refusal
told_from line told end = after_outcome (next_outcome AnyNamed told.commands line end) told (λ entry. Ok (with_entry told entry))
told_from line told cut = after_outcome (next_outcome AnyNamed told.commands line cut) told (λ entry. Ok (with_entry told entry))
told_from line told (row bytes rest) =
    after_outcome (next_outcome AnyNamed told.commands line (row bytes rest)) told (λ entry. told_from (line + 1) (with_entry told entry) rest)

-- What a journal tells, or why it is refused.
unfoldable pub told_by : List ℕ → Result Told Refusal
told_by text = cond (nat_le (length text) 65536) (told_from 1 nothing_told (rows_of text)) (Err JournalTooLong)
