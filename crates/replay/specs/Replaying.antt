-- Replaying a journal: line after line, until it ends, a line is refused, or the hub refuses a step.
use Rattle.std.specs.Prelude.{ℕ, ◌+◌, cond, List, length, drop, ℤ, Some, None, Ok, Err, Option, Result, nat_le}
use Rattle.refusals.specs.declared.Refusal.{Refusal}
use Rattle.refusals.specs.declared.Refusal.TheVariants.{JournalTooLong, LineNotDue}
use Rattle.registers.specs.Kind.{Rule}
use Rattle.journal.specs.Outcomes.{Outcome, accepted, finished, refused, next_outcome}
use Rattle.journal.specs.Rows.{Rows, end, cut, row, rows_of}
use Rattle.journal.specs.declared.place.Place.{Place}
use Rattle.journal.specs.declared.kinds.Accepted.{Accepted}
use Rattle.replay.specs.Told.{Told, is_made, nothing_told, noted}

-- What was told until the replay stopped, and why it stopped; no reason where the journal has come to its end.
pub record Replay : Type 0 where
  pub told : Told
  pub ending : Option Refusal

abbrev pub stopped : Told → Refusal → Replay
stopped t refusal = record { told = t; ending = Some refusal }

-- At the end of the journal the hub is made.
abbrev pub ended : ℕ → Told → Replay
ended line t = cond (is_made t) (record { told = t; ending = None }) (stopped t (LineNotDue line))

abbrev pub after_noted : Told → Result Told Refusal → (Told → Replay) → Replay
after_noted t (Ok more) next = next more
after_noted t (Err refusal) next = stopped t refusal

module _ (accepts : Accepted) (start : List ℤ) (rule : Rule) where
  abbrev pub after_outcome : ℕ → Told → Outcome → (Told → Replay) → Replay
  after_outcome line t (accepted entry) next = after_noted t (noted start rule line t entry) next
  after_outcome line t finished next = ended line t
  after_outcome line t (refused refusal) next = stopped t refusal

  -- From the line of this number on, of which these rows are left.
  unfoldable pub replay_from : ℕ → Told → Rows → Replay
  replay_from line t end = after_outcome line t (next_outcome accepts t.commands line end) (λ more. ended line more)
  replay_from line t cut = after_outcome line t (next_outcome accepts t.commands line cut) (λ more. ended line more)
  replay_from line t (row bytes rest) = after_outcome line t (next_outcome accepts t.commands line (row bytes rest)) (λ more. replay_from (line + 1) more rest)

  -- From a place in the journal's bytes, of which there may be 65536 at most.
  unfoldable pub replay_rest : List ℕ → Place → Told → Replay
  replay_rest text place t = cond (nat_le (length text) 65536) (replay_from place.line t (rows_of (drop place.at text))) (stopped t JournalTooLong)

  -- The whole journal.
  abbrev pub replay_of : List ℕ → Replay
  replay_of text = replay_rest text (record { at = 0; line = 1 }) nothing_told
