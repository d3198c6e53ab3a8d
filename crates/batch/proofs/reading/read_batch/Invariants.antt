use Rattle.std.proofs.Common.{◌≡◌, ◌-◌, length}
use Rattle.journal.specs.declared.kinds.Accepted.TheVariants.{AnyNamed}
use Rattle.batch.specs.Holds.{Holds, AtMost}
use Rattle.batch.specs.Reading.{told_by}
use Rattle.batch.specs.Told.{Told}
use Rattle.batch.proofs.Progress.{told_rest}
use Rattle.batch.proofs.reading.read_batch.Given as goal

abbrev pub invariant-loop-line : goal.invariant-loop-line
invariant-loop-line g l =
    let kind = g.R.Register in
    (l.reader.text.now ≡ l.journal) × (l.reader.accepts ≡ AnyNamed) × AtMost l.reader.place.at l.batch.letters
    × ((told : Told) × Holds kind.figures kind.start kind.rule l.batch told × (l.reader.commands ≡ told.commands) × (told_by l.journal ≡ told_rest l.journal l.reader.place told))

abbrev pub decreases-loop-line : goal.decreases-loop-line
decreases-loop-line g l = length l.reader.text.now - l.reader.place.at
