-- What the lines so far have told is in the header's record, and the rest of the journal decides the rest.
use Rattle.std.proofs.Common.{◌≡◌, ◌-◌, length}
use Rattle.replay.specs.Header.{Heads}
use Rattle.replay.specs.Replaying.{replay_of, replay_rest}
use Rattle.replay.specs.Told.{Told}
use Rattle.replay.proofs.header.Header.read.Given as goal

abbrev pub invariant-loop-reader : goal.invariant-loop-reader
invariant-loop-reader g l =
    let start = g.R.Register.start in
    let rule = g.R.Register.rule in
    let accepts = l.initial.reader.accepts in
    let text = l.initial.reader.text.now in
    record {
      same : (l.reader.text ≡ l.initial.reader.text) × (l.reader.accepts ≡ accepts);
      told : (t : Told) × Heads l.header t × (l.reader.commands ≡ t.commands) × (replay_of accepts start rule text ≡ replay_rest accepts start rule text l.reader.place t);
    }

abbrev pub decreases-loop-reader : goal.decreases-loop-reader
decreases-loop-reader g l = length l.reader.text.now - l.reader.place.at
