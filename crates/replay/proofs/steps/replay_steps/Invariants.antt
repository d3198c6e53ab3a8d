-- The hub stands as the lines so far have told, and the rest of the journal decides the rest.
use Rattle.std.proofs.Common.{◌≡◌, ◌-◌, length}
use Rattle.hub_runs.specs.States.{SameSlices, held}
use Rattle.replay.specs.Replaying.{replay_rest}
use Rattle.replay.specs.Standing.{Stands}
use Rattle.replay.specs.Told.{Told}
use Rattle.replay.proofs.steps.replay_steps.Given as goal

abbrev pub invariant-loop-line : goal.invariant-loop-line
invariant-loop-line g l =
    let kind = g.R.Register in
    let accepts = l.initial.reader.accepts in
    let text = l.initial.reader.text.now in
    record {
      slices : SameSlices l.initial.tables l.tables;
      same : (l.reader.text ≡ l.initial.reader.text) × (l.reader.accepts ≡ accepts);
      told : (t : Told)
          → Stands kind.figures kind.start kind.rule l.initial.hub (held l.initial.tables) t
          → l.initial.reader.commands ≡ t.commands
          → (more : Told)
          × Stands kind.figures kind.start kind.rule l.hub (held l.tables) more
          × (l.reader.commands ≡ more.commands)
          × (replay_rest accepts kind.start kind.rule text l.initial.reader.place t ≡ replay_rest accepts kind.start kind.rule text l.reader.place more);
    }

abbrev pub decreases-loop-line : goal.decreases-loop-line
decreases-loop-line g l = length l.reader.text.now - l.reader.place.at
