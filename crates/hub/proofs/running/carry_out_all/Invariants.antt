-- The calls so far have taken every run on, and the slices are the same.
use Rattle.std.proofs.Common.{◌≡◌, map, take}
use Rattle.hub_runs.specs.States.{SameSlices, held, size_of, state_in}
use Rattle.hub.specs.Calls.{call_of, reply_of}
use Rattle.hub.specs.Running.{CarryOn}
use Rattle.hub.proofs.running.carry_out_all.Given as goal

abbrev pub invariant-loop-i : goal.invariant-loop-i
invariant-loop-i g l =
    let kind = g.R.Register in
    record {
      size : size_of l.hub ≡ size_of l.initial.hub;
      carried : CarryOn kind.start kind.rule (size_of l.initial.hub) (state_in kind.figures l.initial.hub (held l.initial.tables)) (map call_of (take l.i l.calls)) (map reply_of (take l.i l.answers)) (state_in kind.figures l.hub (held l.tables));
      slices : SameSlices l.initial.tables l.tables;
    }
