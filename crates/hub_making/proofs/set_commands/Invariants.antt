-- The commands so far are fresh.
use Rattle.std.proofs.Common.{◌≡◌, map, take}
use Rattle.hub_runs.specs.Runs.{fresh}
use Rattle.hub_making.proofs.set_commands.Given as goal

abbrev pub invariant-loop-i : goal.invariant-loop-i
invariant-loop-i l = take l.i l.table ≡ map fresh (take l.i l.moves)
