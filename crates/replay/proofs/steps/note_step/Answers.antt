use Rattle.std.proofs.Common.{rules}
use Rattle.hub_runs.specs.States.{held}
use Rattle.replay.proofs.StepLines.{step_told}
use Rattle.replay.proofs.steps.note_step.Goals as goal

pub returns-clause-noted : goal.returns-clause-noted
returns-clause-noted g c t stands =
    rw c.in-Step.is (step_told c.args.hub.now c.step.new.hub (held c.args.tables.now) (held c.step.new.tables) t c.in-Step.action c.in-Step.command c.args.at stands c.step.ensures.size c.into.result c.step.result c.map_err.result c.into.ensures c.step.ensures.steps (search rules))
