use Rattle.hub_runs.proofs.WorkedRuns.{worked_runs}
use Rattle.hub_runs.proofs.model.worked_runs_hold.Goals as goal

pub returns : goal.returns
returns c = worked_runs
