use Rattle.hub_runs.proofs.WorkedRuns.{shortcuts_miscount}
use Rattle.hub_runs.proofs.model.shortcuts_miscount.Goals as goal

pub returns : goal.returns
returns c = shortcuts_miscount
