use Rattle.hub_runs.proofs.Lawful.{lawful}
use Rattle.hub_runs.proofs.Promised.{every_run_keeps_its_promises}
use Rattle.hub_runs.proofs.promises.every_run_keeps_its_promises.Goals as goal

pub returns : goal.returns
returns g c =
    let kind = g.R.Register in
    let laws = g.met.R.Register in
    every_run_keeps_its_promises kind.start kind.rule (lawful kind.start kind.rule kind.ours laws.begins laws.keeps laws.commutes)
