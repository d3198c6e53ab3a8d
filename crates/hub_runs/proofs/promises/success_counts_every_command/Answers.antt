use Rattle.hub_runs.proofs.Lawful.{lawful}
use Rattle.hub_runs.proofs.Promised.{success_counts_every_command}
use Rattle.hub_runs.proofs.promises.success_counts_every_command.Goals as goal

pub returns : goal.returns
returns g c =
    let kind = g.R.Register in
    let laws = g.met.R.Register in
    success_counts_every_command kind.start kind.rule (lawful kind.start kind.rule kind.ours laws.begins laws.keeps laws.commutes)
