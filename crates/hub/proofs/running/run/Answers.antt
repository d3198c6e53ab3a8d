-- A hub that is made is taken on by all calls.
use Rattle.hub_runs.specs.States.{held}
use Rattle.hub_making.specs.Making.{asked}
use Rattle.hub.proofs.RunDone.{ran}
use Rattle.hub.proofs.running.run.Goals as goal

pub returns-clause-runs : goal.returns-clause-runs
returns-clause-runs g c =
    let kind = g.R.Register in
    let args = c.args in
    let size = asked args.counts in
    ran kind.figures kind.start kind.rule size args.moves.now args.calls.now (held args.tables.now) args.answers.now _ c.counts_fit.ensures c.else-counts_fit.either
    c.in_ok-hub.hub c.carry_out_all.new.hub (held c.make.new.tables) (held c.carry_out_all.new.tables) c.carry_out_all.new.answers c.in_ok-hub.ensures.run c.carry_out_all.ensures.size c.carry_out_all.ensures.carried
