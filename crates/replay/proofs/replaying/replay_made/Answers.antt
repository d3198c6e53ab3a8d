use Rattle.std.proofs.Common.{Ok, Err, ◌∙◌}
use Rattle.std.proofs.lemmas.Result.{err_from_is_err_and}
use Rattle.hub_runs.specs.States.{held}
use Rattle.replay.proofs.MadeHubs.{made_hub}
use Rattle.replay.proofs.replaying.replay_made.Goals as goal

pub returns-clause-played : goal.returns-clause-played
returns-clause-played g c t heads made fitted known =
    let kind = g.R.Register in
    let stands = made_hub kind.figures kind.start kind.rule c.args.header.now t (held c.args.tables.now) (held c.make.new.tables) heads made fitted _ (Ok c.in_ok-hub.hub) (c.as_slice.ensures.value ∙ heads.moves) c.in_ok-hub.ensures.run in
    c.in_ok-replay_steps.ensures.read t stands known

pub returns-in_err-replay_steps-clause-played : goal.returns-in_err-replay_steps-clause-played
returns-in_err-replay_steps-clause-played g c t heads made fitted known =
    let kind = g.R.Register in
    let stands = made_hub kind.figures kind.start kind.rule c.args.header.now t (held c.args.tables.now) (held c.make.new.tables) heads made fitted _ (Ok c.in_ok-hub.hub) (c.as_slice.ensures.value ∙ heads.moves) c.in_ok-hub.ensures.run in
    let read = c.in_err-replay_steps.ensures.read t stands known in
    let p = err_from_is_err_and c.from_residual-in_err-replay_steps.result c.from_residual-in_err-replay_steps.ensures.1 in
    rw (p.1, p.2) (read.0, c.replay_steps.new.hub, read.1, read.2)

pub returns-in_err-hub-clause-played : goal.returns-in_err-hub-clause-played
returns-in_err-hub-clause-played g c t heads made fitted known =
    let kind = g.R.Register in
    absurd (made_hub kind.figures kind.start kind.rule c.args.header.now t (held c.args.tables.now) (held c.make.new.tables) heads made fitted _ (Err c.in_err-hub.field-0.0) (c.as_slice.ensures.value ∙ heads.moves) c.in_err-hub.ensures.run)
