-- The causes 7 and 8 are tested here; what is carried out is then what the model goes on to.
use Rattle.std.proofs.Common.{◌≡◌, true, false, refl, arith, rules}
use Rattle.std.proofs.lemmas.Result.{err_from_is_err_and}
use Rattle.std.proofs.lemmas.Grind.{common_steps}
use Rattle.refusals.specs.declared.Refusal.TheVariants.{LossesUsedUp, NoSuchCommand}
use Rattle.actions.specs.Letters.{is_loss}
use Rattle.hub_runs.specs.Judging.{is_numbered, may_lose}
use Rattle.hub_runs.specs.States.{size_of}
use Rattle.hub_steps.specs.Counting.{in_order}
use Rattle.hub_steps.specs.Held.{state_held}
use Rattle.hub_steps.proofs.Judged.{allowed, denied_so, losses_used_up, not_numbered, then_counted}
use Rattle.hub_steps.proofs.stepping.step_under.Goals as goal
use Rattle.hub_steps.proofs.stepping.step_under.Goals.{then-is_loss, else-is_loss}

pub returns-then-not-is_numbered-clause-answered : goal.returns-then-not-is_numbered-clause-answered
returns-then-not-is_numbered-clause-answered g c =
    let s = state_held g.R.Register.figures c.args.hub.now c.args.tables.now in
    let no : is_numbered (size_of c.args.hub.now) c.args.action c.args.command ≡ false = search rules in
    denied_so (Unit {0}) _ s s NoSuchCommand (not_numbered (size_of c.args.hub.now) g.R.Register.rule c.args.action c.args.command s no) refl

pub returns-then-not-may_lose-clause-answered : goal.returns-then-not-may_lose-clause-answered
returns-then-not-may_lose-clause-answered g c =
    let s = state_held g.R.Register.figures c.args.hub.now c.args.tables.now in
    let numbered : is_numbered (size_of c.args.hub.now) c.args.action c.args.command ≡ true = search rules in
    let no : may_lose (size_of c.args.hub.now) c.args.action c.args.hub.now.losses ≡ false = search rules in
    denied_so (Unit {0}) _ s s LossesUsedUp (losses_used_up (size_of c.args.hub.now) g.R.Register.rule c.args.action c.args.command s numbered no) refl

pub returns-in_err-carry_out-clause-answered : goal.returns-in_err-carry_out-clause-answered
returns-in_err-carry_out-clause-answered g c =
    let s = state_held g.R.Register.figures c.args.hub.now c.args.tables.now in
    let numbered : is_numbered (size_of c.args.hub.now) c.args.action c.args.command ≡ true = search rules in
    let lose : may_lose (size_of c.args.hub.now) c.args.action c.args.hub.now.losses ≡ true = search rules in
    let is = allowed (size_of c.args.hub.now) g.R.Register.rule c.args.action c.args.command s numbered lose in
    let p = err_from_is_err_and c.from_residual.result c.from_residual.ensures.1 in
    rw (p.1, p.2, is) c.in_err-carry_out.ensures.answered

pub returns-clause-answered : goal.returns-clause-answered
returns-clause-answered g c =
    let s = state_held g.R.Register.figures c.args.hub.now c.args.tables.now in
    let numbered : is_numbered (size_of c.args.hub.now) c.args.action c.args.command ≡ true = search rules in
    let lose : may_lose (size_of c.args.hub.now) c.args.action c.args.hub.now.losses ≡ true = search rules in
    let is = allowed (size_of c.args.hub.now) g.R.Register.rule c.args.action c.args.command s numbered lose in
    let s' = state_held g.R.Register.figures c.carry_out.new.hub c.carry_out.new.tables in
    rw is
    (then_counted {T = Unit {0}} tt (in_order (size_of c.args.hub.now) g.R.Register.rule c.args.action c.args.command s) s s' (is_loss c.args.action) _ (elim c.if-is_loss.branch [ then-is_loss w ↦ grind (arith, common_steps) | else-is_loss w ↦ grind (arith, common_steps) ]) c.in_ok-carry_out.ensures.answered)
