-- The causes 5 and 6 are tested here, on tables that fit.
use Rattle.std.proofs.Common.{◌≡◌, true, false, Some, None, ap, sym, ◌∙◌, refl, arith, rules}
use Rattle.std.proofs.lemmas.Grind.{common_steps}
use Rattle.refusals.specs.Refusals.{number_of}
use Rattle.refusals.specs.declared.Refusal.TheVariants.{HubFinished, UnknownLetter}
use Rattle.std.proofs.lemmas.Result.{err_from_is_err_and}
use Rattle.actions.specs.Letters.{action_of}
use Rattle.hub_runs.specs.Judging.{denied, is_running}
use Rattle.hub_runs.specs.States.{size_of}
use Rattle.hub_steps.specs.Held.{state_held}
use Rattle.hub_steps.proofs.Fitted.{fits_by_view, fitting}
use Rattle.hub_steps.proofs.Judged.{denied_so, finished, under, unknown}
use Rattle.hub_steps.proofs.stepping.answer_step.Goals as goal

pub returns-then-not-is_running-clause-answered : goal.returns-then-not-is_running-clause-answered
returns-then-not-is_running-clause-answered g c =
    let s = state_held g.R.Register.figures c.args.hub.now c.args.tables.now in
    let fits = fits_by_view g.R.Register.figures c.args.hub.now c.args.tables.now c.view.result true c.view.ensures (sym c.if-not-fit.false ∙ c.fit.ensures) in
    let still : is_running c.args.hub.now.state ≡ false = search rules in
    denied_so (Unit {0}) _ s s HubFinished (finished (size_of c.args.hub.now) g.R.Register.rule c.args.letter c.args.command s fits still) refl

pub returns-in_err-action-clause-answered : goal.returns-in_err-action-clause-answered
returns-in_err-action-clause-answered g c =
    let s = state_held g.R.Register.figures c.args.hub.now c.args.tables.now in
    let fits = fits_by_view g.R.Register.figures c.args.hub.now c.args.tables.now c.view.result true c.view.ensures (sym c.if-not-fit.false ∙ c.fit.ensures) in
    let runs : is_running c.args.hub.now.state ≡ true = search rules in
    let no : action_of c.args.letter ≡ None = grind (arith, common_steps, c.in_err-action.ensures.variant, c.in_err-action.ensures.cases) in
    let p = err_from_is_err_and c.from_residual.result c.from_residual.ensures.1 in
    let e : p.0 ≡ UnknownLetter = grind (arith, common_steps, c.in_err-action.ensures.variant, c.in_err-action.ensures.cases) in
    rw p.1 (denied_so (Unit {0}) _ s s p.0 (unknown (size_of c.args.hub.now) g.R.Register.rule c.args.letter c.args.command s fits runs no ∙ ap (λ x. denied (number_of x)) (sym e)) refl)

pub step_under-requires : goal.step_under-requires
step_under-requires g c =
    let s = state_held g.R.Register.figures c.args.hub.now c.args.tables.now in
    let fits = fits_by_view g.R.Register.figures c.args.hub.now c.args.tables.now c.view.result true c.view.ensures (sym c.if-not-fit.false ∙ c.fit.ensures) in
    record { fitting = fitting (size_of c.args.hub.now) s fits }

pub returns-clause-answered : goal.returns-clause-answered
returns-clause-answered g c =
    let s = state_held g.R.Register.figures c.args.hub.now c.args.tables.now in
    let fits = fits_by_view g.R.Register.figures c.args.hub.now c.args.tables.now c.view.result true c.view.ensures (sym c.if-not-fit.false ∙ c.fit.ensures) in
    let runs : is_running c.args.hub.now.state ≡ true = search rules in
    let known : action_of c.args.letter ≡ Some c.in_ok-action.action = grind (arith, common_steps, c.in_ok-action.ensures.variant, c.in_ok-action.ensures.cases) in
    rw (under (size_of c.args.hub.now) g.R.Register.rule c.args.letter c.args.command s c.in_ok-action.action fits runs known) c.step_under.ensures.answered
