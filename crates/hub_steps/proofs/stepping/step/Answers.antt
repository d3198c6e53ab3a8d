-- The model's answer, told once more by the module and by runs.
use Rattle.hub_runs.specs.States.{size_of}
use Rattle.hub_runs.proofs.GoingOn.{step_by_the_module, step_goes_on}
use Rattle.hub_runs.proofs.Lawful.{lawful}
use Rattle.hub_steps.specs.Held.{state_held}
use Rattle.hub_steps.specs.Replied.{step_reply}
use Rattle.hub_steps.proofs.AsAnswered.{as_answered}
use Rattle.hub_steps.proofs.stepping.step.Goals as goal

pub returns-clause-answered : goal.returns-clause-answered
returns-clause-answered g c = as_answered _ _ _ c.answer_step.result c.answer_step.ensures.answered

pub returns-clause-steps : goal.returns-clause-steps
returns-clause-steps g c =
    let kind = g.R.Register in
    let laws = g.met.R.Register in
    let law = lawful kind.start kind.rule kind.ours laws.begins laws.keeps laws.commutes in
    let args = c.args in
    let size = size_of args.hub.now in
    let before = state_held kind.figures args.hub.now args.tables.now in
    let after = state_held kind.figures c.answer_step.new.hub c.answer_step.new.tables in
    let reply = step_reply c.answer_step.result in
    let outcome = c.answer_step.ensures.answered in
    record {
      answered = outcome;
      by_the_module = λ fits. step_by_the_module size kind.rule args.letter args.command before after reply fits outcome;
      goes_on = step_goes_on kind.start kind.rule law size args.letter args.command before after reply outcome;
    }
