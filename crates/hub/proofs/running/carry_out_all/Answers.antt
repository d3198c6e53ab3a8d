-- A turn takes every run on by one call.
use Rattle.std.proofs.Common.{map, take, refl, ◌∙◌, subst, arith, rules}
use Rattle.std.proofs.lemmas.List.{take_all}
use Rattle.hub_runs.specs.States.{held, size_of, state_in}
use Rattle.hub.specs.Calls.{call_of, reply_of}
use Rattle.hub.specs.Running.{CarryOn}
use Rattle.hub.proofs.CarriedOn.{carries_none, turn}
use Rattle.hub.proofs.running.carry_out_all.Goals as goal

pub loop-i-init : goal.loop-i-init
loop-i-init g c = record {
  size = refl;
  carried = carries_none g.R.Register.start g.R.Register.rule (size_of c.args.hub.now) _;
  slices = search rules;
}

pub loop-i-preserved : goal.loop-i-preserved
loop-i-preserved g c =
    let inv = c.loop-i.invariant in
    record {
      size = c.carry_out.ensures.size ∙ inv.size;
      carried = turn g.R.Register.start g.R.Register.rule (size_of c.args.hub.now) (size_of c.loop-i.hub) _ _ _ c.args.calls.now c.loop-i.answers c.loop-i.i _ c.carry_out.result inv.size c.loop-i-test.true (omega arith) inv.carried c.carry_out.ensures.goes_on;
      slices = search rules;
    }

pub returns-clause-carried : goal.returns-clause-carried
returns-clause-carried g c =
    let kind = g.R.Register in
    let l = c.loop-i in
    let size = size_of c.args.hub.now in
    let before = state_in kind.figures c.args.hub.now (held c.args.tables.now) in
    let after = state_in kind.figures l.hub (held l.tables) in
    let all_calls = take_all l.i c.args.calls.now c.loop-i-test.false in
    let all_answers = take_all l.i l.answers (omega arith) in
    subst (λ xs. CarryOn kind.start kind.rule size before (map call_of c.args.calls.now) (map reply_of xs) after) all_answers
    (subst (λ xs. CarryOn kind.start kind.rule size before (map call_of xs) (map reply_of (take l.i l.answers)) after) all_calls l.invariant.carried)
