use Rattle.std.proofs.Common.{◌≡◌, suc, ◌-◌, ◌≤◌, get_or, subst, sym, unsigned_abs, arith, rules}
use Rattle.hub_records.specs.declared.commands.Command.{Command}
use Rattle.hub_runs.specs.Hubs.{blank_client}
use Rattle.hub_steps.specs.Held.{state_held}
use Rattle.hub_steps.proofs.Numbered.{at_index, put_index}
use Rattle.hub_steps.proofs.OfAdvance.{stepped}
use Rattle.hub_steps.proofs.command_steps.step_command.Goals as goal

pub returns-clause-answered : goal.returns-clause-answered
returns-clause-answered g c =
    let commands = c.args.tables.now.commands.now in
    let n = c.args.command in
    let place : n ≡ suc (n - 1) = omega arith in
    let current = get_or commands (n - 1) blank_client in
    let read : c.in-Ok.taken.hundredths ≡ current.hundredths = search rules in
    stepped g.R.Register.rule n (state_held g.R.Register.figures c.args.hub.now c.args.tables.now) (Unit {0}) tt c.args.action current c.advance.new.self c.see-seen.result c.in_ok-effect.effect _ c.in-Ok.taken.hundredths _ read
    (sym (at_index blank_client commands n (n - 1) place)) c.see-seen.ensures c.in_ok-effect.ensures.moves (sym (put_index commands n (n - 1) _ place)) c.apply.ensures.state

pub unreachable-requires : goal.unreachable-requires
unreachable-requires g c =
    let n = c.args.command in
    let P : Command → Type 0 = λ x. unsigned_abs x.hundredths ≤ 9000 in
    let limited = subst P (at_index blank_client c.args.tables.now.commands.now n (n - 1) (omega arith)) (c.requires.fitting.limited n) in
    search (rules, limited, c.in_default.ensures)
