-- Each arm does what the model has for its action.
use Rattle.std.proofs.Common.{map, refl, ap}
use Rattle.hub_runs.specs.States.{lent, size_of, state_in}
use Rattle.hub_steps.specs.Held.{state_held}
use Rattle.hub_steps.proofs.CardAnswers.{create_backup_is, create_master_is, kill_backup_is, kill_master_is}
use Rattle.hub_steps.proofs.Judged.{else_of_command, of_arm, of_command}
use Rattle.hub_steps.proofs.stepping.carry_out.Goals as goal

pub returns-in-CreatingNewBackup-clause-answered : goal.returns-in-CreatingNewBackup-clause-answered
returns-in-CreatingNewBackup-clause-answered g c =
    let figures = g.R.Register.figures in
    let hub = c.args.hub.now in
    let s = state_held figures hub c.args.tables.now in
    let new = c.create.new in
    let s' = state_in figures hub (lent c.args.tables.now.commands.now new.makers new.maker_registers new.made new.made_registers) in
    of_arm (size_of hub) g.R.Register.rule _ _ c.args.command s _ _ s' c.in-CreatingNewBackup.is refl
    (λ n m b. create_backup_is (size_of hub) g.R.Register.rule n m b s s' _ c.create.ensures.created (refl, refl, refl, refl) (ap (map figures) c.create.ensures.kept))

pub returns-in-CreatingNewMaster-clause-answered : goal.returns-in-CreatingNewMaster-clause-answered
returns-in-CreatingNewMaster-clause-answered g c =
    let figures = g.R.Register.figures in
    let hub = c.args.hub.now in
    let s = state_held figures hub c.args.tables.now in
    let call = c.create-in-CreatingNewMaster in
    let s' = state_in figures hub (lent c.args.tables.now.commands.now call.new.made call.new.made_registers call.new.makers call.new.maker_registers) in
    of_arm (size_of hub) g.R.Register.rule _ _ c.args.command s _ _ s' c.in-CreatingNewMaster.is refl
    (λ n m b. create_master_is (size_of hub) g.R.Register.rule n m b s s' _ call.ensures.created (refl, refl, refl, refl) (ap (map figures) call.ensures.kept))

pub returns-in-KillingMaster-clause-answered : goal.returns-in-KillingMaster-clause-answered
returns-in-KillingMaster-clause-answered g c =
    let hub = c.args.hub.now in
    let t = c.args.tables.now in
    let s = state_held g.R.Register.figures hub t in
    let s' = state_in g.R.Register.figures hub (lent t.commands.now c.lose.new.cards t.master_registers.now t.backups.now t.backup_registers.now) in
    of_arm (size_of hub) g.R.Register.rule _ _ c.args.command s _ _ s' c.in-KillingMaster.is refl
    (λ n m b. kill_master_is (size_of hub) g.R.Register.rule n m b s s' _ c.lose.ensures (refl, refl, refl, refl) refl)

pub returns-in-KillingBackup-clause-answered : goal.returns-in-KillingBackup-clause-answered
returns-in-KillingBackup-clause-answered g c =
    let hub = c.args.hub.now in
    let t = c.args.tables.now in
    let call = c.lose-in-KillingBackup in
    let s = state_held g.R.Register.figures hub t in
    let s' = state_in g.R.Register.figures hub (lent t.commands.now t.masters.now t.master_registers.now call.new.cards t.backup_registers.now) in
    of_arm (size_of hub) g.R.Register.rule _ _ c.args.command s _ _ s' c.in-KillingBackup.is refl
    (λ n m b. kill_backup_is (size_of hub) g.R.Register.rule n m b s s' _ call.ensures (refl, refl, refl, refl) refl)

pub returns-in_default-clause-answered : goal.returns-in_default-clause-answered
returns-in_default-clause-answered g c =
    let rest = c.in_default in
    let figures = g.R.Register.figures in
    let hub = c.args.hub.now in
    let new = c.step_command.new in
    of_command (size_of hub) g.R.Register.rule c.args.action c.args.command (state_held figures hub c.args.tables.now) _ _ (state_held figures new.hub new.tables)
    (else_of_command _ rest.not-CreatingNewBackup rest.not-CreatingNewMaster rest.not-KillingMaster rest.not-KillingBackup) c.step_command.ensures.answered
