-- The tables fit where they were tested, and the parts of a look are the state's.
use Rattle.hub_records.specs.Commands.{the_backup, the_master}
use Rattle.hub_runs.specs.States.{size_of, state_in, viewed}
use Rattle.hub_runs.proofs.Lawful.{lawful}
use Rattle.hub_steps.proofs.Fitted.{fits_by_figures}
use Rattle.hub.proofs.Looked.{all_seen, looks, looks_at_a_misfit}
use Rattle.hub.proofs.looking.look.Goals as goal

pub returns-then-not-fit : goal.returns-then-not-fit
returns-then-not-fit g c =
    let kind = g.R.Register in
    let laws = g.met.R.Register in
    let law = lawful kind.start kind.rule kind.ours laws.begins laws.keeps laws.commutes in
    let hub = c.args.hub.now in
    let tables = c.args.tables in
    let misfit = fits_by_figures kind.figures hub tables.commands.now tables.masters.now tables.backups.now tables.master_registers.now tables.backup_registers.now _ c.if-not-fit.ensures in
    looks_at_a_misfit kind.start kind.rule law (size_of hub) (state_in kind.figures hub (viewed tables)) misfit

pub returns : goal.returns
returns g c =
    let kind = g.R.Register in
    let laws = g.met.R.Register in
    let law = lawful kind.start kind.rule kind.ours laws.begins laws.keeps laws.commutes in
    let hub = c.args.hub.now in
    let tables = c.args.tables in
    let s = state_in kind.figures hub (viewed tables) in
    let fits = fits_by_figures kind.figures hub tables.commands.now tables.masters.now tables.backups.now tables.master_registers.now tables.backup_registers.now _ c.if-not-fit.ensures in
    looks kind.start kind.rule law (size_of hub) s _ fits
    (all_seen s _ _ _ _ _ c.count_done.ensures c.last_of-master_version.ensures.0 (c.last_of-master_version.ensures.1 (the_backup 0)) c.last_of-backup_version.ensures.0 (c.last_of-backup_version.ensures.1 (the_master 0)))
