-- With no cause found, the tables are as the calls have set them.
use Rattle.std.proofs.Common.{◌≡◌, true, sym, ap, ◌∙◌, rules}
use Rattle.hub_runs.proofs.Lawful.{lawful}
use Rattle.hub_tables.specs.Lent.{held}
use Rattle.hub_making.specs.Making.{all_lengths_fit, asked}
use Rattle.hub_making.proofs.MakingDone.{AllSet, makes, makes_a_run}
use Rattle.hub_making.proofs.make.Goals as goal

pub returns : goal.returns
returns g c =
    let kind = g.R.Register in
    let laws = g.met.R.Register in
    let size = asked c.args.counts in
    let lengths : all_lengths_fit size c.args.moves.now (held c.args.tables.now) ≡ true = ap (all_lengths_fit size c.args.moves.now) (sym c.view.ensures) ∙ sym c.if-not-one_each.ensures in
    let set : AllSet kind.figures kind.start c.args.moves.now (held c.args.tables.now) _ = record { commands = c.set_commands.ensures; masters = c.set_cards.ensures; master_registers = c.set_registers.ensures; backups = c.set_cards-2.ensures; backup_registers = c.set_registers-2.ensures } in
    record {
      made = makes kind.figures kind.start size c.args.moves.now _ _ c.in_ok-hub.hub c.in_ok-hub.ensures lengths (sym c.in_default.ensures) set;
      run = makes_a_run kind.figures kind.start kind.rule (lawful kind.start kind.rule kind.ours laws.begins laws.keeps laws.commutes) size c.args.moves.now _ _ c.in_ok-hub.hub c.in_ok-hub.ensures lengths (sym c.in_default.ensures) set;
      slices = search rules;
    }
