-- There is room for a version more whatever partner a blank card has.
use Rattle.std.proofs.Common.{◌≡◌, ◌&&◌, List, [], ◌∷◌, sym, refl, ap, ◌∙◌, arith}
use Rattle.std.specs.List.{list_all}
use Rattle.hub_records.specs.Commands.{is_done, the_backup, the_master}
use Rattle.hub_records.specs.declared.commands.Command.{Command}
use Rattle.hub_runs.specs.Hubs.{all_done}
use Rattle.hub_steps.proofs.Numbered.{version_is}
use Rattle.hub_steps.proofs.command_steps.apply.Goals as goal

all_pass : (commands : List Command) → list_all (λ x. is_done x.phase) commands ≡ all_done commands
unfolding all_done
all_pass [] = refl
all_pass (x ∷ commands) = ap (λ rest. is_done x.phase && rest) (all_pass commands)

pub count_command-requires : goal.count_command-requires
count_command-requires g c p =
    let cards = c.args.tables.now.masters.now in
    let m = c.in-MasterTakes.m.0 in
    omega (arith, version_is p (the_backup 0) cards m, c.requires.versions.0 m)

pub count_command-requires-in-BackupTakes : goal.count_command-requires-in-BackupTakes
count_command-requires-in-BackupTakes g c p =
    let cards = c.args.tables.now.backups.now in
    let b = c.in-BackupTakes.b.0 in
    omega (arith, version_is p (the_master 0) cards b, c.requires.versions.1 b)

pub returns-then-are_all_done-clause-state : goal.returns-then-are_all_done-clause-state
returns-then-are_all_done-clause-state g c =
    let done = sym (all_pass c.args.tables.now.commands.now) ∙ sym c.are_all_done.ensures ∙ c.if-are_all_done.true in
    rw (c.in-Completes.is, done)

pub returns-else-are_all_done-clause-state : goal.returns-else-are_all_done-clause-state
returns-else-are_all_done-clause-state g c =
    let not_done = sym (all_pass c.args.tables.now.commands.now) ∙ sym c.are_all_done.ensures ∙ c.if-are_all_done.false in
    rw (c.in-Completes.is, not_done)
