-- The report of a hub, as text: ten lines, of which three are of the last master and three of the last backup.
use Rattle.std.specs.Prelude.{ℕ, cond, List, [], ◌++◌, ℤ, codes, decimal, ◌==◌}
pub use Rattle.registers.specs.Mean.{mean_of, mean_of_first}
use Rattle.hub_cards.specs.Tables.{at}
pub use Rattle.hub_records.specs.Names.{state_name}
use Rattle.hub_records.specs.declared.look.Look.{Look}
use Rattle.hub_runs.specs.Hubs.{State}
use Rattle.hub_runs.specs.Runs.{last_backup, last_master}
use Rattle.hub.specs.Looking.{the_look}
use Rattle.report.specs.Figures.{figures_text}
use Rattle.report.specs.Lines.{line_text}
pub use Rattle.report.specs.Lines.{mean_text}

-- What a card's register shows. Number 0 is no card, and there is no register to show.
abbrev pub register_text : ℕ → List ℤ → List ℕ
register_text number figures = cond (number == 0) (codes "none") (figures_text figures)

-- The lines of a role: the number of its last card, that card's version, and its register.
abbrev pub role_text : (number_key version_key register_key : List ℕ) → (number version : ℕ) → (figures : List ℤ) → List ℕ
role_text number_key version_key register_key number version figures =
    line_text number_key (decimal number)
    ++ (line_text version_key (decimal version)
    ++ line_text register_key (register_text number figures))

-- The text of a look, with registers of the kind `code`; `master` and `backup` are the figures of the last cards.
unfoldable pub look_text : (code : ℕ) → Look → (master backup : List ℤ) → List ℕ
look_text code look master backup =
    line_text (codes "state") (state_name look.state)
    ++ (line_text (codes "steps") (decimal look.steps)
    ++ (line_text (codes "losses") (decimal look.losses)
    ++ (role_text (codes "master") (codes "master-version") (codes "master-register") look.master.0 look.master_version master
    ++ (role_text (codes "backup") (codes "backup-version") (codes "backup-register") look.backup.0 look.backup_version backup
    ++ line_text (codes "mean") (mean_text (mean_of code master look.master_version))))))

unfoldable pub report_text : (code : ℕ) → State → List ℕ
report_text code s = look_text code (the_look s) (at [] s.master_figures (last_master s)) (at [] s.backup_figures (last_backup s))
