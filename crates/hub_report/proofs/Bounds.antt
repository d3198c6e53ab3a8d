-- The report is a short text.
use Rattle.std.proofs.Common.{ℕ, ◌+◌, ◌*◌, ◌^◌, ◌<◌, ◌≤◌, eqb, List, length, ℤ, IfSome, codes, decimal, arith, length-append}
use Rattle.std.specs.List.{AllByRecursion}
use Rattle.std.proofs.lemmas.Bool.{cond_both}
use Rattle.registers.specs.Kind.{Fits64}
use Rattle.hub_records.specs.declared.hub.ExecState.{ExecState}
use Rattle.hub_records.specs.declared.hub.ExecState.TheVariants.{Running, Success, Fatal}
use Rattle.hub_records.specs.declared.look.Look.{Look}
use Rattle.report.specs.Figures.{figures_text}
use Rattle.report.proofs.Bounds.{length_number, length_mean, length_figures}
use Rattle.hub_report.specs.ReportText.{state_name, register_text, role_text, mean_of, mean_text, look_text}

-- Figures that a register can have: no more than 1,024, each of 64 bits.
abbrev pub FewFigures : List ℤ → Type 0
FewFigures zs = AllByRecursion Fits64 zs × (length zs ≤ 1024)

register_short : (number : ℕ) (zs : List ℤ) → FewFigures zs → length (register_text number zs) ≤ 21504
register_short number zs few =
    let shown : length (figures_text zs) ≤ 21 * length zs = length_figures zs few.0 in
    cond_both (eqb number 0) (codes "none") (figures_text zs) (λ text. length text ≤ 21504) (λ _. omega arith) (λ _. omega arith)

pub role_short : (number_key version_key register_key : List ℕ) (number version : ℕ) (zs : List ℤ) → number < 2 ^ 64 → version < 2 ^ 64 → FewFigures zs
    → length (role_text number_key version_key register_key number version zs) ≤ length number_key + length version_key + length register_key + 21550
role_short number_key version_key register_key number version zs n v few =
    let first : length (decimal number) ≤ 20 = length_number number n in
    let second : length (decimal version) ≤ 20 = length_number version v in
    let third : length (register_text number zs) ≤ 21504 = register_short number zs few in
    simp length-append (omega arith)

name_short : (state : ExecState) → length (state_name state) ≤ 7
name_short Running = omega arith
name_short Success = omega arith
name_short Fatal = omega arith

pub look_short : (code : ℕ) (look : Look) (master backup : List ℤ) → look.steps < 2 ^ 64 → look.losses < 2 ^ 64
    → length (role_text (codes "master") (codes "master-version") (codes "master-register") look.master.0 look.master_version master) ≤ 21585
    → length (role_text (codes "backup") (codes "backup-version") (codes "backup-register") look.backup.0 look.backup_version backup) ≤ 21585
    → IfSome (mean_of code master look.master_version) Fits64
    → length (look_text code look master backup) < 2 ^ 64
unfolding look_text
look_short code look master backup steps losses masters backups mean =
    let name : length (state_name look.state) ≤ 7 = name_short look.state in
    let second : length (decimal look.steps) ≤ 20 = length_number look.steps steps in
    let third : length (decimal look.losses) ≤ 20 = length_number look.losses losses in
    let average : length (mean_text (mean_of code master look.master_version)) ≤ 20 = length_mean (mean_of code master look.master_version) mean in
    simp length-append (omega (arith, simp length-append at masters, simp length-append at backups))
