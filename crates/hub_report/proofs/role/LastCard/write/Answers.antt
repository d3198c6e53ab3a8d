use Rattle.std.proofs.Common.{ℕ, List, [], map, sym, ap, ◌∙◌, arith}
use Rattle.hub_cards.specs.Tables.{at}
use Rattle.report.specs.Figures.{figures_text}
use Rattle.report.specs.Lines.{line_text}
use Rattle.report.proofs.Writing.{put_written, written_as, written_then}
use Rattle.hub_report.specs.LastCard.{figures_of}
use Rattle.hub_report.specs.ReportText.{register_text}
use Rattle.hub_report.proofs.Bounds.{FewFigures, role_short}
use Rattle.hub_report.proofs.LastCards.{at_every, shows_register}
use Rattle.hub_report.proofs.role.LastCard.write.Given.{Over}
use Rattle.hub_report.proofs.role.LastCard.write.Goals as goal

few_shown : (g : Over) (registers : List g.row.R.Denot) (number : ℕ) → FewFigures (at [] (map g.R.Register.figures registers) number)
few_shown g =
    let laws = g.met.R.Register in
    at_every g.R.Register.figures FewFigures (tt, omega arith) (λ x. (laws.fits _ (laws.own x), omega (arith, laws.sized _ (laws.own x), laws.small)))

pub returns-in-Some-clause-short : goal.returns-in-Some-clause-short
returns-in-Some-clause-short g c =
    let card = c.args.self.now in
    role_short c.args.keys.number.now c.args.keys.version.now c.args.keys.register.now card.number card.version _ (omega arith) (omega arith) (few_shown g card.registers.now card.number)

pub returns-in-None-clause-short : goal.returns-in-None-clause-short
returns-in-None-clause-short g c =
    let card = c.args.self.now in
    role_short c.args.keys.number.now c.args.keys.version.now c.args.keys.register.now card.number card.version _ (omega arith) (omega arith) (few_shown g card.registers.now card.number)

pub returns-in-Some-clause-writes : goal.returns-in-Some-clause-writes
returns-in-Some-clause-writes g c =
    let card = c.args.self.now in
    let shown = shows_register card.number (figures_of g.R.Register.figures card) (omega (arith, c.in-Some.ensures.0)) in
    written_then (put_written c.put_number_line.ensures)
    (written_then (put_written c.put_number_line-2.ensures)
    (written_as (ap (line_text c.args.keys.register.now) (ap figures_text c.in-Some.ensures.1 ∙ shown)) (put_written c.put_figures_line.ensures)))

pub returns-in-None-clause-writes : goal.returns-in-None-clause-writes
returns-in-None-clause-writes g c =
    let shown = ap (λ n. register_text n (figures_of g.R.Register.figures c.args.self.now)) (sym c.in-None.ensures) in
    written_then (put_written c.put_number_line.ensures)
    (written_then (put_written c.put_number_line-2.ensures)
    (written_as (ap (line_text c.args.keys.register.now) shown) (put_written c.put_line.ensures)))
