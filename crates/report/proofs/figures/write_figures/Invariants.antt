use Rattle.std.proofs.Common.{take}
use Rattle.report.specs.Figures.{figures_text}
use Rattle.report.specs.Placed.{Writes}
use Rattle.report.proofs.figures.write_figures.Given as goal

-- The figures before the place were written, one after the other.
abbrev pub invariant-loop-place : goal.invariant-loop-place
invariant-loop-place g l = Writes (figures_text (take l.place (g.R.Register.figures l.register))) l.initial.out l.initial.next l.out l.next
