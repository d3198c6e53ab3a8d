use Rattle.std.proofs.Common.{◌≡◌, ℕ, ◌<◌, List, length, ℤ, pos, Some, sym, ap, ◌∙◌, arith, w64, to_z, of_z, rules}
use Rattle.std.proofs.lemmas.List.{take_all}
use Rattle.std.proofs.lemmas.Option.{slice_get-get_or}
use Rattle.std.specs.List.{slice_get}
use Rattle.report.specs.Figures.{figures_text}
use Rattle.report.proofs.Commas.{writes_figure}
use Rattle.report.proofs.Writing.{writes_as}
use Rattle.report.proofs.figures.write_figures.Goals as goal
use Rattle.report.proofs.figures.write_figures.Goals.{in-Some, in_default}

-- There is a figure at every place before the count.
pub loop-place-preserved : goal.loop-place-preserved
loop-place-preserved g c =
    let zs : List ℤ = g.R.Register.figures c.args.register.now in
    let i : ℕ = c.loop-place.place in
    let within : i < length zs = omega arith in
    elim c.match-figure.branch [
      | in-Some w ↦
          let z : ℤ = to_z w64 (of_z w64 w.in-Some.z) in
          let same : w.in-Some.z ≡ z = sym (search rules) in
          let there : slice_get zs i ≡ Some z = cc in
          simp (w.out-is, w.next-is)
          (writes_figure zs i z within there c.loop-place.invariant w.write_figure-next.ensures.first w.write_figure-next.ensures.later)
      | in_default w ↦
          let never : ⊥ = w.in_default.not-Some _ (c.figure.ensures ∙ slice_get-get_or zs i (pos 0) within) in
          absurd never
    ]

pub returns : goal.returns
returns g c = writes_as (ap figures_text (take_all c.loop-place.place (g.R.Register.figures c.args.register.now) (omega arith))) c.loop-place.invariant
