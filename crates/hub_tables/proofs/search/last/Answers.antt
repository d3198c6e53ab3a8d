-- A turn moves the invariant on by one card, which becomes the answer so far if its status passes.
use Rattle.std.proofs.Common.{Some, sym, ap, ◌∙◌}
use Rattle.std.proofs.lemmas.Bool.{cond-false, cond-true}
use Rattle.std.specs.Option.{option_map}
use Rattle.hub_tables.specs.Search.{or_else}
use Rattle.hub_tables.proofs.SearchSteps.{last_end, last_step}
use Rattle.hub_tables.proofs.search.last.Goals as goal
use Rattle.hub_tables.proofs.search.last.Goals.{then-passes, else-passes}

pub loop-i-preserved : goal.loop-i-preserved
loop-i-preserved g c test tells =
    let told = tells c.index-cards-i.result.status _ c.passes.ensures in
    c.loop-i.invariant test tells
    ∙ last_step test c.args.cards.now c.loop-i.i c.index-cards-i.result _ c.loop-i-test.true c.index-cards-i.is
    ∙ ap
    (or_else _)
    (elim c.if-passes.branch [ then-passes w ↦ cond-true _ _ _ (sym told ∙ w.if-passes.true) ∙ sym (ap (option_map g.N.CardNumber.plain) w.found-is ∙ ap Some w.new.ensures) | else-passes w ↦ cond-false _ _ _ (sym told ∙ w.if-passes.false) ∙ sym (ap (option_map g.N.CardNumber.plain) w.found-is) ])

pub returns : goal.returns
returns g c test tells =
    sym (c.loop-i.invariant test tells ∙ last_end test c.args.cards.now c.loop-i.i _ c.loop-i-test.false)
