-- A turn moves the invariant on by one card; the first active card ends the search.
use Rattle.std.proofs.Common.{Some, sym, ap, ◌∙◌}
use Rattle.std.proofs.lemmas.Bool.{cond-false, cond-true}
use Rattle.hub_cards.specs.Statuses.{is_active}
use Rattle.hub_tables.proofs.SearchSteps.{first_end, first_step}
use Rattle.hub_tables.proofs.search.active_card.Goals as goal

pub loop-i-preserved : goal.loop-i-preserved
loop-i-preserved g c =
    c.loop-i.invariant
    ∙ first_step is_active c.args.cards.now c.loop-i.i c.index-cards-i.result c.loop-i-test.true c.index-cards-i.is
    ∙ cond-false _ _ _ (sym c.if-is_active.ensures)

pub returns-then-is_active : goal.returns-then-is_active
returns-then-is_active g c =
    ap Some c.new.ensures
    ∙ sym (cond-true _ _ _ (sym c.if-is_active.ensures))
    ∙ sym (first_step is_active c.args.cards.now c.loop-i.i c.index-cards-i.result c.loop-i-test.true c.index-cards-i.is)
    ∙ sym c.loop-i.invariant

pub returns : goal.returns
returns g c = sym (c.loop-i.invariant ∙ first_end is_active c.args.cards.now c.loop-i.i c.loop-i-test.false)
