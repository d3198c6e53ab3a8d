-- What was written is the new card, and its maker with a new partner.
use Rattle.std.proofs.Common.{arith, rules}
use Rattle.hub_steps.specs.CardSteps.{chosen}
use Rattle.hub_steps.proofs.CardMakings.{card_created}
use Rattle.hub_steps.proofs.card_steps.create.Goals as goal

pub returns-clause-created : goal.returns-clause-created
returns-clause-created g c =
    let found = c.in_ok-maker.ensures.within in
    card_created g.M.CardNumber.plain g.N.CardNumber.plain g.R.Register.figures c.args.maker_registers.now c.args.made_registers.now (chosen c.args.places c.args.makers.now c.args.made.now) c.in_ok-maker.maker c.in_ok-maker.new _ _ c.args.makers.now c.args.made.now _ _ _
    c.in_ok-maker.ensures.answered c.number-from.ensures c.number-to.ensures (omega arith, omega arith) (omega arith, omega arith) (omega arith) (search rules)
