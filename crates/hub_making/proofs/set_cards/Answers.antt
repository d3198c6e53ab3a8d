-- Each card is what the call returned; then the first is replaced.
use Rattle.std.proofs.Common.{◌∙◌, rules, sym}
use Rattle.std.proofs.lemmas.List.{map-id}
use Rattle.hub_cards.specs.Tables.{blank_card}
use Rattle.hub_making.proofs.MakingSteps.{filled, then_first}
use Rattle.hub_making.proofs.set_cards.Goals as goal

pub returns : goal.returns
returns g c =
    let all = filled _ (λ x. x) (blank_card c.args.none) _ (λ x q step. search rules) _ _ c.fill_with.ensures.ran.1 in
    rw c.unused-unused.ensures (then_first c.fill_with.new.self _ _ _ (sym (map-id c.fill_with.new.self) ∙ all) c.fill_with.ensures.len c.requires)
