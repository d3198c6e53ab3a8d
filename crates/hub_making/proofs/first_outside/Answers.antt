-- The number of the first move outside the limits is one more than its index.
use Rattle.std.proofs.Common.{◌≡◌, ◌+◌, ap, sym, ◌∙◌, rules}
use Rattle.std.proofs.lemmas.Iterator.{YieldsList-from_slice}
use Rattle.std.proofs.lemmas.Iterator.Search.{position_from_yields_List}
use Rattle.std.proofs.lemmas.Iterator.Adapters.{position_from-zero}
use Rattle.std.specs.List.{position_from}
use Rattle.std.specs.Option.{option_map}
use Rattle.hub_making.proofs.MakingSteps.{first_number, outside}
use Rattle.hub_making.proofs.first_outside.Goals as goal
use borrow.Author.Tests.{tests}

pub returns : goal.returns
returns c =
    let found : c.position-first.result ≡ position_from outside 0 c.args.moves.now = position_from_yields_List outside _ _ _ c.position-first.ensures.ran (YieldsList-from_slice c.args.moves.now cc) (λ x b q k. search (rules, tests)) ∙ position_from-zero outside c.args.moves.now in
    let number : c.map.result ≡ option_map (λ i. i + 1) c.position-first.result = search rules in
    number ∙ ap (option_map (λ i. i + 1)) found ∙ sym (first_number 0 c.args.moves.now)
