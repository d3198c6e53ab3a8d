-- The card that was read is the one of which there is room for a version more.
use Rattle.std.proofs.Common.{sym, ap, ◌∙◌, arith}
use Rattle.std.proofs.lemmas.List.{get_or_default}
use Rattle.hub_cards.specs.Tables.{blank_card}
use Rattle.hub_steps.proofs.Numbered.{at_index}
use Rattle.hub_steps.proofs.command_steps.count_command.Goals as goal

pub overflow_add-cards : goal.overflow_add-cards
overflow_add-cards g c =
    let cards = c.args.cards.now in
    let read = c.index-cards-i.result in
    let place = c.in-Some.ensures in
    let same = get_or_default cards c.in-Some.i read (blank_card read.partner) place.1 ∙ sym (at_index (blank_card read.partner) cards c.args.number c.in-Some.i place.0) in
    omega (arith, c.requires read.partner, ap (λ card. card.version) same)
