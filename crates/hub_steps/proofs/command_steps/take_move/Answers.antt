use Rattle.std.proofs.Common.{◌≡◌, [], map, get_or, set, sym, ap, ◌∙◌}
use Rattle.std.proofs.lemmas.List.{map-set, get_or-map}
use Rattle.hub_cards.specs.Tables.{at}
use Rattle.hub_steps.proofs.Numbered.{at_index, put_index}
use Rattle.hub_steps.proofs.command_steps.take_move.Goals as goal

pub returns-in-Some : goal.returns-in-Some
returns-in-Some g c =
    let kind = g.R.Register in
    let registers = c.args.registers.now in
    let i = c.in-Some.i in
    let place = c.in-Some.ensures in
    let old = get_or registers i c.index-registers-i.result in
    let was : kind.figures old ≡ at [] (map kind.figures registers) c.args.number =
    sym (get_or-map kind.figures registers i c.index-registers-i.result [] place.1) ∙ sym (at_index [] (map kind.figures registers) c.args.number i place.0) in
    let new : kind.figures c.take.new.self ≡ kind.rule (at [] (map kind.figures registers) c.args.number) c.args.taken.hundredths =
    c.take.ensures ∙ ap (λ f. kind.rule f c.args.taken.hundredths) was in
    map-set kind.figures registers i c.take.new.self ∙ ap (set (map kind.figures registers) i) new ∙ sym (put_index (map kind.figures registers) c.args.number i _ place.0)
