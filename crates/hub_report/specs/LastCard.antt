-- The last card of a role as a report shows it.
use Rattle.std.specs.Prelude.{List, [], map, ℤ}
use Rattle.hub_cards.specs.Tables.{at}
use Rattle.hub_report.specs.declared.role.LastCard.{LastCard}

-- The figures of the card's register; none where there is no card.
abbrev pub figures_of : {R : Type 0} → (R → List ℤ) → LastCard R → List ℤ
figures_of figures card = at [] (map figures card.registers.now) card.number
