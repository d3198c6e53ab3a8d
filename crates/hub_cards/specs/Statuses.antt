-- Tests of a card's status.
use Rattle.std.specs.Prelude.{Bool, true, false}
use Rattle.hub_cards.specs.declared.Status.{Status}
use Rattle.hub_cards.specs.declared.Status.TheVariants.{Unused, Active, Lost}

abbrev pub is_active : Status → Bool
is_active Unused = false
is_active Active = true
is_active Lost = false

abbrev pub is_lost : Status → Bool
is_lost Unused = false
is_lost Active = false
is_lost Lost = true

abbrev pub is_used : Status → Bool
is_used Unused = false
is_used Active = true
is_used Lost = true
