-- What a journal tells of its batch.
use Rattle.std.specs.Prelude.{ℕ, suc, List, [], ◌∷◌, ◌++◌, replicate, ℤ, slice_index, slice_set}
use Rattle.actions.specs.Letters.{place_of}
use Rattle.journal.specs.Values.{Entry, commands, kills, cards, register, move, step}

pub record Told : Type 0 where
  pub commands : ℕ
  pub kills : ℕ
  pub cards : ℕ
  pub kind : ℕ  -- the number of the register's kind
  pub moves : List ℤ  -- in the order of the commands' numbers
  pub letters : List ℕ  -- how many steps there were under each of the eighteen letters

abbrev pub nothing_told : Told
nothing_told = record { commands = 0; kills = 0; cards = 0; kind = 0; moves = []; letters = replicate 18 0 }

-- One more under the letter of this place.
abbrev pub one_more : List ℕ → ℕ → List ℕ
one_more letters place = slice_set letters place (suc (slice_index letters place))

abbrev pub with_entry : Told → Entry → Told
with_entry t (commands n) = record { commands = n; kills = t.kills; cards = t.cards; kind = t.kind; moves = t.moves; letters = t.letters }
with_entry t (kills n) = record { commands = t.commands; kills = n; cards = t.cards; kind = t.kind; moves = t.moves; letters = t.letters }
with_entry t (cards n) = record { commands = t.commands; kills = t.kills; cards = n; kind = t.kind; moves = t.moves; letters = t.letters }
with_entry t (register n) = record { commands = t.commands; kills = t.kills; cards = t.cards; kind = n; moves = t.moves; letters = t.letters }
with_entry t (move z) = record { commands = t.commands; kills = t.kills; cards = t.cards; kind = t.kind; moves = t.moves ++ (z ∷ []); letters = t.letters }
with_entry t (step action c) = record { commands = t.commands; kills = t.kills; cards = t.cards; kind = t.kind; moves = t.moves; letters = one_more t.letters (place_of action) }
