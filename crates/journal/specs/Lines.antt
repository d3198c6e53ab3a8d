-- What a line that was handed out says, and which bytes of the journal it holds.
use Rattle.std.specs.Prelude.{◌≡◌, ◌+◌, ◌≤◌, drop}
use Rattle.registers.specs.Numbers.{number_of}
use Rattle.journal.specs.Values.{Entry, commands, kills, cards, register, move, step}
use Rattle.journal.specs.declared.lines.Part.{Part}
use Rattle.journal.specs.declared.lines.Line.{Line}
use Rattle.journal.specs.declared.lines.Line.TheVariants.{Commands, Kills, Cards, Register, Move, Step}

abbrev pub entry_of : Line → Entry
entry_of (Commands value count) = commands count
entry_of (Kills value count) = kills count
entry_of (Cards value count) = cards count
entry_of (Register value kind) = register (number_of kind)
entry_of (Move value taken) = move taken.hundredths
entry_of (Step value number action command) = step action command

-- The bytes behind the equals sign, with their place in the journal.
abbrev pub value_of : Line → Part
value_of (Commands value count) = value
value_of (Kills value count) = value
value_of (Cards value count) = value
value_of (Register value kind) = value
value_of (Move value taken) = value
value_of (Step value number action command) = value

-- A step's number is its value without the letter.
abbrev pub Behind : Part → Part → Type 0
Behind value number = (number.text.now ≡ drop 1 value.text.now) × (number.at ≡ value.at + 1)

-- What a caller may rely on besides: a step's number stands behind its letter. That a move keeps its limits is in its type.
abbrev pub Sound : Line → Type 0
Sound (Commands value count) = Unit {0}
Sound (Kills value count) = Unit {0}
Sound (Cards value count) = Unit {0}
Sound (Register value kind) = Unit {0}
Sound (Move value taken) = Unit {0}
Sound (Step value number action command) = Behind value number

-- And counts keep theirs.
abbrev pub Limited : Line → Type 0
Limited (Commands value count) = (1 ≤ count) × (count ≤ 64)
Limited (Kills value count) = count ≤ 7
Limited (Cards value count) = (1 ≤ count) × (count ≤ 8)
Limited (Register value kind) = Unit {0}
Limited (Move value taken) = Unit {0}
Limited (Step value number action command) = Unit {0}
