-- What a rule receives from a given move.
use Rattle.registers.specs.Taken.{Taken}
use Rattle.registers.specs.declared.moves.Move.{Move}

abbrev pub taken_of : Move → Taken
taken_of m = m.hundredths
