-- Every move gives a rule something in range, so that the laws of a register speak of it.
use Rattle.registers.specs.OfMove.{taken_of}
use Rattle.registers.specs.Taken.{InRange}
use Rattle.registers.specs.declared.moves.Move.{Move}

pub taken_in_range : (m : Move) → InRange (taken_of m)
taken_in_range m = m.limited
