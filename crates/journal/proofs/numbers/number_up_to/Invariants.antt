use Rattle.std.proofs.Common.{◌≡◌, ◌≤◌, drop}
use Rattle.journal.specs.Numbers.{number_up_to}
use Rattle.journal.proofs.Digits.{remaining}
use Rattle.journal.proofs.numbers.number_up_to.Given as goal

abbrev pub invariant-loop-b : goal.invariant-loop-b
invariant-loop-b l = (l.number ≤ l.limit) × (number_up_to l.limit l.text ≡ remaining l.limit l.number (drop l.b-index l.text))
