use Rattle.std.proofs.Common.{◌≡◌, ◌+◌, ◌-◌, false, length, take, drop}
use Rattle.std.specs.Range.{range_inclusive_exhausted, range_inclusive_left, range_inclusive_start}
use Rattle.report.specs.Writer.{WrittenBy}
use Rattle.batch.specs.Totals.{letters_text}
use Rattle.batch.proofs.text.write_letters.Given as goal

-- As many letters are left as counts, and the next of them goes with the next count.
abbrev pub invariant-loop-letter : goal.invariant-loop-letter
invariant-loop-letter l = record {
  left : range_inclusive_left (λ x y. y - x) l.letter-iterator.a + length l.yielded ≡ 18;
  letter : range_inclusive_exhausted l.letter-iterator.a ≡ false → range_inclusive_start l.letter-iterator.a ≡ 65 + length l.yielded;
  counts : l.letter-iterator.b.rest.now ≡ drop (length l.yielded) l.letters;
  lines : WrittenBy (letters_text 65 (take (length l.yielded) l.letters)) l.initial.writer l.writer;
}
