use Rattle.std.proofs.Common.{◌≡◌, ℕ, ◌+◌, ◌∷◌, [], ◌++◌, length, sym, ◌∙◌, arith}
use Rattle.std.proofs.lemmas.List.{length-append}
use Rattle.report.proofs.Writing.{put_written, written_as, written_then}
use Rattle.batch.proofs.Bounds.{letters_short}
use Rattle.batch.proofs.Letters.{letters_more, next_count, not_spent}
use Rattle.batch.proofs.text.write_letters.Goals as goal

pub loop-letter-preserved : goal.loop-letter-preserved
loop-letter-preserved c =
    let i : ℕ = length c.loop-letter.yielded in
    let inv = c.loop-letter.invariant in
    let letters = c.in-Some.ensures.steps.0 in
    let next = next_count c.args.letters.now _ i c.in-Some.count.now (sym c.in-Some.ensures.steps.1 ∙ inv.counts) in
    let more = not_spent c.loop-letter.letter-iterator.a _ letters.1.1 in
    let letter : c.in-Some.letter ≡ 65 + i = letters.1.0 ∙ inv.letter more in
    let long : length (c.loop-letter.yielded ++ (c.in-Some.letter, c.in-Some.count) ∷ []) ≡ i + 1 = length-append c.loop-letter.yielded _ in
    rw long record {
      left = omega (arith, letters.1.1, inv.left);
      letter = λ some. omega (arith, letters.1.2 some, inv.letter more);
      counts = next.2;
      lines = written_as (letters_more c.args.letters.now i c.in-Some.letter c.in-Some.count.now next.0 letter next.1) (written_then inv.lines (put_written c.put_number_line.ensures));
    }

pub returns-clause-short : goal.returns-clause-short
returns-clause-short c = omega (arith, letters_short 65 c.args.letters.now (λ k. omega (arith, c.fits-letters k)))
