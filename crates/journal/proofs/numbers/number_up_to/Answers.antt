use Rattle.std.proofs.Common.{arith}
use Rattle.std.proofs.lemmas.Bool.Decides.{nat_tests}
use Rattle.journal.proofs.Digits.{next_digit}
use Rattle.journal.proofs.numbers.number_up_to.Goals as goal

pub returns-in_err-digit : goal.returns-in_err-digit
returns-in_err-digit c =
    let next = next_digit c.args.limit c.loop-b.number c.args.text.now c.loop-b.b-index c.loop-b-test.true in
    grind (arith, nat_tests)

pub returns-then-longer-from : goal.returns-then-longer-from
returns-then-longer-from c =
    let next = next_digit c.args.limit c.loop-b.number c.args.text.now c.loop-b.b-index c.loop-b-test.true in
    grind (arith, nat_tests)

pub loop-b-preserved : goal.loop-b-preserved
loop-b-preserved c =
    let next = next_digit c.args.limit c.loop-b.number c.args.text.now c.loop-b.b-index c.loop-b-test.true in
    (omega arith, grind (arith, nat_tests))
