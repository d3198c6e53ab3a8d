-- Each way out of the function gives the computed mean: what the code has of it is read as numbers, without their bits.
use Rattle.std.proofs.Common.{◌≡◌, ◌*◌, ◌<◌, ◌≤◌, pos, ◌+ℤ◌, nat_abs, sym, ap, ◌∙◌, subst, arith, w64, SFits, to_z, of_z, rules}
use lib.Signed.{quot_z, rem_z}
use Rattle.std.proofs.lemmas.Int.{ints, to_z-of_z}
use Rattle.std.specs.Int.{int_signum}
use Rattle.registers.proofs.Dividing.{farther_fits, quotient_farther, quotient_stays}
use Rattle.registers.proofs.Rounding.{answered}
use Rattle.registers.proofs.means.nearest.Goals as goal

pub returns-then-abs-by : goal.returns-then-abs-by
returns-then-abs-by c =
    let s = c.args.sum in
    let v = c.args.version in
    let fs : SFits w64 s = search rules in
    let fb : SFits w64 c.from-by.result = search rules in
    let fq : SFits w64 (quot_z s c.from-by.result) = search (rules, ints) in
    let fr : SFits w64 (rem_z s c.from-by.result) = search (rules, ints) in
    let left : 2 * nat_abs (rem_z s (pos v)) < v = grind (arith, ints, to_z-of_z) in
    let mean = ap (quot_z s) c.from-by.ensures ∙ quotient_stays s v left in
    (answered s v _ (omega arith) (simp to_z-of_z mean)).0

half_left : (c : goal.After-signum) → c.args.version ≤ 2 * nat_abs (rem_z c.args.sum (pos c.args.version))
half_left c =
    let fs : SFits w64 c.args.sum = search rules in
    let fb : SFits w64 c.from-by.result = search rules in
    let fr : SFits w64 (rem_z c.args.sum c.from-by.result) = search (rules, ints) in
    grind (arith, ints, to_z-of_z)

farther_is : (c : goal.After-signum) → to_z w64 (of_z w64 (quot_z (to_z w64 (of_z w64 c.args.sum)) (to_z w64 (of_z w64 c.from-by.result)))) +ℤ to_z w64 (of_z w64 c.signum.result) ≡ quot_z c.args.sum (pos c.args.version) +ℤ int_signum c.args.sum
farther_is c =
    let fs : SFits w64 c.args.sum = search rules in
    let fb : SFits w64 c.from-by.result = search rules in
    let fq : SFits w64 (quot_z c.args.sum c.from-by.result) = search (rules, ints) in
    let fg : SFits w64 c.signum.result = search rules in
    let q : quot_z c.args.sum c.from-by.result ≡ quot_z c.args.sum (pos c.args.version) = ap (quot_z c.args.sum) c.from-by.ensures in
    let sign : c.signum.result ≡ int_signum c.args.sum = simp to_z-of_z at c.signum.ensures.value in
    simp to_z-of_z (ap (λ z. z +ℤ c.signum.result) q ∙ ap (λ z. quot_z c.args.sum (pos c.args.version) +ℤ z) sign)

pub overflow_add-result : goal.overflow_add-result
overflow_add-result c =
    let fs : SFits w64 c.args.sum = search rules in
    subst (SFits w64) (sym (farther_is c)) (farther_fits c.args.sum c.args.version fs (omega arith) (half_left c))

pub returns-else-abs-by : goal.returns-else-abs-by
returns-else-abs-by c =
    let some : 0 < c.args.version = omega arith in
    let mean = farther_is c ∙ quotient_farther c.args.sum c.args.version some (half_left c) in
    (answered c.args.sum c.args.version _ some (to_z-of_z w64 _ (overflow_add-result c) ∙ mean)).0
