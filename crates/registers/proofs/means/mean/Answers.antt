use Rattle.std.proofs.Common.{◌≡◌, ℕ, ℤ, Some, None, Option, sym, subst, ltb, w64, SFits, rules, tests, arith}
use Rattle.std.proofs.lemmas.Bool.{ltb-false}
use Rattle.std.proofs.lemmas.Option.{IfSome_then}
use Rattle.std.specs.Option.{is_some, IfSome}
use Rattle.registers.specs.Mean.{MeanIs, mean_of_sum}
use Rattle.registers.proofs.Rounding.{computes_mean, unanswered}
use Rattle.registers.proofs.means.mean.Goals as goal

by_version : (s : ℤ) (v : ℕ) (r : Option ℤ) → is_some r ≡ ltb 0 v → IfSome r (λ z. Some z ≡ mean_of_sum s v) → r ≡ mean_of_sum s v
by_version s v None e h = unanswered s v (omega (arith, ltb-false 0 v (sym e)))
by_version s v (Some z) e h = h

value : (c : goal.After-then) → c.then.result ≡ mean_of_sum c.args.sum c.args.version
value c =
    let fs : SFits w64 c.args.sum = c.ranges.sum in
    by_version _ _ _ c.then.ensures.variant (IfSome_then c.then.result c.then.ensures.some (λ z p. search (rules, tests)))

pub returns-clause-value : goal.returns-clause-value
returns-clause-value c = value c

pub returns-clause-nearest : goal.returns-clause-nearest
returns-clause-nearest c = subst (MeanIs c.args.sum c.args.version) (sym (value c)) (computes_mean c.args.sum c.args.version)
