-- From what was tried to what is shown.
use Rattle.std.proofs.Common.{◌≡◌, ℕ, Bool, true, false, cond, List, Some, None, Result, subst}
use Rattle.refusals.specs.declared.Refusal.{Refusal}
use Rattle.registers.specs.Classes.{the_classes}
use Rattle.registers.specs.Peak.{the_peak}
use Rattle.registers.specs.Sum.{the_sum}
use Rattle.registers.specs.declared.kind.Kind.TheVariants.{Sum, Classes, Peak}
use Rattle.report.specs.Shown.{Shows}
use Rattle.report.specs.declared.shown.Shown.{Shown}
use Rattle.showing.specs.Showing.{Tried, TriedWith, names_another, number_shown, text_shown, with_kind}

nothing_shown : {A : Type 0} (r : Result Shown Refusal) → Some r ≡ None → A
nothing_shown r e = absurd (cc)

-- Of three texts with their numbers, the second where the first attempt fails, and the third where the second fails too.
module _ (one two three : List ℕ) (m n o : ℕ) (out mid out' : List ℕ) (r : Result Shown Refusal) where
  second_of : (a b : Bool) → Tried a one m out None mid → Tried b two n mid (Some r) out' → Shows (cond a (cond b three two) one) (cond a (cond b o n) m) out r out'
  second_of true true first second = nothing_shown r second.0
  second_of true false first second = subst (λ x. Shows two n x r out') first.1 second
  second_of false b first second = absurd first

  third_of : (last : List ℕ) (a b c : Bool) → Tried a one m out None mid → Tried b two n mid None last → Tried c three o last (Some r) out' → Shows (cond a (cond b three two) one) (cond a (cond b o n) m) out r out'
  third_of last true true true first second third = nothing_shown r third.0
  third_of last true true false first second third = subst (λ x. Shows three o x r out') first.1 (subst (λ x. Shows three o x r out') second.1 third)
  third_of last true false c first second third = absurd second
  third_of last false b c first second third = absurd first

-- The same of the texts that a journal may get.
module _ (journal out mid out' : List ℕ) (r : Result Shown Refusal) where
  pub second_shown : TriedWith (Some Sum) the_sum.start the_sum.rule journal out None mid → TriedWith (Some Classes) the_classes.start the_classes.rule journal mid (Some r) out' → Shows (text_shown journal) (number_shown journal) out r out'
  second_shown = second_of _ _ _ _ _ _ out mid out' r (names_another (with_kind Sum the_sum journal).ending) (names_another (with_kind Classes the_classes journal).ending)

  pub third_shown : (last : List ℕ) → TriedWith (Some Sum) the_sum.start the_sum.rule journal out None mid → TriedWith (Some Classes) the_classes.start the_classes.rule journal mid None last → TriedWith (Some Peak) the_peak.start the_peak.rule journal last (Some r) out' → Shows (text_shown journal) (number_shown journal) out r out'
  third_shown last = third_of _ _ _ _ _ _ out mid out' r last (names_another (with_kind Sum the_sum journal).ending) (names_another (with_kind Classes the_classes journal).ending) (names_another (with_kind Peak the_peak journal).ending)
