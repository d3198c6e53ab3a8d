-- A report after the look that it rests on.
use Rattle.std.proofs.Common.{◌≡◌, ℕ, ◌≤◌, Bool, true, false, cond, List, [], length, ℤ, Ok, Err, Result, sym, refl, ap, ◌∙◌, subst, arith}
use Rattle.std.proofs.lemmas.Bool.{both_ways}
use Rattle.refusals.specs.declared.Refusal.{Refusal}
use Rattle.refusals.specs.declared.Refusal.TheVariants.{TablesMisfit}
use Rattle.registers.specs.Kind.{Rule}
use Rattle.hub_cards.specs.Tables.{at}
use Rattle.hub_records.specs.declared.look.Look.{Look}
use Rattle.hub_runs.specs.Fits.{state_fits}
use Rattle.hub_runs.specs.Hubs.{Size, State}
use Rattle.hub.specs.Looking.{the_look}
use Rattle.hub.specs.Looking.{Looks}
use Rattle.report.specs.Printed.{Printed}
use Rattle.hub_report.specs.ReportText.{look_text, report_text}
use Rattle.hub_report.specs.Reporting.{Reports}
use Rattle.hub_report.proofs.LastCards.{last_registers}

by_fit : (fit : Bool) (seen there : Look) → ◌≡◌ {A = Result Look Refusal} (Ok seen) (cond fit (Ok there) (Err TablesMisfit)) → (fit ≡ true) × (seen ≡ there)
by_fit true seen there e = (refl, cc)
by_fit false seen there e = let z : ◌≡◌ {A = ℕ} 0 1 = cc in let never : ⊥ = omega arith in absurd never

module _ {start : List ℤ} {rule : Rule} {size : Size} {s : State} {answer : Result Look Refusal} {seen : Look} where
  -- A look is answered on tables that fit, and is then the look at the state.
  seen_there : answer ≡ Ok seen → Looks start rule size s answer → (state_fits size s ≡ true) × (seen ≡ the_look s)
  seen_there is looks = by_fit (state_fits size s) seen (the_look s) (sym is ∙ looks.answered)

  -- There are registers for the cards that it names.
  pub seen_within : answer ≡ Ok seen → Looks start rule size s answer → (seen.master.0 ≤ length s.master_figures) × (seen.backup.0 ≤ length s.backup_figures)
  seen_within is looks =
      let there = seen_there is looks in
      let within = last_registers size s there.0 in
      (omega (arith, within.0, ap (λ l. l.master.0) there.1), omega (arith, within.1, ap (λ l. l.backup.0) there.1))

  -- What is printed of it is the report.
  pub reports_seen : {code : ℕ} {out : List ℕ} {r : Result ℕ Refusal} {out' : List ℕ} → answer ≡ Ok seen → Looks start rule size s answer
      → Printed (look_text code seen (at [] s.master_figures seen.master.0) (at [] s.backup_figures seen.backup.0)) out r out'
      → Reports code size s out r out'
  unfolding report_text
  reports_seen {code} {out} {r} {out'} is looks print =
      let there = seen_there is looks in
      record {
        misfit = λ no. absurd (both_ways _ no there.0);
        printed = λ _. subst (λ l. Printed (look_text code l (at [] s.master_figures l.master.0) (at [] s.backup_figures l.backup.0)) out r out') there.1 print;
      }
