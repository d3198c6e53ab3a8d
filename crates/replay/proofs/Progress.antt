-- Reading line by line: what is left of the journal decides what becomes of the replay.
use Rattle.std.proofs.Common.{◌≡◌, ℕ, ◌+◌, true, false, leb, List, length, drop, ℤ, Some, None, Ok, Err, Option, Result, sym, refl, ap, ◌∙◌, subst, inl, inr, arith}
use Rattle.std.proofs.lemmas.Bool.{cases_Bool, cond-false, cond-true}
use Rattle.refusals.specs.declared.Refusal.{Refusal}
use Rattle.refusals.specs.declared.Refusal.TheVariants.{JournalTooLong}
use Rattle.registers.specs.Kind.{Rule}
use Rattle.journal.specs.Keys.{due_key}
use Rattle.journal.specs.Lines.{entry_of, value_of}
use Rattle.journal.specs.Outcomes.{Moves, Outcome, Passed, accepted, commands_after, finished, next_outcome, next_result, outcome_at, refused}
use Rattle.journal.specs.Rows.{Rows, end, cut, row, rows_of}
use Rattle.journal.specs.Values.{Entry}
use Rattle.journal.specs.declared.lines.Line.{Line}
use Rattle.journal.specs.declared.place.Place.{Place}
use Rattle.journal.specs.declared.kinds.Accepted.{Accepted}
use Rattle.journal.proofs.Outcomes.{passed_rows}
use Rattle.replay.specs.Replaying.{Replay, after_noted, after_outcome, ended, replay_from, replay_rest, stopped}
use Rattle.replay.specs.Told.{Told, noted}

module _ (accepts : Accepted) (start : List ℤ) (rule : Rule) (text : List ℕ) (place : Place) (t : Told) where
  abbrev outcome : Outcome
  outcome = outcome_at accepts t.commands place text

  abbrev outcome_of : Rows → Outcome
  outcome_of rows = next_outcome accepts t.commands place.line rows

  by_rows : leb (length text) 65536 ≡ true → outcome ≡ outcome_of (rows_of (drop place.at text))
  unfolding outcome_at
  by_rows e = cond-true _ _ _ e

  too_long : leb (length text) 65536 ≡ false → outcome ≡ refused JournalTooLong
  unfolding outcome_at
  too_long e = cond-false _ _ _ e

  -- Where the outcome ends the reading, it decides how the replay ends.
  at_last : (o : Outcome) (r : Replay) (rows : Rows) → ((next : Told → Replay) → after_outcome accepts start rule place.line t o next ≡ r) → outcome_of rows ≡ o → replay_from accepts start rule place.line t rows ≡ r
  unfolding replay_from
  at_last o r end stops e =
      let next : Told → Replay = λ more. ended place.line more in
      ap (λ x. after_outcome accepts start rule place.line t x next) e ∙ stops next
  at_last o r cut stops e =
      let next : Told → Replay = λ more. ended place.line more in
      ap (λ x. after_outcome accepts start rule place.line t x next) e ∙ stops next
  at_last o r (row bytes rest) stops e =
      let next : Told → Replay = λ more. replay_from accepts start rule (place.line + 1) more rest in
      ap (λ x. after_outcome accepts start rule place.line t x next) e ∙ stops next

  pub when_finished : outcome ≡ finished → replay_rest accepts start rule text place t ≡ ended place.line t
  unfolding replay_rest
  when_finished e = elim (cases_Bool (leb (length text) 65536)) [
    | inl fits ↦ cond-true _ _ _ fits ∙ at_last finished (ended place.line t) (rows_of (drop place.at text)) (λ next. refl) (sym (by_rows fits) ∙ e)
    | inr long ↦ let odd = sym (too_long long) ∙ e in let z : ◌≡◌ {A = ℕ} 0 1 = cc in let w : ⊥ = omega arith in absurd w
  ]

  pub when_refused : (refusal : Refusal) → outcome ≡ refused refusal → replay_rest accepts start rule text place t ≡ stopped t refusal
  unfolding replay_rest
  when_refused refusal e = elim (cases_Bool (leb (length text) 65536)) [
    | inl fits ↦ cond-true _ _ _ fits ∙ at_last (refused refusal) (stopped t refusal) (rows_of (drop place.at text)) (λ next. refl) (sym (by_rows fits) ∙ e)
    | inr long ↦ let same = sym (too_long long) ∙ e in let cause : JournalTooLong ≡ refusal = cc in cond-false _ _ _ long ∙ ap (stopped t) cause
  ]

  -- A line is noted, and the rest is replayed from the next place on; or it is not, and the replay stops.
  pub when_accepted : (entry : Entry) (bytes : List ℕ) (next : Place) → outcome ≡ accepted entry → rows_of (drop place.at text) ≡ row bytes (rows_of (drop next.at text)) → next.line ≡ place.line + 1
      → replay_rest accepts start rule text place t ≡ after_noted t (noted start rule place.line t entry) (λ more. replay_rest accepts start rule text next more)
  unfolding replay_rest replay_from
  when_accepted entry bytes next e rows line = elim (cases_Bool (leb (length text) 65536)) [
    | inl fits ↦
        let rest = rows_of (drop next.at text) in
        let onward : Told → Replay = λ more. replay_from accepts start rule (place.line + 1) more rest in
        let here : outcome_of (row bytes rest) ≡ accepted entry = ap outcome_of (sym rows) ∙ sym (by_rows fits) ∙ e in
        cond-true _ _ _ fits ∙ ap (replay_from accepts start rule place.line t) rows ∙ ap (λ x. after_outcome accepts start rule place.line t x onward) here
        ∙ same_onward (noted start rule place.line t entry) onward (λ more. replay_rest accepts start rule text next more)
        (λ more. ap (λ n. replay_from accepts start rule n more rest) (sym line) ∙ sym (cond-true _ _ _ fits))
    | inr long ↦ let odd = sym (too_long long) ∙ e in let z : ◌≡◌ {A = ℕ} 0 1 = cc in let w : ⊥ = omega arith in absurd w
  ]
    where
      same_onward : (r : Result Told Refusal) (f g : Told → Replay) → ((more : Told) → f more ≡ g more) → after_noted t r f ≡ after_noted t r g
      same_onward (Ok more) f g each = each more
      same_onward (Err refusal) f g each = refl

-- The reader hands out a line: the number of commands that it knows goes by the line, and the replay by what the line is noted as.
pub record Passes (accepts : Accepted) (start : List ℤ) (rule : Rule) (text : List ℕ) (before after : Place) (t : Told) (known : ℕ) (line : Line) : Type 0 where
  pub knows : known ≡ commands_after t.commands (entry_of line)
  pub goes_on : replay_rest accepts start rule text before t ≡ after_noted t (noted start rule before.line t (entry_of line)) (λ more. replay_rest accepts start rule text after more)

-- The replay goes on by what the line is noted as.
pub noted_as : {accepts : Accepted} {start : List ℤ} {rule : Rule} {text : List ℕ} {before after : Place} {t : Told} {known : ℕ} {line : Line} → Passes accepts start rule text before after t known line → (r : Result Told Refusal) → noted start rule before.line t (entry_of line) ≡ r
    → replay_rest accepts start rule text before t ≡ after_noted t r (λ more. replay_rest accepts start rule text after more)
noted_as {accepts} {start} {rule} {text} {before} {after} {t} passes r e = passes.goes_on ∙ ap (λ (x : Result Told Refusal). after_noted t x (λ more. replay_rest accepts start rule text after more)) e

-- What becomes of the replay by what the reader answers at a place.
abbrev pub Becomes : Accepted → List ℤ → Rule → List ℕ → (before after : Place) → Told → ℕ → Result (Option Line) Refusal → Type 0
Becomes accepts start rule text before after t known (Ok None) = replay_rest accepts start rule text before t ≡ ended before.line t
Becomes accepts start rule text before after t known (Ok (Some line)) = Passes accepts start rule text before after t known line
Becomes accepts start rule text before after t known (Err refusal) = replay_rest accepts start rule text before t ≡ stopped t refusal

-- The reader still has the text of the replay, accepts what it began with, and knows the number of commands that was told.
pub reader_says : {accepts accepts' : Accepted} {text text' : List ℕ} {known : ℕ} (start : List ℤ) (rule : Rule) (before after : Place) (t : Told) (known' : ℕ) (r answer : Result (Option Line) Refusal)
    → text' ≡ text → accepts' ≡ accepts → known ≡ t.commands → next_result r ≡ outcome_at accepts' known before text' → Moves r text' before after known known' → r ≡ answer
    → Becomes accepts start rule text before after t known' answer
reader_says {accepts} {accepts'} {text} {text'} {known} start rule before after t known' r answer x a k says moves is = subst (Becomes accepts start rule text before after t known') is (by_result r says moves)
  where
    by_result : (r : Result (Option Line) Refusal) → next_result r ≡ outcome_at accepts' known before text' → Moves r text' before after known known' → Becomes accepts start rule text before after t known' r
    by_result (Ok None) says moves = when_finished accepts start rule text before t cc
    by_result (Ok (Some line)) says (passed, sound, knows) =
        let rows = passed_rows (subst (λ bytes. Passed bytes (due_key before.line known) before after (value_of line)) x passed) in
        record {
          knows = knows ∙ ap (λ n. commands_after n (entry_of line)) k;
          goes_on = when_accepted accepts start rule text before t (entry_of line) _ after (cc) rows passed.counted;
        }
    by_result (Err refusal) says moves = when_refused accepts start rule text before t refusal cc
