-- Reading line by line: what is left of the journal decides what it tells.
use Rattle.std.proofs.Common.{◌≡◌, ℕ, ◌+◌, ◌≤◌, true, false, cond, leb, List, length, drop, Some, None, Ok, Err, Option, Result, sym, refl, ap, ◌∙◌, subst, inl, inr, arith}
use Rattle.std.proofs.lemmas.Bool.{cond-true, cond-false, cases_Bool, leb-true}
use Rattle.refusals.specs.declared.Refusal.{Refusal}
use Rattle.refusals.specs.declared.Refusal.TheVariants.{JournalTooLong}
use Rattle.journal.specs.Outcomes.{Outcome, accepted, finished, refused, next_outcome, next_result, outcome_at, commands_after, Moves, Passed}
use Rattle.journal.specs.Lines.{entry_of, value_of}
use Rattle.journal.specs.Rows.{Rows, end, cut, row, rows_of}
use Rattle.journal.specs.Values.{Entry, commands, kills, cards, register, move, step}
use Rattle.journal.specs.declared.keys.Key.{Key}
use Rattle.journal.specs.declared.lines.Line.{Line}
use Rattle.journal.specs.declared.place.Place.{Place}
use Rattle.journal.specs.declared.kinds.Accepted.{Accepted}
use Rattle.journal.specs.declared.kinds.Accepted.TheVariants.{AnyNamed}
use Rattle.journal.proofs.Outcomes.{passed_rows}
use Rattle.batch.specs.Reading.{after_outcome, told_from, told_by}
use Rattle.batch.specs.Told.{Told, nothing_told, with_entry}

-- What the journal tells from this place on, after what was told before it.
unfoldable pub told_rest : List ℕ → Place → Told → Result Told Refusal
told_rest text place told = cond (leb (length text) 65536) (told_from place.line told (rows_of (drop place.at text))) (Err JournalTooLong)

pub from_start : (text : List ℕ) → told_by text ≡ told_rest text (record { at = 0; line = 1 }) nothing_told
unfolding told_by told_rest
from_start text = refl

module _ (text : List ℕ) (place : Place) (told : Told) where
  abbrev outcome : Outcome
  outcome = outcome_at AnyNamed told.commands place text

  abbrev outcome_of : Rows → Outcome
  outcome_of rows = next_outcome AnyNamed told.commands place.line rows

  by_rows : leb (length text) 65536 ≡ true → outcome ≡ outcome_of (rows_of (drop place.at text))
  unfolding outcome_at
  by_rows e = cond-true _ _ _ e

  too_long : leb (length text) 65536 ≡ false → outcome ≡ refused JournalTooLong
  unfolding outcome_at
  too_long e = cond-false _ _ _ e

  -- Where the outcome ends the reading, it decides what was told.
  at_last : (o : Outcome) (r : Result Told Refusal) (rows : Rows) → ((more : Entry → Result Told Refusal) → after_outcome o told more ≡ r) → outcome_of rows ≡ o → told_from place.line told rows ≡ r
  unfolding told_from
  at_last o r end stops e =
      let more : Entry → Result Told Refusal = λ entry. Ok (with_entry told entry) in
      ap (λ x. after_outcome x told more) e ∙ stops more
  at_last o r cut stops e =
      let more : Entry → Result Told Refusal = λ entry. Ok (with_entry told entry) in
      ap (λ x. after_outcome x told more) e ∙ stops more
  at_last o r (row bytes rest) stops e =
      let more : Entry → Result Told Refusal = λ entry. told_from (place.line + 1) (with_entry told entry) rest in
      ap (λ x. after_outcome x told more) e ∙ stops more

  pub short_if_accepted : (entry : Entry) → outcome ≡ accepted entry → length text ≤ 65536
  short_if_accepted entry e = elim (cases_Bool (leb (length text) 65536)) [
    | inl fits ↦ leb-true _ _ fits
    | inr long ↦ let odd = sym (too_long long) ∙ e in let z : ◌≡◌ {A = ℕ} 0 1 = cc in let w : ⊥ = omega arith in absurd w
  ]

  pub when_finished : outcome ≡ finished → told_rest text place told ≡ Ok told
  unfolding told_rest
  when_finished e = elim (cases_Bool (leb (length text) 65536)) [
    | inl fits ↦ cond-true _ _ _ fits ∙ at_last finished (Ok told) (rows_of (drop place.at text)) (λ more. refl) (sym (by_rows fits) ∙ e)
    | inr long ↦ let odd = sym (too_long long) ∙ e in let z : ◌≡◌ {A = ℕ} 0 1 = cc in let w : ⊥ = omega arith in absurd w
  ]

  pub when_refused : (refusal : Refusal) → outcome ≡ refused refusal → told_rest text place told ≡ Err refusal
  unfolding told_rest
  when_refused refusal e = elim (cases_Bool (leb (length text) 65536)) [
    | inl fits ↦ cond-true _ _ _ fits ∙ at_last (refused refusal) (Err refusal) (rows_of (drop place.at text)) (λ more. refl) (sym (by_rows fits) ∙ e)
    | inr long ↦ let same = sym (too_long long) ∙ e in cond-false _ _ _ long ∙ cc
  ]

  -- One line more: what it says is told, and the rest is read from the next place on.
  pub when_accepted : (entry : Entry) (bytes : List ℕ) (next : Place) → outcome ≡ accepted entry → rows_of (drop place.at text) ≡ row bytes (rows_of (drop next.at text)) → next.line ≡ place.line + 1 → told_rest text place told ≡ told_rest text next (with_entry told entry)
  unfolding told_rest told_from
  when_accepted entry bytes next e rows line = elim (cases_Bool (leb (length text) 65536)) [
    | inl fits ↦
        let rest = rows_of (drop next.at text) in
        let more : Entry → Result Told Refusal = λ entry. told_from (place.line + 1) (with_entry told entry) rest in
        let here : outcome_of (row bytes rest) ≡ accepted entry = ap outcome_of (sym rows) ∙ sym (by_rows fits) ∙ e in
        cond-true _ _ _ fits ∙ ap (told_from place.line told) rows ∙ ap (λ x. after_outcome x told more) here
        ∙ ap (λ n. told_from n (with_entry told entry) rest) (sym line) ∙ sym (cond-true _ _ _ fits)
    | inr long ↦ cond-false _ _ _ long ∙ sym (cond-false _ _ _ long)
  ]

-- The outcome in the words of what was told so far.
pub in_other_words : {accepts : Accepted} {known : ℕ} {text text' : List ℕ} (place : Place) (told : Told) {o : Outcome} → text' ≡ text → accepts ≡ AnyNamed → known ≡ told.commands → o ≡ outcome_at accepts known place text' → outcome_at AnyNamed told.commands place text ≡ o
in_other_words place told t a k e = cc

-- What a reader tells of the line that it hands out.
pub of_line : (text : List ℕ) (before after : Place) (known known' : ℕ) (o : Outcome) (answer : Option Line) (line : Line) → answer ≡ Some line → next_result (Ok answer) ≡ o → Moves (Ok answer) text before after known known' → (accepted (entry_of line) ≡ o) × Moves (Ok (Some line)) text before after known known'
of_line text before after known known' o answer line e says moves =
    (sym (ap (λ a. next_result (Ok a)) e) ∙ says, subst (λ a. Moves (Ok a) text before after known known') e moves)

pub of_end : (o : Outcome) (answer : Option Line) → answer ≡ None → next_result (Ok answer) ≡ o → finished ≡ o
of_end o answer e says = sym (ap (λ a. next_result (Ok a)) e) ∙ says

commands_told : (told : Told) (known : ℕ) (entry : Entry) → known ≡ told.commands → commands_after known entry ≡ (with_entry told entry).commands
commands_told told known (commands n) e = refl
commands_told told known (kills n) e = e
commands_told told known (cards n) e = e
commands_told told known (register n) e = e
commands_told told known (move z) e = e
commands_told told known (step action c) e = e

-- The line is told, and the rest of the journal is read from the next place on.
pub go_on : (text text' : List ℕ) (accepts : Accepted) (known known' : ℕ) (before after : Place) (told : Told) (key : Key) (line : Line) → text' ≡ text → accepts ≡ AnyNamed → known ≡ told.commands → accepted (entry_of line) ≡ outcome_at accepts known before text' → Passed text' key before after (value_of line) → known' ≡ commands_after known (entry_of line) → (known' ≡ (with_entry told (entry_of line)).commands) × (told_rest text before told ≡ told_rest text after (with_entry told (entry_of line)))
go_on text text' accepts known known' before after told key line t a k says passed k' =
    let rows = passed_rows (subst (λ bytes. Passed bytes key before after (value_of line)) t passed) in (
      k' ∙ commands_told told known (entry_of line) k,
      when_accepted text before told (entry_of line) _ after (in_other_words before told t a k says) rows passed.counted,
    )
