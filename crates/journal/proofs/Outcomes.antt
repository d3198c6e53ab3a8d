-- The outcome of a line, from what was found of it.
use Rattle.std.proofs.Common.{◌≡◌, ℕ, suc, ◌+◌, ◌-◌, ◌<◌, ◌≤◌, true, false, ◌&&◌, eqb, leb, List, [], ◌∷◌, ◌++◌, length, drop, Some, None, Option, sym, refl, ap, ◌∙◌, ⊎_elim, arith, length-append, length-drop}
use Rattle.std.proofs.lemmas.List.{drop_all, drop-drop}
use Rattle.std.proofs.lemmas.Bool.{cond-true, cond-false, cond_both, cases_lt, le-leb, lt-leb}
use Rattle.refusals.specs.declared.Refusal.TheVariants.{JournalTooLong, LineNotDue}
use Rattle.journal.specs.Keys.{front_of, due_key, may_end}
use Rattle.journal.specs.Rows.{Rows, end, cut, row, byte_before, rows_of}
use Rattle.journal.specs.Values.{Entry, entry_written}
use Rattle.journal.specs.Outcomes.{finished, refused, value_at, by_value, by_entry, line_outcome, next_outcome, outcome_at, is_end, line_length, Stands, Passed}
use Rattle.journal.specs.declared.keys.Key.{Key}
use Rattle.journal.specs.declared.lines.Part.{Part}
use Rattle.journal.specs.declared.place.Place.{Place}
use Rattle.journal.specs.declared.kinds.Accepted.{Accepted}
use Rattle.journal.proofs.Splits.{after_front_some}

module _ (accepts : Accepted) (key : Key) (line : ℕ) where
  pub not_due : (rows : Rows) → value_at key rows ≡ None → refused (LineNotDue line) ≡ line_outcome accepts key line rows
  unfolding line_outcome
  not_due rows e = sym (ap (by_value accepts key line) e)

  pub of_value : (bytes value : List ℕ) (entry : Option Entry) → Stands key bytes value → entry ≡ entry_written accepts key value → by_entry line entry ≡ line_outcome accepts key line (rows_of bytes)
  unfolding line_outcome
  of_value bytes value entry stands e =
      let found : value_at key (rows_of bytes) ≡ Some value = ap (value_at key) stands.rows ∙ after_front_some (front_of key) value in
      ap (by_entry line) e ∙ sym (ap (by_value accepts key line) found)

-- A line that was handed out ends within the journal, and is at least one byte long.
pub passed_inside : {text : List ℕ} {key : Key} {before after : Place} {value : Part} → Passed text key before after value → before.at ≤ length text → (after.at ≤ length text) × (before.at + 1 ≤ after.at)
passed_inside {text} {key} {before} {after} {value} passed inside =
    let bytes = drop before.at text in
    let rest = drop (line_length key value.text.now) bytes in
    let whole : length bytes ≡ length (front_of key) + (length value.text.now + suc (length rest)) =
    simp length-append at (ap length passed.stands.written) in
    let left : length bytes ≡ length text - before.at = length-drop before.at text in
    (omega (arith, passed.next), omega (arith, passed.next))

module _ (accepts : Accepted) (known : ℕ) (place : Place) (text : List ℕ) where
  pub too_long : 65536 < length text → refused JournalTooLong ≡ outcome_at accepts known place text
  unfolding outcome_at
  too_long long = sym (cond-false _ _ _ (lt-leb _ _ long))

  short : length text ≤ 65536 → next_outcome accepts known place.line (rows_of (drop place.at text)) ≡ outcome_at accepts known place text
  unfolding outcome_at
  short fits = sym (cond-true _ _ _ (le-leb _ _ fits))

  -- At the end of the journal, where it may end; and everywhere else.
  pub at_end : length text ≤ 65536 → true ≡ (may_end (due_key place.line known) && is_end (rows_of (drop place.at text))) → finished ≡ outcome_at accepts known place text
  at_end fits ended = sym (cond-true _ _ _ (sym ended)) ∙ short fits

  pub before_end : length text ≤ 65536 → false ≡ (may_end (due_key place.line known) && is_end (rows_of (drop place.at text))) → line_outcome accepts (due_key place.line known) place.line (rows_of (drop place.at text)) ≡ outcome_at accepts known place text
  before_end fits more = sym (cond-false _ _ _ (sym more)) ∙ short fits

-- Where bytes are left the rows have not ended.
byte_no_end : (b : ℕ) (rows : Rows) → is_end (byte_before b rows) ≡ false
byte_no_end b end = refl
byte_no_end b cut = refl
byte_no_end b (row bytes rest) = refl

some_no_end : (bytes : List ℕ) → 0 < length bytes → is_end (rows_of bytes) ≡ false
unfolding rows_of
some_no_end [] some = let z : ⊥ = omega arith in absurd z
some_no_end (b ∷ bs) some = cond_both (eqb b 10) (row [] (rows_of bs)) (byte_before b (rows_of bs)) (λ rows. is_end rows ≡ false) (λ _. refl) (λ _. byte_no_end b (rows_of bs))

pub ends_from : (text : List ℕ) (at : ℕ) → leb (length text) at ≡ is_end (rows_of (drop at text))
unfolding rows_of
ends_from text at =
    ⊎_elim
    (λ inside. lt-leb (length text) at inside ∙ sym (some_no_end (drop at text) (omega (arith, length-drop at text))))
    (λ past. le-leb (length text) at past ∙ sym (ap (λ bytes. is_end (rows_of bytes)) (drop_all at text past)))
    (cases_lt at (length text))

-- The rows behind a line that was handed out are those of the next place.
pub passed_rows : {text : List ℕ} {key : Key} {before after : Place} {value : Part} → Passed text key before after value → rows_of (drop before.at text) ≡ row (front_of key ++ value.text.now) (rows_of (drop after.at text))
passed_rows {text} {key} {before} {after} {value} passed =
    let rest : drop (line_length key value.text.now) (drop before.at text) ≡ drop after.at text =
    drop-drop (line_length key value.text.now) before.at text ∙ ap (λ n. drop n text) (sym passed.next) in
    passed.stands.rows ∙ ap (λ bytes. row (front_of key ++ value.text.now) (rows_of bytes)) rest
