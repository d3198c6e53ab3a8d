use Rattle.std.proofs.Common.{◌≡◌, length, Some, None, Option, sym, refl, ap, ◌∙◌, arith}
use Rattle.std.proofs.lemmas.Result.{err_from_is_err_and}
use Rattle.journal.specs.Lines.{entry_of}
use Rattle.journal.proofs.Outcomes.{passed_inside}
use Rattle.batch.specs.Told.{Told, nothing_told, with_entry}
use Rattle.batch.proofs.Progress.{told_rest, from_start, short_if_accepted, when_finished, when_refused, in_other_words, of_line, of_end, go_on}
use Rattle.batch.proofs.reading.read_batch.Goals as goal

no_line : {A : Type 0} (answer : Option A) → ((line : A) → answer ≡ Some line → ⊥) → answer ≡ None
no_line None other = refl
no_line (Some line) other = absurd (other line refl)

pub loop-line-init : goal.loop-line-init
loop-line-init g c =
    let text = c.args.journal.now in
    let new = c.new-reader.ensures in
    let made = c.empty-batch.ensures in
    let at_start : told_rest text (record { at = 0; line = 1 }) nothing_told ≡ told_rest text c.new-reader.result.place nothing_told =
    ap (λ p. told_rest text p nothing_told) (sym new.1.0) in
    (ap (λ t. t.now) new.0, new.1.1.1, λ k. omega (arith, made.few k), (nothing_told, made.holds, new.1.1.0, from_start text ∙ at_start))

pub note-requires : goal.note-requires
note-requires g c =
    let inv = c.loop-line.invariant in
    let told : Told = inv.3.0 in
    let line = of_line _ _ _ _ _ _ _ c.in-Some.line c.in-Some.is c.in_ok-line.ensures.says c.in_ok-line.ensures.moves in
    let short = short_if_accepted c.args.journal.now c.loop-line.reader.place told _ (in_other_words c.loop-line.reader.place told inv.0 inv.1 inv.3.2 line.0) in
    λ k. omega (arith, inv.2 k, c.loop-line.reader.inside, ap length inv.0, short)

pub loop-line-preserved : goal.loop-line-preserved
loop-line-preserved g c =
    let inv = c.loop-line.invariant in
    let told : Told = inv.3.0 in
    let same = c.in_ok-line.ensures.same in
    let line = of_line _ _ _ _ _ _ _ c.in-Some.line c.in-Some.is c.in_ok-line.ensures.says c.in_ok-line.ensures.moves in
    let next = go_on c.args.journal.now _ _ _ _ _ _ told _ c.in-Some.line inv.0 inv.1 inv.3.2 line.0 line.1.0 line.1.2 in
    let longer = (passed_inside line.1.0 c.loop-line.reader.inside).1 in (
      ap (λ t. t.now) same.0 ∙ inv.0,
      same.1 ∙ inv.1,
      (λ k. omega (arith, c.note.ensures.few c.loop-line.reader.place.at inv.2 k, longer)),
      (with_entry told (entry_of c.in-Some.line), c.note.ensures.holds told inv.3.1, next.0, inv.3.3 ∙ next.1),
    )

pub returns : goal.returns
returns g c =
    let inv = c.loop-line.invariant in
    let told : Told = inv.3.0 in
    let here = in_other_words c.loop-line.reader.place told inv.0 inv.1 inv.3.2 (of_end _ _ (no_line _ c.in_default.not-Some) c.in_ok-line.ensures.says) in
    rw (inv.3.3 ∙ when_finished _ _ told here) inv.3.1

pub returns-in_err-line : goal.returns-in_err-line
returns-in_err-line g c =
    let inv = c.loop-line.invariant in
    let told : Told = inv.3.0 in
    let here = in_other_words c.loop-line.reader.place told inv.0 inv.1 inv.3.2 c.in_err-line.ensures.says in
    let answer = err_from_is_err_and c.from_residual.result c.from_residual.ensures.1 in
    rw (answer.1, answer.2, inv.3.3 ∙ when_refused _ _ told _ here) refl
