use Rattle.std.proofs.Common.{rules, Some, None, Ok, Err, ap, ◌∙◌}
use Rattle.std.proofs.lemmas.Bool.{cond-true}
use Rattle.std.proofs.lemmas.Result.{err_from_is_err_and}
use Rattle.journal.specs.declared.place.Place.{Place}
use Rattle.replay.specs.Told.{Told}
use Rattle.replay.proofs.Progress.{reader_says}
use Rattle.replay.proofs.StepLines.{step_carried_out, step_refused}
use Rattle.replay.proofs.steps.replay_steps.Goals as goal

pub loop-line-preserved : goal.loop-line-preserved
loop-line-preserved g c =
    let kind = g.R.Register in
    let same = c.loop-line.invariant.same in
    let read = c.next_line.ensures in
    record {
      slices = search rules;
      same = (read.same.0 ∙ same.0, read.same.1 ∙ same.1);
      told = λ t stands known.
          let so_far = c.loop-line.invariant.told t stands known in
          let now_told : Told = so_far.0 in
          let becomes = reader_says kind.start kind.rule c.loop-line.reader.place c.next_line.new.self.place now_told _ c.next_line.result (Ok (Some c.in-Some.line)) (ap (λ r. r.now) same.0) same.1 so_far.2 read.says read.moves (c.in_ok-line.was ∙ ap Ok c.in-Some.is) in
          let next = step_carried_out becomes so_far.1.made (ap (λ (p : Place). p.line) c.place-at.ensures) _ (c.in_ok-note_step.ensures.noted now_told so_far.1) in
          (next.0, next.1, next.2, so_far.3 ∙ next.3);
    }

pub returns-in_err-note_step-clause-read : goal.returns-in_err-note_step-clause-read
returns-in_err-note_step-clause-read g c t stands known =
    let kind = g.R.Register in
    let same = c.loop-line.invariant.same in
    let read = c.next_line.ensures in
    let so_far = c.loop-line.invariant.told t stands known in
    let now_told : Told = so_far.0 in
    let becomes = reader_says kind.start kind.rule c.loop-line.reader.place c.next_line.new.self.place now_told _ c.next_line.result (Ok (Some c.in-Some.line)) (ap (λ r. r.now) same.0) same.1 so_far.2 read.says read.moves (c.in_ok-line.was ∙ ap Ok c.in-Some.is) in
    let next = step_refused becomes so_far.1.made (ap (λ (p : Place). p.line) c.place-at.ensures) _ _ (c.in_err-note_step.ensures.noted now_told so_far.1) in
    let p = err_from_is_err_and c.from_residual-in_err-note_step.result c.from_residual-in_err-note_step.ensures.1 in
    rw (p.1, p.2) (now_told, next.0, so_far.3 ∙ next.1)

pub returns-in_default-clause-read : goal.returns-in_default-clause-read
returns-in_default-clause-read g c t stands known =
    let kind = g.R.Register in
    let same = c.loop-line.invariant.same in
    let read = c.next_line.ensures in
    let so_far = c.loop-line.invariant.told t stands known in
    let now_told : Told = so_far.0 in
    let becomes = reader_says kind.start kind.rule c.loop-line.reader.place c.next_line.new.self.place now_told _ c.next_line.result (Ok None) (ap (λ r. r.now) same.0) same.1 so_far.2 read.says read.moves (c.in_ok-line.was ∙ ap Ok c.in_default.is) in
    (now_told, so_far.1, so_far.3 ∙ becomes ∙ cond-true _ _ _ so_far.1.made)

pub returns-in_err-line-clause-read : goal.returns-in_err-line-clause-read
returns-in_err-line-clause-read g c t stands known =
    let kind = g.R.Register in
    let same = c.loop-line.invariant.same in
    let read = c.next_line.ensures in
    let so_far = c.loop-line.invariant.told t stands known in
    let now_told : Told = so_far.0 in
    let becomes = reader_says kind.start kind.rule c.loop-line.reader.place c.next_line.new.self.place now_told _ c.next_line.result (Err c.in_err-line.field-0.0) (ap (λ r. r.now) same.0) same.1 so_far.2 read.says read.moves c.in_err-line.was in
    let p = err_from_is_err_and c.from_residual.result c.from_residual.ensures.1 in
    rw (p.1, p.2) (now_told, so_far.1, so_far.3 ∙ becomes)
