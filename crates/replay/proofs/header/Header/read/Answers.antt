use Rattle.std.proofs.Common.{◌≡◌, false, Some, None, Ok, Err, sym, ap, ◌∙◌, rules}
use Rattle.std.proofs.lemmas.Bool.{cond-false}
use Rattle.std.proofs.lemmas.Result.{err_from_is_err_and}
use Rattle.journal.specs.declared.place.Place.{Place}
use Rattle.refusals.specs.declared.Refusal.TheVariants.{LineNotDue}
use Rattle.replay.specs.Told.{Told, is_made}
use Rattle.replay.proofs.Headers.{line_noted, line_refused}
use Rattle.replay.proofs.Progress.{reader_says}
use Rattle.replay.proofs.header.Header.read.Goals as goal

pub loop-reader-preserved : goal.loop-reader-preserved
loop-reader-preserved g c =
    let kind = g.R.Register in
    let same = c.loop-reader.invariant.same in
    let told = c.loop-reader.invariant.told in
    let t : Told = told.0 in
    let unmade : is_made t ≡ false = sym (c.loop-reader-test.ensures t told.1) in
    let read = c.next_line.ensures in
    let given : c.next_line.result ≡ Ok (Some c.in_ok-line.line) = search rules in
    let becomes = reader_says kind.start kind.rule c.loop-reader.reader.place c.next_line.new.self.place t _ c.next_line.result (Ok (Some c.in_ok-line.line)) (ap (λ r. r.now) same.0) same.1 told.2 read.says read.moves given in
    let next = line_noted becomes unmade (ap (λ (p : Place). p.line) c.place-number.ensures) c.note.new.self (c.in_ok-note.ensures t told.1) in
    record {
      same = (read.same.0 ∙ same.0, read.same.1 ∙ same.1);
      told = (next.0, next.1, next.2, told.3 ∙ next.3);
    }

pub returns-in_err-note-clause-read : goal.returns-in_err-note-clause-read
returns-in_err-note-clause-read g c =
    let kind = g.R.Register in
    let same = c.loop-reader.invariant.same in
    let told = c.loop-reader.invariant.told in
    let t : Told = told.0 in
    let unmade : is_made t ≡ false = sym (c.loop-reader-test.ensures t told.1) in
    let read = c.next_line.ensures in
    let given : c.next_line.result ≡ Ok (Some c.in_ok-line.line) = search rules in
    let becomes = reader_says kind.start kind.rule c.loop-reader.reader.place c.next_line.new.self.place t _ c.next_line.result (Ok (Some c.in_ok-line.line)) (ap (λ r. r.now) same.0) same.1 told.2 read.says read.moves given in
    let stops = line_refused becomes unmade (ap (λ (p : Place). p.line) c.place-number.ensures) c.note.new.self _ (c.in_err-note.ensures t told.1) in
    let p = err_from_is_err_and c.from_residual-in_err-note.result c.from_residual-in_err-note.ensures.1 in
    rw (p.1, p.2) (t, unmade, told.3 ∙ stops)

pub returns-in_err-line-clause-read : goal.returns-in_err-line-clause-read
returns-in_err-line-clause-read g c =
    let kind = g.R.Register in
    let same = c.loop-reader.invariant.same in
    let told = c.loop-reader.invariant.told in
    let t : Told = told.0 in
    let unmade : is_made t ≡ false = sym (c.loop-reader-test.ensures t told.1) in
    let read = c.next_line.ensures in
    let given : c.next_line.result ≡ Ok None = search rules in
    let becomes = reader_says kind.start kind.rule c.loop-reader.reader.place c.next_line.new.self.place t _ c.next_line.result (Ok None) (ap (λ r. r.now) same.0) same.1 told.2 read.says read.moves given in
    let refusal : c.in_err-line.field-0.0 ≡ LineNotDue c.place-number.result.line = search rules in
    let p = err_from_is_err_and c.from_residual-in_err-line.result c.from_residual-in_err-line.ensures.1 in
    rw (p.1, p.2, refusal) (t, unmade, rw c.place-number.ensures (told.3 ∙ becomes ∙ cond-false _ _ _ unmade))

pub returns-in_err-next_line-clause-read : goal.returns-in_err-next_line-clause-read
returns-in_err-next_line-clause-read g c =
    let kind = g.R.Register in
    let same = c.loop-reader.invariant.same in
    let told = c.loop-reader.invariant.told in
    let t : Told = told.0 in
    let unmade : is_made t ≡ false = sym (c.loop-reader-test.ensures t told.1) in
    let read = c.next_line.ensures in
    let becomes = reader_says kind.start kind.rule c.loop-reader.reader.place c.next_line.new.self.place t _ c.next_line.result (Err c.in_err-next_line.field-0.0) (ap (λ r. r.now) same.0) same.1 told.2 read.says read.moves c.in_err-next_line.was in
    let p = err_from_is_err_and c.from_residual.result c.from_residual.ensures.1 in
    rw (p.1, p.2) (t, unmade, told.3 ∙ becomes)
