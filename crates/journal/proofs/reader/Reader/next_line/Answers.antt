use Rattle.std.proofs.Common.{◌∙◌, arith}
use Rattle.std.proofs.lemmas.Result.{err_from_is_err_and}
use Rattle.journal.proofs.Outcomes.{too_long, at_end, before_end}
use Rattle.journal.proofs.reader.Reader.next_line.Goals as goal

pub returns-then-text-gt-LONGEST-clause-says : goal.returns-then-text-gt-LONGEST-clause-says
returns-then-text-gt-LONGEST-clause-says c = too_long _ _ _ _ (omega arith)

pub returns-then-has_ended-clause-says : goal.returns-then-has_ended-clause-says
returns-then-has_ended-clause-says c = at_end _ _ _ _ (omega arith) (rw c.due-key.ensures at c.if-has_ended.ensures)

pub returns-in_err-line-clause-says : goal.returns-in_err-line-clause-says
returns-in_err-line-clause-says c =
    let p = err_from_is_err_and c.from_residual.result c.from_residual.ensures.1 in
    let says = rw c.due-key.ensures at c.in_err-line.ensures.says in
    rw (p.1, p.2) (says ∙ before_end _ _ _ _ (omega arith) (rw c.due-key.ensures at c.if-has_ended.ensures))

pub returns-clause-says : goal.returns-clause-says
returns-clause-says c =
    let says = rw c.due-key.ensures at c.in_ok-line.ensures.says in
    says ∙ before_end _ _ _ _ (omega arith) (rw c.due-key.ensures at c.if-has_ended.ensures)
