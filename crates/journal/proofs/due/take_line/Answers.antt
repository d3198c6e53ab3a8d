use Rattle.std.proofs.Common.{◌≡◌, Some, None}
use Rattle.std.proofs.lemmas.Result.{err_from_is_err_and}
use Rattle.refusals.specs.declared.Refusal.TheVariants.{LineNotDue, ValueNotAllowed}
use Rattle.journal.specs.Lines.{entry_of}
use Rattle.journal.proofs.Outcomes.{not_due, of_value}
use Rattle.journal.proofs.due.take_line.Goals as goal

pub returns-in_err-value-clause-says : goal.returns-in_err-value-clause-says
returns-in_err-value-clause-says c =
    let p = err_from_is_err_and c.from_residual.result c.from_residual.ensures.1 in
    let none = rw c.in_err-value.ensures.ok_part at c.take_value.ensures in
    let why = rw c.in_err-value.ensures.ok_part at c.in_err-value.ensures.value in
    let refusal : c.in_err-value.field-0.0 ≡ LineNotDue c.args.place.now.line = cc in
    rw (p.1, p.2, refusal) (not_due _ _ _ _ none.0)

pub returns-in_err-line-clause-says : goal.returns-in_err-line-clause-says
returns-in_err-line-clause-says c =
    let p = err_from_is_err_and c.from_residual-in_err-line.result c.from_residual-in_err-line.ensures.1 in
    let passed = rw c.in_ok-value.ensures.ok_part at c.take_value.ensures in
    let says = rw c.in_err-line.ensures.ok_part at c.read_value.ensures.says in
    let why = rw c.in_err-line.ensures.ok_part at c.in_err-line.ensures.value in
    let refusal : c.in_err-line.field-0.0 ≡ ValueNotAllowed c.args.place.now.line = cc in
    rw (p.1, p.2, refusal) (of_value _ _ _ _ _ None passed.stands says)

pub returns-clause-says : goal.returns-clause-says
returns-clause-says c =
    let passed = rw c.in_ok-value.ensures.ok_part at c.take_value.ensures in
    let says = rw c.in_ok-line.ensures.ok_part at c.read_value.ensures.says in
    of_value _ _ _ _ _ (Some (entry_of c.in_ok-line.line)) passed.stands says
