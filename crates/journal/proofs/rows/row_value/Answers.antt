use Rattle.journal.proofs.Splits.{no_value, found_or_not}
use Rattle.journal.proofs.rows.row_value.Goals as goal

pub returns-in_err-length : goal.returns-in_err-length
returns-in_err-length c = rw c.from_residual.ensures (no_value _ _ c.in_err-length.ensures)

pub returns : goal.returns
returns c = found_or_not _ _ _ c.in_ok-length.ensures _ (rw c.front.ensures at c.after.ensures)
