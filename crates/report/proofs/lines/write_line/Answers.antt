use Rattle.report.proofs.Writing.{puts_writes, writes_then}
use Rattle.report.proofs.lines.write_line.Goals as goal

pub returns : goal.returns
returns c =
    writes_then
    (writes_then (puts_writes c.put_at-after_key.ensures)
    (writes_then (puts_writes c.put_at-after_sign.ensures) (puts_writes c.put_at-after_value.ensures)))
    (puts_writes c.put_at.ensures)
