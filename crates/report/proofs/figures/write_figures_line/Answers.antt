use Rattle.report.proofs.Writing.{puts_writes, writes_then}
use Rattle.report.proofs.figures.write_figures_line.Goals as goal

pub returns : goal.returns
returns g c =
    writes_then
    (writes_then (puts_writes c.put_at-after_key.ensures)
    (writes_then (puts_writes c.put_at-after_sign.ensures) c.write_figures-after_figures.ensures))
    (puts_writes c.put_at.ensures)
