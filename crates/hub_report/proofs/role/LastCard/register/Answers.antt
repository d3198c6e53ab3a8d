use Rattle.std.proofs.Common.{arith}
use Rattle.hub_report.proofs.LastCards.{register_at}
use Rattle.hub_report.proofs.role.LastCard.register.Goals as goal

pub returns : goal.returns
returns g c =
    let found = c.get.ensures.lookup in
    let index = c.in_ok-checked_sub.ensures in
    register_at g.R.Register.figures c.args.self.now.registers.now c.args.self.now.number _ _ index.0 (omega arith) index.1 found.1 found.2
