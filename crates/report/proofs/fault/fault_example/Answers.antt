use Rattle.std.proofs.Common.{refl}
use Rattle.std.specs.Fmt.{digits}
use Rattle.report.proofs.fault.fault_example.Goals as goal

pub returns-clause-worked : goal.returns-clause-worked
unfolding digits
returns-clause-worked c = refl
