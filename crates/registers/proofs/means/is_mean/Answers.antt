use Rattle.std.proofs.Common.{w64, SFits}
use Rattle.std.proofs.lemmas.Int.{to_z-of_z}
use Rattle.registers.proofs.Rounding.{computes_mean, decided, none_nearer, one_mean}
use Rattle.registers.proofs.means.is_mean.Goals as goal

pub returns : goal.returns
returns c =
    let fs : SFits w64 c.args.sum = c.ranges.sum in
    let fc : SFits w64 c.args.candidate = c.ranges.candidate in
    let answer = simp to_z-of_z at c.mean.ensures.nearest in
    let same = simp to_z-of_z at c.eq.ensures in
    record {
      decides = decided c.args.sum c.args.version c.args.candidate c.mean.result c.eq.result answer same;
      computed = computes_mean;
      only = one_mean;
      nearest = none_nearer;
    }
