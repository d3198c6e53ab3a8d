-- Each register is what the call returned, which is empty.
use Rattle.std.proofs.Common.{◌∙◌, ap, replicate, rules}
use Rattle.hub_making.proofs.MakingSteps.{filled}
use Rattle.hub_making.proofs.set_registers.Goals as goal

pub returns : goal.returns
returns g c =
    filled _ g.R.Register.figures g.R.Register.start _ (λ x q step. search rules) _ _ c.fill_with.ensures.ran.1 ∙ ap (λ n. replicate n g.R.Register.start) c.fill_with.ensures.len
