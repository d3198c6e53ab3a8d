-- A register that keeps the laws of its interface commutes on all figures that it can come to.
use Rattle.std.proofs.Common.{◌≡◌, List, ℤ}
use Rattle.registers.specs.Kind.{Rule}
use Rattle.registers.specs.Taken.{Taken, InRange}
use Rattle.hub_runs.specs.Law.{Reached, at_start, after_move, Commutes}

module _ (start : List ℤ) (rule : Rule) (ours : List ℤ → Type 0) (begins : ours start) (keeps : (f : List ℤ) (t : Taken) → ours f → InRange t → ours (rule f t)) where
  reached_ours : {f : List ℤ} → Reached start rule f → ours f
  reached_ours at_start = begins
  reached_ours (after_move {f} {t} reached range) = keeps f t (reached_ours reached) range

  pub lawful : ((f : List ℤ) (s t : Taken) → ours f → InRange s → InRange t → rule (rule f s) t ≡ rule (rule f t) s) → Commutes start rule
  lawful commutes f s t reached = commutes f s t (reached_ours reached)
