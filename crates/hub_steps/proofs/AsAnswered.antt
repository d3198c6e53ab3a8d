-- The reply of a step, as the answer that its result gives.
use Rattle.std.proofs.Common.{◌≡◌, ℕ, Ok, Err, Result, arith}
use Rattle.refusals.specs.Refusals.{number_of}
use Rattle.refusals.specs.declared.Refusal.{Refusal}
use Rattle.hub_runs.specs.Hubs.{State}
use Rattle.hub_runs.specs.Judging.{Answer, denied, moved}
use Rattle.hub_runs.specs.Runs.{stepped, refused}
use Rattle.hub_steps.specs.Answered.{Answered}
use Rattle.hub_steps.specs.Replied.{Replied}

pub as_answered : {T : Type 0} (answer : Answer) (before after : State) (r : Result T Refusal) → Replied answer before r after → Answered answer before r after
as_answered (denied n) before after (Ok t) replied = let e : stepped ≡ refused n = replied.0 in let z : ◌≡◌ {A = ℕ} 0 1 = cc in let no : ⊥ = omega arith in absurd no
as_answered (denied n) before after (Err refusal) replied = let e : refused (number_of refusal) ≡ refused n = replied.0 in let same : number_of refusal ≡ n = cc in (same, replied.1)
as_answered (moved s) before after (Ok t) replied = (tt, replied.1)
as_answered (moved s) before after (Err refusal) replied = let e : refused (number_of refusal) ≡ stepped = replied.0 in let z : ◌≡◌ {A = ℕ} 0 1 = cc in let no : ⊥ = omega arith in absurd no
