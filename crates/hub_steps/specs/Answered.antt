-- What a call answers and leaves, where the model gives this answer: a denied step changes nothing.
use Rattle.std.specs.Prelude.{◌≡◌, Result, MatchResult, OnErr}
use Rattle.refusals.specs.Refusals.{number_of}
use Rattle.refusals.specs.declared.Refusal.{Refusal}
use Rattle.hub_runs.specs.Hubs.{State}
use Rattle.hub_runs.specs.Judging.{Answer, denied, moved}

abbrev pub Answered : {T : Type 0} → Answer → State → Result T Refusal → State → Type 0
Answered (denied n) before r after = MatchResult r (λ _. ⊥) (λ refusal. number_of refusal ≡ n) × (after ≡ before)
Answered (moved s) before r after = OnErr r (⊥) × (after ≡ s)
