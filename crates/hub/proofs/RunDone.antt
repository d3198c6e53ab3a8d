-- From making and from the calls carried out to what the whole list promises.
use Rattle.std.proofs.Common.{◌≡◌, ℕ, Bool, true, false, not, ◌&&◌, eqb, ◌⊎◌, List, [], ◌++◌, map, length, ℤ, Some, None, Ok, Err, Option, Result, sym, refl, ap, ◌∙◌, subst, inl, inr, arith}
use Rattle.std.proofs.lemmas.Bool.{and_left, and_right, cond-false, eq-eqb, not_from_true}
use Rattle.refusals.specs.declared.Refusal.{Refusal}
use Rattle.registers.specs.Kind.{Rule}
use Rattle.hub_records.specs.declared.hub.Hub.{Hub}
use Rattle.hub_runs.specs.Hubs.{Size}
use Rattle.hub_runs.specs.Runs.{run_of}
use Rattle.hub_runs.specs.States.{Lent, size_of, state_in}
use Rattle.hub_making.specs.Making.{BeginsRun, MakesRun, cause, counts_fit}
use Rattle.hub_making.specs.Making as making
use Rattle.hub.specs.Calls.{call_of, reply_of}
use Rattle.hub.specs.Running.{CarryOn, FollowsCalls, Ran, Runs, list_cause}
use Rattle.hub.specs.declared.calls.Answer.{Answer}
use Rattle.hub.specs.declared.calls.Call.{Call}

no_replies : (size : Size) (start : List ℤ) (rule : Rule) (moves : List ℤ) → (run_of size start rule moves []).replies ≡ []
unfolding run_of
no_replies size start rule moves = refl

never : {A : Type 0} (hub : Hub) (refusal : Refusal) → ◌≡◌ {A = Result Hub Refusal} (Ok hub) (Err refusal) → A
never hub refusal e = let z : ◌≡◌ {A = ℕ} 0 1 = cc in let no : ⊥ = omega arith in absurd no

-- The two ways past the test of the places.
pub places_tested : (size : Size) (fit : Bool) (places calls : ℕ) → fit ≡ counts_fit size → ((fit ≡ true) × (places ≡ calls)) ⊎ (fit ≡ false) → (counts_fit size && not (eqb places calls)) ≡ false
places_tested size fit places calls told (inr unfit) = and_left _ _ (sym told ∙ unfit)
places_tested size fit places calls told (inl both) = and_right _ _ (not_from_true _ (eq-eqb _ _ both.1))

module _ {R : Type 0} (figures : R → List ℤ) (start : List ℤ) (rule : Rule) (size : Size) (moves : List ℤ) (calls : List Call) (before : Lent R) (places : List (Result Answer Refusal)) (fit : Bool) (told : fit ≡ counts_fit size) (past : ((fit ≡ true) × (length places ≡ length calls)) ⊎ (fit ≡ false)) where
  the_cause : list_cause size moves calls before places ≡ cause size moves before
  the_cause = cond-false _ _ _ (places_tested size fit (length places) (length calls) told past)

  pub ran : (made hub : Hub) (mid after : Lent R) (answers : List (Result Answer Refusal)) → MakesRun figures start rule size moves before (Ok made) mid → size_of hub ≡ size_of made
      → CarryOn start rule (size_of made) (state_in figures made mid) (map call_of calls) (map reply_of answers) (state_in figures hub after)
      → Runs figures start rule size moves calls before places (Ok hub) after answers
  ran made hub mid after answers makes same carried =
      subst (λ (o : Option Refusal). FollowsCalls o (Ran figures start rule size moves calls) before places (Ok hub) after answers) (sym the_cause) (by_cause (cause size moves before) makes)
    where
      by_cause : (o : Option Refusal) → making.Follows o (BeginsRun figures start rule size moves) before (Ok made) mid → FollowsCalls o (Ran figures start rule size moves calls) before places (Ok hub) after answers
      by_cause (Some refusal) m = never made refusal m.0
      by_cause None begins =
          let carry = subst (λ k. CarryOn start rule k (state_in figures made mid) (map call_of calls) (map reply_of answers) (state_in figures hub after)) begins.its_size carried in
          let done = carry moves [] begins.its_run in
          record {
            its_size = same ∙ begins.its_size;
            after_calls = done.0;
            its_answers = sym (done.1 ∙ ap (λ l. l ++ map reply_of answers) (no_replies size start rule moves));
          }

  pub not_made : (refusal : Refusal) (mid : Lent R) → MakesRun figures start rule size moves before (Err refusal) mid → Runs figures start rule size moves calls before places (Err refusal) mid places
  not_made refusal mid makes =
      subst (λ (o : Option Refusal). FollowsCalls o (Ran figures start rule size moves calls) before places (Err refusal) mid places) (sym the_cause) (by_cause (cause size moves before) makes)
    where
      by_cause : (o : Option Refusal) → making.Follows o (BeginsRun figures start rule size moves) before (Err refusal) mid → FollowsCalls o (Ran figures start rule size moves calls) before places (Err refusal) mid places
      by_cause (Some found) m = (m.0, m.1, refl)
      by_cause None begins = absurd begins
