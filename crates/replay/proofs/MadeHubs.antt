-- The header of a journal makes a hub: none of the causes for which making is refused can arise.
use Rattle.std.proofs.Common.{arith, ◌≡◌, ℕ, suc, true, List, [], ◌∷◌, ℤ, None, Ok, Err, Option, Result, MatchResult, sym, refl, ◌∙◌, subst}
use Rattle.std.specs.List.{AllByRecursion}
use Rattle.std.proofs.lemmas.Bool.{cond-true, le-leb}
use Rattle.refusals.specs.declared.Refusal.{Refusal}
use Rattle.registers.specs.Kind.{Rule}
use Rattle.registers.specs.Taken.{InRange}
use Rattle.hub_records.specs.declared.hub.Hub.{Hub}
use Rattle.hub_runs.specs.GoingOn.{AfterCalls}
use Rattle.hub_runs.specs.Hubs.{Size}
use Rattle.hub_runs.specs.States.{Lent, state_in}
use Rattle.hub_making.specs.Making.{asked, BeginsRun, Follows, MakesRun, cause, first_outside}
use Rattle.replay.specs.Header.{Heads}
use Rattle.replay.specs.Standing.{Fitted, Stands}
use Rattle.replay.specs.Told.{Told, is_made, size_told}
use Rattle.replay.specs.declared.header.Header.{Header}

-- Where all moves are within the limits, none is outside them.
none_outside : (n : ℕ) (moves : List ℤ) → AllByRecursion InRange moves → first_outside n moves ≡ None
unfolding first_outside
none_outside n [] all = refl
none_outside n (move ∷ moves) all = cond-true _ _ _ (le-leb _ _ all.0) ∙ none_outside (suc n) moves all.1

module _ {R : Type 0} (figures : R → List ℤ) (start : List ℤ) (rule : Rule) (h : Header) (t : Told) (before mid : Lent R) (heads : Heads h t) (made : is_made t ≡ true) (fitted : Fitted before t) where
  same_size : asked h.counts ≡ size_told t
  same_size = let a = heads.commands in let b = heads.kills in let c = heads.cards in cc

  no_cause : cause (size_told t) t.moves before ≡ None
  no_cause = let inside = none_outside 1 t.moves heads.in_range in grind arith

  -- Making answers a hub, and it stands as told.
  pub made_hub : (moves : List ℤ) (r : Result Hub Refusal) → moves ≡ t.moves → MakesRun figures start rule (asked h.counts) moves before r mid → MatchResult r (λ hub. Stands figures start rule hub mid t) (λ _. ⊥)
  made_hub moves r same makes =
      let as_told : MakesRun figures start rule (size_told t) t.moves before r mid = subst (λ (xs : List ℤ). MakesRun figures start rule (size_told t) xs before r mid) same (subst (λ (k : Size). MakesRun figures start rule k moves before r mid) same_size makes) in
      by_result r (subst (λ (o : Option Refusal). Follows o (BeginsRun figures start rule (size_told t) t.moves) before r mid) no_cause as_told)
    where
      by_result : (x : Result Hub Refusal) → Follows None (BeginsRun figures start rule (size_told t) t.moves) before x mid → MatchResult x (λ hub. Stands figures start rule hub mid t) (λ _. ⊥)
      by_result (Ok hub) begins =
          record {
            made = made;
            its_size = begins.its_size;
            after_calls = subst (λ calls. AfterCalls start rule (size_told t) t.moves calls (state_in figures hub mid)) (sym heads.no_calls) begins.its_run;
          }
      by_result (Err refusal) never = never
