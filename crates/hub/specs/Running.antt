-- What a list of calls does: the tables, the figures and the answers are a run's, and all that is promised of runs holds.
use Rattle.std.specs.Prelude.{◌≡◌, cond, not, ◌&&◌, List, ◌++◌, map, length, ℤ, Some, None, Err, Option, Result, MatchResult, ◌==◌}
use Rattle.refusals.specs.declared.Refusal.{Refusal}
use Rattle.refusals.specs.declared.Refusal.TheVariants.{WrongTableLength}
use Rattle.registers.specs.Kind.{Rule}
use Rattle.hub_records.specs.declared.hub.Hub.{Hub}
use Rattle.hub_runs.specs.GoingOn.{AfterCalls}
use Rattle.hub_runs.specs.Hubs.{Size, State}
use Rattle.hub_runs.specs.Runs as runs
use Rattle.hub_runs.specs.States.{Lent, size_of, state_in}
use Rattle.hub_making.specs.Making.{cause, counts_fit}
use Rattle.hub.specs.Calls.{call_of, reply_of}
use Rattle.hub.specs.declared.calls.Answer.{Answer}
use Rattle.hub.specs.declared.calls.Call.{Call}

-- Some calls, with these replies, take every run from one state to another.
abbrev pub CarryOn : List ℤ → Rule → Size → State → List runs.Call → List runs.Reply → State → Type 0
CarryOn start rule size before calls replies after =
    (moves : List ℤ) (earlier : List runs.Call) → AfterCalls start rule size moves earlier before
    → AfterCalls start rule size moves (earlier ++ calls) after
    × ((runs.run_of size start rule moves (earlier ++ calls)).replies ≡ (runs.run_of size start rule moves earlier).replies ++ replies)

-- The cause for which a list of calls is not begun: there is not one place for each answer, or making is denied. The counts
-- are looked at first.
abbrev pub list_cause : {R : Type 0} → Size → List ℤ → List Call → Lent R → List (Result Answer Refusal) → Option Refusal
list_cause size moves calls t places =
    cond (counts_fit size && not (length places == length calls)) (Some WrongTableLength) (cause size moves t)

-- The hub and the tables after the calls. `after_calls` says that they are the run's, and has every promise about runs.
pub record Ran {R : Type 0} (figures : R → List ℤ) (start : List ℤ) (rule : Rule) (size : Size) (moves : List ℤ) (calls : List Call) (t : Lent R) (answers : List (Result Answer Refusal)) (hub : Hub) : Type 0 where
  pub its_size : size_of hub ≡ size
  pub after_calls : AfterCalls start rule size moves (map call_of calls) (state_in figures hub t)
  pub its_answers : map reply_of answers ≡ (runs.run_of size start rule moves (map call_of calls)).replies

-- With a cause, that is the answer, and every table and place is as it was; with none, the calls have been carried out.
abbrev pub FollowsCalls : {R : Type 0} → Option Refusal → (Lent R → List (Result Answer Refusal) → Hub → Type 0) → Lent R → List (Result Answer Refusal) → Result Hub Refusal → Lent R → List (Result Answer Refusal) → Type 0
FollowsCalls (Some refusal) ran before places r after answers = (r ≡ Err refusal) × (after ≡ before) × (answers ≡ places)
FollowsCalls None ran before places r after answers = MatchResult r (ran after answers) (λ _. ⊥)

abbrev pub Runs : {R : Type 0} → (R → List ℤ) → List ℤ → Rule → Size → List ℤ → List Call → Lent R → List (Result Answer Refusal) → Result Hub Refusal → Lent R → List (Result Answer Refusal) → Type 0
Runs figures start rule size moves calls before places r after answers =
    FollowsCalls (list_cause size moves calls before places) (Ran figures start rule size moves calls) before places r after answers
