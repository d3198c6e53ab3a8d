-- Calls carried out one after another take a run on by all of them.
use Rattle.std.proofs.Common.{Result, ◌≡◌, ℕ, ◌+◌, ◌<◌, List, [], ◌∷◌, ◌++◌, map, length, get_or, take, set, ℤ, sym, ap, ◌∙◌, subst, append_assoc, append-nil}
use Rattle.std.proofs.lemmas.List.{map_push, take_more, take_more_set}
use Rattle.refusals.specs.declared.Refusal.{Refusal}
use Rattle.registers.specs.Kind.{Rule}
use Rattle.hub_runs.specs.GoingOn.{AfterCalls, GoesOn}
use Rattle.hub_runs.specs.Hubs.{Size, State}
use Rattle.hub_runs.specs.Runs as runs
use Rattle.hub_runs.specs.Runs.{run_of}
use Rattle.hub.specs.Calls.{call_of, reply_of}
use Rattle.hub.specs.Running.{CarryOn}
use Rattle.hub.specs.declared.calls.Answer.{Answer}
use Rattle.hub.specs.declared.calls.Call.{Call}

module _ (start : List ℤ) (rule : Rule) (size : Size) where
  pub carries_none : (s : State) → CarryOn start rule size s [] [] s
  carries_none s moves earlier run = (
    subst (λ l. AfterCalls start rule size moves l s) (sym (append-nil earlier)) run,
    ap (λ l. (run_of size start rule moves l).replies) (append-nil earlier) ∙ sym (append-nil (run_of size start rule moves earlier).replies),
  )

  pub carries_more : (s mid after : State) (calls : List runs.Call) (replies : List runs.Reply) (call : runs.Call) (reply : runs.Reply) → CarryOn start rule size s calls replies mid → GoesOn start rule size mid call reply after → CarryOn start rule size s (calls ++ (call ∷ [])) (replies ++ (reply ∷ [])) after
  carries_more s mid after calls replies call reply before goes moves earlier run =
      let so_far = before moves earlier run in
      let one_more = goes moves (earlier ++ calls) so_far.0 in
      let same = append_assoc earlier calls (call ∷ []) in (
        subst (λ l. AfterCalls start rule size moves l after) same one_more.0,
        ap (λ l. (run_of size start rule moves l).replies) (sym same) ∙ one_more.1 ∙ ap (λ l. l ++ (reply ∷ [])) so_far.1 ∙ append_assoc (run_of size start rule moves earlier).replies replies (reply ∷ []),
      )

-- A turn of the loop: one more call is read, and its answer is written in its place.
pub turn : (start : List ℤ) (rule : Rule) (size size' : Size) (s mid after : State) (calls : List Call) (answers : List (Result Answer Refusal)) (i : ℕ) (blank : Call) (answer : Result Answer Refusal)
    → size' ≡ size → i < length calls → i < length answers
    → CarryOn start rule size s (map call_of (take i calls)) (map reply_of (take i answers)) mid
    → GoesOn start rule size' mid (call_of (get_or calls i blank)) (reply_of answer) after
    → CarryOn start rule size s (map call_of (take (i + 1) calls)) (map reply_of (take (i + 1) (set answers i answer))) after
turn start rule size size' s mid after calls answers i blank answer same in_calls in_answers so_far goes =
    let read : map call_of (take (i + 1) calls) ≡ map call_of (take i calls) ++ (call_of (get_or calls i blank) ∷ []) = ap (map call_of) (take_more calls i blank in_calls) ∙ map_push call_of (take i calls) (get_or calls i blank) in
    let written : map reply_of (take (i + 1) (set answers i answer)) ≡ map reply_of (take i answers) ++ (reply_of answer ∷ []) = ap (map reply_of) (take_more_set answers i answer in_answers) ∙ map_push reply_of (take i answers) answer in
    let one_more = carries_more start rule size s mid after (map call_of (take i calls)) (map reply_of (take i answers)) (call_of (get_or calls i blank)) (reply_of answer) so_far (subst (λ k. GoesOn start rule k mid (call_of (get_or calls i blank)) (reply_of answer) after) same goes) in
    subst (λ rs. CarryOn start rule size s (map call_of (take (i + 1) calls)) rs after) (sym written) (subst (λ cs. CarryOn start rule size s cs (map reply_of (take i answers) ++ (reply_of answer ∷ [])) after) (sym read) one_more)
