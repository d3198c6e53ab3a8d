-- Calls and their answers, as the calls and replies of a run.
use Rattle.std.specs.Prelude.{Err, Ok, Result}
use Rattle.refusals.specs.Refusals.{number_of}
use Rattle.refusals.specs.declared.Refusal.{Refusal}
use Rattle.hub_runs.specs.Runs as runs
use Rattle.hub.specs.Looking.{as_seen}
use Rattle.hub.specs.declared.calls.Answer.{Answer}
use Rattle.hub.specs.declared.calls.Answer.TheVariants.{Stepped, Seen}
use Rattle.hub.specs.declared.calls.Call.{Call}
use Rattle.hub.specs.declared.calls.Call.TheVariants.{Step, Look}

abbrev pub call_of : Call → runs.Call
call_of (Step letter command) = runs.step_call letter command
call_of Look = runs.look_call

abbrev pub reply_of : Result Answer Refusal → runs.Reply
reply_of (Ok Stepped) = runs.stepped
reply_of (Ok (Seen look)) = runs.seen (as_seen look)
reply_of (Err refusal) = runs.refused (number_of refusal)
