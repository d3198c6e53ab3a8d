-- What is counted once a step was answered, and what is asked of it before.
use Rattle.std.specs.Prelude.{ℕ, ◌+◌, Bool, cond, Ok, Err, Result}
use Rattle.registers.specs.Kind.{Rule}
use Rattle.refusals.specs.declared.Refusal.{Refusal}
use Rattle.actions.specs.declared.Action.{Action}
use Rattle.hub_records.specs.Commands.{master_in, backup_in}
use Rattle.hub_runs.specs.Hubs.{Size, State, client}
use Rattle.hub_runs.specs.Judging.{Answer, carried_out, guard, is_ready}

-- The first of the two where a call was accepted, and the second where it was refused.
abbrev pub if_accepted : {T : Type 0} → Result T Refusal → ℕ → ℕ → ℕ
if_accepted (Ok t) m n = m
if_accepted (Err refusal) m n = n

-- The state once the answer is counted: an accepted step is one more, and if it is a loss, there is a loss more.
abbrev pub once_counted : {T : Type 0} → Bool → Result T Refusal → State → State
once_counted loss r s = record { exec_state = s.exec_state; clients = s.clients; master = s.master; backup = s.backup; killed = if_accepted r (cond loss (s.killed + 1) s.killed) s.killed; steps = if_accepted r (s.steps + 1) s.steps; master_figures = s.master_figures; backup_figures = s.backup_figures }

-- What the model answers where the command's number and the losses are in order.
abbrev pub in_order : Size → Rule → Action → ℕ → State → Answer
in_order size rule a c s = guard (is_ready a (client s c).phase (client s c).message) 9 (carried_out size rule a c (master_in (client s c).message) (backup_in (client s c).message) s)
