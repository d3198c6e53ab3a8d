-- What a call answers and leaves, where the model gives an answer.
use Rattle.std.specs.Prelude.{◌≡◌, List, Ok, Err, Result, OnErr}
use Rattle.refusals.specs.Refusals.{number_of}
use Rattle.refusals.specs.declared.Refusal.{Refusal}
use Rattle.hub_tables.specs.declared.tables.Tables.{Tables}
use Rattle.hub_runs.specs.GoingOn.{Outcome}
use Rattle.hub_runs.specs.Hubs.{State}
use Rattle.hub_runs.specs.Judging.{Answer}
use Rattle.hub_runs.specs.Runs.{Reply, stepped, refused}

-- The reply that a step's result stands for: a refusal goes by its number.
abbrev pub step_reply : {T : Type 0} → Result T Refusal → Reply
step_reply (Ok t) = stepped
step_reply (Err refusal) = refused (number_of refusal)

abbrev pub Replied : {T : Type 0} → Answer → State → Result T Refusal → State → Type 0
Replied answer before r after = Outcome answer before (step_reply r) after

-- A refused call leaves the registers of both roles untouched, whatever they hold besides their figures.
abbrev pub Untouched : {T R : Type 0} → Result T Refusal → (masters masters' backups backups' : List R) → Type 0
Untouched r masters masters' backups backups' = OnErr r ((masters' ≡ masters) × (backups' ≡ backups))

-- The same of the registers of two tables.
abbrev pub RegistersUntouched : {T R : Type 0} → Result T Refusal → Tables R → Tables R → Type 0
RegistersUntouched r before after = Untouched r before.master_registers.now after.master_registers.now before.backup_registers.now after.backup_registers.now
