-- The names of a hub's states, as reports and programs write them.
use Rattle.std.specs.Prelude.{ℕ, List, codes}
use Rattle.hub_records.specs.declared.hub.ExecState.{ExecState}
use Rattle.hub_records.specs.declared.hub.ExecState.TheVariants.{Running, Success, Fatal}

abbrev pub state_name : ExecState → List ℕ
state_name Running = codes "running"
state_name Success = codes "success"
state_name Fatal = codes "fatal"
