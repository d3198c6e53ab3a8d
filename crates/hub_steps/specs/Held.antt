-- A hub's record with the tables lent to it, as the state that the model of runs speaks of.
use Rattle.std.specs.Prelude.{List, ℤ}
use Rattle.hub_records.specs.declared.hub.Hub.{Hub}
use Rattle.hub_tables.specs.declared.tables.Tables.{Tables}
use Rattle.hub_runs.specs.Hubs.{State}
use Rattle.hub_runs.specs.States.{held, state_in}

-- `figures` gives the figures of a register, and what counts of it are those.
abbrev pub state_held : {R : Type 0} → (R → List ℤ) → Hub → Tables R → State
state_held figures hub tables = state_in figures hub (held tables)
