-- A hub's record and the tables that a caller lends, as the state that the model of runs speaks of.
use Rattle.std.specs.Prelude.{List, map, ℤ}
use Rattle.hub_cards.specs.declared.BackupNumber.{BackupNumber}
use Rattle.hub_cards.specs.declared.Card.{Card}
use Rattle.hub_cards.specs.declared.MasterNumber.{MasterNumber}
use Rattle.hub_records.specs.declared.commands.Command.{Command}
use Rattle.hub_records.specs.declared.hub.Hub.{Hub}
use Rattle.hub_runs.specs.Hubs.{Size, State}
pub use Rattle.hub_tables.specs.Lent.{Lent, SameSlices, held, lent, viewed}

abbrev pub size_of : Hub → Size
size_of hub = record { client_num = hub.commands; max_kill = hub.kills; max_instance = hub.cards }

-- The last two are the figures of the registers of each role.
abbrev pub state_of : Hub → List Command → List (Card BackupNumber) → List (Card MasterNumber) → List (List ℤ) → List (List ℤ) → State
state_of hub commands masters backups master_figures backup_figures = record { exec_state = hub.state; clients = commands; master = masters; backup = backups; killed = hub.losses; steps = hub.steps; master_figures = master_figures; backup_figures = backup_figures }

-- What counts of a register are its figures, which `figures` gives.
abbrev pub state_in : {R : Type 0} → (R → List ℤ) → Hub → Lent R → State
state_in figures hub t = state_of hub t.of_commands t.of_masters t.of_backups (map figures t.of_master_registers) (map figures t.of_backup_registers)
