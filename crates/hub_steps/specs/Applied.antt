-- What a command's step does to the hub besides moving the command on.
use Rattle.std.specs.Prelude.{ℕ, ◌+◌, ◌<◌, cond, List, [], ℤ}
use Rattle.registers.specs.Kind.{Rule}
use Rattle.hub_records.specs.Commands.{the_master, the_backup}
use Rattle.hub_cards.specs.Tables.{at, put, blank_card}
use Rattle.hub_records.specs.declared.advance.Effect.{Effect}
use Rattle.hub_records.specs.declared.advance.Effect.TheVariants.{Nothing, MasterTakes, BackupTakes, Completes, GivesUp}
use Rattle.hub_cards.specs.declared.BackupNumber.{BackupNumber}
use Rattle.hub_cards.specs.declared.Card.{Card}
use Rattle.hub_cards.specs.declared.MasterNumber.{MasterNumber}
use Rattle.hub_records.specs.declared.commands.Command.{Command}
use Rattle.hub_records.specs.declared.hub.ExecState.TheVariants.{Success, Fatal}
use Rattle.hub_runs.specs.Hubs.{State, master_card, backup_card, has_taken, with_exec, all_done}

-- No version is so high that it could not rise.
abbrev pub HasRoom : List (Card BackupNumber) → List (Card MasterNumber) → Type 0
HasRoom masters backups =
    ((m : ℕ) → (at (blank_card (the_backup 0)) masters m).version < 4294967295) × ((b : ℕ) → (at (blank_card (the_master 0)) backups b).version < 4294967295)

-- The step is counted.
abbrev pub counted : State → State
counted s = record { exec_state = s.exec_state; clients = s.clients; master = s.master; backup = s.backup; killed = s.killed; steps = s.steps + 1; master_figures = s.master_figures; backup_figures = s.backup_figures }

abbrev pub applied : Rule → Effect → ℤ → State → State
applied rule Nothing z s = counted s
applied rule (MasterTakes m) z s = record { exec_state = s.exec_state; clients = s.clients; master = put s.master m.0 (has_taken (master_card s m.0)); backup = s.backup; killed = s.killed; steps = s.steps + 1; master_figures = put s.master_figures m.0 (rule (at [] s.master_figures m.0) z); backup_figures = s.backup_figures }
applied rule (BackupTakes b) z s = record { exec_state = s.exec_state; clients = s.clients; master = s.master; backup = put s.backup b.0 (has_taken (backup_card s b.0)); killed = s.killed; steps = s.steps + 1; master_figures = s.master_figures; backup_figures = put s.backup_figures b.0 (rule (at [] s.backup_figures b.0) z) }
applied rule Completes z s = with_exec (cond (all_done s.clients) Success s.exec_state) (counted s)
applied rule GivesUp z s = with_exec Fatal (counted s)

abbrev pub with_clients : List Command → State → State
with_clients xs s = record { exec_state = s.exec_state; clients = xs; master = s.master; backup = s.backup; killed = s.killed; steps = s.steps; master_figures = s.master_figures; backup_figures = s.backup_figures }
