-- What a command sees of the cards, and what its step does to the hub.
use Rattle.std.specs.Prelude.{ℕ, Result}
use Rattle.std.specs.Option.{option_map}
use Rattle.registers.specs.Kind.{Rule}
use Rattle.refusals.specs.declared.Refusal.{Refusal}
use Rattle.actions.specs.declared.Action.{Action}
use Rattle.hub_records.specs.Advance.{Advance, stays, goes, advance_of}
use Rattle.hub_records.specs.Commands.{the_master, the_backup, master_in, backup_in}
use Rattle.hub_records.specs.declared.advance.Effect.TheVariants.{Nothing, MasterTakes, BackupTakes, Completes, GivesUp}
use Rattle.hub_records.specs.declared.advance.Seen.{Seen}
use Rattle.hub_records.specs.declared.hub.ExecState.TheVariants.{Fatal}
use Rattle.hub_tables.specs.Search.{active_card}
use Rattle.hub_runs.specs.Hubs.{State, client, master_card, backup_card, with_client, with_exec, completed, master_takes, backup_takes}
use Rattle.hub_runs.specs.Judging.{Answer, denied, moved}
use Rattle.hub_steps.specs.Replied.{Replied}

-- The cards that the command's message names, and the active ones.
abbrev pub seen_by : State → ℕ → Seen
seen_by s c = record { master = master_card s (master_in (client s c).message); backup = backup_card s (backup_in (client s c).message); active_master = option_map the_master (active_card s.master); active_backup = option_map the_backup (active_card s.backup) }

-- The step of the hub, from that of the command.
abbrev pub hub_answer : Rule → ℕ → State → Advance → Answer
hub_answer rule c s (stays n) = denied n
hub_answer rule c s (goes y Nothing) = moved (with_client c y s)
hub_answer rule c s (goes y (MasterTakes m)) = moved (with_client c y (master_takes rule m.0 c s))
hub_answer rule c s (goes y (BackupTakes b)) = moved (with_client c y (backup_takes rule b.0 c s))
hub_answer rule c s (goes y Completes) = moved (completed c y s)
hub_answer rule c s (goes y GivesUp) = moved (with_exec Fatal (with_client c y s))

-- The step of a command, as the hub answers and carries it out.
abbrev pub CommandSteps : {T : Type 0} → Rule → Action → ℕ → State → Result T Refusal → State → Type 0
CommandSteps rule action c s r after = Replied (hub_answer rule c s (advance_of action (client s c) (seen_by s c))) s r after
