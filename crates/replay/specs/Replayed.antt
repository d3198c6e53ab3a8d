-- What replaying a journal answers, and what it leaves in the caller's tables.
use Rattle.std.specs.Prelude.{◌≡◌, ℕ, Bool, true, false, List, length, take, drop, ℤ, Some, None, Ok, Err, Option, Result}
use Rattle.refusals.specs.declared.Refusal.{Refusal}
use Rattle.refusals.specs.declared.Refusal.TheVariants.{WrongTableLength}
use Rattle.registers.specs.Kind.{Rule}
use Rattle.registers.specs.declared.kind.Kind.{Kind}
use Rattle.hub_records.specs.declared.hub.Hub.{Hub}
use Rattle.hub_tables.specs.Fit.{lengths_fit}
use Rattle.hub_runs.specs.States.{Lent, lent}
use Rattle.journal.specs.declared.kinds.Accepted.TheVariants.{Only}
use Rattle.replay.specs.Replaying.{Replay, replay_of}
use Rattle.replay.specs.Standing.{Stands}
use Rattle.replay.specs.Told.{Told, is_made}

-- The tables have room for the largest hub: 64 commands, and 8 cards of each role.
abbrev pub are_full : {R : Type 0} → Lent R → Bool
are_full t = lengths_fit 64 8 (length t.of_commands) (length t.of_masters) (length t.of_master_registers) (length t.of_backups) (length t.of_backup_registers)

-- The places that the hub of a journal uses, and those beyond them.
abbrev pub front : {R : Type 0} → Told → Lent R → Lent R
front told t = lent (take told.commands t.of_commands) (take told.cards t.of_masters) (take told.cards t.of_master_registers) (take told.cards t.of_backups) (take told.cards t.of_backup_registers)

abbrev pub beyond : {R : Type 0} → Told → Lent R → Lent R
beyond told t = lent (drop told.commands t.of_commands) (drop told.cards t.of_masters) (drop told.cards t.of_master_registers) (drop told.cards t.of_backups) (drop told.cards t.of_backup_registers)

-- The answer where a hub was made: the hub at the end of the journal, or the reason for stopping.
abbrev pub Ends : Option Refusal → Hub → Result Hub Refusal → Type 0
Ends None hub r = r ≡ Ok hub
Ends (Some refusal) hub r = r ≡ Err refusal

-- The answer where none was made: the journal was not read to its end.
abbrev pub Refuses : Option Refusal → Result Hub Refusal → Type 0
Refuses None r = ⊥
Refuses (Some refusal) r = r ≡ Err refusal

module _ {R : Type 0} (figures : R → List ℤ) (start : List ℤ) (rule : Rule) where
  -- Whether a hub was made decides: if not, the tables are as they were; if so, the places that it uses are those of the run
  -- of the steps so far, with all that is promised of runs, and the places beyond are as they were.
  abbrev pub Leaves : Bool → Replay → Lent R → Result Hub Refusal → Lent R → Type 0
  Leaves false p before r after = Refuses p.ending r × (after ≡ before)
  Leaves true p before r after =
      (hub : Hub) × Stands figures start rule hub (front p.told after) p.told × (beyond p.told after ≡ beyond p.told before) × Ends p.ending hub r

  abbrev pub ByTables : Bool → Replay → Lent R → Result Hub Refusal → Lent R → Type 0
  ByTables false p before r after = (r ≡ Err WrongTableLength) × (after ≡ before)
  ByTables true p before r after = Leaves (is_made p.told) p before r after

  -- Only a journal that names the register's kind is accepted.
  abbrev pub Replays : Option Kind → List ℕ → Lent R → Result Hub Refusal → Lent R → Type 0
  Replays kind text before r after = ByTables (are_full before) (replay_of (Only kind) start rule text) before r after
