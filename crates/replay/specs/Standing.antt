-- A hub and its tables, as the lines of a journal have told.
use Rattle.std.specs.Prelude.{◌≡◌, ℕ, true, List, length, ℤ, None, Ok, Err, Result, MatchResult}
use Rattle.refusals.specs.declared.Refusal.{Refusal}
use Rattle.registers.specs.Kind.{Rule}
use Rattle.hub_records.specs.declared.hub.Hub.{Hub}
use Rattle.hub_runs.specs.GoingOn.{AfterCalls}
use Rattle.hub_runs.specs.States.{Lent, size_of, state_in}
use Rattle.journal.specs.declared.place.Place.{Place}
use Rattle.journal.specs.declared.kinds.Accepted.{Accepted}
use Rattle.replay.specs.Replaying.{replay_rest, stopped}
use Rattle.replay.specs.Told.{Told, is_made, size_told}

-- The hub was made as told, and stands where the accepted steps have led. `after_calls` says that this is a run, and has
-- everything that is promised of runs.
pub record Stands {R : Type 0} (figures : R → List ℤ) (start : List ℤ) (rule : Rule) (hub : Hub) (tables : Lent R) (t : Told) : Type 0 where
  pub made : is_made t ≡ true
  pub its_size : size_of hub ≡ size_told t
  pub after_calls : AfterCalls start rule (size_told t) t.moves t.calls (state_in figures hub tables)

-- After one more line: the hub stands as is told then; or it stands as before, and the line is refused for this reason.
abbrev pub StepNoted : Result Told Refusal → {T : Type 0} → Result T Refusal → (Told → Type 0) → Told → Type 0
StepNoted (Ok more) (Ok r) stands t = stands more
StepNoted (Ok more) (Err refusal) stands t = ⊥
StepNoted (Err cause) (Ok r) stands t = ⊥
StepNoted (Err cause) (Err refusal) stands t = (refusal ≡ cause) × stands t

-- The replay has come to its end, or to the line at which it stops; the hub stands as was told until then.
abbrev pub StepsRead : Accepted → List ℤ → Rule → List ℕ → Place → Told → {T : Type 0} → Result T Refusal → (Told → Type 0) → Type 0
StepsRead accepts start rule text place t r stands = MatchResult r
    (λ _. (more : Told) × stands more × (replay_rest accepts start rule text place t ≡ record { told = more; ending = None }))
    (λ refusal. (more : Told) × stands more × (replay_rest accepts start rule text place t ≡ stopped more refusal))

-- There is one record for each command that was told, and one record and one register for each card.
pub record Fitted {R : Type 0} (tables : Lent R) (t : Told) : Type 0 where
  pub commands : length tables.of_commands ≡ t.commands
  pub masters : length tables.of_masters ≡ t.cards
  pub master_registers : length tables.of_master_registers ≡ t.cards
  pub backups : length tables.of_backups ≡ t.cards
  pub backup_registers : length tables.of_backup_registers ≡ t.cards

-- The same where the replay makes the hub itself: it answers the hub at the end; where it stops, the tables are still those
-- of a hub that stands as was told.
abbrev pub Played : {R : Type 0} → (R → List ℤ) → List ℤ → Rule → Accepted → List ℕ → Place → Told → Result Hub Refusal → Lent R → Type 0
Played figures start rule accepts text place t r tables = MatchResult r
    (λ hub. (more : Told) × Stands figures start rule hub tables more × (replay_rest accepts start rule text place t ≡ record { told = more; ending = None }))
    (λ refusal. (more : Told) × (hub : Hub) × Stands figures start rule hub tables more × (replay_rest accepts start rule text place t ≡ stopped more refusal))
