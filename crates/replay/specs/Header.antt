-- What is kept of a journal's header while it is read.
use Rattle.std.specs.Prelude.{◌≡◌, ℕ, ◌≤◌, true, false, List, [], length, ℤ, Ok, Err, Result}
use Rattle.std.specs.List.{AllByRecursion}
use Rattle.refusals.specs.declared.Refusal.{Refusal}
use Rattle.registers.specs.Kind.{Rule}
use Rattle.registers.specs.Taken.{InRange}
use Rattle.journal.specs.declared.place.Place.{Place}
use Rattle.journal.specs.declared.kinds.Accepted.{Accepted}
use Rattle.replay.specs.Replaying.{replay_of, replay_rest, stopped}
use Rattle.replay.specs.Told.{Told, is_made}
use Rattle.replay.specs.declared.header.Header.{Header}

-- The record holds what was told. Counts and moves are within the limits that the journal's form sets them, and no step was
-- told yet.
pub record Heads (h : Header) (t : Told) : Type 0 where
  pub commands : h.counts.commands ≡ t.commands
  pub kills : h.counts.kills ≡ t.kills
  pub cards : h.counts.cards ≡ t.cards
  pub moves : h.moves.items ≡ t.moves
  pub room : length t.moves ≤ 64
  pub few_commands : t.commands ≤ 64
  pub few_kills : t.kills ≤ 7
  pub some_cards : 1 ≤ t.cards
  pub few_cards : t.cards ≤ 8
  pub in_range : AllByRecursion InRange t.moves
  pub no_calls : t.calls ≡ []

-- After one more line: the record holds what is told then; or the line is refused for the same reason.
abbrev pub HeadNoted : Result Told Refusal → {T : Type 0} → Result T Refusal → Header → Type 0
HeadNoted (Ok t) (Ok r) h = Heads h t
HeadNoted (Ok t) (Err refusal) h = ⊥
HeadNoted (Err cause) (Ok r) h = ⊥
HeadNoted (Err cause) (Err refusal) h = refusal ≡ cause

-- The header was read: a hub can be made of it, and the replay goes on from the reader's place. Or it was not, and the
-- replay stops before a hub is made.
abbrev pub HeadRead : Accepted → List ℤ → Rule → List ℕ → Result Header Refusal → Place → ℕ → Type 0
HeadRead accepts start rule text (Ok h) place known =
    (t : Told) × Heads h t × (is_made t ≡ true) × (known ≡ t.commands) × (replay_of accepts start rule text ≡ replay_rest accepts start rule text place t)
HeadRead accepts start rule text (Err refusal) place known =
    (t : Told) × (is_made t ≡ false) × (replay_of accepts start rule text ≡ stopped t refusal)
