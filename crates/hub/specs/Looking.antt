-- What a look answers.
use Rattle.std.specs.Prelude.{◌≡◌, ℕ, cond, List, ℤ, Ok, Err, Result}
use Rattle.refusals.specs.Refusals.{number_of}
use Rattle.refusals.specs.declared.Refusal.{Refusal}
use Rattle.refusals.specs.declared.Refusal.TheVariants.{TablesMisfit}
use Rattle.registers.specs.Kind.{Rule}
use Rattle.hub_cards.specs.Tables.{at, blank_card}
use Rattle.hub_cards.specs.declared.Card.{Card}
use Rattle.hub_records.specs.declared.look.Look.{Look}
use Rattle.hub_records.specs.Commands.{the_backup, the_master}
use Rattle.hub_tables.specs.Search.{last_card}
use Rattle.hub_runs.specs.Fits.{state_fits}
use Rattle.hub_runs.specs.GoingOn.{GoesOn}
use Rattle.hub_runs.specs.Hubs.{Size, State, backup_card, master_card}
use Rattle.hub_runs.specs.Runs as runs
use Rattle.hub_runs.specs.Runs.{Reply, refused, seen, look_call, number, count_done, last_master, last_backup}

-- The last card of a role and its version, where numbers of cards are plain numbers by `plain`.
abbrev pub LastCard : {N P : Type 0} → (N → ℕ) → List (Card P) → N × ℕ → Type 0
LastCard {N} {P} plain cards r =
    (plain r.0 ≡ number (last_card cards)) × ((none : P) → r.1 ≡ (at (blank_card none) cards (number (last_card cards))).version)

-- What a look at a state answers.
abbrev pub the_look : State → Look
the_look s = record { state = s.exec_state; steps = s.steps; losses = s.killed; done = count_done s.clients; master = the_master (last_master s); master_version = (master_card s (last_master s)).version; backup = the_backup (last_backup s); backup_version = (backup_card s (last_backup s)).version }

-- The same as a run sees it, where cards go by plain numbers.
abbrev pub as_seen : Look → runs.Look
as_seen look = record { exec_state = look.state; steps = look.steps; killed = look.losses; done = look.done; master = look.master.0; master_version = look.master_version; backup = look.backup.0; backup_version = look.backup_version }

-- The look's reply in a run.
abbrev pub look_reply : Result Look Refusal → Reply
look_reply (Ok look) = seen (as_seen look)
look_reply (Err refusal) = refused (number_of refusal)

pub record Looks (start : List ℤ) (rule : Rule) (size : Size) (s : State) (r : Result Look Refusal) : Type 0 where
  -- which answer comes
  pub answered : r ≡ cond (state_fits size s) (Ok (the_look s)) (Err TablesMisfit)
  -- a run goes on as a run, with this reply
  pub goes_on : GoesOn start rule size s look_call (look_reply r) s
