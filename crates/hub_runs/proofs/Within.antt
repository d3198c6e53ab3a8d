-- The tables of every run fit together: card numbers stay within the card places, only working commands hold a message,
-- and no version exceeds the number of steps, which is bounded.
use Rattle.std.proofs.Common.{◌≡◌, ℕ, zero, suc, ◌+◌, ◌*◌, ◌<◌, ◌≤◌, Bool, true, List, [], ◌∷◌, length, get_or, ℤ, nat_abs, Some, inl, inr, refl, ◌∙◌, mul-le-mul, arith}
use Rattle.std.specs.List.{list_all}
use Rattle.std.proofs.lemmas.Bool.{and_from, eq-eqb, le-leb, lt-ltb}
use Rattle.registers.specs.Kind.{Rule}
use Rattle.registers.specs.Taken.{InRange}
use Rattle.actions.specs.declared.Action.{Action}
use Rattle.actions.specs.declared.Action.TheVariants.{Starting, MasterDoing, HandlingMasterDone, BackupDoing, DetectingOldMasterId, HandlingBackupDone, HandlingMasterDoFailed, HandlingBackupDoFailed, GettingNewBackup, GettingNewMaster, HandlingBackupGetNewMasterFailed, HandlingMasterGetNewBackupFailed, UpdatingBackupId, UpdatingMasterId, CreatingNewBackup, CreatingNewMaster, KillingMaster, KillingBackup}
use Rattle.hub_cards.specs.Tables.{at, put, blank_card}
use Rattle.hub_cards.specs.declared.BackupNumber.{BackupNumber}
use Rattle.hub_cards.specs.declared.Card.{Card}
use Rattle.hub_cards.specs.declared.MasterNumber.{MasterNumber}
use Rattle.hub_records.specs.Commands.{backup_in, master_in, rests, the_backup, the_master, waits}
use Rattle.hub_records.specs.declared.commands.Command.{Command}
use Rattle.hub_records.specs.declared.commands.Message.{Message}
use Rattle.hub_records.specs.declared.commands.Message.TheVariants.{MasterDo}
use Rattle.hub_records.specs.declared.commands.Phase.{Phase}
use Rattle.hub_records.specs.declared.commands.Phase.TheVariants.{Pending, Done, GaveUp}
use Rattle.hub_records.specs.declared.hub.ExecState.{ExecState}
use Rattle.hub_tables.specs.Fit.{card_fits, command_fits, message_fits, numbers_fit}
use Rattle.hub_tables.specs.Search.{active_card}
use Rattle.hub_tables.proofs.Searches.{active_card_is}
use Rattle.hub_runs.specs.Fits.{state_fits}
use Rattle.hub_runs.specs.Hubs.{Size, State, blank_client, client, with_client, with_exec}
use Rattle.hub_runs.specs.Runs.{Limits, Call, first_card, run_of}
use Rattle.hub_runs.specs.Module.{Heard, Next}
use Rattle.hub_runs.proofs.Keeping.{run_keeps}
use Rattle.hub_runs.proofs.Made.{first_cards_long, each_first, each_fresh}
use Rattle.hub_runs.proofs.Order.{move_in_range}
use Rattle.hub_runs.proofs.Roles.{of_backup, of_master}
use Rattle.hub_runs.proofs.Places.{length-put, put_either}
use Rattle.hub_runs.proofs.Tally.{tallied}

-- A test that every record passes is passed by the table.
all_pass_each : {A : Type 0} (test : A → Bool) (blank : A) (xs : List A) → ((k : ℕ) → test (get_or xs k blank) ≡ true) → list_all test xs ≡ true
all_pass_each test blank [] each = refl
all_pass_each test blank (x ∷ xs) each = and_from _ _ (each zero) (all_pass_each test blank xs (λ k. each (suc k)))

-- A command whose numbers are of so many card places.
record CommandWithin (places : ℕ) (x : Command) : Type 0 where
  limited : nat_abs x.hundredths ≤ 9000
  own_master : x.own_master.0 ≤ places
  own_backup : x.own_backup.0 ≤ places
  told : message_fits places x.phase x.message ≡ true
  told_master : master_in x.message ≤ places
  told_backup : backup_in x.message ≤ places

numbers_within : (places : ℕ) (msg : Message) → master_in (Some msg) ≤ places → backup_in (Some msg) ≤ places → numbers_fit places msg ≡ true
numbers_within places (MasterDo m) hm hb = le-leb _ _ hm
numbers_within places _ hm hb = and_from _ _ (le-leb _ _ hm) (le-leb _ _ hb)

-- A command that waits or rests further on, and may know other cards.
module _ {places : ℕ} {x : Command} (old : CommandWithin places x) (om : MasterNumber) (ob : BackupNumber) (hm : om.0 ≤ places) (hb : ob.0 ≤ places) where
  waits_within : (msg : Message) → master_in (Some msg) ≤ places → backup_in (Some msg) ≤ places → CommandWithin places (waits msg (record x { own_master = om; own_backup = ob }))
  waits_within msg tm tb = record { limited = old.limited; own_master = hm; own_backup = hb; told = numbers_within places msg tm tb; told_master = tm; told_backup = tb }

  rests_within : (phase : Phase) → CommandWithin places (rests phase (record x { own_master = om; own_backup = ob }))
  rests_within phase = record { limited = old.limited; own_master = hm; own_backup = hb; told = refl; told_master = omega arith; told_backup = omega arith }

command_passes : {places : ℕ} {x : Command} → CommandWithin places x → command_fits places x ≡ true
command_passes old = and_from _ _ (le-leb _ _ old.limited) (and_from _ _ (and_from _ _ (le-leb _ _ old.own_master) (le-leb _ _ old.own_backup)) old.told)

-- A card whose partner's number is of so many places, and which has taken a command in at most so many steps.
record CardWithin {P : Type 0} (number : P → ℕ) (places steps : ℕ) (x : Card P) : Type 0 where
  of_partner : number x.partner ≤ places
  of_version : x.version ≤ steps

-- The table of a role after so many steps; and what it is a step later, with a card written or none.
record CardsWithin {P : Type 0} (number : P → ℕ) (none : P) (places steps : ℕ) (cards : List (Card P)) : Type 0 where
  long : length cards ≡ places
  each : (i : ℕ) → CardWithin number places steps (at (blank_card none) cards i)

module _ {P : Type 0} {number : P → ℕ} {none : P} {places steps : ℕ} {cards : List (Card P)} (old : CardsWithin number none places steps cards) where
  later : CardsWithin number none places (steps + 1) cards
  later = record { long = old.long; each = λ i. record { of_partner = (old.each i).of_partner; of_version = omega (arith, (old.each i).of_version) } }

  written : (i : ℕ) (x : Card P) → number x.partner ≤ places → x.version ≤ steps + 1 → CardsWithin number none places (steps + 1) (put cards i x)
  written i x partner version = record {
    long = length-put cards i x ∙ old.long;
    each = λ j. put_either (CardWithin number places (steps + 1)) (blank_card none) x cards i j (λ _. record { of_partner = partner; of_version = version }) (later.each j);
  }

  -- a card that only takes a command, loses its status or gets another partner
  rewritten : (i : ℕ) (x : Card P) → number x.partner ≤ places → x.version ≤ (at (blank_card none) cards i).version + 1 → CardsWithin number none places (steps + 1) (put cards i x)
  rewritten i x partner version = written i x partner (omega (arith, (old.each i).of_version))

  found_within : (n : ℕ) → active_card cards ≡ Some n → n ≤ places
  found_within n found = omega (arith, (active_card_is none cards n found).2, old.long)

  cards_pass : steps < 4294967295 → list_all (card_fits number places) cards ≡ true
  cards_pass few = all_pass_each (card_fits number places) (blank_card none) cards (λ k. and_from _ _ (le-leb _ _ (old.each (suc k)).of_partner) (lt-ltb _ _ (omega (arith, (old.each (suc k)).of_version))))

record Within (size : Size) (s : State) : Type 0 where
  commands : (c : ℕ) → CommandWithin size.max_instance (client s c)
  masters : CardsWithin of_backup (the_backup 0) size.max_instance s.steps s.master
  backups : CardsWithin of_master (the_master 0) size.max_instance s.steps s.backup

module _ (size : Size) (rule : Rule) (s : State) (old : Within size s) where
  command_written : (c : ℕ) (x : Command) → CommandWithin size.max_instance x → (d : ℕ) → CommandWithin size.max_instance (at blank_client (put s.clients c x) d)
  command_written c x new d = put_either (CommandWithin size.max_instance) blank_client x s.clients c d (λ _. new) (old.commands d)

  -- A command moves on, and no card changes.
  client_within : (e : ExecState) (c : ℕ) (x : Command) → CommandWithin size.max_instance x → Within size (with_exec e (with_client c x s))
  client_within e c x new = record { commands = command_written c x new; masters = later old.masters; backups = later old.backups }

  module _ (c : ℕ) where
    known : CommandWithin size.max_instance (client s c)
    known = old.commands c

    -- It keeps its cards, and waits with this message, or gives up.
    waits_on : (msg : Message) → master_in (Some msg) ≤ size.max_instance → backup_in (Some msg) ≤ size.max_instance → CommandWithin size.max_instance (waits msg (client s c))
    waits_on msg tm tb = waits_within known _ _ known.own_master known.own_backup msg tm tb

    ends : (phase : Phase) → CommandWithin size.max_instance (rests phase (client s c))
    ends phase = rests_within known _ _ known.own_master known.own_backup phase

    -- The numbers in the message that it holds.
    told_master : (msg : Message) → Heard s c msg → master_in (Some msg) ≤ size.max_instance
    told_master msg h = rw h at known.told_master

    told_backup : (msg : Message) → Heard s c msg → backup_in (Some msg) ≤ size.max_instance
    told_backup msg h = rw h at known.told_backup

  acted_within : (a : Action) (c : ℕ) (s' : State) → Next size rule a c s s' → Within size s'
  acted_within Starting c s' (n, (runs, p, e)) = rw e (client_within _ c _ (waits_on c _ (known c).own_master (omega arith)))
  acted_within MasterDoing c s' (n, (m, runs, h, a, e)) = rw e (record {
    commands = command_written c _ (waits_on c _ (told_master c _ h) (old.masters.each m.0).of_partner);
    masters = rewritten old.masters m.0 _ (old.masters.each m.0).of_partner (omega arith);
    backups = later old.backups;
  })
  acted_within HandlingMasterDone c s' (n, (m, b, runs, h, e)) =
      rw e (client_within _ c _ (waits_within (known c) _ _ (known c).own_master (told_backup c _ h) _ (told_master c _ h) (told_backup c _ h)))
  acted_within BackupDoing c s' (n, (m, b, runs, h, a, q, e)) = rw e (record {
    commands = command_written c _ (waits_on c _ (told_master c _ h) (told_backup c _ h));
    masters = later old.masters;
    backups = rewritten old.backups b.0 _ (old.backups.each b.0).of_partner (omega arith);
  })
  acted_within DetectingOldMasterId c s' (n, (m, b, runs, h, a, q, e)) = rw e (client_within _ c _ (waits_on c _ (old.backups.each b.0).of_partner (told_backup c _ h)))
  acted_within HandlingBackupDone c s' (n, (m, b, runs, h, e)) = rw e (client_within _ c _ (ends c Done))
  acted_within HandlingMasterDoFailed c s' (n, (m, runs, h, a, ways)) = elim ways [
    | inl none ↦ rw none.1 (client_within _ c _ (ends c GaveUp))
    | inr found ↦ rw found.2 (client_within _ c _ (waits_on c _ (known c).own_master (found_within old.backups found.0 found.1)))
  ]
  acted_within HandlingBackupDoFailed c s' (n, (m, b, runs, h, a, e)) = rw e (client_within _ c _ (waits_on c _ (known c).own_master (known c).own_backup))
  acted_within GettingNewBackup c s' (n, (m, b, runs, h, a, q, e)) = rw e (client_within _ c _ (waits_on c _ (told_master c _ h) (old.masters.each m.0).of_partner))
  acted_within GettingNewMaster c s' (n, (m, b, runs, h, a, q, e)) = rw e (client_within _ c _ (waits_on c _ (old.backups.each b.0).of_partner (told_backup c _ h)))
  acted_within HandlingBackupGetNewMasterFailed c s' (n, (m, b, runs, h, a, ways)) = elim ways [
    | inl none ↦ rw none.1 (client_within _ c _ (ends c GaveUp))
    | inr found ↦ rw found.3 (client_within _ c _ (rests_within (known c) _ _ (found_within old.masters found.0 found.1) (known c).own_backup Pending))
  ]
  acted_within HandlingMasterGetNewBackupFailed c s' (n, (m, b, runs, h, a, e)) = rw e (client_within _ c _ (ends c GaveUp))
  acted_within UpdatingBackupId c s' (n, (m, b, runs, h, e)) = rw e (client_within _ c _ (rests_within (known c) _ _ (known c).own_master (told_backup c _ h) Done))
  acted_within UpdatingMasterId c s' (n, (m, b, runs, h, e)) = rw e (client_within _ c _ (rests_within (known c) _ _ (told_master c _ h) (known c).own_backup Pending))
  acted_within CreatingNewBackup c s' (n, (a, k, runs, found, none, lost, room, e)) = rw e (record {
    commands = old.commands;
    masters = rewritten old.masters a _ room (omega arith);
    backups = written old.backups (k + 1) _ (found_within old.masters a found) (omega (arith, (old.masters.each a).of_version));
  })
  acted_within CreatingNewMaster c s' (n, (a, k, runs, none, found, lost, room, e)) = rw e (record {
    commands = old.commands;
    masters = written old.masters (k + 1) _ (found_within old.backups a found) (omega (arith, (old.backups.each a).of_version));
    backups = rewritten old.backups a _ room (omega arith);
  })
  acted_within KillingMaster c s' (n, (a, runs, room, found, e)) =
      rw e (record { commands = old.commands; masters = rewritten old.masters a _ (old.masters.each a).of_partner (omega arith); backups = later old.backups })
  acted_within KillingBackup c s' (n, (a, runs, room, found, e)) =
      rw e (record { commands = old.commands; masters = later old.masters; backups = rewritten old.backups a _ (old.backups.each a).of_partner (omega arith) })

-- A made hub.
first_within : {P : Type 0} (number : P → ℕ) (one none : P) (places : ℕ) → 1 ≤ places → number one ≤ places → number none ≤ places → CardsWithin number none places 0 (first_card one none places)
first_within number one none places some h z = record {
  long = first_cards_long one none places some;
  each = each_first (λ _ x. CardWithin number places 0 x) one none places (record { of_partner = h; of_version = omega arith }) (λ _ _. record { of_partner = z; of_version = omega arith });
}

within_run : (size : Size) (start : List ℤ) (rule : Rule) (moves : List ℤ) → Limits size moves → (calls : List Call) → Within size (run_of size start rule moves calls).state
within_run size start rule moves limits calls =
    run_keeps size rule (λ r. Within size r.state) (λ a c s r next old. acted_within size rule r.state old a c s next) (λ _ _ _ old. old) start moves
    (record {
      commands = λ c. each_fresh (λ move x. InRange move → CommandWithin size.max_instance x) moves
          (λ _. record { limited = omega arith; own_master = omega arith; own_backup = omega arith; told = refl; told_master = omega arith; told_backup = omega arith })
          (λ move range. record { limited = range; own_master = limits.some_instances; own_backup = omega arith; told = refl; told_master = omega arith; told_backup = omega arith })
          c (move_in_range moves limits.in_range c);
      masters = first_within of_backup (the_backup 1) (the_backup 0) size.max_instance limits.some_instances limits.some_instances (omega arith);
      backups = first_within of_master (the_master 1) (the_master 0) size.max_instance limits.some_instances limits.some_instances (omega arith);
    })
    calls

-- No run has as many steps as a count of 32 bits can hold.
pub few_steps : (n k steps : ℕ) → n ≤ 64 → k ≤ 7 → steps ≤ 5 * (n * (k + 1)) + 2 * k → steps < 4294967295
few_steps n k steps hn hk bound =
    let rounds : k + 1 ≤ 8 = omega arith in
    let product : n * (k + 1) ≤ 64 * 8 = mul-le-mul hn rounds in
    omega arith

pub run_fits : (size : Size) (start : List ℤ) (rule : Rule) (moves : List ℤ) → Limits size moves → (calls : List Call) → (run_of size start rule moves calls).state.steps < 4294967295 → state_fits size (run_of size start rule moves calls).state ≡ true
run_fits size start rule moves limits calls few =
    let s = (run_of size start rule moves calls).state in
    let kept = tallied size start rule moves limits calls in
    let within = within_run size start rule moves limits calls in
    and_from _ _
    (and_from _ _ (eq-eqb _ _ kept.clients_long) (and_from _ _ (eq-eqb _ _ kept.of_masters.cards_long) (and_from _ _ (eq-eqb _ _ kept.of_masters.figures_long) (and_from _ _ (eq-eqb _ _ kept.of_backups.cards_long) (eq-eqb _ _ kept.of_backups.figures_long)))))
    (and_from _ _ (lt-ltb _ _ few)
    (and_from _ _ (all_pass_each (command_fits size.max_instance) blank_client s.clients (λ k. command_passes (within.commands (suc k))))
    (and_from _ _ (cards_pass within.masters few) (cards_pass within.backups few))))
