-- From what holds at every moment of a run to what is promised of runs.
use Rattle.std.proofs.Common.{◌≡◌, ℕ, ◌≤◌, true, ◌⊎◌, List, [], ℤ, fold, sym, ◌∙◌, inl, inr, ⊎_elim, arith}
use Rattle.std.proofs.lemmas.Bool.{cases_eq}
use Rattle.registers.specs.Kind.{Rule}
use Rattle.hub_cards.specs.Statuses.{is_used}
use Rattle.hub_tables.specs.SearchLaws.{status_at}
use Rattle.hub_cards.specs.Tables.{at, blank_card}
use Rattle.hub_cards.specs.declared.Card.{Card}
use Rattle.hub_cards.specs.declared.Status.TheVariants.{Active, Lost}
use Rattle.hub_records.specs.declared.commands.Phase.TheVariants.{Done, GaveUp}
use Rattle.hub_records.specs.declared.hub.ExecState.TheVariants.{Fatal}
use Rattle.hub_runs.specs.Hubs.{Size, State, client, master_card, backup_card}
use Rattle.hub_runs.specs.Law.{Commutes}
use Rattle.hub_runs.specs.EachRun.{EveryRunKeepsItsPromises}
use Rattle.hub_runs.specs.Promises.{Holds, Counted, master_list, backup_list, NoCommandIsTakenTwice, DoneCommandsAreInBothLastLists, SuccessCountsEveryCommand, AtMostOneCardOfARoleIsActive, FatalMeansBothCardsOfACommandAreGone, StepsAreCountedAndBounded, SomeStepIsOpen}
use Rattle.hub_runs.specs.Runs.{Limits, Call, Run, number as number_of, last_master, last_backup, run_of}
use Rattle.hub_tables.specs.Search.{last_card}
use Rattle.hub_runs.proofs.Keeping.{run_keeps}
use Rattle.hub_runs.proofs.Clients.{RowAt, in_master, in_backup, row_resting}
use Rattle.hub_runs.proofs.Roles.{Role, is_last, used_place, role_fits, last_is, gone}
use Rattle.hub_runs.proofs.Fine.{Fine, each_done}
use Rattle.hub_runs.proofs.Invariant.{action_keeps}
use Rattle.hub_runs.proofs.Begun.{begun_fine}
use Rattle.hub_runs.proofs.Tally.{InStep, tallied}
use Rattle.hub_runs.proofs.Tidy.{Tidy}
use Rattle.hub_runs.proofs.Order.{in_number_order}
use Rattle.hub_runs.proofs.Counting.{steps_counted}
use Rattle.hub_runs.proofs.Open.{open_step}
use Rattle.hub_runs.proofs.Within.{few_steps, run_fits}

module _ (start : List ℤ) (rule : Rule) where
  pub fine_run : (size : Size) (moves : List ℤ) → Limits size moves → (calls : List Call) → Fine size (run_of size start rule moves calls).state (run_of size start rule moves calls).lists
  fine_run size moves limits calls =
      run_keeps size rule (λ r. Fine size r.state r.lists) (λ action c s r next fine. action_keeps size rule action c r.state s r.lists fine next) (λ _ _ _ fine. fine) start moves (begun_fine size start moves limits) calls

  module _ (size : Size) (moves : List ℤ) (limits : Limits size moves) (calls : List Call) where
    abbrev r : Run
    r = run_of size start rule moves calls

    abbrev s : State
    s = (run_of size start rule moves calls).state

    fine : Fine size s r.lists
    fine = fine_run size moves limits calls

    row : (c : ℕ) → 1 ≤ c → c ≤ size.client_num → RowAt fine.a (in_master fine.a r.lists c) (in_backup fine.a r.lists c) (client s c)
    row c low high = fine.rows c low (omega (arith, fine.commands))

    -- A card that was ever active has a place in its table, and its list is in step.
    counted : {P : Type 0} {number : P → ℕ} {none : P} {cards : List (Card P)} {figures : List (List ℤ)} {lists : List (List ℕ)} {l a partner : ℕ} → Role number none size.max_instance cards l a partner → InStep start rule moves none size.max_instance cards figures lists → Tidy size.client_num size.max_instance lists
        → (i : ℕ) → is_used (status_at none cards i) ≡ true → Counted start rule moves (at [] lists i) (at (blank_card none) cards i).version (at [] figures i)
    counted role in_step tidy i used =
        let place = used_place role i used in
        let kept = in_step.each i place.0 (omega (arith, place.1, role_fits role)) in
        record { once = λ c. (tidy.each i c).0; long = kept.0; gives = kept.1 }

    done_in_both : (c : ℕ) → 1 ≤ c → c ≤ size.client_num → (client s c).phase ≡ Done → Holds (master_list r (last_master s)) c × Holds (backup_list r (last_backup s)) c
    done_in_both c low high e =
        let counts = (row_resting fine.a _ _ Done _ _ _ _ e (λ h. cc) (row c low high).row).0 in
        (rw (last_is fine.cards.masters) counts.0, rw (last_is fine.cards.backups) counts.1)

    backup_within_master : (c : ℕ) → Holds (backup_list r (last_backup s)) c → Holds (master_list r (last_master s)) c
    backup_within_master c holds =
        let range = (fine.lists.backups.each (last_backup s) c).1 holds in
        let held : 1 ≤ in_backup fine.a r.lists c = rw (last_is fine.cards.backups) at holds in
        rw (last_is fine.cards.masters) (omega (arith, (row c range.0 range.1).known.contained))

    -- At success a last list holds exactly the commands of the hub, and gives the figures of all moves.
    all_counted : {P : Type 0} {number : P → ℕ} {none : P} {cards : List (Card P)} {figures : List (List ℤ)} {lists : List (List ℕ)} {l a partner : ℕ} → Role number none size.max_instance cards l a partner → InStep start rule moves none size.max_instance cards figures lists → Tidy size.client_num size.max_instance lists
        → Commutes start rule → ((c : ℕ) → 1 ≤ c → c ≤ size.client_num → Holds (at [] lists (number_of (last_card cards))) c) → at [] figures (number_of (last_card cards)) ≡ fold rule start moves
    all_counted {cards = cards} {lists = lists} role in_step tidy law all =
        let last = last_is role in
        let some = role.some in
        let fits = role_fits role in
        let list_tidy = tidy.each (number_of (last_card cards)) in
        (in_step.each _ (omega (arith, last, some)) (omega (arith, last, fits))).1
        ∙ in_number_order start rule moves law limits.in_range _ (λ c. (list_tidy c).0)
        (λ c holds. let range = (list_tidy c).1 holds in (range.0, omega (arith, range.1, limits.one_move_each)))
        (λ c low high. all c low (omega (arith, limits.one_move_each)))

    one_active : {P : Type 0} {number : P → ℕ} {none : P} {places : ℕ} {cards : List (Card P)} {l a partner : ℕ} → Role number none places cards l a partner → (m n : ℕ) → status_at none cards m ≡ Active → status_at none cards n ≡ Active → m ≡ n
    one_active role m n e f = (is_last role m e).1 ∙ sym (is_last role n f).1

    fatal_means : s.exec_state ≡ Fatal → (c : ℕ) × (1 ≤ c) × (c ≤ size.client_num) × ((client s c).phase ≡ GaveUp) × ((master_card s (client s c).own_master.0).status ≡ Lost) × (((client s c).own_backup.0 ≡ 0) ⊎ ((backup_card s (client s c).own_backup.0).status ≡ Lost))
    fatal_means e =
        let which = fine.exec.fatal e in
        let c = which.0 in
        let high : c ≤ size.client_num = omega (arith, which.2, fine.commands) in
        let here = row c which.1 high in
        let lost = (row_resting fine.a _ _ GaveUp _ _ _ _ which.3 (λ h. cc) here.row).0 in (
          c,
          which.1,
          high,
          which.3,
          gone fine.cards.masters _ here.known.some_own lost.0,
          ⊎_elim inl (λ known. inr (gone fine.cards.backups _ (omega arith) lost.1)) (cases_eq (client s c).own_backup.0 0),
        )

  pub no_command_is_taken_twice : NoCommandIsTakenTwice start rule
  no_command_is_taken_twice size moves limits calls =
      let f = fine_run size moves limits calls in
      let t = tallied size start rule moves limits calls in
      (counted size moves limits calls f.cards.masters t.of_masters f.lists.masters, counted size moves limits calls f.cards.backups t.of_backups f.lists.backups)

  pub done_commands_are_in_both_last_lists : DoneCommandsAreInBothLastLists start rule
  done_commands_are_in_both_last_lists size moves limits calls = (done_in_both size moves limits calls, backup_within_master size moves limits calls)

  pub success_counts_every_command : Commutes start rule → SuccessCountsEveryCommand start rule
  success_counts_every_command law size moves limits calls e =
      let f = fine_run size moves limits calls in
      let t = tallied size start rule moves limits calls in
      let done = λ (c : ℕ) (low : 1 ≤ c) (high : c ≤ size.client_num). done_in_both size moves limits calls c low high (each_done (run_of size start rule moves calls).state.clients c low (omega (arith, f.commands)) (f.exec.success e)) in (
        all_counted size moves limits calls f.cards.masters t.of_masters f.lists.masters law (λ c low high. (done c low high).0),
        all_counted size moves limits calls f.cards.backups t.of_backups f.lists.backups law (λ c low high. (done c low high).1),
      )

  pub at_most_one_card_of_a_role_is_active : AtMostOneCardOfARoleIsActive start rule
  at_most_one_card_of_a_role_is_active size moves limits calls =
      let f = fine_run size moves limits calls in
      (one_active size moves limits calls f.cards.masters, one_active size moves limits calls f.cards.backups)

  pub fatal_means_both_cards_of_a_command_are_gone : FatalMeansBothCardsOfACommandAreGone start rule
  fatal_means_both_cards_of_a_command_are_gone size moves limits calls = fatal_means size moves limits calls

  pub steps_are_counted_and_bounded : StepsAreCountedAndBounded start rule
  steps_are_counted_and_bounded size moves limits calls =
      (steps_counted size start rule moves calls, omega (arith, (fine_run size moves limits calls).weighs))

  pub some_step_is_open : SomeStepIsOpen start rule
  some_step_is_open size moves limits calls = open_step size rule _ _ (fine_run size moves limits calls)

  -- Everything that is promised of a run.
  pub every_run_keeps_its_promises : Commutes start rule → EveryRunKeepsItsPromises start rule
  every_run_keeps_its_promises law size moves limits calls =
      let steps = steps_are_counted_and_bounded size moves limits calls in
      record {
        no_command_is_taken_twice = no_command_is_taken_twice size moves limits calls;
        done_commands_are_in_both_last_lists = done_commands_are_in_both_last_lists size moves limits calls;
        success_counts_every_command = success_counts_every_command law size moves limits calls;
        at_most_one_card_of_a_role_is_active = at_most_one_card_of_a_role_is_active size moves limits calls;
        fatal_means_both_cards_of_a_command_are_gone = fatal_means_both_cards_of_a_command_are_gone size moves limits calls;
        steps_are_counted_and_bounded = steps;
        some_step_is_open = some_step_is_open size moves limits calls;
        tables_fit = run_fits size start rule moves limits calls (few_steps _ _ _ limits.few_clients limits.few_kills steps.1);
      }
