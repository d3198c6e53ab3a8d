-- Every run keeps versions, figures and lists in step: a card's list is as long as its version, and gives its figures.
use Rattle.std.proofs.Common.{◌≡◌, ℕ, ◌+◌, ◌≤◌, List, [], ◌∷◌, ◌++◌, length, replicate, ℤ, Some, sym, refl, ap, ◌∙◌, inl, inr, arith}
use Rattle.std.proofs.lemmas.List.{length_push, length-replicate, length-map}
use Rattle.std.proofs.lemmas.List.Sums.{fold_push}
use Rattle.std.proofs.lemmas.Bool.{cases_eq}
use Rattle.registers.specs.Kind.{Rule}
use Rattle.actions.specs.declared.Action.{Action}
use Rattle.actions.specs.declared.Action.TheVariants.{Starting, MasterDoing, HandlingMasterDone, BackupDoing, DetectingOldMasterId, HandlingBackupDone, HandlingMasterDoFailed, HandlingBackupDoFailed, GettingNewBackup, GettingNewMaster, HandlingBackupGetNewMasterFailed, HandlingMasterGetNewBackupFailed, UpdatingBackupId, UpdatingMasterId, CreatingNewBackup, CreatingNewMaster, KillingMaster, KillingBackup}
use Rattle.hub_records.specs.Commands.{the_backup, the_master}
use Rattle.hub_tables.specs.Search.{active_card}
use Rattle.hub_cards.specs.Tables.{at, put, blank_card}
use Rattle.hub_cards.specs.declared.Card.{Card}
use Rattle.hub_records.specs.declared.commands.Command.{Command}
use Rattle.hub_records.specs.declared.hub.ExecState.{ExecState}
use Rattle.hub_tables.proofs.Searches.{active_card_is}
use Rattle.hub_runs.specs.Hubs.{Size, State, blank_client, client, has_taken, with_client, with_exec}
use Rattle.hub_runs.specs.Runs.{Limits, Call, Lists, appended, lists_after, fresh, first_card, run_of}
use Rattle.hub_runs.specs.Promises.{move_of, figures_of}
use Rattle.hub_runs.specs.Module.{Next}
use Rattle.hub_runs.proofs.Keeping.{run_keeps}
use Rattle.hub_runs.proofs.Made.{first_cards_long, each_first, each_fresh}
use Rattle.hub_runs.proofs.Places.{length-put, at_put_same, at_put_other, at_put_like, at_replicate, all_blank}

module _ (start : List ℤ) (rule : Rule) (moves : List ℤ) where
  -- A list of commands agrees with a version and with figures.
  abbrev Agrees : ℕ → List ℤ → List ℕ → Type 0
  Agrees version figures list = (length list ≡ version) × (figures ≡ figures_of start rule moves list)

  -- one more command
  one_more : (version : ℕ) (figures : List ℤ) (list : List ℕ) (c : ℕ) (t : ℤ) → t ≡ move_of moves c → Agrees version figures list → Agrees (version + 1) (rule figures t) (list ++ (c ∷ []))
  one_more version figures list c t same old = (
    length_push list c ∙ ap (λ n. n + 1) old.0,
    ap (rule figures) same ∙ ap (λ f. rule f (move_of moves c)) old.1 ∙ sym (fold_push (λ f d. rule f (move_of moves d)) start list c),
  )

  -- The tables of one role, each of this size, and the lists of its cards, which agree. Place 0 holds no card.
  pub record InStep {P : Type 0} (none : P) (size : ℕ) (cards : List (Card P)) (figures : List (List ℤ)) (lists : List (List ℕ)) : Type 0 where
    pub cards_long : length cards ≡ size
    pub figures_long : length figures ≡ size
    pub lists_long : length lists ≡ size
    pub each : (i : ℕ) → 1 ≤ i → i ≤ size → Agrees (at (blank_card none) cards i).version (at [] figures i) (at [] lists i)

  module _ {P : Type 0} {none : P} {size : ℕ} {cards : List (Card P)} {figures : List (List ℤ)} {lists : List (List ℕ)} (old : InStep none size cards figures lists) where
    -- a card's record, figures and list are written at once, and agree if the table has such a place
    all_written : (i : ℕ) (x : Card P) (f : List ℤ) (l : List ℕ) → (1 ≤ i → i ≤ size → Agrees x.version f l) → InStep none size (put cards i x) (put figures i f) (put lists i l)
    all_written i x f l new = record {
      cards_long = length-put cards i x ∙ old.cards_long;
      figures_long = length-put figures i f ∙ old.figures_long;
      lists_long = length-put lists i l ∙ old.lists_long;
      each = λ j low high. elim (cases_eq i j) [
        | inl e ↦
            let l1 : 1 ≤ i = omega arith in
            let l2 : i ≤ length cards = omega arith in
            let l3 : i ≤ length figures = omega arith in
            let l4 : i ≤ length lists = omega arith in
            rw (← e, at_put_same (blank_card none) x cards i l1 l2, at_put_same [] f figures i l1 l3, at_put_same [] l lists i l1 l4) (new l1 (omega arith))
        | inr ne ↦ rw (at_put_other (blank_card none) x cards i j ne, at_put_other [] f figures i j ne, at_put_other [] l lists i j ne) (old.each j low high)
      ];
    }

    -- a card takes a command
    taken : (i c : ℕ) (t : ℤ) → t ≡ move_of moves c → InStep none size (put cards i (has_taken (at (blank_card none) cards i))) (put figures i (rule (at [] figures i) t)) (appended lists i c)
    taken i c t same = all_written i _ _ _ (λ low high. one_more _ _ _ c t same (old.each i low high))

    -- only a card's status or partner changes
    version_kept : (i : ℕ) (x : Card P) → x.version ≡ (at (blank_card none) cards i).version → InStep none size (put cards i x) figures lists
    version_kept i x same = record {
      cards_long = length-put cards i x ∙ old.cards_long;
      figures_long = old.figures_long;
      lists_long = old.lists_long;
      each = λ j low high. rw (at_put_like (λ (y : Card P). y.version) (blank_card none) x cards i j same) (old.each j low high);
    }

    -- the active card's list, of which a new card gets a copy
    found_agrees : (a : ℕ) → active_card cards ≡ Some a → Agrees (at (blank_card none) cards a).version (at [] figures a) (at [] lists a)
    found_agrees a found = let is = active_card_is none cards a found in old.each a is.1 (omega (arith, is.2, old.cards_long))

  -- the tables of a made hub are in step
  first_in_step : {P : Type 0} (one none : P) (size : ℕ) → 1 ≤ size → InStep none size (first_card one none size) (replicate size start) (replicate size [])
  first_in_step one none size some = record {
    cards_long = first_cards_long one none size some;
    figures_long = length-replicate size start;
    lists_long = length-replicate {A = List ℕ} size [];
    each = λ i low high. rw (at_replicate [] start size i low high, all_blank {A = List ℕ} [] size i) (sym (each_first (λ _ x. x.version ≡ 0) one none size refl (λ _ _. refl) i), refl);
  }

  -- A state and its lists: the clients have their moves, and the tables of each role are in step.
  pub record Kept (size : Size) (s : State) (l : Lists) : Type 0 where
    pub clients_long : length s.clients ≡ size.client_num
    pub moves_kept : (c : ℕ) → (client s c).hundredths ≡ move_of moves c
    pub of_masters : InStep (the_backup 0) size.max_instance s.master s.master_figures l.of_master
    pub of_backups : InStep (the_master 0) size.max_instance s.backup s.backup_figures l.of_backup

  module _ {size : Size} {s : State} {l : Lists} (old : Kept size s l) where
    -- a client's phase, message or knowledge changes
    client_kept : (c : ℕ) (x : Command) → x.hundredths ≡ (client s c).hundredths → Kept size (with_client c x s) l
    client_kept c x same = record {
      clients_long = length-put s.clients c x ∙ old.clients_long;
      moves_kept = λ d. at_put_like (λ (y : Command). y.hundredths) blank_client x s.clients c d same ∙ old.moves_kept d;
      of_masters = old.of_masters;
      of_backups = old.of_backups;
    }

    exec_kept : (e : ExecState) → Kept size (with_exec e s) l
    exec_kept e = record { clients_long = old.clients_long; moves_kept = old.moves_kept; of_masters = old.of_masters; of_backups = old.of_backups }

    -- the cards change, and the clients do not
    cards_kept : (s' : State) (l' : Lists) → s'.clients ≡ s.clients
        → InStep (the_backup 0) size.max_instance s'.master s'.master_figures l'.of_master
        → InStep (the_master 0) size.max_instance s'.backup s'.backup_figures l'.of_backup
        → Kept size s' l'
    cards_kept s' l' same masters backups = record {
      clients_long = ap length same ∙ old.clients_long;
      moves_kept = λ c. ap (λ (xs : List Command). (at blank_client xs c).hundredths) same ∙ old.moves_kept c;
      of_masters = masters;
      of_backups = backups;
    }

  acted_kept : (size : Size) (a : Action) (c : ℕ) (s s' : State) (l : Lists) → Next size rule a c s s' → Kept size s l → Kept size s' (lists_after a c s l)
  unfolding lists_after
  acted_kept size Starting c s s' l (n, (runs, p, e)) old = rw e (client_kept old c _ refl)
  acted_kept size MasterDoing c s s' l (n, (m, runs, h, a, e)) old =
      rw (e, h) (client_kept (cards_kept old _ _ refl (taken old.of_masters m.0 c _ (old.moves_kept c)) old.of_backups) c _ refl)
  acted_kept size HandlingMasterDone c s s' l (n, (m, b, runs, h, e)) old = rw e (client_kept old c _ refl)
  acted_kept size BackupDoing c s s' l (n, (m, b, runs, h, a, q, e)) old =
      rw (e, h) (client_kept (cards_kept old _ _ refl old.of_masters (taken old.of_backups b.0 c _ (old.moves_kept c))) c _ refl)
  acted_kept size DetectingOldMasterId c s s' l (n, (m, b, runs, h, a, q, e)) old = rw e (client_kept old c _ refl)
  acted_kept size HandlingBackupDone c s s' l (n, (m, b, runs, h, e)) old = rw e (exec_kept (client_kept old c _ refl) _)
  acted_kept size HandlingMasterDoFailed c s s' l (n, (m, runs, h, a, ways)) old =
      elim ways [ inl none ↦ rw none.1 (exec_kept (client_kept old c _ refl) _) | inr found ↦ rw found.2 (client_kept old c _ refl) ]
  acted_kept size HandlingBackupDoFailed c s s' l (n, (m, b, runs, h, a, e)) old = rw e (client_kept old c _ refl)
  acted_kept size GettingNewBackup c s s' l (n, (m, b, runs, h, a, q, e)) old = rw e (client_kept old c _ refl)
  acted_kept size GettingNewMaster c s s' l (n, (m, b, runs, h, a, q, e)) old = rw e (client_kept old c _ refl)
  acted_kept size HandlingBackupGetNewMasterFailed c s s' l (n, (m, b, runs, h, a, ways)) old =
      elim ways [ inl none ↦ rw none.1 (exec_kept (client_kept old c _ refl) _) | inr found ↦ rw found.3 (client_kept old c _ refl) ]
  acted_kept size HandlingMasterGetNewBackupFailed c s s' l (n, (m, b, runs, h, a, e)) old = rw e (exec_kept (client_kept old c _ refl) _)
  acted_kept size UpdatingBackupId c s s' l (n, (m, b, runs, h, e)) old = rw e (exec_kept (client_kept old c _ refl) _)
  acted_kept size UpdatingMasterId c s s' l (n, (m, b, runs, h, e)) old = rw e (client_kept old c _ refl)
  acted_kept size CreatingNewBackup c s s' l (n, (a, k, runs, found, none, lost, room, e)) old =
      rw (e, lost, found) (cards_kept old _ _ refl (version_kept old.of_masters a _ refl) (all_written old.of_backups (k + 1) _ _ _ (λ _ _. found_agrees old.of_masters a found)))
  acted_kept size CreatingNewMaster c s s' l (n, (a, k, runs, none, found, lost, room, e)) old =
      rw (e, lost, found) (cards_kept old _ _ refl (all_written old.of_masters (k + 1) _ _ _ (λ _ _. found_agrees old.of_backups a found)) (version_kept old.of_backups a _ refl))
  acted_kept size KillingMaster c s s' l (n, (a, runs, room, found, e)) old = rw e (cards_kept old _ _ refl (version_kept old.of_masters a _ refl) old.of_backups)
  acted_kept size KillingBackup c s s' l (n, (a, runs, room, found, e)) old = rw e (cards_kept old _ _ refl old.of_masters (version_kept old.of_backups a _ refl))

-- What every run keeps: each table's length, the clients' moves, and for each card of either role its list in step.
pub tallied : (size : Size) (start : List ℤ) (rule : Rule) (moves : List ℤ) → Limits size moves → (calls : List Call) → Kept start rule moves size (run_of size start rule moves calls).state (run_of size start rule moves calls).lists
tallied size start rule moves limits calls =
    run_keeps size rule (λ r. Kept start rule moves size r.state r.lists) (λ a c s r next old. acted_kept start rule moves size a c r.state s r.lists next old) (λ _ _ _ old. old) start moves
    (record {
      clients_long = length-map moves fresh ∙ limits.one_move_each;
      moves_kept = each_fresh (λ move x. x.hundredths ≡ move) moves refl (λ _. refl);
      of_masters = first_in_step start rule moves (the_backup 1) (the_backup 0) size.max_instance limits.some_instances;
      of_backups = first_in_step start rule moves (the_master 1) (the_master 0) size.max_instance limits.some_instances;
    })
    calls
