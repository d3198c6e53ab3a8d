-- What the steps on the cards do to their tables is what the model has: the caller adds what it does to the hub's record.
use Rattle.std.proofs.Common.{◌≡◌, ℕ, ◌+◌, Bool, true, false, cond, leb, List, ℤ, Some, None, Ok, Err, Option, Result, sym, refl, ap, ◌∙◌, subst, MatchResult}
use Rattle.refusals.specs.declared.Refusal.{Refusal}
use Rattle.registers.specs.Kind.{Rule}
use Rattle.actions.specs.declared.Action.TheVariants.{CreatingNewBackup, CreatingNewMaster, KillingMaster, KillingBackup}
use Rattle.hub_records.specs.Commands.{the_backup, the_master}
use Rattle.hub_tables.specs.Search.{active_card, last_lost}
use Rattle.hub_cards.specs.Tables.{at, blank_card, put}
use Rattle.hub_cards.specs.declared.BackupNumber.{BackupNumber}
use Rattle.hub_cards.specs.declared.Card.{Card}
use Rattle.hub_cards.specs.declared.MasterNumber.{MasterNumber}
use Rattle.hub_cards.specs.declared.Status.TheVariants.{Lost}
use Rattle.hub_records.specs.declared.commands.Command.{Command}
use Rattle.hub_records.specs.declared.hub.ExecState.{ExecState}
use Rattle.hub_runs.specs.Hubs.{Size, State, has_status, new_backup, new_master}
use Rattle.hub_runs.specs.Runs as runs
use Rattle.hub_runs.specs.Judging.{Answer, by_card, carried_out, denied, guard, moved, with_card}
use Rattle.hub_steps.specs.Counting.{once_counted}
use Rattle.hub_steps.specs.Replied.{Replied}
use Rattle.hub_steps.specs.CardSteps.{Accepted, Choice, Creates, Denied, Loses, Tables, choice, chosen, makes, refused, with_new}

-- What the caller has done to the rest of the state: an accepted step is counted and comes to so many losses, and a denied
-- one is not counted. Neither changes how the hub stands, or a command.
abbrev Counted : {T : Type 0} → ℕ → State → Result T Refusal → State → Type 0
Counted losses s r s' =
    (s'.exec_state ≡ s.exec_state)
    × (s'.clients ≡ s.clients)
    × MatchResult r (λ _. (s'.killed ≡ losses) × (s'.steps ≡ s.steps + 1)) (λ _. (s'.killed ≡ s.killed) × (s'.steps ≡ s.steps))

-- The caller has written nothing but cards and registers yet.
abbrev pub Uncounted : State → State → Type 0
Uncounted s s' = (s'.exec_state ≡ s.exec_state) × (s'.clients ≡ s.clients) × (s'.killed ≡ s.killed) × (s'.steps ≡ s.steps)

counted_so : {T : Type 0} (loss : Bool) (s s' : State) (r : Result T Refusal) → Uncounted s s' → Counted (cond loss (s.killed + 1) s.killed) s r (once_counted loss r s')
counted_so loss s s' (Ok x) same =
    (same.0, same.1, (ap (λ k. cond loss (k + 1) k) same.2, ap (λ n. n + 1) same.3))
counted_so loss s s' (Err refusal) same = (same.0, same.1, (same.2, same.3))

-- The model's steps that make a card go by the choice.
by_choice : Choice → (ℕ → ℕ → Answer) → Answer
by_choice (refused cause) next = denied cause
by_choice (makes a new) next = next a new

model_chooses : (places : ℕ) (maker other lost : Option ℕ) (next : ℕ → ℕ → Answer) → with_card maker 10 (λ a. by_card other (with_card lost 10 (λ l. guard (leb (l + 1) places) 12 (next a (l + 1)))) (λ _. denied 10)) ≡ by_choice (choice places maker other lost) next
unfolding with_card by_card guard by_choice
model_chooses places None other lost next = refl
model_chooses places (Some a) (Some b) lost next = refl
model_chooses places (Some a) None None next = refl
model_chooses places (Some a) None (Some l) next =
    elim (leb (l + 1) places) as (λ free. guard free 12 (next a (l + 1)) ≡ by_choice (cond free (makes a (l + 1)) (refused 12)) next) [ true ↦ refl | false ↦ refl ]

-- Each step writes some of the tables and leaves the rest: a state is made of the two and of what the hub's record says.
record Parted (X Y : Type 0) : Type 0 where
  written : State → X
  rest : State → Y
  make : ExecState → List Command → ℕ → ℕ → Y → X → State
  whole : (s : State) → s ≡ make s.exec_state s.clients s.killed s.steps (rest s) (written s)

abbrev next : {X Y : Type 0} → Parted X Y → State → ℕ → X → State
next v s losses x = v.make s.exec_state s.clients losses (s.steps + 1) (v.rest s) x

became : {X Y : Type 0} (v : Parted X Y) (s : State) (e : ExecState) (commands : List Command) (k n : ℕ) (y : Y) (x : X) → s.exec_state ≡ e → s.clients ≡ commands → s.killed ≡ k → s.steps ≡ n → v.rest s ≡ y → v.written s ≡ x → s ≡ v.make e commands k n y x
became v s e commands k n y x is-e is-commands is-k is-n is_y is_x = let whole = v.whole s in cc

denied_so : {X Y T : Type 0} (v : Parted X Y) (losses cause : ℕ) (s s' : State) (r : Result T Refusal) → Counted losses s r s' → v.rest s' ≡ v.rest s → Denied cause r → v.written s' ≡ v.written s → Replied (denied cause) s r s'
denied_so v losses cause s s' (Ok x) counted kept never same = absurd never
denied_so v losses cause s s' (Err refusal) counted kept number same =
    (ap runs.refused number, became v s' _ _ _ _ _ _ counted.0 counted.1 counted.2.0 counted.2.1 kept same ∙ sym (v.whole s))

accepted_so : {X Y T : Type 0} (v : Parted X Y) (losses : ℕ) (s s' : State) (r : Result T Refusal) (x : X) → Counted losses s r s' → v.rest s' ≡ v.rest s → Accepted r → v.written s' ≡ x → Replied (moved (next v s losses x)) s r s'
accepted_so v losses s s' (Ok _) x counted kept accepted same =
    (refl, became v s' _ _ _ _ _ _ counted.0 counted.1 counted.2.0 counted.2.1 kept same)
accepted_so v losses s s' (Err refusal) x counted kept never same = absurd never

-- A loss, once for both roles.
lost_so : {P Y T : Type 0} (v : Parted (List (Card P)) Y) (p : P) (s s' : State) (r : Result T Refusal) (found : Option ℕ) → Loses found (v.written s) r (v.written s') → Counted (s.killed + 1) s r s' → v.rest s' ≡ v.rest s → Replied (with_card found 10 (λ a. moved (next v s (s.killed + 1) (put (v.written s) a (has_status Lost (at (blank_card p) (v.written s) a)))))) s r s'
unfolding with_card
lost_so v p s s' r None loses counted kept = denied_so v (s.killed + 1) 10 s s' r counted kept loses.0 loses.1
lost_so v p s s' r (Some a) loses counted kept =
    accepted_so v (s.killed + 1) s s' r (put (v.written s) a (has_status Lost (at (blank_card p) (v.written s) a))) counted kept loses.0 (loses.1 p)

-- A making, once for both roles. A card's number is known by its plain number alone.
created_so : {M N Y T : Type 0} (v : Parted (Tables M N) Y) (maker : M → ℕ) (made : N → ℕ) (the_maker : ℕ → M) (the_made : ℕ → N) → ((x : M) → the_maker (maker x) ≡ x) → ((y : N) → the_made (made y) ≡ y) → (p : N) (figures : List (List ℤ)) (s s' : State) (r : Result T Refusal) (by : Choice) → Creates maker made figures by (v.written s) r (v.written s') → Counted s.killed s r s' → v.rest s' ≡ v.rest s → Replied (by_choice by (λ a new. moved (next v s s.killed (with_new p a new (the_maker a) (the_made new) figures (v.written s))))) s r s'
unfolding by_choice
created_so v maker made the_maker the_made maker-is made-is p figures s s' r (refused cause) creates counted kept =
    denied_so v s.killed cause s s' r counted kept creates.0 creates.1
created_so v maker made the_maker the_made maker-is made-is p figures s s' r (makes a new) creates counted kept =
    let pair = creates.1 in
    let x_is : pair.0 ≡ the_maker a = sym (maker-is pair.0) ∙ ap the_maker pair.2 in
    let y_is : pair.1 ≡ the_made new = sym (made-is pair.1) ∙ ap the_made pair.3 in
    accepted_so v s.killed s s' r (with_new p a new (the_maker a) (the_made new) figures (v.written s)) counted kept creates.0
    (pair.4 p
    ∙ ap (λ x. with_new p a new x pair.1 figures (v.written s)) x_is
    ∙ ap (λ y. with_new p a new (the_maker a) y figures (v.written s)) y_is)

-- What each of the four steps writes.

abbrev by_master_loss : Parted (List (Card BackupNumber)) (List (Card MasterNumber) × List (List ℤ) × List (List ℤ))
by_master_loss =
    record {
      written = λ s. s.master;
      rest = λ s. (s.backup, s.master_figures, s.backup_figures);
      make = λ e commands k n y x. record { exec_state = e; clients = commands; master = x; backup = y.0; killed = k; steps = n; master_figures = y.1; backup_figures = y.2 };
      whole = λ s. refl;
    }

abbrev by_backup_loss : Parted (List (Card MasterNumber)) (List (Card BackupNumber) × List (List ℤ) × List (List ℤ))
by_backup_loss =
    record {
      written = λ s. s.backup;
      rest = λ s. (s.master, s.master_figures, s.backup_figures);
      make = λ e commands k n y x. record { exec_state = e; clients = commands; master = y.0; backup = x; killed = k; steps = n; master_figures = y.1; backup_figures = y.2 };
      whole = λ s. refl;
    }

abbrev by_new_backup : Parted (Tables MasterNumber BackupNumber) (List (List ℤ))
by_new_backup =
    record {
      written = λ s. (s.master, s.backup, s.backup_figures);
      rest = λ s. s.master_figures;
      make = λ e commands k n y x. record { exec_state = e; clients = commands; master = x.0; backup = x.1; killed = k; steps = n; master_figures = y; backup_figures = x.2 };
      whole = λ s. refl;
    }

abbrev by_new_master : Parted (Tables BackupNumber MasterNumber) (List (List ℤ))
by_new_master =
    record {
      written = λ s. (s.backup, s.master, s.master_figures);
      rest = λ s. s.backup_figures;
      make = λ e commands k n y x. record { exec_state = e; clients = commands; master = x.1; backup = x.0; killed = k; steps = n; master_figures = x.2; backup_figures = y };
      whole = λ s. refl;
    }

-- The four steps, for any states before and after the call, and whatever command the model is asked about. Once counted,
-- what was written is what the model has.
module _ {T : Type 0} (size : Size) (rule : Rule) (c m b : ℕ) (s s' : State) (r : Result T Refusal) where
  pub kill_master_is : Loses (active_card s.master) s.master r s'.master → Uncounted s s' → by_master_loss.rest s' ≡ by_master_loss.rest s → Replied (carried_out size rule KillingMaster c m b s) s r (once_counted true r s')
  unfolding carried_out
  kill_master_is loses same = lost_so by_master_loss (the_backup 0) s (once_counted true r s') r (active_card s.master) loses (counted_so true s s' r same)

  pub kill_backup_is : Loses (active_card s.backup) s.backup r s'.backup → Uncounted s s' → by_backup_loss.rest s' ≡ by_backup_loss.rest s → Replied (carried_out size rule KillingBackup c m b s) s r (once_counted true r s')
  unfolding carried_out
  kill_backup_is loses same = lost_so by_backup_loss (the_master 0) s (once_counted true r s') r (active_card s.backup) loses (counted_so true s s' r same)

  pub create_backup_is : Creates (λ x. x.0) (λ y. y.0) s.master_figures (chosen size.max_instance s.master s.backup) (s.master, s.backup, s.backup_figures) r (s'.master, s'.backup, s'.backup_figures) → Uncounted s s' → s'.master_figures ≡ s.master_figures → Replied (carried_out size rule CreatingNewBackup c m b s) s r (once_counted false r s')
  unfolding carried_out
  create_backup_is creates same kept =
      subst (λ answer. Replied answer s r (once_counted false r s'))
      (sym (model_chooses size.max_instance (active_card s.master) (active_card s.backup) (last_lost s.backup) (λ a new. moved (new_backup a new s))))
      (created_so by_new_backup (λ x. x.0) (λ y. y.0) the_master the_backup (λ x. refl) (λ y. refl) (the_backup 0) s.master_figures s (once_counted false r s') r (chosen size.max_instance s.master s.backup) creates (counted_so false s s' r same) kept)

  pub create_master_is : Creates (λ x. x.0) (λ y. y.0) s.backup_figures (chosen size.max_instance s.backup s.master) (s.backup, s.master, s.master_figures) r (s'.backup, s'.master, s'.master_figures) → Uncounted s s' → s'.backup_figures ≡ s.backup_figures → Replied (carried_out size rule CreatingNewMaster c m b s) s r (once_counted false r s')
  unfolding carried_out
  create_master_is creates same kept =
      subst (λ answer. Replied answer s r (once_counted false r s'))
      (sym (model_chooses size.max_instance (active_card s.backup) (active_card s.master) (last_lost s.master) (λ a new. moved (new_master a new s))))
      (created_so by_new_master (λ x. x.0) (λ y. y.0) the_backup the_master (λ x. refl) (λ y. refl) (the_master 0) s.backup_figures s (once_counted false r s') r (chosen size.max_instance s.backup s.master) creates (counted_so false s s' r same) kept)
