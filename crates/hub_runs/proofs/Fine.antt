-- What holds of a hub and its lists at every moment of a run.
use Rattle.std.proofs.Common.{◌≡◌, ℕ, zero, suc, ◌+◌, ◌-◌, ◌*◌, ◌≤◌, Bool, true, false, cond, ◌&&◌, ◌≢◌, List, [], ◌∷◌, length, refl, ap, ◌∙◌, arith}
use Rattle.std.specs.List.{list_all}
use Rattle.std.proofs.lemmas.List.Folds.{list_all_at}
use Rattle.hub_records.specs.Commands.{is_done, the_backup, the_master}
use Rattle.hub_cards.specs.Tables.{at, put}
use Rattle.hub_cards.specs.declared.BackupNumber.{BackupNumber}
use Rattle.hub_cards.specs.declared.Card.{Card}
use Rattle.hub_cards.specs.declared.MasterNumber.{MasterNumber}
use Rattle.hub_records.specs.declared.commands.Command.{Command}
use Rattle.hub_records.specs.declared.commands.Phase.TheVariants.{Done, GaveUp}
use Rattle.hub_records.specs.declared.hub.ExecState.{ExecState}
use Rattle.hub_records.specs.declared.hub.ExecState.TheVariants.{Running, Success, Fatal}
use Rattle.hub_runs.specs.Hubs.{Size, State, blank_client, all_done}
use Rattle.hub_runs.specs.Runs.{Lists}
use Rattle.hub_runs.proofs.Rows.{Cards, Sane}
use Rattle.hub_runs.proofs.Clients.{Rows, total}
use Rattle.hub_runs.proofs.Roles.{Role, of_backup, of_master}
use Rattle.hub_runs.proofs.Places.{at_put_same, put_either, length-put}
use Rattle.hub_runs.proofs.Tidy.{Tidy}

-- How the commands stand, by the hub's state.
pub record Exec (e : ExecState) (clients : List Command) : Type 0 where
  pub running : e ≡ Running → ((c : ℕ) → (at blank_client clients c).phase ≢ GaveUp) × (all_done clients ≡ false)
  pub success : e ≡ Success → all_done clients ≡ true
  pub fatal : e ≡ Fatal → (c : ℕ) × (1 ≤ c) × (c ≤ length clients) × ((at blank_client clients c).phase ≡ GaveUp)

-- The cards of both roles in numbers. Each role's last card is the partner of the other's active one.
pub record Carded (size : Size) (a : Cards) (master : List (Card BackupNumber)) (backup : List (Card MasterNumber)) (losses : ℕ) : Type 0 where
  pub limit : a.k ≡ size.max_kill
  pub few : losses ≤ size.max_kill
  pub killed : a.lm + a.lb ≡ losses
  pub masters : Role of_backup (the_backup 0) size.max_instance master a.lm a.ma (a.lb + a.ba)
  pub backups : Role of_master (the_master 0) size.max_instance backup a.lb a.ba (a.lm + a.ma)

pub record Listed (size : Size) (l : Lists) : Type 0 where
  pub masters : Tidy size.client_num size.max_instance l.of_master
  pub backups : Tidy size.client_num size.max_instance l.of_backup

-- The weight of the hub: of its commands, of the losses that may still come, and of the roles that wait for a new card.
abbrev pub cards_weight : Cards → ℕ
cards_weight a = 2 * (a.k - (a.lm + a.lb)) + (1 - a.ma) + (1 - a.ba)

abbrev pub hub_weight : Cards → List Command → ℕ
hub_weight a clients = total a clients + cards_weight a

abbrev pub most_steps : Size → ℕ
most_steps size = 5 * (size.client_num * (size.max_kill + 1)) + 2 * size.max_kill

pub record Fine (size : Size) (s : State) (l : Lists) : Type 0 where
  pub a : Cards
  pub cards : Carded size a s.master s.backup s.killed
  pub lists : Listed size l
  pub commands : length s.clients ≡ size.client_num
  pub rows : Rows a l s.clients
  pub weighs : s.steps + hub_weight a s.clients ≤ most_steps size
  pub exec : Exec s.exec_state s.clients

pub sane : {size : Size} {s : State} {l : Lists} → (fine : Fine size s l) → Sane fine.a
sane fine = record { one_master = fine.cards.masters.one; one_backup = fine.cards.backups.one; some_master = fine.cards.masters.some; some_backup = fine.cards.backups.some; losses = omega (arith, fine.cards.limit, fine.cards.few, fine.cards.killed) }

-- Some command that is not done keeps the hub from success, and at success each is done.
all_done_is : (xs : List Command) → all_done xs ≡ list_all (λ x. is_done x.phase) xs
unfolding all_done
all_done_is [] = refl
all_done_is (x ∷ xs) = ap (λ b. is_done x.phase && b) (all_done_is xs)

waits_still : (xs : List Command) (c : ℕ) → 1 ≤ c → c ≤ length xs → is_done (at blank_client xs c).phase ≡ false → all_done xs ≡ false
waits_still xs zero low high e = absurd (omega arith)
waits_still xs (suc n) low high e = all_done_is xs ∙ list_all_at (λ x. is_done x.phase) xs n blank_client (omega arith) e

pub each_done : (xs : List Command) (c : ℕ) → 1 ≤ c → c ≤ length xs → all_done xs ≡ true → (at blank_client xs c).phase ≡ Done
each_done xs c low high e = let waits = waits_still xs c low high in grind arith

module _ (e : ExecState) (xs : List Command) (exec : Exec e xs) (running : e ≡ Running) (c : ℕ) (y : Command) (low : 1 ≤ c) (high : c ≤ length xs) where
  here : at blank_client (put xs c y) c ≡ y
  here = at_put_same blank_client y xs c low high

  inside : c ≤ length (put xs c y)
  inside = omega (arith, length-put xs c y)

  no_one_gave_up : y.phase ≢ GaveUp → (d : ℕ) → (at blank_client (put xs c y) d).phase ≢ GaveUp
  no_one_gave_up calm d = put_either (λ x. x.phase ≢ GaveUp) blank_client y xs c d (λ _. calm) ((exec.running running).0 d)

  -- The command goes on, and so does the hub.
  pub goes_on : is_done y.phase ≡ false → y.phase ≢ GaveUp → Exec e (put xs c y)
  goes_on waiting calm = record {
    running = λ _. (no_one_gave_up calm, waits_still (put xs c y) c low inside (ap (λ x. is_done x.phase) here ∙ waiting));
    success = λ h. cc;
    fatal = λ h. cc;
  }

  -- The command is done, and so is the hub where it was the last.
  pub is_finished : y.phase ≢ GaveUp → Exec (cond (all_done (put xs c y)) Success e) (put xs c y)
  is_finished calm = by_answer (all_done (put xs c y)) refl
    where
      by_answer : (b : Bool) → all_done (put xs c y) ≡ b → Exec (cond b Success e) (put xs c y)
      by_answer true all = record { running = λ h. cc; success = λ _. all; fatal = λ h. cc }
      by_answer false more = record { running = λ _. (no_one_gave_up calm, more); success = λ h. cc; fatal = λ h. cc }

  pub is_fatal : y.phase ≡ GaveUp → Exec Fatal (put xs c y)
  is_fatal gave = record {
    running = λ h. cc;
    success = λ h. cc;
    fatal = λ _. (c, low, inside, ap (λ x. x.phase) here ∙ gave);
  }
