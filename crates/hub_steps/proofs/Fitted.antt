-- What it means for a step that the tables fit together.
use Rattle.std.proofs.Common.{◌≡◌, ℕ, zero, suc, ◌<◌, Bool, true, leb, List, [], ◌∷◌, map, length, get_or, ℤ, sym, refl, ap, ◌∙◌, arith}
use Rattle.std.specs.List.{list_all}
use Rattle.std.proofs.lemmas.List.{length-map}
use Rattle.std.proofs.lemmas.Bool.{and_from, and_parts, eqb-true, le-leb, leb-true, ltb-true}
use Rattle.hub_records.specs.Commands.{the_master, the_backup}
use Rattle.hub_cards.specs.Tables.{at, blank_card}
use Rattle.hub_cards.specs.declared.BackupNumber.{BackupNumber}
use Rattle.hub_cards.specs.declared.Card.{Card}
use Rattle.hub_cards.specs.declared.MasterNumber.{MasterNumber}
use Rattle.hub_records.specs.declared.commands.Command.{Command}
use Rattle.hub_records.specs.declared.hub.Hub.{Hub}
use Rattle.hub_tables.specs.Fit.{card_fits, command_fits, fits}
use Rattle.hub_runs.specs.Fits.{state_fits}
use Rattle.hub_runs.specs.Hubs.{Size, State, blank_client}
use Rattle.hub_runs.specs.States.{held, size_of, state_in, state_of, viewed}
use Rattle.hub_tables.specs.declared.tables.Tables.{Tables}
use Rattle.hub_tables.specs.declared.tables.View.{View}
use Rattle.hub_steps.specs.Held.{state_held}
use Rattle.hub_steps.specs.Stepping.{Fitting}

each_passes : {A : Type 0} (test : A → Bool) (xs : List A) (blank : A) (i : ℕ) → list_all test xs ≡ true → test blank ≡ true → test (get_or xs i blank) ≡ true
each_passes test [] blank i all b = b
each_passes test (x ∷ xs) blank zero all b = (and_parts _ _ all).0
each_passes test (x ∷ xs) blank (suc i) all b = each_passes test xs blank i (and_parts _ _ all).1 b

each_at : {A : Type 0} (test : A → Bool) (xs : List A) (blank : A) (n : ℕ) → list_all test xs ≡ true → test blank ≡ true → test (at blank xs n) ≡ true
each_at test xs blank zero all b = b
each_at test xs blank (suc i) all b = each_passes test xs blank i all b

version_room : {P : Type 0} (number : P → ℕ) (p : P) (s : ℕ) (cards : List (Card P)) → number p ≡ 0 → list_all (card_fits number s) cards ≡ true → (n : ℕ) → (at (blank_card p) cards n).version < 4294967295
version_room number p s cards zero_number all n = ltb-true _ _ (and_parts _ _ (each_at (card_fits number s) cards (blank_card p) n all (and_from _ _ (le-leb _ _ (omega arith)) refl))).1

pub fitting : (size : Size) (s : State) → state_fits size s ≡ true → Fitting size s
fitting size s e =
    let lengths = and_parts _ _ e in
    let l = lengths.0 in
    let rest = and_parts _ _ lengths.1 in
    let tables = and_parts _ _ rest.1 in
    let cards = and_parts _ _ tables.1 in
    let l1 = and_parts _ _ l in
    let l2 = and_parts _ _ l1.1 in
    let l3 = and_parts _ _ l2.1 in
    let l4 = and_parts _ _ l3.1 in
    let none : leb 0 size.max_instance ≡ true = le-leb 0 size.max_instance (omega arith) in
    record {
      commands = eqb-true _ _ l1.0;
      masters = eqb-true _ _ l2.0;
      master_registers = eqb-true _ _ l3.0;
      backups = eqb-true _ _ l4.0;
      backup_registers = eqb-true _ _ l4.1;
      room = ltb-true _ _ rest.0;
      limited = λ c. leb-true _ _ (and_parts _ _ (each_at (command_fits size.max_instance) s.clients blank_client c tables.0 (and_from _ _ (le-leb 0 9000 (omega arith)) (and_from _ _ (and_from _ _ none none) refl)))).0;
      versions = (version_room (λ b. b.0) (the_backup 0) size.max_instance s.master refl cards.0, version_room (λ m. m.0) (the_master 0) size.max_instance s.backup refl cards.1);
    }

-- A register stands in its table where its figures stand in the state's list.
pub fits_by_figures : {R : Type 0} (figures : R → List ℤ) (hub : Hub) (commands : List Command) (masters : List (Card BackupNumber)) (backups : List (Card MasterNumber)) (xs ys : List R) (b : Bool)
    → b ≡ fits hub.commands hub.cards commands masters backups hub.steps (length xs) (length ys)
    → state_fits (size_of hub) (state_of hub commands masters backups (map figures xs) (map figures ys)) ≡ b
fits_by_figures figures hub commands masters backups xs ys b e =
    let fit = fits hub.commands hub.cards commands masters backups hub.steps in
    ap (λ l. fit l (length (map figures ys))) (length-map xs figures) ∙ ap (fit (length xs)) (length-map ys figures) ∙ sym e

-- The same of tables that were tested as they are seen.
pub fits_by_view : {R : Type 0} (figures : R → List ℤ) (hub : Hub) (tables : Tables R) (view : View R) (b : Bool)
    → viewed view ≡ held tables
    → b ≡ fits hub.commands hub.cards view.commands.now view.masters.now view.backups.now hub.steps (length view.master_registers.now) (length view.backup_registers.now)
    → state_fits (size_of hub) (state_held figures hub tables) ≡ b
fits_by_view figures hub tables view b same e =
    ap (λ t. state_fits (size_of hub) (state_in figures hub t)) (sym same)
    ∙ fits_by_figures figures hub view.commands.now view.masters.now view.backups.now view.master_registers.now view.backup_registers.now b e
