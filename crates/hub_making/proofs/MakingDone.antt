-- Where no cause is found and the tables are set, a hub begins.
use Rattle.std.proofs.Common.{◌≡◌, ℕ, suc, true, eqb, List, [], ◌∷◌, map, length, replicate, ℤ, Some, None, Ok, Option, sym, ap, ◌∙◌, subst, inl, inr, arith}
use Rattle.std.proofs.lemmas.Bool.{and_parts, cases_Bool, cond-false, cond-true, eqb-true, leb-true}
use Rattle.std.specs.List.{AllByRecursion}
use Rattle.refusals.specs.declared.Refusal.{Refusal}
use Rattle.registers.specs.Kind.{Rule}
use Rattle.registers.specs.Taken.{InRange}
use Rattle.hub_records.specs.Commands.{the_backup, the_master}
use Rattle.hub_cards.specs.declared.BackupNumber.{BackupNumber}
use Rattle.hub_cards.specs.declared.Card.{Card}
use Rattle.hub_cards.specs.declared.MasterNumber.{MasterNumber}
use Rattle.hub_records.specs.declared.commands.Command.{Command}
use Rattle.hub_records.specs.declared.hub.Hub.{Hub}
use Rattle.hub_runs.specs.Hubs.{Size}
use Rattle.hub_runs.specs.Runs.{first_card, fresh, Limits, made}
use Rattle.hub_runs.specs.Law.{Commutes}
use Rattle.hub_tables.specs.Lent.{Lent}
use Rattle.hub_runs.specs.States.{state_in, state_of}
use Rattle.hub_runs.proofs.GoingOn.{begins_run}
use Rattle.hub_making.specs.Making.{all_lengths_fit, Begins, BeginsRun, by_move, cause, counts_fit, first_outside, Follows, Makes, MakesRun, move_fits, NewHub}

-- Where no move is outside the limits, all are within them.
none_outside : (n : ℕ) (moves : List ℤ) → first_outside n moves ≡ None → AllByRecursion InRange moves
unfolding first_outside
none_outside n [] e = tt
none_outside n (move ∷ moves) e =
    elim (cases_Bool (move_fits move)) [ inl t ↦ (leb-true _ _ t, none_outside (suc n) moves (sym (cond-true _ _ _ t) ∙ e)) | inr f ↦ (let some : Some n ≡ None = sym (cond-false _ _ _ f) ∙ e in let z : ◌≡◌ {A = ℕ} 0 1 = cc in let no : ⊥ = omega arith in absurd no) ]

no_cause : {R : Type 0} (size : Size) (moves : List ℤ) (t : Lent R) → counts_fit size ≡ true → all_lengths_fit size moves t ≡ true → first_outside 1 moves ≡ None → cause size moves t ≡ None
no_cause size moves t counts lengths inside = cond-true _ _ _ counts ∙ cond-true _ _ _ lengths ∙ ap by_move inside

limits : {R : Type 0} (size : Size) (moves : List ℤ) (t : Lent R) → counts_fit size ≡ true → all_lengths_fit size moves t ≡ true → first_outside 1 moves ≡ None → Limits size moves
limits size moves t counts lengths inside =
    let a = and_parts _ _ counts in
    let b = and_parts _ _ a.1 in
    let d = and_parts _ _ b.1 in
    let f = and_parts _ _ d.1 in
    record { some_clients = leb-true _ _ a.0; few_clients = leb-true _ _ b.0; few_kills = leb-true _ _ d.0; some_instances = leb-true _ _ f.0; few_instances = leb-true _ _ f.1; one_move_each = eqb-true _ _ (and_parts _ _ lengths).0; in_range = none_outside 1 moves inside }

stands : (hub : Hub) (size : Size) (start moves : List ℤ) (cs : List Command) (ms : List (Card BackupNumber)) (bs : List (Card MasterNumber)) (mfs bfs : List (List ℤ)) → NewHub size hub → cs ≡ map fresh moves → ms ≡ first_card (the_backup 1) (the_backup 0) size.max_instance → bs ≡ first_card (the_master 1) (the_master 0) size.max_instance → mfs ≡ replicate size.max_instance start → bfs ≡ replicate size.max_instance start → state_of hub cs ms bs mfs bfs ≡ made size start moves
stands hub size start moves cs ms bs mfs bfs new c m b mf bf = cc

-- What the calls that set the tables have left in them.
pub record AllSet {R : Type 0} (figures : R → List ℤ) (start moves : List ℤ) (before after : Lent R) : Type 0 where
  pub commands : after.of_commands ≡ map fresh moves
  pub masters : after.of_masters ≡ first_card (the_backup 1) (the_backup 0) (length before.of_masters)
  pub master_registers : map figures after.of_master_registers ≡ replicate (length before.of_master_registers) start
  pub backups : after.of_backups ≡ first_card (the_master 1) (the_master 0) (length before.of_backups)
  pub backup_registers : map figures after.of_backup_registers ≡ replicate (length before.of_backup_registers) start

begins : {R : Type 0} (figures : R → List ℤ) (start : List ℤ) (size : Size) (moves : List ℤ) (before after : Lent R) (hub : Hub) → NewHub size hub → all_lengths_fit size moves before ≡ true → first_outside 1 moves ≡ None → AllSet figures start moves before after → Begins figures start size moves after hub
begins figures start size moves before after hub new lengths inside all =
    let a = and_parts (eqb (length moves) size.client_num) _ lengths in
    let b = and_parts (eqb (length before.of_commands) size.client_num) _ a.1 in
    let d = and_parts _ _ b.1 in
    let f = and_parts _ _ d.1 in
    let h = and_parts _ _ f.1 in
    record { its_size = new.as_asked; its_state = stands hub size start moves _ _ _ _ _ new all.commands (all.masters ∙ ap (first_card (the_backup 1) (the_backup 0)) (eqb-true _ _ d.0)) (all.backups ∙ ap (first_card (the_master 1) (the_master 0)) (eqb-true _ _ h.0)) (all.master_registers ∙ ap (λ k. replicate k start) (eqb-true _ _ f.0)) (all.backup_registers ∙ ap (λ k. replicate k start) (eqb-true _ _ h.1)); its_limits = limits size moves before new.fits lengths inside }

pub makes : {R : Type 0} (figures : R → List ℤ) (start : List ℤ) (size : Size) (moves : List ℤ) (before after : Lent R) (hub : Hub) → NewHub size hub → all_lengths_fit size moves before ≡ true → first_outside 1 moves ≡ None → AllSet figures start moves before after → Makes figures start size moves before (Ok hub) after
makes figures start size moves before after hub new lengths inside all =
    subst (λ (o : Option Refusal). Follows o (Begins figures start size moves) before (Ok hub) after) (sym (no_cause size moves before new.fits lengths inside)) (begins figures start size moves before after hub new lengths inside all)

-- And with a law of the register's kind, a run begins.
module _ {R : Type 0} (figures : R → List ℤ) (start : List ℤ) (rule : Rule) (law : Commutes start rule) (size : Size) (moves : List ℤ) (before after : Lent R) (hub : Hub) where
  begins_a_run : Begins figures start size moves after hub → BeginsRun figures start rule size moves after hub
  begins_a_run begun = record {
    its_size = begun.its_size;
    its_state = begun.its_state;
    its_run = begins_run start rule law size moves begun.its_limits (state_in figures hub after) begun.its_state;
  }

  pub makes_a_run : NewHub size hub → all_lengths_fit size moves before ≡ true → first_outside 1 moves ≡ None → AllSet figures start moves before after → MakesRun figures start rule size moves before (Ok hub) after
  makes_a_run new lengths inside all =
      subst (λ (o : Option Refusal). Follows o (BeginsRun figures start rule size moves) before (Ok hub) after) (sym (no_cause size moves before new.fits lengths inside)) (begins_a_run (begins figures start size moves before after hub new lengths inside all))
