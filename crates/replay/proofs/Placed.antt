-- From the places that a hub uses to the whole tables.
use Rattle.std.proofs.Common.{◌≡◌, ℕ, true, List, ◌++◌, length, take, drop, ℤ, Ok, Err, Result, sym, refl, ap, ◌∙◌, subst, arith}
use Rattle.std.proofs.lemmas.Grind.{common_steps}
use Rattle.std.proofs.lemmas.List.{drop_at, length-map, length-take-le, take_at}
use Rattle.refusals.specs.declared.Refusal.{Refusal}
use Rattle.registers.specs.Kind.{Rule}
use Rattle.hub_records.specs.declared.hub.Hub.{Hub}
use Rattle.hub_runs.specs.Fits.{state_fits}
use Rattle.hub_runs.specs.Hubs.{State}
use Rattle.hub_runs.specs.States.{Lent, lent, state_in}
use Rattle.hub_steps.proofs.Fitted.{fitting}
use Rattle.journal.specs.declared.place.Place.{Place}
use Rattle.journal.specs.declared.kinds.Accepted.{Accepted}
use Rattle.replay.specs.Header.{Heads}
use Rattle.replay.specs.Replayed.{Ends, ByTables, Leaves, are_full, beyond, front}
use Rattle.replay.specs.Replaying.{Replay, replay_of, replay_rest}
use Rattle.replay.specs.Standing.{Fitted, Played, Stands}
use Rattle.replay.specs.Told.{Told, is_made, size_told}
use Rattle.replay.specs.declared.header.Header.{Header}

-- The lengths of the tables in which a run stands.
pub lengths_of : {R : Type 0} (figures : R → List ℤ) (start : List ℤ) (rule : Rule) (hub : Hub) (small : Lent R) (t : Told) → Stands figures start rule hub small t → Fitted small t
lengths_of figures start rule hub small t stands =
    let run = stands.after_calls in
    let s = state_in figures hub small in
    let fits : state_fits (size_told t) s ≡ true = subst (λ (x : State). state_fits (size_told t) x ≡ true) (sym run.is_the_runs) run.promised.tables_fit in
    let f = fitting (size_told t) s fits in
    record {
      commands = f.commands;
      masters = f.masters;
      master_registers = sym (length-map small.of_master_registers figures) ∙ f.master_registers;
      backups = f.backups;
      backup_registers = sym (length-map small.of_backup_registers figures) ∙ f.backup_registers;
    }

-- A list whose front was replaced by one of the same length.
at_front : {A : Type 0} (xs ys : List A) (n k : ℕ) → length xs ≡ k → take k (xs ++ drop n ys) ≡ xs
at_front xs ys n k e = take_at xs (drop n ys) k e

at_back : {A : Type 0} (xs ys : List A) (n k : ℕ) → length xs ≡ k → n ≡ k → drop k (xs ++ drop n ys) ≡ drop k ys
at_back xs ys n k e same = drop_at xs (drop n ys) k e ∙ ap (λ m. drop m ys) same

-- The whole tables, where the front has `n` commands and `s` cards of each role.
abbrev pub rejoined : {R : Type 0} → Lent R → Lent R → ℕ → ℕ → Lent R
rejoined small before n s = lent (small.of_commands ++ drop n before.of_commands) (small.of_masters ++ drop s before.of_masters) (small.of_master_registers ++ drop s before.of_master_registers) (small.of_backups ++ drop s before.of_backups) (small.of_backup_registers ++ drop s before.of_backup_registers)

module _ {R : Type 0} (small before : Lent R) (t : Told) (n s : ℕ) (fitted : Fitted small t) (same_n : n ≡ t.commands) (same_s : s ≡ t.cards) where
  front_is : front t (rejoined small before n s) ≡ small
  front_is = grind (arith, common_steps)

  beyond_is : beyond t (rejoined small before n s) ≡ beyond t before
  beyond_is = grind (arith, common_steps)

-- A replay that made a hub: the whole tables are left as the run in their first places has them.
module _ {R : Type 0} (figures : R → List ℤ) (start : List ℤ) (rule : Rule) (accepts : Accepted) (text : List ℕ) (place : Place) (t : Told) (before small : Lent R) (n s : ℕ) (full : are_full before ≡ true) (long_n : length small.of_commands ≡ n) (long_s : length small.of_masters ≡ s) (from_header : replay_of accepts start rule text ≡ replay_rest accepts start rule text place t) where
  made_leaves : (p : Replay) (r : Result Hub Refusal) (hub : Hub) → Stands figures start rule hub small p.told → Ends p.ending hub r → replay_rest accepts start rule text place t ≡ p → ByTables figures start rule (are_full before) (replay_of accepts start rule text) before r (rejoined small before n s)
  made_leaves p r hub stands ends e =
      let after = rejoined small before n s in
      let fitted = lengths_of figures start rule hub small p.told stands in
      let front = front_is small before p.told n s fitted (sym long_n ∙ fitted.commands) (sym long_s ∙ fitted.masters) in
      let beyond = beyond_is small before p.told n s fitted (sym long_n ∙ fitted.commands) (sym long_s ∙ fitted.masters) in
      let leaves : Leaves figures start rule (is_made p.told) p before r after = rw stands.made (hub, rw front stands, beyond, ends) in
      rw (full, from_header, e) leaves

  pub replays_so : (r : Result Hub Refusal) → Played figures start rule accepts text place t r small → ByTables figures start rule (are_full before) (replay_of accepts start rule text) before r (rejoined small before n s)
  replays_so (Ok hub) (more, stands, e) = made_leaves _ (Ok hub) hub stands refl e
  replays_so (Err refusal) (more, hub, stands, e) = made_leaves _ (Err refusal) hub stands refl e

-- The same in the words of the caller: what the reader holds is what it was given.
pub replays_read : {R : Type 0} (figures : R → List ℤ) (start : List ℤ) (rule : Rule) (wanted accepts accepts' : Accepted) (journal text text' : List ℕ) (place : Place) (t : Told) (before small : Lent R) (n s : ℕ) (r : Result Hub Refusal)
    → accepts ≡ wanted → text ≡ journal → accepts' ≡ accepts → text' ≡ text → are_full before ≡ true → length small.of_commands ≡ n → length small.of_masters ≡ s
    → replay_of accepts start rule text ≡ replay_rest accepts start rule text place t
    → Played figures start rule accepts' text' place t r small
    → ByTables figures start rule (are_full before) (replay_of wanted start rule journal) before r (rejoined small before n s)
replays_read figures start rule wanted accepts accepts' journal text text' place t before small n s r a x a' x' full long_n long_s from_header played =
    let there : Played figures start rule accepts text place t r small = subst (λ k. Played figures start rule accepts k place t r small) x' (subst (λ k. Played figures start rule k text' place t r small) a' played) in
    let so = replays_so figures start rule accepts text place t before small n s full long_n long_s from_header r there in
    subst (λ k. ByTables figures start rule (are_full before) (replay_of k start rule journal) before r (rejoined small before n s)) a
    (subst (λ k. ByTables figures start rule (are_full before) (replay_of accepts start rule k) before r (rejoined small before n s)) x so)

-- The first places of full tables fit a header.
pub slices_fit : {R : Type 0} (before : Lent R) (h : Header) (t : Told) → are_full before ≡ true → Heads h t → Fitted (lent (take h.counts.commands before.of_commands) (take h.counts.cards before.of_masters) (take h.counts.cards before.of_master_registers) (take h.counts.cards before.of_backups) (take h.counts.cards before.of_backup_registers)) t
slices_fit before h t full heads =
    record {
      commands = grind (arith, length-take-le);
      masters = grind (arith, length-take-le);
      master_registers = grind (arith, length-take-le);
      backups = grind (arith, length-take-le);
      backup_registers = grind (arith, length-take-le);
    }
