-- A look on tables that fit, and one on tables that do not.
use Rattle.std.proofs.Common.{◌≡◌, ℕ, ◌≤◌, true, false, List, [], ◌∷◌, length, ℤ, Some, Ok, Err, refl, sym, ap, ◌∙◌, subst, arith}
use Rattle.std.proofs.lemmas.Grind.{common_steps}
use Rattle.std.specs.List.{filter}
use Rattle.std.proofs.lemmas.Bool.{both_ways, cond-false, cond-true}
use Rattle.refusals.specs.declared.Refusal.TheVariants.{TablesMisfit}
use Rattle.registers.specs.Kind.{Rule}
use Rattle.hub_cards.specs.declared.BackupNumber.{BackupNumber}
use Rattle.hub_cards.specs.declared.MasterNumber.{MasterNumber}
use Rattle.hub_cards.specs.declared.Card.{Card}
use Rattle.hub_records.specs.Commands.{is_done, the_backup, the_master}
use Rattle.hub_records.specs.declared.commands.Command.{Command}
use Rattle.hub_tables.specs.Search.{last, last_card}
use Rattle.hub_tables.proofs.Searches.{last_card_is}
use Rattle.hub_records.specs.declared.look.Look.{Look}
use Rattle.hub_runs.specs.Fits.{state_fits}
use Rattle.hub_runs.specs.GoingOn.{GoesOn}
use Rattle.hub_runs.specs.Hubs.{Size, State, backup_card, master_card}
use Rattle.hub_runs.specs.Law.{Commutes}
use Rattle.hub_runs.specs.Runs.{count_done, last_backup, last_master, look_call, seen}
use Rattle.hub_runs.proofs.GoingOn.{fits_in_run, look_goes_on}
use Rattle.hub.specs.Looking.{as_seen, Looks, the_look}

-- The commands that are done, taken out, are as many as the model counts.
pub done_counted : (commands : List Command) → length (filter (λ command. is_done command.phase) commands) ≡ count_done commands
unfolding count_done
done_counted [] = refl
done_counted (command ∷ commands) = grind (arith, common_steps, done_counted commands)

-- The last card has a place in its table.
pub last_within : {P : Type 0} (cards : List (Card P)) (n : ℕ) → Some n ≡ last_card cards → (1 ≤ n) × (n ≤ length cards)
unfolding last
last_within [] n e = let z : ◌≡◌ {A = ℕ} 0 1 = cc in let no : ⊥ = omega arith in absurd no
last_within (card ∷ cards) n e =
    let found = last_card_is card.partner (card ∷ cards) n (sym e) in (found.1, found.2)

-- The parts of a look.
pub all_seen : (s : State) (done : ℕ) (m : MasterNumber) (mv : ℕ) (b : BackupNumber) (bv : ℕ) → done ≡ count_done s.clients → m.0 ≡ last_master s → mv ≡ (master_card s (last_master s)).version → b.0 ≡ last_backup s → bv ≡ (backup_card s (last_backup s)).version
    → record { state = s.exec_state; steps = s.steps; losses = s.killed; done = done; master = m; master_version = mv; backup = b; backup_version = bv } ≡ the_look s
all_seen s done m mv b bv counted m_is mv_is b_is bv_is =
    let master : m ≡ the_master (last_master s) = ap the_master m_is in
    let backup : b ≡ the_backup (last_backup s) = ap the_backup b_is in
    cc

module _ (start : List ℤ) (rule : Rule) (law : Commutes start rule) (size : Size) (s : State) where
  pub looks : (look : Look) → state_fits size s ≡ true → look ≡ the_look s → Looks start rule size s (Ok look)
  looks look fits e = record {
    answered = ap Ok e ∙ sym (cond-true _ _ _ fits);
    goes_on = subst (λ l. GoesOn start rule size s look_call (seen (as_seen l)) s) (sym e) (look_goes_on start rule law size s);
  }

  pub looks_at_a_misfit : state_fits size s ≡ false → Looks start rule size s (Err TablesMisfit)
  looks_at_a_misfit misfit = record {
    answered = sym (cond-false _ _ _ misfit);
    goes_on = λ moves calls run. absurd (both_ways (state_fits size s) misfit (fits_in_run start rule law size moves calls s run));
  }
