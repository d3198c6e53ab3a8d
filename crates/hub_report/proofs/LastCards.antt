-- The last card of a role, and the figures of the card under a number.
use Rattle.std.proofs.Common.{◌≡◌, ℕ, zero, suc, ◌-◌, ◌<◌, ◌≤◌, true, eqb, List, [], ◌∷◌, map, length, get_or, ℤ, IfSome, IsSome, MatchOption, Some, None, Option, Bor, sym, refl, ap, ◌∙◌, arith}
use Rattle.std.proofs.lemmas.List.{get_or-map}
use Rattle.std.proofs.lemmas.Bool.{cond-false, ne_eqb}
use Rattle.hub_cards.specs.Tables.{at}
use Rattle.hub_cards.specs.declared.Card.{Card}
use Rattle.hub_records.specs.Commands.{the_backup, the_master}
use Rattle.hub_tables.specs.Search.{last_card}
use Rattle.hub_tables.proofs.Searches.{last_card_is}
use Rattle.hub_runs.specs.Fits.{state_fits}
use Rattle.hub_runs.specs.Hubs.{Size, State}
use Rattle.hub_runs.specs.Runs.{last_backup, last_master, number}
use Rattle.hub_steps.proofs.CardTables.{at_is_getD}
use Rattle.hub_steps.proofs.Fitted.{fitting}
use Rattle.report.specs.Figures.{figures_text}
use Rattle.hub_report.specs.ReportText.{register_text}

module _ {R : Type 0} (figures : R → List ℤ) where
  -- They are those of the register at the index before it.
  pub figures_at : (xs : List R) (n : ℕ) (x : R) → 1 ≤ n → n ≤ length xs → x ≡ get_or xs (n - 1) x → figures x ≡ at [] (map figures xs) n
  figures_at xs n x low high e =
      ap figures e ∙ sym (get_or-map figures xs (n - 1) x [] (omega arith)) ∙ sym (at_is_getD [] (map figures xs) n low)

  -- The register at the index before it, where a look-up finds one.
  pub register_at : (xs : List R) (n i : ℕ) (found : Option (Bor R)) → 1 ≤ n → n ≤ length xs → i ≡ n - 1 → IfSome found (λ x. x.now ≡ get_or xs i x.now) → (i < length xs → IsSome found)
      → MatchOption found (n ≡ 0) (λ x. (0 < n) × (figures x.now ≡ at [] (map figures xs) n))
  register_at xs n i None low high same is there = let odd = there (omega arith) in let never : ⊥ = cc in absurd never
  register_at xs n i (Some x) low high same is there = (omega arith, figures_at xs n x.now low high (is ∙ ap (λ k. get_or xs k x.now) same))

  -- What is so of no figures and of every register's is so of them.
  pub at_every : (P : List ℤ → Type 0) → P [] → ((x : R) → P (figures x)) → (xs : List R) (n : ℕ) → P (at [] (map figures xs) n)
  at_every P none each xs zero = none
  at_every P none each [] (suc i) = none
  at_every P none each (x ∷ xs) (suc zero) = each x
  at_every P none each (x ∷ xs) (suc (suc i)) = at_every P none each xs (suc i)

-- A card's register is shown.
pub shows_register : (n : ℕ) (zs : List ℤ) → 1 ≤ n → figures_text zs ≡ register_text n zs
shows_register n zs low = sym (cond-false (eqb n 0) _ _ (ne_eqb n 0 (λ e. omega arith)))

-- The last card of a role is in the table.
last_within : {P : Type 0} (p : P) (cards : List (Card P)) → number (last_card cards) ≤ length cards
last_within p cards = within (last_card cards) refl
  where
    within : (o : Option ℕ) → last_card cards ≡ o → number o ≤ length cards
    within None e = omega arith
    within (Some n) e = (last_card_is p cards n e).2

-- On tables that fit there is a register for it.
pub last_registers : (size : Size) (s : State) → state_fits size s ≡ true → (last_master s ≤ length s.master_figures) × (last_backup s ≤ length s.backup_figures)
last_registers size s e =
    let fit = fitting size s e in
    let master = last_within (the_backup 0) s.master in
    let backup = last_within (the_master 0) s.backup in
    (omega (arith, fit.masters, fit.master_registers), omega (arith, fit.backups, fit.backup_registers))
