-- The making of a card, as code writes it and as its contract has it.
use Rattle.std.proofs.Common.{◌≡◌, ℕ, ◌-◌, ◌≤◌, List, [], length, map, get_or, set, ℤ, Ok, sym, ap, ◌∙◌, subst, arith}
use Rattle.std.proofs.lemmas.List.{get_or-map, map-set}
use Rattle.hub_cards.specs.Tables.{at, put, blank_card}
use Rattle.hub_cards.specs.declared.Card.{Card}
use Rattle.hub_cards.specs.declared.Status.TheVariants.{Active}
use Rattle.hub_runs.specs.Hubs.{has_partner}
use Rattle.hub_steps.specs.CardSteps.{Choice, Creates, Within, makes}
use Rattle.hub_steps.proofs.CardTables.{at_is_getD, put_is_set, read_is_at}

triple : {A B C : Type 0} (a a' : A) (b b' : B) (c c' : C) → a ≡ a' → b ≡ b' → c ≡ c' → ◌≡◌ {A = A × B × C} (a, b, c) (a', b', c')
triple a a' b b' c c' p q r = cc

-- What was written under the number of the new card: its maker's register, of which the figures count.
register_copied : {R : Type 0} (figures : R → List ℤ) (from to : ℕ) (maker_registers made_registers : List R) (r : R) → Within from (length maker_registers) → 1 ≤ to → r ≡ get_or maker_registers (from - 1) r → map figures (set made_registers (to - 1) r) ≡ put (map figures made_registers) to (at [] (map figures maker_registers) from)
register_copied figures from to maker_registers made_registers r within low read =
    map-set figures made_registers (to - 1) r
    ∙ ap (set (map figures made_registers) (to - 1)) (ap figures read ∙ sym (get_or-map figures maker_registers (from - 1) r [] (omega arith)) ∙ sym (at_is_getD [] (map figures maker_registers) from within.0))
    ∙ sym (put_is_set (map figures made_registers) to _ low)

pub card_created : {M N R : Type 0} (maker : M → ℕ) (made : N → ℕ) (figures : R → List ℤ) (maker_registers made_registers : List R) (by : Choice) (x : M) (y : N) (from to : ℕ) (makers : List (Card N)) (others : List (Card M)) (d d' : Card N) (r : R) → makes (maker x) (made y) ≡ by → from ≡ maker x → to ≡ made y → Within from (length makers) → Within from (length maker_registers) → 1 ≤ to → r ≡ get_or maker_registers (from - 1) r
    → Creates {T = Unit {0}} maker made (map figures maker_registers) by (makers, others, map figures made_registers) (Ok tt)
    (set makers (from - 1) (has_partner y (get_or makers (from - 1) d)), set others (to - 1) (record { status = Active; partner = x; version = (get_or makers (from - 1) d').version }), map figures (set made_registers (to - 1) r))
card_created {M} {N} maker made figures maker_registers made_registers by x y from to makers others d d' r chosen is_from is_to within within_registers low read =
    subst (λ ch. Creates {T = Unit {0}} maker made (map figures maker_registers) ch (makers, others, map figures made_registers) (Ok tt) (set makers (from - 1) (has_partner y (get_or makers (from - 1) d)), set others (to - 1) (record { status = Active; partner = x; version = (get_or makers (from - 1) d').version }), map figures (set made_registers (to - 1) r)))
    (ap (λ k. makes k to) is_from ∙ ap (makes (maker x)) is_to ∙ chosen) (
      tt,
      (
        x,
        y,
        sym is_from,
        sym is_to,
        λ p.
            triple _ _ _ _ _ _
            (sym (put_is_set makers from _ within.0) ∙ ap (λ k. put makers from (has_partner y k)) (read_is_at (blank_card p) d makers from within.0 within.1))
            (sym (put_is_set others to _ low) ∙ ap (λ (k : Card N). put others to (record { status = Active; partner = x; version = k.version })) (read_is_at (blank_card p) d' makers from within.0 within.1))
            (register_copied figures from to maker_registers made_registers r within_registers low read),
      ),
    )
