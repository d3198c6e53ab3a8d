-- The cards of a role in numbers: those up to l are lost, then there is the active one, if any, and the others are unused.
-- One set of lemmas serves masters and backups.
use Rattle.std.proofs.Common.{◌≡◌, ℕ, ◌+◌, ◌≤◌, true, cond, leb, ◌≢◌, ◌⊎◌, List, length, Some, None, Option, sym, refl, ap, ◌∙◌, inl, inr, ⊎_elim, arith}
use Rattle.std.proofs.lemmas.Bool.{cases_eq, cases_lt}
use Rattle.std.proofs.lemmas.Bool.Decides.{nat_tests}
use Rattle.hub_cards.specs.Statuses.{is_used}
use Rattle.hub_tables.specs.Search.{active_card, last_lost, last_card}
use Rattle.hub_tables.specs.SearchLaws.{status_at}
use Rattle.hub_cards.specs.Tables.{at, put, blank_card}
use Rattle.hub_cards.specs.declared.BackupNumber.{BackupNumber}
use Rattle.hub_cards.specs.declared.Card.{Card}
use Rattle.hub_cards.specs.declared.MasterNumber.{MasterNumber}
use Rattle.hub_cards.specs.declared.Status.{Status}
use Rattle.hub_cards.specs.declared.Status.TheVariants.{Unused, Active, Lost}
use Rattle.hub_tables.proofs.Searches.{active_card_is, active_card_none, last_lost_is, last_lost_none, last_lost_highest, last_card_is, last_card_none, last_card_highest}
use Rattle.hub_runs.specs.Hubs.{has_status, has_partner, has_taken}
use Rattle.hub_runs.specs.Runs.{number as number_of, first_card}
use Rattle.hub_runs.proofs.Made.{first_cards_long, each_first}
use Rattle.hub_runs.proofs.Places.{at_put_same, at_put_other, at_put_like, length-put, at_past}

-- Statuses as numbers, so that arithmetic can compare them.
abbrev code : Status → ℕ
code Unused = 0
code Active = 1
code Lost = 2

abbrev shape : ℕ → ℕ → ℕ → ℕ
shape l a i = cond (leb i 0) 0 (cond (leb i l) 2 (cond (leb i (l + a)) 1 0))

-- Whether a search answered.
pub answered : (o : Option ℕ) → (o ≡ None) ⊎ ((n : ℕ) × (o ≡ Some n))
answered None = inl refl
answered (Some n) = inr (n, refl)

-- The numbers of cards as they stand in partners.
abbrev pub of_backup : BackupNumber → ℕ
of_backup b = b.0

abbrev pub of_master : MasterNumber → ℕ
of_master m = m.0

-- A role with a table of so many places, of which l are lost and a, 0 or 1, is active, and whose active card has this
-- partner; `number` gives a partner's number.
pub record Role {P : Type 0} (number : P → ℕ) (none : P) (places : ℕ) (cards : List (Card P)) (l a partner : ℕ) : Type 0 where
  pub one : a ≤ 1
  pub some : 1 ≤ l + a
  pub long : length cards ≡ places
  pub shaped : (i : ℕ) → code (status_at none cards i) ≡ shape l a i
  pub paired : a ≡ 1 → number (at (blank_card none) cards (l + 1)).partner ≡ partner

-- What a status or a search says of the numbers.
module _ {P : Type 0} {number : P → ℕ} {none : P} {places : ℕ} {cards : List (Card P)} {l a partner : ℕ} (role : Role number none places cards l a partner) where
  pub is_last : (i : ℕ) → status_at none cards i ≡ Active → (a ≡ 1) × (i ≡ l + 1)
  is_last i e = let h : 1 ≡ shape l a i = sym (ap code e) ∙ role.shaped i in let one = role.one in (grind (arith, nat_tests), grind (arith, nat_tests))

  pub pairs : (i : ℕ) → status_at none cards i ≡ Active → number (at (blank_card none) cards i).partner ≡ partner
  pairs i e = let last = is_last i e in rw last.1 (role.paired last.0)

  pub is_gone : (i : ℕ) → status_at none cards i ≡ Lost → (1 ≤ i) × (i ≤ l)
  is_gone i e = let h : 2 ≡ shape l a i = sym (ap code e) ∙ role.shaped i in (grind (arith, nat_tests), grind (arith, nat_tests))

  pub used_place : (i : ℕ) → is_used (status_at none cards i) ≡ true → (1 ≤ i) × (i ≤ l + a)
  used_place i e = let h = role.shaped i in (grind (arith, nat_tests), grind (arith, nat_tests))

  pub gone : (i : ℕ) → 1 ≤ i → i ≤ l → status_at none cards i ≡ Lost
  gone i low high = let h = role.shaped i in grind (arith, nat_tests)

  pub stands : a ≡ 1 → status_at none cards (l + 1) ≡ Active
  stands active = let h = role.shaped (l + 1) in grind (arith, nat_tests)

  -- A card up to the last is lost, or it is the active one.
  pub lost_or_active : (i : ℕ) → 1 ≤ i → i ≤ l + a → ((status_at none cards i ≡ Lost) × (i ≤ l)) ⊎ ((status_at none cards i ≡ Active) × (a ≡ 1) × (i ≡ l + 1))
  lost_or_active i low high = elim (cases_lt l i) [
    | inl above ↦
        let one = role.one in
        let active : a ≡ 1 = omega arith in
        let last : i ≡ l + 1 = omega arith in
        inr (rw last (stands active), active, last)
    | inr up_to ↦ inl (gone i low up_to, up_to)
  ]

  pub found_active : (n : ℕ) → active_card cards ≡ Some n → (a ≡ 1) × (n ≡ l + 1)
  found_active n e = let passes = (active_card_is none cards n e).0 in is_last n (grind arith)

  pub none_active : active_card cards ≡ None → a ≡ 0
  none_active e = let no = active_card_none none cards e (l + 1) in let h = role.shaped (l + 1) in let one = role.one in grind (arith, nat_tests)

  pub found_lost : (n : ℕ) → last_lost cards ≡ Some n → n ≡ l
  found_lost n e =
      let low = is_gone n (grind (arith, (last_lost_is none cards n e).0)) in
      let above = last_lost_highest none cards n e l in
      let last = gone l in
      grind (arith, nat_tests)

  -- The searches answer where there is such a card.
  pub active_there : a ≡ 1 → (n : ℕ) × (active_card cards ≡ Some n) × (n ≡ l + 1)
  active_there active = elim (answered (active_card cards)) [
    | inl e ↦ absurd (omega (arith, none_active e))
    | inr some ↦ (some.0, some.1, (found_active some.0 some.1).1)
  ]

  pub none_there : a ≡ 0 → active_card cards ≡ None
  none_there none = elim (answered (active_card cards)) [
    | inl e ↦ e
    | inr some ↦ absurd (omega (arith, (found_active some.0 some.1).0))
  ]

  pub lost_there : 1 ≤ l → last_lost cards ≡ Some l
  lost_there low = elim (answered (last_lost cards)) [
    | inl e ↦ let no = last_lost_none none cards e l in let last = gone l low in absurd (grind (arith, nat_tests))
    | inr some ↦ some.1 ∙ ap Some (found_lost some.0 some.1)
  ]

  pub last_is : number_of (last_card cards) ≡ l + a
  last_is =
      let here = role.shaped (l + a) in
      let low = role.some in
      elim (answered (last_card cards)) [
        | inl e ↦ let no = last_card_none none cards e (l + a) in absurd (grind (arith, nat_tests))
        | inr some ↦
            let within = used_place some.0 (last_card_is none cards some.0 some.1).0 in
            let above = last_card_highest none cards some.0 some.1 (l + a) in
            ap number_of some.1 ∙ grind (arith, nat_tests)
      ]

  -- A table has room for its role.
  pub role_fits : l + a ≤ places
  role_fits =
      ⊎_elim
      (λ past. let h = role.shaped (l + a) in let e = at_past (blank_card none) cards (l + a) (omega (arith, role.long)) in let some = role.some in absurd (grind (arith, nat_tests)))
      (λ fits. fits)
      (cases_lt places (l + a))

  -- The ways in which a role changes: it becomes one of this shape, by a card that is written in its table.
  role_put : (i : ℕ) (card : Card P) (l' a' partner' : ℕ) → a' ≤ 1 → 1 ≤ l' + a' → 1 ≤ i → i ≤ places → code card.status ≡ shape l' a' i → ((j : ℕ) → i ≢ j → shape l a j ≡ shape l' a' j) → (a' ≡ 1 → (i ≡ l' + 1) × (number card.partner ≡ partner')) → Role number none places (put cards i card) l' a' partner'
  role_put i card l' a' partner' one some low high here others paired =
      let same = at_put_same (blank_card none) card cards i low (omega (arith, role.long)) in
      record {
        one = one;
        some = some;
        long = length-put cards i card ∙ role.long;
        shaped = λ j. ⊎_elim
            (λ e. rw (← e) (ap (λ x. code x.status) same ∙ here))
            (λ apart. ap (λ x. code x.status) (at_put_other (blank_card none) card cards i j apart) ∙ role.shaped j ∙ others j apart)
            (cases_eq i j);
        paired = λ h. let e = paired h in rw (← e.0) (ap (λ x. number x.partner) same ∙ e.1);
      }

  pub role_loses : (i partner' : ℕ) → a ≡ 1 → i ≡ l + 1 → Role number none places (put cards i (has_status Lost (at (blank_card none) cards i))) (l + 1) 0 partner'
  role_loses i partner' active last =
      role_put i _ (l + 1) 0 partner' (omega arith) (omega arith) (omega arith) (omega (arith, role_fits)) (grind (arith, nat_tests)) (λ j apart. grind (arith, nat_tests)) (λ h. absurd (omega arith))

  pub role_gains : (i partner' : ℕ) (card : Card P) → card.status ≡ Active → a ≡ 0 → i ≡ l + 1 → i ≤ places → number card.partner ≡ partner' → Role number none places (put cards i card) l 1 partner'
  role_gains i partner' card active none last room names =
      role_put i card l 1 partner' (omega arith) (omega arith) (omega arith) room (ap code active ∙ grind (arith, nat_tests)) (λ j apart. grind (arith, nat_tests)) (λ h. (last, names))

  pub role_repartnered : (i partner' : ℕ) (p : P) → a ≡ 1 → i ≡ l + 1 → number p ≡ partner' → Role number none places (put cards i (has_partner p (at (blank_card none) cards i))) l a partner'
  role_repartnered i partner' p active last names =
      role_put i _ l a partner' role.one role.some (omega arith) (omega (arith, role_fits)) (role.shaped i) (λ j apart. refl) (λ h. (last, names))

  -- A card that takes a move keeps its status and its partner.
  pub role_taken : (i : ℕ) → Role number none places (put cards i (has_taken (at (blank_card none) cards i))) l a partner
  role_taken i =
      let card = has_taken (at (blank_card none) cards i) in
      record {
        one = role.one;
        some = role.some;
        long = length-put cards i card ∙ role.long;
        shaped = λ j. ap code (at_put_like (λ (x : Card P). x.status) (blank_card none) card cards i j refl) ∙ role.shaped j;
        paired = λ h. ap number (at_put_like (λ (x : Card P). x.partner) (blank_card none) card cards i (l + 1) refl) ∙ role.paired h;
      }

  -- The partner is the same one under another name.
  pub role_facing : (partner' : ℕ) → (a ≡ 1 → partner ≡ partner') → Role number none places cards l a partner'
  role_facing partner' same = record { one = role.one; some = role.some; long = role.long; shaped = role.shaped; paired = λ h. role.paired h ∙ same h }

pub first_role : {P : Type 0} (number : P → ℕ) (one none : P) (places : ℕ) → 1 ≤ places → Role number none places (first_card one none places) 0 1 (number one)
first_role number one none places some = record {
  one = omega arith;
  some = omega arith;
  long = first_cards_long one none places some;
  shaped = each_first (λ i x. code x.status ≡ shape 0 1 i) one none places refl (λ i apart. grind (arith, nat_tests));
  paired = λ _. refl;
}
