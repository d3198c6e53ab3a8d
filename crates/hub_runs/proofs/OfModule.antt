-- Judging a step is taking the module's action: what is accepted is enabled, and what is enabled is accepted.
use Rattle.std.proofs.Common.{◌≡◌, ℕ, ◌+◌, Bool, true, false, not, ◌≢◌, ◌&&◌, eqb, leb, ◌⊎◌, List, [], ◌∷◌, Some, None, Option, sym, refl, ap, ◌∙◌, inl, inr, ⊎_elim, arith}
use Rattle.std.proofs.lemmas.Bool.Decides.{nat_tests}
use Rattle.std.proofs.lemmas.Bool.{false≢true, cases_Bool, and_parts, and_from, leb-true, le-leb, ltb-true, lt-ltb, eqb-true, eq-eqb, cond-false}
use Rattle.registers.specs.Kind.{Rule}
use Rattle.actions.specs.Letters.{action_of, place_of}
use Rattle.actions.specs.declared.Action.{Action}
use Rattle.actions.specs.declared.Action.TheVariants.{Starting, MasterDoing, HandlingMasterDone, BackupDoing, DetectingOldMasterId, HandlingBackupDone, HandlingMasterDoFailed, HandlingBackupDoFailed, GettingNewBackup, GettingNewMaster, HandlingBackupGetNewMasterFailed, HandlingMasterGetNewBackupFailed, UpdatingBackupId, UpdatingMasterId, CreatingNewBackup, CreatingNewMaster, KillingMaster, KillingBackup}
use Rattle.hub_records.specs.Commands.{actions_for, backup_in, is_among, is_pending, master_in}
use Rattle.hub_cards.specs.Statuses.{is_active, is_lost}
use Rattle.hub_cards.specs.declared.Status.{Status}
use Rattle.hub_cards.specs.declared.Status.TheVariants.{Active, Lost}
use Rattle.hub_records.specs.declared.commands.Message.{Message}
use Rattle.hub_records.specs.declared.commands.Message.TheVariants.{MasterDo, MasterDone, BackupDo, BackupDone, MasterGetNewBackup, BackupGetNewMaster, NewBackupId, NewMasterId}
use Rattle.hub_records.specs.declared.commands.Phase.{Phase}
use Rattle.hub_records.specs.declared.commands.Phase.TheVariants.{Pending}
use Rattle.hub_records.specs.declared.hub.ExecState.{ExecState}
use Rattle.hub_records.specs.declared.hub.ExecState.TheVariants.{Running}
use Rattle.hub_runs.specs.Hubs.{Size, State, client}
use Rattle.hub_runs.specs.Judging.{Answer, denied, moved, guard, with_card, by_card, is_ready, is_numbered, may_lose, is_running, carried_out, judged, by_letter, step}
use Rattle.hub_runs.specs.Module.{IsClient, Next, StepsAreTheModules}

-- ---- the tests, by name

active_is : (x : Status) → is_active x ≡ true → x ≡ Active
active_is x e = grind arith

lost_is : (x : Status) → is_lost x ≡ true → x ≡ Lost
lost_is x e = grind arith

pending_is : (x : Phase) → is_pending x ≡ true → x ≡ Pending
pending_is x e = grind arith

running_is : (x : ExecState) → is_running x ≡ true → x ≡ Running
running_is x e = grind arith

differs : (m n : ℕ) → not (eqb n m) ≡ true → m ≢ n
differs m n e q = grind (arith, nat_tests)

is_other : (m n : ℕ) → m ≢ n → not (eqb n m) ≡ true
is_other m n d = grind (arith, nat_tests)

-- ---- the forms of judging

never_moved : (n : ℕ) (s : State) → denied n ≡ moved s → ⊥
never_moved n s e = cc

led : {t s : State} → moved t ≡ moved s → s ≡ t
led e = cc

guard_passed : (b : Bool) (n : ℕ) (a : Answer) (s : State) → guard b n a ≡ moved s → (b ≡ true) × (a ≡ moved s)
unfolding guard
guard_passed true n a s e = (refl, e)
guard_passed false n a s e = absurd (never_moved n s e)

-- The first of two tests, the second, and what follows them.
both_passed : (b d : Bool) (n k : ℕ) (a : Answer) (s : State) → guard b n (guard d k a) ≡ moved s → (b ≡ true) × (d ≡ true) × (a ≡ moved s)
both_passed b d n k a s e = let g = guard_passed b n _ s e in let h = guard_passed d k a s g.1 in (g.0, h.0, h.1)

card_found : (o : Option ℕ) (n : ℕ) (next : ℕ → Answer) (s : State) → with_card o n next ≡ moved s → (a : ℕ) × (o ≡ Some a) × (next a ≡ moved s)
unfolding with_card
card_found None n next s e = absurd (never_moved n s e)
card_found (Some a) n next s e = (a, refl, e)

by_card_ways : (o : Option ℕ) (without : Answer) (next : ℕ → Answer) (s : State) → by_card o without next ≡ moved s → ((o ≡ None) × (without ≡ moved s)) ⊎ ((a : ℕ) × (o ≡ Some a) × (next a ≡ moved s))
unfolding by_card
by_card_ways None without next s e = inl (refl, e)
by_card_ways (Some a) without next s e = inr (a, refl, e)

-- With a card, the step would be denied.
only_without : (o : Option ℕ) (n : ℕ) (without : Answer) (s : State) → by_card o without (λ _. denied n) ≡ moved s → (o ≡ None) × (without ≡ moved s)
only_without o n without s e = ⊎_elim (λ w. w) (λ w. absurd (never_moved n s w.2)) (by_card_ways o without _ s e)

-- ---- actions by their places

at_its_place : (a : Action) → action_of (place_of a + 65) ≡ Some a
at_its_place Starting = refl
at_its_place _ = refl

same_place : (a x : Action) → place_of a ≡ place_of x → a ≡ x
same_place a x e =
    let r : Some a ≡ Some x = sym (at_its_place a) ∙ (ap (λ n. action_of (n + 65)) e ∙ at_its_place x) in
    cc

-- What holds of each action of a list holds of one that is among them.
abbrev Each : (Action → Type 0) → List Action → Type 0
Each P [] = Unit {0}
Each P (x ∷ xs) = P x × Each P xs

among : (P : Action → Type 0) (a : Action) (xs : List Action) → is_among a xs ≡ true → Each P xs → P a
among P a [] e each = absurd (false≢true e)
among P a (x ∷ xs) e each =
    ⊎_elim (λ h. rw (same_place a x (eqb-true _ _ h)) each.0)
    (λ h. among P a xs (sym (cond-false (eqb (place_of a) (place_of x)) true (is_among a xs) h) ∙ e) each.1)
    (cases_Bool (eqb (place_of a) (place_of x)))

module _ (size : Size) (rule : Rule) (c : ℕ) (s s' : State) where
  -- Carrying the action out, for a client with this message, leads to the next state.
  abbrev Leads : Action → Option Message → Type 0
  Leads a msg = carried_out size rule a c (master_in msg) (backup_in msg) s ≡ moved s'

  -- ---- what is accepted is enabled

  module _ (runs : s.exec_state ≡ Running) where
    -- Each message, with the actions that it is for.
    each : (msg : Option Message) → (client s c).message ≡ msg → IsClient size c → Each (λ a. Leads a msg → Next size rule a c s s') (actions_for msg)
    unfolding carried_out
    each None h n = tt
    each (Some (MasterDo m)) h n = (
      (λ e. let g = guard_passed _ _ _ _ e in (n, (m, runs, h, active_is _ g.0, led g.1))),
      (
        (λ e. let g = guard_passed _ _ _ _ e in
            (n, (m, runs, h, lost_is _ g.0, ⊎_elim (λ w. inl (w.0, led w.1)) (λ w. inr (w.0, w.1, led w.2)) (by_card_ways _ _ _ _ g.1)))),
        tt,
      ),
    )
    each (Some (MasterDone m b)) h n = ((λ e. (n, (m, b, runs, h, led e))), tt)
    each (Some (BackupDo m b)) h n = (
      (λ e. let g = both_passed _ _ _ _ _ _ e in (n, (m, b, runs, h, active_is _ g.0, sym (eqb-true _ _ g.1), led g.2))),
      (
        (λ e. let g = both_passed _ _ _ _ _ _ e in (n, (m, b, runs, h, active_is _ g.0, differs _ _ g.1, led g.2))),
        (
          (λ e. let g = guard_passed _ _ _ _ e in (n, (m, b, runs, h, lost_is _ g.0, led g.1))),
          tt,
        ),
      ),
    )
    each (Some (BackupDone m b)) h n = ((λ e. (n, (m, b, runs, h, led e))), tt)
    each (Some (MasterGetNewBackup m b)) h n = (
      (λ e. let g = both_passed _ _ _ _ _ _ e in (n, (m, b, runs, h, active_is _ g.0, differs _ _ g.1, led g.2))),
      (
        (λ e. let g = guard_passed _ _ _ _ e in (n, (m, b, runs, h, lost_is _ g.0, led g.1))),
        tt,
      ),
    )
    each (Some (BackupGetNewMaster m b)) h n = (
      (λ e. let g = both_passed _ _ _ _ _ _ e in (n, (m, b, runs, h, active_is _ g.0, differs _ _ g.1, led g.2))),
      (
        (λ e. let g = guard_passed _ _ _ _ e in (
          n,
          (
            m,
            b,
            runs,
            h,
            lost_is _ g.0,
            ⊎_elim (λ w. inl (w.0, led w.1))
                (λ w. let k = guard_passed _ _ _ _ w.2 in inr (w.0, w.1, (λ q. differs _ _ k.0 (sym q)), led k.1)) (by_card_ways _ _ _ _ g.1),
          ),
        )),
        tt,
      ),
    )
    each (Some (NewBackupId m b)) h n = ((λ e. (n, (m, b, runs, h, led e))), tt)
    each (Some (NewMasterId m b)) h n = ((λ e. (n, (m, b, runs, h, led e))), tt)

    by_message : (msg : Option Message) → (client s c).message ≡ msg → IsClient size c → (a : Action) → is_among a (actions_for msg) ≡ true → Leads a msg → Next size rule a c s s'
    by_message msg h n a r = among (λ x. Leads x msg → Next size rule x c s s') a (actions_for msg) r (each msg h n)

    -- What the tests of the numbers give.
    is_client : (leb 1 c && leb c size.client_num) ≡ true → IsClient size c
    is_client t = let p = and_parts _ _ t in (leb-true _ _ p.0, leb-true _ _ p.1)

    enabled : (a : Action) → is_numbered size a c ≡ true → may_lose size a s.killed ≡ true → is_ready a (client s c).phase (client s c).message ≡ true → Leads a (client s c).message → Next size rule a c s s'
    unfolding carried_out
    enabled Starting t k r e = (is_client t, (runs, pending_is _ r, led e))
    enabled CreatingNewBackup t k r e =
        let f = card_found _ _ _ _ e in
        let w = only_without _ _ _ _ f.2 in
        let l = card_found _ _ _ _ w.1 in
        let g = guard_passed _ _ _ _ l.2 in
        (eqb-true _ _ t, (f.0, l.0, runs, f.1, w.0, l.1, leb-true _ _ g.0, led g.1))
    enabled CreatingNewMaster t k r e =
        let f = card_found _ _ _ _ e in
        let w = only_without _ _ _ _ f.2 in
        let l = card_found _ _ _ _ w.1 in
        let g = guard_passed _ _ _ _ l.2 in
        (eqb-true _ _ t, (f.0, l.0, runs, w.0, f.1, l.1, leb-true _ _ g.0, led g.1))
    enabled KillingMaster t k r e = let f = card_found _ _ _ _ e in (eqb-true _ _ t, (f.0, runs, ltb-true _ _ k, f.1, led f.2))
    enabled KillingBackup t k r e = let f = card_found _ _ _ _ e in (eqb-true _ _ t, (f.0, runs, ltb-true _ _ k, f.1, led f.2))
    enabled a t k r e = by_message _ refl (is_client t) a r e

  of_letter : (o : Option Action) → s.exec_state ≡ Running → by_letter size rule o c s ≡ moved s' → (a : Action) × (o ≡ Some a) × Next size rule a c s s'
  unfolding by_letter judged
  of_letter None runs e = absurd (never_moved _ _ e)
  of_letter (Some a) runs e =
      let n = both_passed _ _ _ _ _ _ e in
      let g = guard_passed _ _ _ _ n.2 in
      (a, refl, enabled runs a n.0 n.1 g.0 g.1)

  accepted_is_enabled : (letter : ℕ) → step size rule letter c s ≡ moved s' → (a : Action) × (action_of letter ≡ Some a) × Next size rule a c s s'
  unfolding step
  accepted_is_enabled letter e = let g = guard_passed _ _ _ _ e in of_letter (action_of letter) (running_is _ g.0) g.1

  -- ---- what is enabled is accepted

  module _ (letter : ℕ) where
    opened : (a : Action) (msg : Option Message) → action_of letter ≡ Some a → s.exec_state ≡ Running → is_numbered size a c ≡ true → may_lose size a s.killed ≡ true → (client s c).message ≡ msg → is_ready a (client s c).phase msg ≡ true → Leads a msg → step size rule letter c s ≡ moved s'
    unfolding step by_letter judged guard
    opened a msg named runs t k h r e = rw (ap is_running runs, named, t, k, h, r) e

    numbered : IsClient size c → (leb 1 c && leb c size.client_num) ≡ true
    numbered n = and_from _ _ (le-leb _ _ n.0) (le-leb _ _ n.1)

    enabled_is_accepted : (a : Action) → action_of letter ≡ Some a → Next size rule a c s s' → step size rule letter c s ≡ moved s'
    unfolding carried_out guard with_card by_card
    enabled_is_accepted Starting l (n, (runs, p, e)) = opened Starting _ l runs (numbered n) refl refl (ap is_pending p) (rw e)
    enabled_is_accepted MasterDoing l (n, (m, runs, h, a, e)) = opened MasterDoing _ l runs (numbered n) refl h refl (rw (e, a))
    enabled_is_accepted HandlingMasterDone l (n, (m, b, runs, h, e)) = opened HandlingMasterDone _ l runs (numbered n) refl h refl (rw e)
    enabled_is_accepted BackupDoing l (n, (m, b, runs, h, a, q, e)) = opened BackupDoing _ l runs (numbered n) refl h refl (rw (e, a, eq-eqb _ _ (sym q)))
    enabled_is_accepted DetectingOldMasterId l (n, (m, b, runs, h, a, d, e)) = opened DetectingOldMasterId _ l runs (numbered n) refl h refl (rw (e, a, is_other _ _ d))
    enabled_is_accepted HandlingBackupDone l (n, (m, b, runs, h, e)) = opened HandlingBackupDone _ l runs (numbered n) refl h refl (rw e)
    enabled_is_accepted HandlingMasterDoFailed l (n, (m, runs, h, a, w)) =
        opened HandlingMasterDoFailed _ l runs (numbered n) refl h refl (⊎_elim (λ v. rw (v.1, a, v.0)) (λ v. rw (v.2, a, v.1)) w)
    enabled_is_accepted HandlingBackupDoFailed l (n, (m, b, runs, h, a, e)) = opened HandlingBackupDoFailed _ l runs (numbered n) refl h refl (rw (e, a))
    enabled_is_accepted GettingNewBackup l (n, (m, b, runs, h, a, d, e)) = opened GettingNewBackup _ l runs (numbered n) refl h refl (rw (e, a, is_other _ _ d))
    enabled_is_accepted GettingNewMaster l (n, (m, b, runs, h, a, d, e)) = opened GettingNewMaster _ l runs (numbered n) refl h refl (rw (e, a, is_other _ _ d))
    enabled_is_accepted HandlingBackupGetNewMasterFailed l (n, (m, b, runs, h, a, w)) =
        opened HandlingBackupGetNewMasterFailed _ l runs (numbered n) refl h refl (⊎_elim (λ v. rw (v.1, a, v.0)) (λ v. rw (v.3, a, v.1, is_other _ _ (λ q. v.2 (sym q)))) w)
    enabled_is_accepted HandlingMasterGetNewBackupFailed l (n, (m, b, runs, h, a, e)) = opened HandlingMasterGetNewBackupFailed _ l runs (numbered n) refl h refl (rw (e, a))
    enabled_is_accepted UpdatingBackupId l (n, (m, b, runs, h, e)) = opened UpdatingBackupId _ l runs (numbered n) refl h refl (rw e)
    enabled_is_accepted UpdatingMasterId l (n, (m, b, runs, h, e)) = opened UpdatingMasterId _ l runs (numbered n) refl h refl (rw e)
    enabled_is_accepted CreatingNewBackup l (z, (a, k, runs, f, w, o, r, e)) = opened CreatingNewBackup _ l runs (eq-eqb _ _ z) refl refl refl (rw (e, f, w, o, le-leb _ _ r))
    enabled_is_accepted CreatingNewMaster l (z, (a, k, runs, w, f, o, r, e)) = opened CreatingNewMaster _ l runs (eq-eqb _ _ z) refl refl refl (rw (e, f, w, o, le-leb _ _ r))
    enabled_is_accepted KillingMaster l (z, (a, runs, few, f, e)) = opened KillingMaster _ l runs (eq-eqb _ _ z) (lt-ltb _ _ few) refl refl (rw (e, f))
    enabled_is_accepted KillingBackup l (z, (a, runs, few, f, e)) = opened KillingBackup _ l runs (eq-eqb _ _ z) (lt-ltb _ _ few) refl refl (rw (e, f))

pub steps_are_the_modules : (rule : Rule) → StepsAreTheModules rule
steps_are_the_modules rule size letter c s s' = (accepted_is_enabled size rule c s s' letter, enabled_is_accepted size rule c s s' letter)
