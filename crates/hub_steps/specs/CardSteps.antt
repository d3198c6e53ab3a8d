-- The steps on the cards alone, over the tables that they read and write.
use Rattle.std.specs.Prelude.{◌≡◌, ℕ, ◌+◌, ◌≤◌, cond, List, [], ℤ, Some, None, Ok, Err, Option, Result, MatchResult, OnErr, nat_le}
use Rattle.refusals.specs.Refusals.{number_of}
use Rattle.refusals.specs.declared.Refusal.{Refusal}
use Rattle.hub_tables.specs.Search.{active_card, last_lost}
use Rattle.hub_cards.specs.Tables.{at, put, blank_card}
use Rattle.hub_cards.specs.declared.Card.{Card}
use Rattle.hub_cards.specs.declared.Status.TheVariants.{Active, Lost}
use Rattle.hub_runs.specs.Hubs.{has_partner, has_status}

-- A step is denied with this number, or it is accepted.
abbrev pub Denied : {T : Type 0} → ℕ → Result T Refusal → Type 0
Denied n r = MatchResult r (λ _. ⊥) (λ refusal. number_of refusal ≡ n)

abbrev pub Accepted : {T : Type 0} → Result T Refusal → Type 0
Accepted r = OnErr r (⊥)

-- What becomes of a role's cards where the active card, if there is one, is lost.
abbrev pub Loses : {P T : Type 0} → Option ℕ → List (Card P) → Result T Refusal → List (Card P) → Type 0
Loses None before r after = Denied 10 r × (after ≡ before)
Loses {P} (Some a) before r after =
    Accepted r × ((p : P) → after ≡ put before a (has_status Lost (at (blank_card p) before a)))

-- A number of a table with so many places.
abbrev pub Within : ℕ → ℕ → Type 0
Within n places = (1 ≤ n) × (n ≤ places)

-- Which card makes a new card of the other role, and the number of the new one; or the number of a refusal.
pub data Choice : Type 0 where
  refused : ℕ → Choice
  makes : ℕ → ℕ → Choice

-- The choice between so many places, from the active card of the makers, and of the other role its active card, of which
-- there must be none, and the last card that it lost.
abbrev pub choice : ℕ → Option ℕ → Option ℕ → Option ℕ → Choice
choice places None other lost = refused 10
choice places (Some a) None None = refused 10
choice places (Some a) None (Some l) = cond (nat_le (l + 1) places) (makes a (l + 1)) (refused 12)
choice places (Some a) (Some b) lost = refused 10

abbrev pub chosen : {P Q : Type 0} → ℕ → List (Card P) → List (Card Q) → Choice
chosen places makers others = choice places (active_card makers) (active_card others) (last_lost others)

-- The choice that a call answered, where the numbers of cards are plain numbers by `maker` and `made`.
abbrev pub choice_of : {M N : Type 0} → (M → ℕ) → (N → ℕ) → Result (M × N) Refusal → Choice
choice_of maker made (Ok pair) = makes (maker pair.0) (made pair.1)
choice_of maker made (Err refusal) = refused (number_of refusal)

-- The tables that the making of a card writes: the makers' cards, the other role's cards, and the figures of its registers.
abbrev pub Tables : Type 0 → Type 0 → Type 0
Tables M N = List (Card N) × List (Card M) × List (List ℤ)

-- Card a, which is known as x, makes card n, known as y: the new card has the version and the figures of its maker, and
-- each is the other's partner. A number that no card has stands for a blank card with partner p.
abbrev pub with_new : {M N : Type 0} → N → (a n : ℕ) → M → N → List (List ℤ) → Tables M N → Tables M N
with_new p a n x y maker_figures tables = (
  put tables.0 a (has_partner y (at (blank_card p) tables.0 a)),
  put tables.1 n (record { status = Active; partner = x; version = (at (blank_card p) tables.0 a).version }),
  put tables.2 n (at [] maker_figures a),
)

-- What becomes of the tables by a choice.
abbrev pub Creates : {M N T : Type 0} → (M → ℕ) → (N → ℕ) → List (List ℤ) → Choice → Tables M N → Result T Refusal → Tables M N → Type 0
Creates maker made maker_figures (refused k) before r after = Denied k r × (after ≡ before)
Creates {M} {N} maker made maker_figures (makes a n) before r after =
    Accepted r
    × ((x : M) × (y : N) × (maker x ≡ a) × (made y ≡ n) × ((p : N) → after ≡ with_new p a n x y maker_figures before))
