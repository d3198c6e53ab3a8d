-- What stands in the tables of a made hub.
use Rattle.std.proofs.Common.{◌≡◌, ℕ, zero, suc, ◌-◌, ◌≤◌, ◌≢◌, List, [], ◌∷◌, map, length, get_or, ℤ, pos, arith}
use Rattle.std.proofs.lemmas.List.{length-replicate}
use Rattle.hub_cards.specs.Tables.{at, blank_card}
use Rattle.hub_cards.specs.declared.Card.{Card}
use Rattle.hub_records.specs.declared.commands.Command.{Command}
use Rattle.hub_runs.specs.Hubs.{blank_client}
use Rattle.hub_runs.specs.Promises.{move_of}
use Rattle.hub_runs.specs.Runs.{fresh, first_card}
use Rattle.hub_runs.proofs.Places.{all_blank}

pub first_cards_long : {P : Type 0} (one none : P) (places : ℕ) → 1 ≤ places → length (first_card one none places) ≡ places
first_cards_long one none places some = omega (arith, length-replicate (places - 1) (blank_card none))

-- Only the first card is not blank.
pub each_first : {P : Type 0} (Q : ℕ → Card P → Type 0) (one none : P) (places : ℕ) → Q 1 (at (blank_card none) (first_card one none places) 1) → ((i : ℕ) → i ≢ 1 → Q i (blank_card none)) → (i : ℕ) → Q i (at (blank_card none) (first_card one none places) i)
each_first Q one none places first others zero = others zero (λ h. omega arith)
each_first Q one none places first others (suc zero) = first
each_first Q one none places first others (suc (suc j)) = rw (all_blank (blank_card none) (places - 1) (suc j)) (others (suc (suc j)) (λ h. omega arith))

-- Each client is fresh and has its move, and there is none but these.
pub each_fresh : (Q : ℤ → Command → Type 0) (moves : List ℤ) → Q (pos 0) blank_client → ((move : ℤ) → Q move (fresh move)) → (c : ℕ) → Q (move_of moves c) (at blank_client (map fresh moves) c)
each_fresh Q moves blank new zero = blank
each_fresh Q moves blank new (suc i) = at_index moves i
  where
    at_index : (moves : List ℤ) (i : ℕ) → Q (get_or moves i (pos 0)) (get_or (map fresh moves) i blank_client)
    at_index [] i = blank
    at_index (move ∷ moves) zero = new move
    at_index (move ∷ moves) (suc i) = at_index moves i
