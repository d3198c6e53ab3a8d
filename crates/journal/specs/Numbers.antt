-- How a number is written in a journal, and what it is worth.
use Rattle.std.specs.Prelude.{ℕ, ◌+◌, ◌-◌, ◌*◌, Bool, true, false, cond, not, ◌&&◌, ◌||◌, List, [], ◌∷◌, Some, None, Option, ◌==◌, nat_le}

-- '0' to '9' have the codes 48 to 57.
abbrev pub is_digit : ℕ → Bool
is_digit b = nat_le 48 b && nat_le b 57

abbrev pub are_digits : List ℕ → Bool
are_digits [] = true
are_digits (b ∷ bs) = is_digit b && are_digits bs

-- What digits are worth that stand behind others worth `n`.
abbrev pub worth_after : ℕ → List ℕ → ℕ
worth_after n [] = n
worth_after n (b ∷ bs) = worth_after (10 * n + (b - 48)) bs

abbrev pub worth : List ℕ → ℕ
worth = worth_after 0

abbrev pub is_empty : List ℕ → Bool
is_empty [] = true
is_empty (b ∷ bs) = false

-- At least one digit, and no zero in front of another.
abbrev pub is_number : List ℕ → Bool
is_number [] = false
is_number (b ∷ bs) = are_digits (b ∷ bs) && (is_empty bs || not (b == 48))

-- The number that a text writes, if it writes one that is at most `limit`.
abbrev pub number_up_to : ℕ → List ℕ → Option ℕ
number_up_to limit text = cond (is_number text && nat_le (worth text) limit) (Some (worth text)) None

-- The same from `low` on.
abbrev pub at_least : ℕ → Option ℕ → Option ℕ
at_least low None = None
at_least low (Some n) = cond (nat_le low n) (Some n) None

abbrev pub number_between : ℕ → ℕ → List ℕ → Option ℕ
number_between low high text = at_least low (number_up_to high text)
