-- Reading digits from the left: what is still to be read decides the answer.
use Rattle.std.proofs.Common.{◌≡◌, ℕ, ◌+◌, ◌-◌, ◌*◌, ◌<◌, ◌≤◌, true, false, cond, ◌&&◌, leb, List, [], ◌∷◌, length, get_or, Some, None, Option, drop, ap, ◌∙◌, arith}
use Rattle.std.proofs.lemmas.List.{at_drop_all, at_drop_more}
use Rattle.std.proofs.lemmas.Bool.{cond-false, and_left, and_right, lt-leb}
use Rattle.std.proofs.lemmas.Bool.Decides.{nat_tests}
use Rattle.journal.specs.Numbers.{is_digit, are_digits, worth_after, number_up_to}

-- The answer where digits worth `n` were read and `bs` are left.
unfoldable pub remaining : ℕ → ℕ → List ℕ → Option ℕ
remaining limit n bs = cond (are_digits bs && leb (worth_after n bs) limit) (Some (worth_after n bs)) None

-- More digits are never worth less.
pub worth_grows : (n : ℕ) (bs : List ℕ) → n ≤ worth_after n bs
worth_grows n [] = omega arith
worth_grows n (b ∷ bs) = omega (arith, worth_grows (10 * n + (b - 48)) bs)

pub at_start : (limit : ℕ) (text : List ℕ) → 0 < length text → (get_or text 0 0 ≡ 48 → length text ≤ 1) → number_up_to limit text ≡ remaining limit 0 text
unfolding remaining
at_start limit [] h z = let w : ⊥ = omega arith in absurd w
at_start limit (b ∷ []) h z = grind (arith, nat_tests)
at_start limit (b ∷ d ∷ bs) h z = grind (arith, nat_tests)

-- Where all is read the number is known.
pub at_end : (limit n : ℕ) (text : List ℕ) (i : ℕ) → length text ≤ i → n ≤ limit → remaining limit n (drop i text) ≡ Some n
unfolding remaining
at_end limit n text i past h = at_drop_all (remaining limit n) text i past ∙ none_left
  where
    none_left : remaining limit n [] ≡ Some n
    none_left = grind (arith, nat_tests)

pub no_digit : (limit n b : ℕ) (bs : List ℕ) → is_digit b ≡ false → remaining limit n (b ∷ bs) ≡ None
unfolding remaining
no_digit limit n b bs e = cond-false _ _ _ (and_left _ _ (and_left _ _ e))

pub too_large : (limit n b : ℕ) (bs : List ℕ) → limit < 10 * n + (b - 48) → remaining limit n (b ∷ bs) ≡ None
unfolding remaining
too_large limit n b bs h =
    let above : limit < worth_after (10 * n + (b - 48)) bs = omega (arith, worth_grows (10 * n + (b - 48)) bs) in
    cond-false _ _ _ (and_right _ _ (lt-leb _ _ above))

pub one_more : (limit n b : ℕ) (bs : List ℕ) → is_digit b ≡ true → remaining limit n (b ∷ bs) ≡ remaining limit (10 * n + (b - 48)) bs
unfolding remaining
one_more limit n b bs e = ap (λ d. cond ((d && are_digits bs) && leb (worth_after (10 * n + (b - 48)) bs) limit) (Some (worth_after (10 * n + (b - 48)) bs)) None) e

-- The digit at a place is read, and the rest decides: none where it is no digit, or where the number is past the limit.
pub next_digit : (limit n : ℕ) (text : List ℕ) (i : ℕ) → i < length text → remaining limit n (drop i text) ≡ cond (is_digit (get_or text i 0) && leb (10 * n + (get_or text i 0 - 48)) limit) (remaining limit (10 * n + (get_or text i 0 - 48)) (drop (i + 1) text)) None
next_digit limit n text i inside =
    at_drop_more (remaining limit n) text i 0 inside ∙ by_digit (get_or text i 0) (drop (i + 1) text)
  where
    by_digit : (b : ℕ) (bs : List ℕ) → remaining limit n (b ∷ bs) ≡ cond (is_digit b && leb (10 * n + (b - 48)) limit) (remaining limit (10 * n + (b - 48)) bs) None
    by_digit b bs =
        let odd = no_digit limit n b bs in
        let over = too_large limit n b bs in
        let more = one_more limit n b bs in
        grind (arith, nat_tests)
