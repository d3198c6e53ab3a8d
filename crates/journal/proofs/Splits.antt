-- Where a text is cut: at its first line feed, and behind a front.
use Rattle.std.proofs.Common.{◌≡◌, ℕ, zero, suc, ◌+◌, ◌<◌, List, [], ◌∷◌, ◌++◌, length, get_or, take, drop, Some, None, Option, sym, refl, ap, ◌∙◌, ⊎_elim, append_assoc, add-one, arith, length-append, take-append-drop, Bor, MatchOption, eqb, ltb}
use Rattle.std.specs.Option.{option_map}
use Rattle.std.proofs.lemmas.List.{length-take-le, drop_more}
use Rattle.std.specs.List.{position, position_or_len}
use Rattle.std.proofs.lemmas.List.Sums.{fails_before_first, passes_at_first}
use Rattle.std.proofs.lemmas.Bool.{cond-true, cond-false, cond_both, eq-eqb, eqb-true, eqb-false, ltb-true, ltb-false, ne_eqb, cases_eq}
use Rattle.journal.specs.Keys.{front_of}
use Rattle.journal.specs.Outcomes.{value_at, Stands, line_length}
use Rattle.journal.specs.declared.keys.Key.{Key}
use Rattle.journal.specs.Rows.{FirstRow, cut, row, byte_before, rows_of, rest_without_feed, after_front}

-- The first byte is the line feed, or it stands before the rows of the others.
at_feed : (b : ℕ) (bs : List ℕ) → b ≡ 10 → rows_of (b ∷ bs) ≡ row [] (rows_of bs)
unfolding rows_of
at_feed b bs e = cond-true _ _ _ (eq-eqb b 10 e)

before_feed : (b : ℕ) (bs : List ℕ) → (b ≡ 10 → ⊥) → rows_of (b ∷ bs) ≡ byte_before b (rows_of bs)
unfolding rows_of
before_feed b bs apart = cond-false _ _ _ (ne_eqb b 10 apart)

pub rows_without_feed : (bs : List ℕ) → ((k : ℕ) → k < length bs → get_or bs k 0 ≡ 10 → ⊥) → rows_of bs ≡ rest_without_feed bs
unfolding rows_of
rows_without_feed [] none = refl
rows_without_feed (b ∷ bs) none =
    before_feed b bs (none 0 (omega arith)) ∙ ap (byte_before b) (rows_without_feed bs (λ k l. none (suc k) (omega arith))) ∙ cut_again bs
  where
    cut_again : (xs : List ℕ) → byte_before b (rest_without_feed xs) ≡ cut
    cut_again [] = refl
    cut_again (x ∷ xs) = refl

pub rows_at_feed : (bs : List ℕ) (n : ℕ) → n < length bs → ((k : ℕ) → k < n → get_or bs k 0 ≡ 10 → ⊥) → get_or bs n 0 ≡ 10 → rows_of bs ≡ row (take n bs) (rows_of (drop (n + 1) bs))
rows_at_feed [] n l none here = let z : ⊥ = omega arith in absurd z
rows_at_feed (b ∷ bs) zero l none here = at_feed b bs here
rows_at_feed (b ∷ bs) (suc n) l none here =
    let rest = rw add-one at (rows_at_feed bs n (omega arith) (λ k m. none (suc k) (omega arith)) here) in
    rw add-one (before_feed b bs (none 0 (omega arith)) ∙ ap (byte_before b) rest)

pub at_position : (bs : List ℕ) → MatchOption (position (λ b. eqb b 10) bs) (rows_of bs ≡ rest_without_feed bs) (λ n. FirstRow bs n)
at_position bs =
    let n : ℕ = position_or_len (λ b. eqb b 10) bs in
    cond_both (ltb n (length bs)) (Some n) None (λ r. MatchOption r (rows_of bs ≡ rest_without_feed bs) (λ i. FirstRow bs i))
    (λ e.
    let inside : n < length bs = ltb-true _ _ e in
    let feed : get_or bs n 0 ≡ 10 = eqb-true _ _ (passes_at_first (λ b. eqb b 10) bs 0 inside) in
    record { inside = inside; feed = feed; rows = rows_at_feed bs n inside before feed })
    (λ e. rows_without_feed bs (λ k l. before k (omega (arith, ltb-false n (length bs) e))))
  where
    before : (k : ℕ) → k < position_or_len (λ b. eqb b 10) bs → get_or bs k 0 ≡ 10 → ⊥
    before k l = eqb-false _ _ (fails_before_first (λ b. eqb b 10) bs k 0 l)

pub after_front_some : (front rest : List ℕ) → after_front front (front ++ rest) ≡ Some rest
unfolding after_front
after_front_some [] rest = refl
after_front_some (f ∷ front) rest = cond-true _ _ _ (eq-eqb f f refl) ∙ after_front_some front rest

pub after_front_none : (front text : List ℕ) → ((rest : List ℕ) → text ≡ front ++ rest → ⊥) → after_front front text ≡ None
unfolding after_front
after_front_none [] text never = absurd (never text refl)
after_front_none (f ∷ front) [] never = refl
after_front_none (f ∷ front) (b ∷ bs) never =
    ⊎_elim
    (λ e. cond-true _ _ _ (eq-eqb f b e) ∙ after_front_none front bs (λ rest g. never rest (cc (e, g))))
    (λ apart. cond-false _ _ _ (ne_eqb f b apart))
    (cases_eq f b)

-- The other way round: what follows the front completes the text.
pub after_front_is : (front text rest : List ℕ) → after_front front text ≡ Some rest → text ≡ front ++ rest
unfolding after_front
after_front_is [] text rest e = cc
after_front_is (f ∷ front) [] rest e = let z : ◌≡◌ {A = ℕ} 0 1 = cc in let w : ⊥ = omega arith in absurd w
after_front_is (f ∷ front) (b ∷ bs) rest e =
    ⊎_elim
    (λ same. let tail = after_front_is front bs rest (sym (cond-true _ _ _ (eq-eqb f b same)) ∙ e) in cc (same, tail))
    (λ apart. let none = sym (cond-false _ _ _ (ne_eqb f b apart)) ∙ e in let z : ◌≡◌ {A = ℕ} 0 1 = cc in let w : ⊥ = omega arith in absurd w)
    (cases_eq f b)

-- Text before its first line feed has no value under any key where there is no line feed.
pub no_value : (key : Key) (bytes : List ℕ) → rows_of bytes ≡ rest_without_feed bytes → value_at key (rows_of bytes) ≡ None
no_value key [] e = ap (value_at key) e
no_value key (b ∷ bs) e = ap (value_at key) e

module _ (key : Key) (bytes : List ℕ) (n : ℕ) (first : FirstRow bytes n) where
  front_stands : (value : List ℕ) → after_front (front_of key) (take n bytes) ≡ Some value → Stands key bytes value
  front_stands value e =
      let whole : take n bytes ≡ front_of key ++ value = after_front_is (front_of key) (take n bytes) value e in
      let long : length (take n bytes) ≡ n = length-take-le n bytes (omega (arith, first.inside)) in
      let ends : n + 1 ≡ line_length key value = omega (arith, long, simp length-append at (ap length whole)) in
      let feed : drop n bytes ≡ 10 ∷ drop (line_length key value) bytes = drop_more bytes n 0 first.inside ∙ cc (first.feed, ends) in
      record {
        written = sym (take-append-drop n bytes) ∙ cc (whole, feed) ∙ append_assoc (front_of key) value (10 ∷ drop (line_length key value) bytes);
        rows = first.rows ∙ cc (whole, ends);
      }

  pub found_or_not : (r : Option (Bor (List ℕ))) → option_map (λ x. x.now) r ≡ after_front (front_of key) (take n bytes) → MatchOption r (value_at key (rows_of bytes) ≡ None) (λ value. Stands key bytes value.now)
  found_or_not None e = ap (value_at key) first.rows ∙ sym e
  found_or_not (Some value) e = front_stands value.now (sym e)
