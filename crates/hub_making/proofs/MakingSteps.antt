-- What finding the first move outside the limits, and filling a table, come to.
use Rattle.std.proofs.Common.{Bool, nat_lt, refl, subst, ◌≡◌, ℕ, ◌+◌, ◌-◌, ◌≤◌, List, [], ◌∷◌, map, length, set, replicate, ℤ, nat_abs, ap, ◌∙◌, arith}
use Rattle.std.proofs.lemmas.Grind.{common_steps}
use Rattle.std.specs.List.{FoldsTo, position_from}
use Rattle.std.specs.Option.{option_map}
use Rattle.hub_making.specs.Making.{first_outside}

-- A move is outside the limits.
abbrev pub outside : ℤ → Bool
outside move = nat_lt 9000 (nat_abs move)

-- The number of the first move outside the limits is the index of that move, and one more.
pub first_number : (n : ℕ) (moves : List ℤ) → first_outside (n + 1) moves ≡ option_map (λ i. i + 1) (position_from outside n moves)
unfolding first_outside
first_number n [] = refl
first_number n (move ∷ moves) = grind (arith, common_steps, first_number (n + 1) moves)

-- The items that calls of one closure return, where each call leaves it as it is and returns what stands for `y`.
pub filled : {F X Y : Type 0} (R : F → X → F → Type 0) (f : X → Y) (y : Y) (p : F) → ((x : X) (q : F) → R p x q → (q ≡ p) × (f x ≡ y)) → (xs : List X) (q : F) → FoldsTo R p xs q → map f xs ≡ replicate (length xs) y
filled R f y p each [] q ran = refl
filled R f y p each (x ∷ xs) q ran =
    let first = each x ran.0 ran.1 in
    let rest : map f xs ≡ replicate (length xs) y = filled R f y p each xs q (subst (λ j. FoldsTo R j xs q) first.0 ran.2) in
    cc

-- A list of equal elements, of which the first is then replaced.
pub then_first : {X : Type 0} (xs : List X) (n : ℕ) (x y : X) → xs ≡ replicate (length xs) y → length xs ≡ n → 1 ≤ n → set xs 0 x ≡ x ∷ replicate (n - 1) y
then_first [] n x y e long h = let z : ⊥ = omega arith in absurd z
then_first (x' ∷ xs) n x y e long h =
    let rest : length xs ≡ n - 1 = omega arith in
    let same : xs ≡ replicate (length xs) y = cc in
    ap (λ zs. x ∷ zs) (same ∙ ap (λ k. replicate k y) rest)
