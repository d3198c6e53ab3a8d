-- The kinds that have a number of their own, and what it means that a kind answers a number.
use Rattle.std.specs.Prelude.{◌≡◌, ℕ, suc, ◌≤◌, List, [], ◌∷◌, length, ℤ, MatchOption}
use Rattle.std.specs.List.{slice_get}
use Rattle.registers.specs.Classes.{the_classes}
use Rattle.registers.specs.Kind.{Is, Kind, Rule}
use Rattle.registers.specs.Peak.{the_peak}
use Rattle.registers.specs.Sum.{the_sum}

-- In the order of their numbers, from 1.
abbrev pub named_kinds : List Kind
named_kinds = the_sum ∷ the_classes ∷ the_peak ∷ []

-- A kind that answers a number other than 0 is the named kind of that number. So a kind that is none of them can only
-- answer 0.
pub record Named (code : ℕ) (start : List ℤ) (rule : Rule) (ours : List ℤ → Type 0) (size : ℕ) : Type 0 where
  pub known : code ≤ length named_kinds
  pub meant : (n : ℕ) → code ≡ suc n → MatchOption (slice_get named_kinds n) ⊥ (Is start rule ours size)
