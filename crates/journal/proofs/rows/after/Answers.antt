use Rattle.std.proofs.Common.{◌≡◌, ℕ, List, ◌++◌, Some, None, Option, sym, ap, ◌∙◌, Bor, MatchOption}
use Rattle.std.specs.Option.{option_map}
use Rattle.std.proofs.lemmas.Slice.Eq.{strip_prefix_is}
use Rattle.journal.specs.Rows.{after_front}
use Rattle.journal.proofs.Splits.{after_front_some, after_front_none}
use Rattle.journal.proofs.rows.after.Goals as goal
use Rattle.std.proofs.lemmas.Bool.Decides.{Decides-eqb}

by_case : (text front : List ℕ) (r : Option (Bor (List ℕ))) → MatchOption r ((rest : List ℕ) → text ≡ front ++ rest → ⊥) (λ x. text ≡ front ++ x.now) → option_map (λ x. x.now) r ≡ after_front front text
by_case text front None none = sym (after_front_none front text none)
by_case text front (Some x) e = sym (ap (after_front front) e ∙ after_front_some front x.now)

pub returns : goal.returns
returns c = by_case c.args.text.now c.args.front.now c.strip_prefix.result (strip_prefix_is Decides-eqb _ _ _ c.strip_prefix.ensures.cases)
