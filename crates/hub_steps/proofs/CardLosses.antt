-- The loss of a card, as code writes it and as the model has it.
use Rattle.std.proofs.Common.{◌≡◌, ℕ, ◌-◌, List, length, get_or, set, Some, Ok, Option, sym, ap, ◌∙◌, subst}
use Rattle.hub_cards.specs.Tables.{put}
use Rattle.hub_cards.specs.declared.Card.{Card}
use Rattle.hub_cards.specs.declared.Status.TheVariants.{Lost}
use Rattle.hub_runs.specs.Hubs.{has_status}
use Rattle.hub_steps.specs.CardSteps.{Loses, Within}
use Rattle.hub_steps.proofs.CardTables.{put_is_set, read_is_at}

pub card_lost : {P : Type 0} (found : Option ℕ) (a n : ℕ) (cards : List (Card P)) (d : Card P) → Some a ≡ found → n ≡ a → Within n (length cards) → Loses {T = Unit {0}} found cards (Ok tt) (set cards (n - 1) (has_status Lost (get_or cards (n - 1) d)))
card_lost {P} found a n cards d is same within =
    subst (λ o. Loses {T = Unit {0}} o cards (Ok tt) (set cards (n - 1) (has_status Lost (get_or cards (n - 1) d)))) (ap Some same ∙ is)
    (tt, λ p. sym (put_is_set cards n _ within.0) ∙ ap (λ x. put cards n (has_status Lost x)) (read_is_at _ d cards n within.0 within.1))
