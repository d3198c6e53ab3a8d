-- Lines of the header, noted or not.
use Rattle.std.proofs.Common.{◌≡◌, ℕ, Bool, true, false, cond, ltb, List, [], ◌∷◌, ◌++◌, length, ℤ, Ok, Err, Result, sym, refl, ap, ◌∙◌}
use Rattle.std.proofs.lemmas.Bool.{cond-false}
use Rattle.refusals.specs.declared.Refusal.{Refusal}
use Rattle.refusals.specs.declared.Refusal.TheVariants.{LineNotDue}
use Rattle.registers.specs.Kind.{Rule}
use Rattle.journal.specs.Lines.{entry_of}
use Rattle.journal.specs.Outcomes.{commands_after}
use Rattle.journal.specs.Values.{Entry, commands, kills, cards, register, move, step}
use Rattle.journal.specs.declared.lines.Line.{Line}
use Rattle.journal.specs.declared.place.Place.{Place}
use Rattle.journal.specs.declared.kinds.Accepted.{Accepted}
use Rattle.replay.specs.Header.{HeadNoted, Heads}
use Rattle.replay.specs.Replaying.{replay_rest, stopped}
use Rattle.replay.specs.Told.{Told, head_noted, is_made, noted}
use Rattle.replay.specs.declared.header.Header.{Header}
use Rattle.replay.proofs.Progress.{Passes, noted_as}

-- The number of commands that the reader knows is the one that was told.
commands_told : (number : ℕ) (t more : Told) (entry : Entry) → head_noted number t entry ≡ Ok more → commands_after t.commands entry ≡ more.commands
commands_told number t more (commands n) e = cc
commands_told number t more (kills n) e = cc
commands_told number t more (cards n) e = cc
commands_told number t more (register n) e = cc
commands_told number t more (move z) e = by_test (ltb (length t.moves) t.commands) e
  where
    by_test : (b : Bool) → cond b (Ok (record { commands = t.commands; kills = t.kills; cards = t.cards; moves = t.moves ++ (z ∷ []); calls = t.calls })) (Err (LineNotDue number)) ≡ Ok more → t.commands ≡ more.commands
    by_test true f = cc
    by_test false f = cc
commands_told number t more (step action c) e = cc

-- A line that the reader handed out before the hub is made, noted under its number.
module _ {accepts : Accepted} {start : List ℤ} {rule : Rule} {text : List ℕ} {before after : Place} {t : Told} {known number : ℕ} {line : Line} (passes : Passes accepts start rule text before after t known line) (unmade : is_made t ≡ false) (counted : number ≡ before.line) where
  as_noted : (r : Result Told Refusal) → head_noted number t (entry_of line) ≡ r → noted start rule before.line t (entry_of line) ≡ r
  as_noted r e = cond-false _ _ _ unmade ∙ ap (λ n. head_noted n t (entry_of line)) (sym counted) ∙ e

  pub line_noted : (h : Header) → HeadNoted (head_noted number t (entry_of line)) {T = Unit {0}} (Ok tt) h → (more : Told) × Heads h more × (known ≡ more.commands) × (replay_rest accepts start rule text before t ≡ replay_rest accepts start rule text after more)
  line_noted h n = from (head_noted number t (entry_of line)) refl n
    where
      from : (r : Result Told Refusal) → head_noted number t (entry_of line) ≡ r → HeadNoted r {T = Unit {0}} (Ok tt) h → (more : Told) × Heads h more × (known ≡ more.commands) × (replay_rest accepts start rule text before t ≡ replay_rest accepts start rule text after more)
      from (Ok more) e heads = (more, heads, passes.knows ∙ commands_told number t more (entry_of line) e, noted_as passes (Ok more) (as_noted (Ok more) e))
      from (Err refusal) e never = absurd never

  pub line_refused : (h : Header) (refusal : Refusal) → HeadNoted (head_noted number t (entry_of line)) {T = Unit {0}} (Err refusal) h → replay_rest accepts start rule text before t ≡ stopped t refusal
  line_refused h refusal n = from (head_noted number t (entry_of line)) refl n
    where
      from : (r : Result Told Refusal) → head_noted number t (entry_of line) ≡ r → HeadNoted r {T = Unit {0}} (Err refusal) h → replay_rest accepts start rule text before t ≡ stopped t refusal
      from (Ok more) e never = absurd never
      from (Err cause) e same = noted_as passes (Err cause) (as_noted (Err cause) e) ∙ ap (stopped t) (sym same)
