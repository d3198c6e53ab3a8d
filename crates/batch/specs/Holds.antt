-- What the record of a batch holds of what the journal told.
use Rattle.std.specs.Prelude.{◌≡◌, ℕ, ◌≤◌, List, ℤ, Ok, Err, fold, Result, slice_index}
use Rattle.refusals.specs.declared.Refusal.{Refusal}
use Rattle.registers.specs.Kind.{Rule}
use Rattle.registers.specs.Numbers.{code_of}
use Rattle.batch.specs.Told.{Told}
use Rattle.batch.specs.Totals.{totals_text}
use Rattle.batch.specs.declared.batch.Batch.{Batch}

-- The register, of a kind with these figures, start and rule, has taken the moves in their order.
pub record Holds {R : Type 0} (figures : R → List ℤ) (start : List ℤ) (rule : Rule) (b : Batch R) (t : Told) : Type 0 where
  pub commands : b.commands ≡ t.commands
  pub kills : b.kills ≡ t.kills
  pub cards : b.cards ≡ t.cards
  pub kind : code_of b.kind ≡ t.kind
  pub register : figures b.register ≡ fold rule start t.moves
  pub letters : b.letters ≡ t.letters

-- A batch is read exactly where the journal tells one, and refused for the same reason.
abbrev pub Reads : {R : Type 0} → (R → List ℤ) → List ℤ → Rule → Result (Batch R) Refusal → Result Told Refusal → Type 0
Reads figures start rule (Ok b) (Ok t) = Holds figures start rule b t
Reads figures start rule (Ok b) (Err f) = ⊥
Reads figures start rule (Err e) (Ok t) = ⊥
Reads figures start rule (Err e) (Err f) = e ≡ f

-- No letter was counted more often than this.
abbrev pub AtMost : ℕ → List ℕ → Type 0
AtMost n letters = (k : ℕ) → slice_index letters k ≤ n

-- The totals of a batch as text.
abbrev pub text_of_batch : {R : Type 0} → (R → List ℤ) → Batch R → List ℕ
text_of_batch figures b = totals_text b.commands b.kills b.cards (code_of b.kind) (figures b.register) b.letters
