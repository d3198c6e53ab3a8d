-- What is shown of a journal: its totals, or the fault for which it is refused.
use Rattle.std.specs.Prelude.{◌≡◌, ℕ, List, Ok, Err, Result}
use Rattle.refusals.specs.declared.Refusal.{Refusal}
use Rattle.report.specs.Fault.{text_of_fault}
pub use Rattle.report.specs.Shown.{answer_number, length_in, written, Answers}
use Rattle.report.specs.Shown.{Shows as ShowsText}
use Rattle.report.specs.declared.shown.Shown.{Shown}
use Rattle.batch.specs.Told.{Told}

-- Which answer a journal gets, and its text.
abbrev pub number_due : Result Told Refusal → ℕ
number_due (Ok told) = 1
number_due (Err refusal) = 2

abbrev pub text_due : (Told → List ℕ) → Result Told Refusal → List ℕ
text_due totals (Ok told) = totals told
text_due totals (Err refusal) = text_of_fault refusal

-- The text that is due, where `totals` are the totals as text, is printed into the buffer, and the answer says which it is.
abbrev pub Shows : (Told → List ℕ) → Result Told Refusal → List ℕ → Result Shown Refusal → List ℕ → Type 0
Shows totals due out r out' = ShowsText (text_due totals due) (number_due due) out r out'

-- The kind that a journal names, where it is not refused.
abbrev pub Names : Result Told Refusal → ℕ → Type 0
Names (Ok told) kind = told.kind ≡ kind
Names (Err refusal) kind = Unit {0}
