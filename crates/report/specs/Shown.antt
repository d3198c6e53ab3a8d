-- What is shown of a journal: the text that was asked for, or the fault for which the journal is refused.
use Rattle.std.specs.Prelude.{◌≡◌, ℕ, List, Ok, Err, Result}
use Rattle.refusals.specs.declared.Refusal.{Refusal}
use Rattle.report.specs.Printed.{Printed}
use Rattle.report.specs.declared.shown.Shown.{Shown}
use Rattle.report.specs.declared.shown.Shown.TheVariants.{Text, Fault}

-- The two answers: 1, the text that was asked for, and 2, a fault; each with the length of its text.
abbrev pub answer_number : Shown → ℕ
answer_number (Text n) = 1
answer_number (Fault n) = 2

abbrev pub length_in : Shown → ℕ
length_in (Text n) = n
length_in (Fault n) = n

abbrev pub written : Result Shown Refusal → Result ℕ Refusal
written (Ok shown) = Ok (length_in shown)
written (Err refusal) = Err refusal

abbrev pub Answers : ℕ → Result Shown Refusal → Type 0
Answers n (Ok shown) = answer_number shown ≡ n
Answers n (Err refusal) = Unit {0}

-- This text is printed into the buffer, and the answer says by its number which text it is.
pub record Shows (text : List ℕ) (number : ℕ) (out : List ℕ) (r : Result Shown Refusal) (out' : List ℕ) : Type 0 where
  pub prints : Printed text out (written r) out'
  pub answers : Answers number r
