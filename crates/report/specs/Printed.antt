-- A whole text printed into a lent buffer, from its start.
use Rattle.std.specs.Prelude.{◌≡◌, ℕ, ◌<◌, ◌≤◌, List, length, Ok, Err, Result}
use Rattle.refusals.specs.declared.Refusal.{Refusal}
use Rattle.refusals.specs.declared.Refusal.TheVariants.{BufferTooShort}
use Rattle.report.specs.Placed.{placed}

-- A buffer that is long enough holds the text, with the bytes after it as they were, and the call gives the text's length.
-- A shorter one stays as it was, and the call says how long it should be.
pub record Printed (text out : List ℕ) (r : Result ℕ Refusal) (out' : List ℕ) : Type 0 where
  pub fits : length text ≤ length out → (r ≡ Ok (length text)) × (out' ≡ placed out 0 text)
  pub short : length out < length text → (r ≡ Err (BufferTooShort (length text))) × (out' ≡ out)
