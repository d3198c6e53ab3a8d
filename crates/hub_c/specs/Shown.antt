-- What a caller in C gets: the length of the text, and the text where it fits.
use Rattle.std.specs.Prelude.{List, ◌≡◌, ℕ, ◌<◌, ◌≤◌, length}
use Rattle.report.specs.Placed.{placed}

-- A buffer that is long enough holds the text, with the bytes after it as they were; a shorter one is as it was.
pub record WritesShown (text out : List ℕ) (r : ℕ) (out' : List ℕ) : Type 0 where
  pub long : r ≡ length text
  pub fits : length text ≤ length out → out' ≡ placed out 0 text
  pub short : length out < length text → out' ≡ out
