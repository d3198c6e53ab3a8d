-- What a call promises that writes by a writer, which is a lent buffer and a place in it.
use Rattle.std.specs.Prelude.{◌≡◌, ℕ, ◌^◌, ◌<◌, List, length}
use Rattle.std.specs.Borrow.{MutBor}
use Rattle.report.specs.Placed.{Puts, Writes}
use Rattle.report.specs.declared.writer.Writer.{Writer}

-- The text t is written whole or not at all, and the writer keeps the buffer that it was lent.
pub record PutBy (t : List ℕ) (w w' : Writer) : Type 0 where
  pub same : w'.out.ghost_name ≡ w.out.ghost_name
  pub puts : Puts t w.out.now w.at w'.out.now w'.at

-- The text t is written in parts, one after the other, and the writer keeps the buffer that it was lent.
pub record WrittenBy (t : List ℕ) (w w' : Writer) : Type 0 where
  pub same : w'.out.ghost_name ≡ w.out.ghost_name
  pub writes : Writes t w.out.now w.at w'.out.now w'.at

-- The same of a text whose length is a number of 64 bits.
pub record PrintedBy (t : List ℕ) (w w' : Writer) : Type 0 where
  pub short : length t < 2 ^ 64
  pub written : WrittenBy t w w'

-- Each call of a closure keeps a promise, where `call` says what a call may make of a writer.
abbrev pub EachCall : (MutBor Writer → MutBor Writer → Type 0) → (Writer → Writer → Type 0) → Type 0
EachCall call Promise = (w w' : MutBor Writer) → call w w' → Promise w.now w'.now
