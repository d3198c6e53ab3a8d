-- How the promise `Writes` is made, and how the promises of calls one after the other are joined.
use Rattle.std.proofs.Common.{◌≡◌, ℕ, ◌+◌, List, ◌++◌, length, ap, ◌∙◌, subst, arith}
use Rattle.std.proofs.lemmas.List.{length-append}
use Rattle.report.specs.Placed.{placed, Puts, Writes}
use Rattle.report.specs.Writer.{PutBy, WrittenBy}
use Rattle.report.specs.declared.writer.Writer.{Writer}
use Rattle.report.proofs.Placing.{placed_twice, length-placed}

-- A call that writes t whole or not at all.
pub puts_writes : {t out : List ℕ} {at : ℕ} {out' : List ℕ} {r : ℕ} → Puts t out at out' r → Writes t out at out' r
puts_writes {t} {out} {at} p = record {
  next = p.next;
  long = ap length p.buffer ∙ length-placed out at t;
  text = λ _ _. p.buffer;
}

-- Two calls one after the other, the second at the place that the first gave.
pub writes_then : {t u out : List ℕ} {at : ℕ} {mid : List ℕ} {r : ℕ} {out' : List ℕ} {r' : ℕ} → Writes t out at mid r → Writes u mid r out' r' → Writes (t ++ u) out at out' r'
writes_then {t} {u} {out} {at} {mid} {r} {out'} {r'} x y =
    let sum : length (t ++ u) ≡ length t + length u = length-append t u in
    record {
      next = omega arith;
      long = y.long ∙ x.long;
      text = λ s h.
          let place : r ≡ at + length t = omega arith in
          let first : mid ≡ placed out at t = x.text s (omega arith) in
          let second : out' ≡ placed mid r u = y.text (omega arith) (omega arith) in
          let both : placed (placed out at t) (at + length t) u ≡ placed out at (t ++ u) = placed_twice out at t u h in
          cc;
    }

-- The same text in other words.
pub writes_as : {t u out : List ℕ} {at : ℕ} {out' : List ℕ} {r : ℕ} → t ≡ u → Writes t out at out' r → Writes u out at out' r
writes_as {t} {u} {out} {at} {out'} {r} e = subst (λ (x : List ℕ). Writes x out at out' r) e

-- The same by a writer, which keeps its buffer.
pub put_written : {t : List ℕ} {w w' : Writer} → PutBy t w w' → WrittenBy t w w'
put_written p = record { same = p.same; writes = puts_writes p.puts }

pub written_then : {t u : List ℕ} {w w' w'' : Writer} → WrittenBy t w w' → WrittenBy u w' w'' → WrittenBy (t ++ u) w w''
written_then x y = record { same = y.same ∙ x.same; writes = writes_then x.writes y.writes }

-- The same text in other words.
pub written_as : {t u : List ℕ} {w w' : Writer} → t ≡ u → WrittenBy t w w' → WrittenBy u w w'
written_as {t} {u} {w} {w'} e = subst (λ (x : List ℕ). WrittenBy x w w') e
