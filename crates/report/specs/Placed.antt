-- Text written into a lent buffer, and the place after it.
use Rattle.std.specs.Prelude.{◌≡◌, ℕ, ◌+◌, ◌-◌, ◌^◌, ◌<◌, ◌≤◌, min, cond, List, length, nat_le}
use Rattle.std.proofs.Math.Seq.{paste}

-- The place n bytes after `at`. Places are counted on where the text does not fit, up to the largest number of 64 bits.
abbrev pub advanced : ℕ → ℕ → ℕ
advanced at n = min (at + n) (2 ^ 64 - 1)

-- `out` with the text t from the place `at` on, all other bytes as they were; where t does not fit whole, `out` itself.
abbrev pub placed : List ℕ → ℕ → List ℕ → List ℕ
placed out at t = cond (nat_le (at + length t) (length out)) (paste out at t (length t)) out

-- What a call promises that writes the text t into the buffer `out` from the place `at` on, all of it or nothing, where
-- the buffer is `out'` after it and the call gives r.
pub record Puts (t out : List ℕ) (at : ℕ) (out' : List ℕ) (r : ℕ) : Type 0 where
  pub next : r ≡ advanced at (length t)
  pub buffer : out' ≡ placed out at t

-- What a call promises that writes t in parts, one after the other: the same place, and the same buffer where t fits
-- whole. Where it does not, some of the parts may have been written. No buffer that can be lent has 2 ^ 63 bytes.
pub record Writes (t out : List ℕ) (at : ℕ) (out' : List ℕ) (r : ℕ) : Type 0 where
  pub next : r ≡ advanced at (length t)
  pub long : length out' ≡ length out
  pub text : length out < 2 ^ 63 → at + length t ≤ length out → out' ≡ placed out at t
