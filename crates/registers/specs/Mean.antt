-- The mean move: the sum of the moves over the version, the number of moves, as a whole number.
use Rattle.std.specs.Prelude.{◌≡◌, ℕ, ◌+◌, ◌*◌, ◌/◌, ◌%◌, ◌<◌, ◌≤◌, cond, ℤ, pos, negsuc, ◌-ℤ◌, ◌*ℤ◌, neg_ℤ, Some, None, Option, ◌==◌, nat_lt, unsigned_abs, List, [], ◌∷◌}

-- How far r is from the quotient, times twice the version, so that all is in whole numbers.
abbrev pub off : ℤ → ℕ → ℤ → ℕ
off sum version r = 2 * unsigned_abs (sum -ℤ (r *ℤ pos version))

-- r is at most a half from the quotient: no whole number is nearer.
abbrev pub Nearest : ℤ → ℕ → ℤ → Type 0
Nearest sum version r = off sum version r ≤ version

-- r is exactly a half from the quotient, and so is one other whole number.
abbrev pub Halfway : ℤ → ℕ → ℤ → Type 0
Halfway sum version r = off sum version r ≡ version

-- Which way a half goes. Of the whole numbers of sizes n and n + 1 on either side of the quotient it is the one farther
-- from zero.
abbrev pub half_goes : ℕ → ℕ
half_goes n = n + 1

-- r is nearest, and where two numbers are, it is the one that a half goes to: `unsigned_abs sum / version` drops the fraction.
pub record IsMean (sum : ℤ) (version : ℕ) (r : ℤ) : Type 0 where
  pub nearest : Nearest sum version r
  pub half : Halfway sum version r → unsigned_abs r ≡ half_goes (unsigned_abs sum / version)

-- The answer for a sum and a version: there is a mean but for version 0.
abbrev pub MeanIs : ℤ → ℕ → Option ℤ → Type 0
MeanIs sum version None = version ≡ 0
MeanIs sum version (Some r) = (0 < version) × IsMean sum version r

-- The size of the mean, from the size of the sum: by whether less than a half, a half or more than a half is left.
abbrev pub rounded : ℕ → ℕ → ℕ
rounded a version =
    cond (nat_lt (2 * (a % version)) version) (a / version) (cond (nat_lt version (2 * (a % version))) (a / version + 1) (half_goes (a / version)))

-- The number of that size with the sign of the sum.
abbrev pub with_sign : ℤ → ℕ → ℤ
with_sign (pos a) n = pos n
with_sign (negsuc a) n = neg_ℤ (pos n)

-- The mean, for what is built on it, as a text that shows it.
unfoldable pub mean_of_sum : ℤ → ℕ → Option ℤ
mean_of_sum sum version = cond (version == 0) None (Some (with_sign sum (rounded (unsigned_abs sum) version)))

-- The mean where the sum is the first of a register's figures: none where there is no figure.
abbrev pub mean_of_first : List ℤ → ℕ → Option ℤ
mean_of_first [] version = None
mean_of_first (sum ∷ rest) version = mean_of_sum sum version

-- Only a sum, the kind with the number 1, has a mean: that of its first figure.
abbrev pub mean_of : ℕ → List ℤ → ℕ → Option ℤ
mean_of code figures version = cond (code == 1) (mean_of_first figures version) None

-- What is computed is a mean.
abbrev pub ComputesMean : Type 0
ComputesMean = (sum : ℤ) (version : ℕ) → MeanIs sum version (mean_of_sum sum version)

-- No two numbers are the mean of the same sum and version.
abbrev pub OneMean : Type 0
OneMean = (sum : ℤ) (version : ℕ) (r q : ℤ) → 0 < version → IsMean sum version r → IsMean sum version q → r ≡ q

-- Within a half of the quotient is as near to it as a whole number comes.
abbrev pub NoneNearer : Type 0
NoneNearer = (sum : ℤ) (version : ℕ) (r q : ℤ) → 0 < version → IsMean sum version r → off sum version r ≤ off sum version q
