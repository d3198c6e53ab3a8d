-- Examples that show how classes begin and end and where a half goes.
use Rattle.std.specs.Prelude.{◌≡◌, ℕ, ◌+◌, pos, negsuc, Some}
use Rattle.registers.specs.Classes.{class_of}
use Rattle.registers.specs.Mean.{mean_of_sum}

-- The number of a size's class, from 1.
abbrev pub class_number : ℕ → ℕ
class_number s = class_of s + 1

-- `negsuc 24` is -25, and `negsuc 12` is -13.
abbrev pub WorkedExamples : Type 0
WorkedExamples =
    (class_number 49 ≡ 1) × (class_number 50 ≡ 2) × (class_number 250 ≡ 4) × (class_number 9000 ≡ 8) × (mean_of_sum (pos 25) 2 ≡ Some (pos 13)) × (mean_of_sum (negsuc 24) 2 ≡ Some (negsuc 12))
