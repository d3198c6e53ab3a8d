-- The numbers and the names of the kinds of register.
use Rattle.std.specs.Prelude.{ℕ, cond, List, codes, Some, None, Option, ◌==◌}
use Rattle.registers.specs.declared.kind.Kind.{Kind}
use Rattle.registers.specs.declared.kind.Kind.TheVariants.{Sum, Classes, Peak}

-- The number of a kind, from 1, in the order of the named kinds.
abbrev pub number_of : Kind → ℕ
number_of Sum = 1
number_of Classes = 2
number_of Peak = 3

-- The kind of a number, if a kind has that number.
abbrev pub kind_of : ℕ → Option Kind
kind_of n = cond (n == 1) (Some Sum) (cond (n == 2) (Some Classes) (cond (n == 3) (Some Peak) None))

-- The number of the kind that a register answers: 0 where its kind has no name.
abbrev pub code_of : Option Kind → ℕ
code_of None = 0
code_of (Some kind) = number_of kind

-- The name of a kind, as journals and reports write it.
abbrev pub name_of : Kind → List ℕ
name_of Sum = codes "sum"
name_of Classes = codes "classes"
name_of Peak = codes "peak"
