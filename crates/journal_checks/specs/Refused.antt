-- Whether a journal gets a fault print.
use Rattle.std.specs.Prelude.{ℕ, Bool, false, List, length, Ok, Err, Result, ◌==◌, ◌&&◌}
use Rattle.std.specs.List.{starts_with}
use Rattle.refusals.specs.declared.Refusal.{Refusal}
use Rattle.report.specs.declared.shown.Shown.{Shown}
use Rattle.report.specs.declared.shown.Shown.TheVariants.{Text, Fault}

-- The answer says that a fault was shown and that its print is as long as this one, and the buffer begins with this one.
abbrev pub is_fault_print : Result Shown Refusal → List ℕ → List ℕ → Bool
is_fault_print (Ok (Fault n)) out print = (n == length print) && starts_with (◌==◌) out print
is_fault_print (Ok (Text n)) out print = false
is_fault_print (Err refusal) out print = false
