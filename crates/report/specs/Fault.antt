-- The print of a fault: the number of a refusal, and the journal line that it speaks of.
use Rattle.std.specs.Prelude.{ℕ, List, ◌++◌, codes, decimal}
use Rattle.refusals.specs.declared.Refusal.{Refusal}
use Rattle.refusals.specs.Refusals.{number_of, line_of}
use Rattle.report.specs.Lines.{line_text}

-- The line is 0 where the refusal speaks of none.
abbrev pub text_of_fault : Refusal → List ℕ
text_of_fault f = line_text (codes "fault") (decimal (number_of f)) ++ line_text (codes "line") (decimal (line_of f))
