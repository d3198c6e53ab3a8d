-- What both cards must show when the batch is finished, as text.
use Rattle.std.specs.Prelude.{ℕ, suc, cond, List, [], ◌∷◌, ◌++◌, ℤ, None, codes, decimal, fold, Option, ◌==◌}
use Rattle.registers.specs.Kind.{Kind, Rule}
use Rattle.registers.specs.Classes.{the_classes}
pub use Rattle.registers.specs.Mean.{mean_of_first}
use Rattle.registers.specs.Peak.{the_peak}
use Rattle.registers.specs.Sum.{the_sum}
use Rattle.report.specs.Figures.{figures_text}
use Rattle.report.specs.Lines.{line_text}
pub use Rattle.report.specs.Lines.{mean_text}
use Rattle.batch.specs.Told.{Told}

-- The kinds of register by their numbers, and their names.
abbrev pub by_kind : {A : Type 0} → ℕ → A → A → A → A
by_kind kind sum classes peak = cond (kind == 1) sum (cond (kind == 2) classes peak)

abbrev pub kind_of : ℕ → Kind
kind_of kind = by_kind kind the_sum the_classes the_peak

abbrev pub name_of : ℕ → List ℕ
name_of kind = by_kind kind (codes "sum") (codes "classes") (codes "peak")

-- Of the sum there is a mean: over the number of commands, since each command counts once.
abbrev pub mean_of : ℕ → List ℤ → ℕ → Option ℤ
mean_of kind figures commands = by_kind kind (mean_of_first figures commands) None None

-- A line for each letter, from this one on, with how many steps stand under it.
abbrev pub letters_text : ℕ → List ℕ → List ℕ
letters_text letter [] = []
letters_text letter (n ∷ ns) = line_text (letter ∷ []) (decimal n) ++ letters_text (suc letter) ns

unfoldable pub totals_text : (commands kills cards kind : ℕ) → (figures : List ℤ) → (letters : List ℕ) → List ℕ
totals_text commands kills cards kind figures letters =
    line_text (codes "commands") (decimal commands)
    ++ (line_text (codes "kills") (decimal kills)
    ++ (line_text (codes "cards") (decimal cards)
    ++ (line_text (codes "register") (name_of kind)
    ++ (line_text (codes "figures") (figures_text figures)
    ++ (line_text (codes "mean") (mean_text (mean_of kind figures commands))
    ++ letters_text 65 letters)))))

-- The text for a register with this start and rule, which takes the moves in their order; and for the one that is named.
abbrev pub text_with : List ℤ → Rule → Told → List ℕ
text_with start rule t = totals_text t.commands t.kills t.cards t.kind (fold rule start t.moves) t.letters

abbrev pub text_of : Told → List ℕ
text_of t = text_with (kind_of t.kind).start (kind_of t.kind).rule t
