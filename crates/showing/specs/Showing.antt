-- What is shown of a journal: the report of its hub, or the fault for which its replay stops.
use Rattle.std.specs.Prelude.{◌≡◌, ℕ, Bool, true, false, cond, List, ℤ, Some, None, Option, Result, ◌==◌}
use Rattle.refusals.specs.Refusals.{line_of, number_of}
use Rattle.refusals.specs.declared.Refusal.{Refusal}
use Rattle.registers.specs.Classes.{the_classes}
use Rattle.registers.specs.Kind.{Rule}
use Rattle.registers.specs.Kind as figured
use Rattle.registers.specs.Numbers as numbers
use Rattle.registers.specs.Peak.{the_peak}
use Rattle.registers.specs.Sum.{the_sum}
use Rattle.registers.specs.declared.kind.Kind.{Kind}
use Rattle.registers.specs.declared.kind.Kind.TheVariants.{Sum, Classes, Peak}
use Rattle.journal.specs.declared.kinds.Accepted.TheVariants.{Only}
use Rattle.report.specs.Fault.{text_of_fault}
use Rattle.report.specs.Shown.{Shows}
use Rattle.report.specs.declared.shown.Shown.{Shown}
use Rattle.hub_report.specs.ReportText.{report_text}
use Rattle.replay.specs.Replaying.{Replay, replay_of}
use Rattle.replay.specs.Told.{state_told}

-- Which answer a replay gets, by its number, and its text. `code` is the number of the register's kind.
abbrev pub number_due : Option Refusal → ℕ
number_due None = 1
number_due (Some refusal) = 2

abbrev pub by_ending : Option Refusal → List ℕ → List ℕ
by_ending None report = report
by_ending (Some refusal) report = text_of_fault refusal

abbrev pub text_due : ℕ → List ℤ → Rule → Replay → List ℕ
text_due code start rule p = by_ending p.ending (report_text code (state_told start rule p.told))

-- A journal names its register on line 4: it names another than the caller's where it is refused there with 15.
abbrev pub is_of_another : Refusal → Bool
is_of_another refusal = cond (number_of refusal == 15) (line_of refusal == 4) false

abbrev pub names_another : Option Refusal → Bool
names_another None = false
names_another (Some refusal) = is_of_another refusal

-- What is shown with a register of one kind, unless the journal names another.
abbrev pub Tried : Bool → List ℕ → ℕ → List ℕ → Option (Result Shown Refusal) → List ℕ → Type 0
Tried true text number out r out' = (r ≡ None) × (out' ≡ out)
Tried false text number out None out' = ⊥
Tried false text number out (Some r) out' = Shows text number out r out'

-- The same of a journal, with registers of this kind.
abbrev pub TriedWith : Option Kind → List ℤ → Rule → List ℕ → List ℕ → Option (Result Shown Refusal) → List ℕ → Type 0
TriedWith kind start rule journal out r out' =
    let p = replay_of (Only kind) start rule journal in
    Tried (names_another p.ending) (text_due (numbers.code_of kind) start rule p) (number_due p.ending) out r out'

-- The replay with the register that the journal names: the sum, or else the classes, or else the peak. With a name that no
-- register has, each of them is refused for the same reason.
abbrev pub with_kind : Kind → figured.Kind → List ℕ → Replay
with_kind name kind journal = replay_of (Only (Some name)) kind.start kind.rule journal

abbrev pub by_name : {A : Type 0} → (Kind → figured.Kind → A) → List ℕ → A
by_name f journal =
    cond (names_another (with_kind Sum the_sum journal).ending) (cond (names_another (with_kind Classes the_classes journal).ending) (f Peak the_peak) (f Classes the_classes)) (f Sum the_sum)

abbrev pub text_shown : List ℕ → List ℕ
text_shown journal = by_name (λ name kind. text_due (numbers.number_of name) kind.start kind.rule (with_kind name kind journal)) journal

abbrev pub number_shown : List ℕ → ℕ
number_shown journal = by_name (λ name kind. number_due (with_kind name kind journal).ending) journal
