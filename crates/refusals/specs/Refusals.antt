-- The causes for which a call is denied: the number of each, and what comes with it.
-- A call that could be denied for several causes names the one with the lowest number.
use Rattle.std.specs.Prelude.{ℕ}
use Rattle.refusals.specs.declared.Refusal.{Refusal}
use Rattle.refusals.specs.declared.Refusal.TheVariants.{CountOutsideLimits, WrongTableLength, MoveOutsideLimits, TablesMisfit, HubFinished, UnknownLetter, NoSuchCommand, LossesUsedUp, WrongPhaseOrMessage, WrongCardStatus, WrongCardNumber, NoPlaceLeft, JournalTooLong, LineNotDue, ValueNotAllowed, StepDenied, BufferTooShort}

-- What a refusal carries besides its number.
pub data Detail : Type 0 where
  nothing : Detail
  command : ℕ → Detail  -- the number of the first command at fault
  line : ℕ → Detail  -- the journal line at fault, counted from 1; 0 for the journal as a whole
  needed : ℕ → Detail  -- the length in bytes that the text needs

abbrev pub number_of : Refusal → ℕ
number_of CountOutsideLimits = 1
number_of WrongTableLength = 2
number_of (MoveOutsideLimits c) = 3
number_of TablesMisfit = 4
number_of HubFinished = 5
number_of UnknownLetter = 6
number_of NoSuchCommand = 7
number_of LossesUsedUp = 8
number_of WrongPhaseOrMessage = 9
number_of WrongCardStatus = 10
number_of WrongCardNumber = 11
number_of NoPlaceLeft = 12
number_of JournalTooLong = 13
number_of (LineNotDue l) = 14
number_of (ValueNotAllowed l) = 15
number_of (StepDenied l) = 16
number_of (BufferTooShort n) = 17

abbrev pub detail_of : Refusal → Detail
detail_of CountOutsideLimits = nothing
detail_of WrongTableLength = nothing
detail_of (MoveOutsideLimits c) = command c
detail_of TablesMisfit = nothing
detail_of HubFinished = nothing
detail_of UnknownLetter = nothing
detail_of NoSuchCommand = nothing
detail_of LossesUsedUp = nothing
detail_of WrongPhaseOrMessage = nothing
detail_of WrongCardStatus = nothing
detail_of WrongCardNumber = nothing
detail_of NoPlaceLeft = nothing
detail_of JournalTooLong = line 0
detail_of (LineNotDue l) = line l
detail_of (ValueNotAllowed l) = line l
detail_of (StepDenied l) = line l
detail_of (BufferTooShort n) = needed n

-- The line that a fault print names: 0 where no line comes with the refusal.
abbrev pub line_in : Detail → ℕ
line_in nothing = 0
line_in (command c) = 0
line_in (line l) = l
line_in (needed n) = 0

abbrev pub line_of : Refusal → ℕ
line_of r = line_in (detail_of r)
