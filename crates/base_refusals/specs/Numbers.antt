-- The refusals' numbers in documents 01 and 02, and the number of an outcome: 0 where nothing is refused.
use Rattle.std.specs.Prelude.{ℕ, Result, Ok, Err}
use Rattle.base_refusals.specs.declared.Refusal.{Refusal}
use Rattle.base_refusals.specs.declared.Refusal.TheVariants.{NotATable, TableOutOfRange, TooManyTables, QuestionTooLong, BrokenRecord, TooDeepOrTooManyRecords, NameDoesNotHold, TypeDoesNotFit, GeneratorNotAllowed, NormalFormTooLarge, NumberOutOfBounds, ScratchTooShort, AnswerTooShort, LinesTooShort, CalendarOrDateOutOfRange, CalendarNotLent, CellBeyondBound, TariffOutOfRange, NotShipsAndDraughts, DraughtOutOfRange, RowsOutOfRange, NothingUnfinished, RotaOutOfRange, TableNumberOutOfRange, TableNumberUsed, TargetTooShort, NotALog, ToleranceOutOfRange, NeitherSomeNorAll, OutageTableOutOfRange}

abbrev pub number_of : Refusal → ℕ
number_of NotATable = 11
number_of TableOutOfRange = 12
number_of TooManyTables = 13
number_of QuestionTooLong = 21
number_of BrokenRecord = 22
number_of TooDeepOrTooManyRecords = 23
number_of NameDoesNotHold = 24
number_of TypeDoesNotFit = 25
number_of GeneratorNotAllowed = 26
number_of NormalFormTooLarge = 27
number_of NumberOutOfBounds = 28
number_of ScratchTooShort = 31
number_of AnswerTooShort = 32
number_of LinesTooShort = 33
number_of CalendarOrDateOutOfRange = 41
number_of CalendarNotLent = 42
number_of CellBeyondBound = 43
number_of TariffOutOfRange = 44
number_of NotShipsAndDraughts = 45
number_of DraughtOutOfRange = 46
number_of RowsOutOfRange = 47
number_of NothingUnfinished = 48
number_of RotaOutOfRange = 49
number_of TableNumberOutOfRange = 50
number_of TableNumberUsed = 51
number_of TargetTooShort = 52
number_of NotALog = 53
number_of ToleranceOutOfRange = 54
number_of NeitherSomeNorAll = 55
number_of OutageTableOutOfRange = 56

-- "An answer is 0 ..; a refusal its number"
abbrev pub outcome_number : {A : Type 0} → Result A Refusal → ℕ
outcome_number (Ok a) = 0
outcome_number (Err e) = number_of e

-- "An answer is 0 and its length ..; a refusal its number and length 0."
abbrev pub outcome_length : Result ℕ Refusal → ℕ
outcome_length (Ok n) = n
outcome_length (Err e) = 0
