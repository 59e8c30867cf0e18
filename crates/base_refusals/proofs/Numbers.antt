-- No refusal has number 0, which says that nothing is refused.
use Rattle.std.proofs.Common.{◌≡◌, ℕ, arith}
use Rattle.base_refusals.specs.Numbers.{number_of}
use Rattle.base_refusals.specs.declared.Refusal.{Refusal}
use Rattle.base_refusals.specs.declared.Refusal.TheVariants.{NotATable, TableOutOfRange, TooManyTables, QuestionTooLong, BrokenRecord, TooDeepOrTooManyRecords, NameDoesNotHold, TypeDoesNotFit, GeneratorNotAllowed, NormalFormTooLarge, NumberOutOfBounds, ScratchTooShort, AnswerTooShort, LinesTooShort, CalendarOrDateOutOfRange, CalendarNotLent, CellBeyondBound, TariffOutOfRange, NotShipsAndDraughts, DraughtOutOfRange, RowsOutOfRange, NothingUnfinished, RotaOutOfRange, TableNumberOutOfRange, TableNumberUsed, TargetTooShort, NotALog, ToleranceOutOfRange, NeitherSomeNorAll, OutageTableOutOfRange}

pub number-above : (e : Refusal) → number_of e ≡ 0 → ⊥
number-above NotATable h = omega arith
number-above TableOutOfRange h = omega arith
number-above TooManyTables h = omega arith
number-above QuestionTooLong h = omega arith
number-above BrokenRecord h = omega arith
number-above TooDeepOrTooManyRecords h = omega arith
number-above NameDoesNotHold h = omega arith
number-above TypeDoesNotFit h = omega arith
number-above GeneratorNotAllowed h = omega arith
number-above NormalFormTooLarge h = omega arith
number-above NumberOutOfBounds h = omega arith
number-above ScratchTooShort h = omega arith
number-above AnswerTooShort h = omega arith
number-above LinesTooShort h = omega arith
number-above CalendarOrDateOutOfRange h = omega arith
number-above CalendarNotLent h = omega arith
number-above CellBeyondBound h = omega arith
number-above TariffOutOfRange h = omega arith
number-above NotShipsAndDraughts h = omega arith
number-above DraughtOutOfRange h = omega arith
number-above RowsOutOfRange h = omega arith
number-above NothingUnfinished h = omega arith
number-above RotaOutOfRange h = omega arith
number-above TableNumberOutOfRange h = omega arith
number-above TableNumberUsed h = omega arith
number-above TargetTooShort h = omega arith
number-above NotALog h = omega arith
number-above ToleranceOutOfRange h = omega arith
number-above NeitherSomeNorAll h = omega arith
number-above OutageTableOutOfRange h = omega arith
