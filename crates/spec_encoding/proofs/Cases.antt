-- Data as bytes: the starred cases' side of them. A table's number in a question may be any byte. Kind 19 as bytes (document 02, E2): "three terms", in a content that "must be filled exactly".
use mathlib.Core.Path.{◌≡◌, refl}
use mathlib.Core.List.{[], ◌∷◌, ◌++◌}
use mathlib.Core.Bool.{true}
use Prim.Native.Nat.{ℕ, ◌+◌}
use lib.IntN.{pos}
use Rattle.spec_calculus.specs.Lists.{pick}
use Rattle.spec_calculus.specs.Value.{as_int, nth, field_of, columns_of, is_there}
use Rattle.spec_calculus.specs.Cases.{Case, answers, prints, refuses, reads, declines, starred, how_many}
use Rattle.spec_calculus.proofs.Lists.{All}
use Rattle.spec_calculus.specs.Syntax.{sum, some, choice, num, truth, app, tnil, tcons, qnil}
use Rattle.spec_calculus.specs.Lending.{unlent}
use Rattle.spec_encoding.specs.Record.{Bytes, refused, got, and_then, require, signed, is_whole}
use Rattle.spec_encoding.specs.Data.{bounds_from, cells, rows_from, fits, table_of, table_by, bounds_fit, cells_within, rows_within, bounded, tables_from, read_data}
use Rattle.spec_encoding.specs.Reader.{no_more, as_term, one_term, filled, in_front, on_part, parts, comprehends, named, content, at_record, read_part, read_question}

abbrev pub ReadAs : Case → Type 0
ReadAs (answers T q v ws g) = Unit {0}
ReadAs (prints T q s) = Unit {0}
ReadAs (refuses T q n) = Unit {0}
ReadAs (reads d T) = read_data d ≡ got T
ReadAs (declines d n) = read_data d ≡ refused n

pub starred-read : All ReadAs starred
unfolding pick as_int nth field_of columns_of is_there require signed is_whole bounds_from cells rows_from fits table_of table_by bounds_fit cells_within rows_within bounded tables_from read_data
starred-read = (tt, (tt, (tt, (tt, (tt, (tt, (tt, (tt, (tt, (tt, (tt, (tt, (tt, (tt, (tt, (tt, (tt, (tt, (tt, (tt, (tt, (tt, (tt, (tt, (tt, (tt, (tt, (tt, (tt, (tt, (tt, (tt, (tt, (tt, (tt, (tt, (tt, (tt, (tt, (tt, (tt, (tt, (refl, (refl, (refl, (refl, (refl, (refl, (refl, (refl, (refl, (refl, (refl, (refl, (tt, (tt, (tt, (tt, (refl, (refl, (refl, (refl, (refl, (refl, (refl, (refl, (refl, (refl, (refl, (refl, tt))))))))))))))))))))))))))))))))))))))))))))))))))))))))))))))))))))))

abbrev number : ℕ → Bytes
number n = 4 ∷ 0 ∷ 1 ∷ 0 ∷ n ∷ 0 ∷ 0 ∷ 0 ∷ []

-- a sum without qualifiers whose head is of kind 19: a content of k bytes, first the truth true
abbrev chosen : ℕ → Bytes → Bytes
chosen k l = (5 + k) ∷ 0 ∷ 14 ∷ 0 ∷ 4 ∷ k ∷ 0 ∷ 19 ∷ 0 ∷ 1 ∷ 0 ∷ 2 ∷ 0 ∷ 1 ∷ l

unfoldable reading : Unit {0}
unfolding pick and_then require signed is_whole no_more as_term one_term filled in_front on_part parts comprehends named content at_record read_part read_question
reading = tt

-- "naming an absent number is 25" (document 02, E9): 255 is read, and judged then
any-number : read_question (20 ∷ 0 ∷ 14 ∷ 0 ∷ 4 ∷ 7 ∷ 0 ∷ 16 ∷ 0 ∷ 0 ∷ 0 ∷ 1 ∷ 0 ∷ 15 ∷ 0 ∷ 255 ∷ number 1) ≡ got (how_many 255)
unfolding reading
any-number = refl

three-terms : read_question (chosen 21 (number 5 ++ number 7)) ≡ got (record { monoid = sum; quals = qnil; head = app choice (tcons (truth true) (tcons (num (pos 5)) (tcons (num (pos 7)) tnil))) })
unfolding reading
three-terms = refl

-- another count is 22
two_terms : read_question (chosen 13 (number 5)) ≡ refused 22
unfolding reading
two_terms = refl

four-terms : read_question (chosen 29 (number 5 ++ (number 7 ++ number 9))) ≡ refused 22
unfolding reading
four-terms = refl

-- kind 21 of calendar 255 and a minute: any byte is a calendar's number
any-calendar : read_question (14 ∷ 0 ∷ 14 ∷ 0 ∷ 6 ∷ 9 ∷ 0 ∷ 21 ∷ 0 ∷ 255 ∷ number 5) ≡ got (record { monoid = some; quals = qnil; head = app (unlent 255) (tcons (num (pos 5)) tnil) })
unfolding reading
any-calendar = refl

-- without a minute, or without a byte, it is 22
no-minute : read_question (6 ∷ 0 ∷ 14 ∷ 0 ∷ 6 ∷ 1 ∷ 0 ∷ 21 ∷ 0 ∷ 0 ∷ []) ≡ refused 22
unfolding reading
no-minute = refl

no-calendar : read_question (5 ∷ 0 ∷ 14 ∷ 0 ∷ 6 ∷ 0 ∷ 0 ∷ 21 ∷ 0 ∷ []) ≡ refused 22
unfolding reading
no-calendar = refl
