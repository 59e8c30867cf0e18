-- Values that are written as one word.
use mathlib.Core.Path.{◌≡◌, refl}
use mathlib.Core.List.{[], ◌∷◌}
use mathlib.Core.Bool.{Bool, true, false}
use lib.IntN.{ℤ}
use Rattle.spec_calendar.specs.Hours.{open_at}
use Rattle.spec_calculus.specs.Syntax.{Bin, plus, minus, times, equal, less, and, or, Fun, choice, is_open}
use Rattle.spec_calculus.specs.Value.{Value, Values, num, truth, rec, coll, nth, as_int, as_bool, bin_v, scalar, choice_v, app_v}
use Rattle.spec_outcome.specs.WrittenForm.{truth_word}
use Rattle.form_arith.specs.declared.Sort.{Sort}
use Rattle.form_arith.specs.declared.Sort.TheVariants as So
use Rattle.form_arith.specs.WordSorts.{as_word, result_sort}
use Rattle.answer_writer.specs.LaidWords.{cut_words}

-- a value that is one word
abbrev pub OneWord : Sort → Value → Type 0
OneWord k v = cut_words v ≡ as_word k v ∷ []

pub one-num : (z : ℤ) → OneWord So.Number (num z)
unfolding cut_words as_int
one-num z = refl

pub one_truth : (b : Bool) → OneWord So.Truth (truth b)
unfolding cut_words as_bool truth_word
one_truth true = refl
one_truth false = refl

pub one-bin : (o : Bin) (v w : Value) → OneWord (result_sort o) (bin_v o v w)
unfolding bin_v
one-bin plus v w = one-num _
one-bin minus v w = one-num _
one-bin times v w = one-num _
one-bin equal v w = one_truth _
one-bin less v w = one_truth _
one-bin and v w = one_truth _
one-bin or v w = one_truth _

one-scalar : (v : Value) → OneWord So.Either (scalar v)
unfolding cut_words scalar truth_word
one-scalar (num z) = refl
one-scalar (truth true) = refl
one-scalar (truth false) = refl
one-scalar (rec vs) = refl
one-scalar (coll vs) = refl

open-scalar : (b : Bool) → OneWord So.Either (truth b)
unfolding scalar
open-scalar b = one-scalar (truth b)

pub one-app : (f : Fun) (vs : Values) → OneWord So.Either (app_v f vs)
unfolding app_v choice_v
one-app choice vs = one-scalar _
one-app (is_open n c) vs = open-scalar (open_at c (as_int (nth 0 vs)))
