-- The kinds of nodes, as the code has them; what makes one argument of two numbers.
use Rattle.std.specs.Prelude.{ℕ}

abbrev pub number_kind : ℕ
number_kind = 1

abbrev pub truth_kind : ℕ
truth_kind = 2

abbrev pub row_kind : ℕ
row_kind = 3

abbrev pub cell_kind : ℕ
cell_kind = 4

abbrev pub record_kind : ℕ
record_kind = 5

abbrev pub binary_kind : ℕ
binary_kind = 6

abbrev pub negation_kind : ℕ
negation_kind = 7

abbrev pub comprehension_kind : ℕ
comprehension_kind = 8

abbrev pub generator_kind : ℕ
generator_kind = 9

abbrev pub condition_kind : ℕ
condition_kind = 10

abbrev pub operator_kind : ℕ
operator_kind = 11

-- the second of two numbers is below this
abbrev pub pair_span : ℕ
pair_span = 1024
