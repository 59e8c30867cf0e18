-- Kind 23 as bytes (document 02, E10): both directions, 43 by the cells, the refusals that name kind 20.
use mathlib.Core.Path.{◌≡◌, refl}
use mathlib.Core.List.{[], ◌∷◌, ◌++◌}
use Prim.Native.Nat.{ℕ, ◌+◌, ◌*◌}
use lib.IntN.{pos, negsuc}
use Rattle.spec_calculus.specs.Lists.{pick}
use Rattle.spec_calculus.specs.Syntax.{list}
use Rattle.spec_calculus.specs.Value.{vnil, vcons, rec, as_int, nth, field_of, columns_of, is_there}
use Rattle.spec_calculus.specs.Value as Va
use Rattle.spec_calculus.specs.Cases.{small, table_zero}
use Rattle.spec_encoding.specs.Record.{Bytes, refused, got, require, signed, is_whole}
use Rattle.spec_encoding.specs.Columns.{folded, unfolded, above, difference, summed, in_order, bytes_by_columns, bytes_by_rows}
use Rattle.spec_encoding.specs.Data.{bounds_from, cells, rows_from, fits, table_of, content_by_columns, content_by_rows, to_columns, to_rows, table_by, bounds_fit, cells_within, rows_within, bounded, tables_from, read_data}

unfoldable reading-data : Unit {0}
unfolding pick as_int nth field_of columns_of is_there require signed is_whole unfolded summed in_order bytes_by_rows bounds_from cells rows_from fits table_of content_by_rows table_by bounds_fit cells_within rows_within bounded tables_from read_data
reading-data = tt

unfoldable arranging : Unit {0}
unfolding reading-data folded above difference bytes_by_columns content_by_columns to_columns to_rows
arranging = tt

-- lists of one column under 2^31
abbrev of_rows : ℕ → ℕ → Bytes → Bytes
of_rows n k l = (9 + 4 * n) ∷ 0 ∷ k ∷ 0 ∷ 0 ∷ 1 ∷ 1 ∷ n ∷ 0 ∷ 0 ∷ 0 ∷ 0 ∷ 128 ∷ l

-- "each cell replaced by its difference from the cell above (the first from 0)": 5, 7, 4
differences : to_columns (of_rows 3 20 (small 5 ++ (small 7 ++ small 4))) ≡ of_rows 3 23 (small 10 ++ (small 4 ++ small 5))
unfolding arranging
differences = refl

-- "the difference wrapping at 32 bits, then folded": 2^31 - 1, then -2^31
wraps : to_columns (of_rows 2 20 (255 ∷ 255 ∷ 255 ∷ 127 ∷ 0 ∷ 0 ∷ 0 ∷ 128 ∷ [])) ≡ of_rows 2 23 (254 ∷ 255 ∷ 255 ∷ 255 ∷ small 2)
unfolding arranging
wraps = refl

-- "columns one after another", each from 0 on; "It has the header and bounds of kind 20": rows (1, 2), (3, 5) under 7 and 9
abbrev of_two : ℕ → Bytes → Bytes
of_two k l = 29 ∷ 0 ∷ k ∷ 0 ∷ 3 ∷ 2 ∷ 2 ∷ 2 ∷ 0 ∷ (small 7 ++ (small 9 ++ l))

two-columns : to_columns (of_two 20 (small 1 ++ (small 2 ++ (small 3 ++ small 5)))) ≡ of_two 23 (small 2 ++ (small 4 ++ (small 4 ++ small 6)))
unfolding arranging
two-columns = refl

two-rows : to_rows (of_two 23 (small 2 ++ (small 4 ++ (small 4 ++ small 6)))) ≡ of_two 20 (small 1 ++ (small 2 ++ (small 3 ++ small 5)))
unfolding arranging
two-rows = refl

-- "each cell's magnitude must not exceed it": 300, -300 under 300; 2^31 - 1, -2^31 under 2^31 - 1, where the difference is 1
abbrev under : Bytes → Bytes → Bytes
under b l = 17 ∷ 0 ∷ 23 ∷ 0 ∷ 0 ∷ 1 ∷ 1 ∷ 2 ∷ 0 ∷ (b ++ l)

by-cells : read_data (under (44 ∷ 1 ∷ 0 ∷ 0 ∷ []) (88 ∷ 2 ∷ 0 ∷ 0 ∷ 175 ∷ 4 ∷ 0 ∷ 0 ∷ []))
    ≡ got (table_zero (record { kind = list; columns = 1; bounds = 300 ∷ []; rows = rec (vcons (Va.num (pos 300)) vnil) ∷ rec (vcons (Va.num (negsuc 299)) vnil) ∷ [] }))
unfolding reading-data
by-cells = refl

beyond : read_data (under (255 ∷ 255 ∷ 255 ∷ 127 ∷ []) (254 ∷ 255 ∷ 255 ∷ 255 ∷ small 2)) ≡ refused 43
unfolding reading-data
beyond = refl

-- "refusals .. take kind 23 wherever they name 20": neither 20 nor 23; one number in both kinds; one cell short
neither : read_data (of_rows 1 22 (small 1)) ≡ refused 11
unfolding reading-data
neither = refl

in_both : read_data (of_rows 1 20 (small 1) ++ of_rows 1 23 (small 2)) ≡ refused 51
unfolding reading-data
in_both = refl

short : read_data (13 ∷ 0 ∷ 23 ∷ 0 ∷ 0 ∷ 2 ∷ 1 ∷ 2 ∷ 0 ∷ (small 9 ++ small 2)) ≡ refused 12
unfolding reading-data
short = refl
