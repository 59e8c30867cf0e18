-- The two directions between kinds 20 and 23, from bytes: each refusal, and their order (document 02, E10).
use mathlib.Core.Path.{◌≡◌, refl}
use mathlib.Core.List.{[], ◌∷◌, ◌++◌}
use Prim.Native.Nat.{ℕ}
use lib.ListN.{replicate}
use Rattle.spec_calculus.specs.Cases.{small}
use Rattle.spec_calculus.specs.Lists as Lists
use Rattle.spec_calculus.specs.Value as Value
use Rattle.spec_encoding.specs.Record.{Bytes}
use Rattle.spec_encoding.specs.Record as Record
use Rattle.spec_encoding.specs.Columns as Columns
use Rattle.spec_encoding.specs.Data as Data
use Rattle.spec_outcome.specs.Directions.{filled, is_alone, turned, table_to_columns, table_to_rows}

-- one cell x of table j of collection c, under a bound
abbrev cell : ℕ → ℕ → ℕ → ℕ → ℕ → Bytes
cell k j c bound x = 13 ∷ 0 ∷ k ∷ 0 ∷ j ∷ c ∷ 1 ∷ 1 ∷ 0 ∷ (small bound ++ small x)

unfoldable turning : Unit {0}
unfolding Lists.pick Value.as_int Value.nth Value.field_of Record.require Record.signed Record.is_whole Columns.folded Columns.unfolded Columns.above Columns.difference Columns.summed Columns.in_order Columns.bytes_by_columns Columns.bytes_by_rows Data.bounds_from Data.cells Data.rows_from Data.fits Data.table_of Data.content_by_columns Data.content_by_rows Data.to_columns Data.to_rows Data.table_by Data.bounds_fit Data.cells_within Data.rows_within Data.bounded filled is_alone turned table_to_columns table_to_rows
turning = tt

-- "A refusal changes no byte of it, an answer none behind the record."
answer : table_to_columns (cell 20 0 2 9 3) (replicate 18 7) ≡ record { number = 0; size = 17; buffer = cell 23 0 2 9 6 ++ (7 ∷ []) }
unfolding turning
answer = refl

back : table_to_rows (cell 23 0 2 9 6) (replicate 17 7) ≡ record { number = 0; size = 17; buffer = cell 20 0 2 9 3 }
unfolding turning
back = refl

short-target : table_to_columns (cell 20 0 2 9 3) (replicate 16 7) ≡ record { number = 52; size = 0; buffer = replicate 16 7 }
unfolding turning
short-target = refl

-- "a record cut short": nothing at all, too; "the other kind, or bytes behind the record, is 11", before 12
nothing : (table_to_columns [] []).number ≡ 11
unfolding turning
nothing = refl

other-kind : (table_to_columns (cell 23 0 2 9 6) (replicate 17 7)).number ≡ 11
unfolding turning
other-kind = refl

other-kind-back : (table_to_rows (cell 20 0 2 9 3) (replicate 17 7)).number ≡ 11
unfolding turning
other-kind-back = refl

byte-behind : (table_to_rows (cell 23 0 4 9 6 ++ (0 ∷ [])) (replicate 99 7)).number ≡ 11
unfolding turning
byte-behind = refl

-- the record's own refusals in their order, then 52
unfit : (table_to_columns (cell 20 8 4 1 2) []).number ≡ 12
unfolding turning
unfit = refl

above-seven : (table_to_columns (cell 20 8 2 1 2) []).number ≡ 50
unfolding turning
above-seven = refl

beyond : (table_to_columns (cell 20 7 2 1 2) []).number ≡ 43
unfolding turning
beyond = refl

-- 43 "by the cell": 5 is stored as 10
within : (table_to_rows (cell 23 0 2 5 10) []).number ≡ 52
unfolding turning
within = refl
