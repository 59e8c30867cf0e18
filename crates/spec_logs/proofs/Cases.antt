-- Two logs paired, from the readings of document 02, E11; the call from bytes: an answer, each refusal, and their order.
use mathlib.Core.Path.{◌≡◌, refl}
use mathlib.Core.List.{List, [], ◌∷◌, ◌++◌}
use Prim.Native.Nat.{ℕ}
use lib.ListN.{replicate}
use lib.IntN.{pos, negsuc}
use Rattle.spec_calculus.specs.Cases.{small}
use Rattle.spec_calculus.specs.Lists as Lists
use Rattle.spec_calculus.specs.Value as Value
use Rattle.spec_encoding.specs.Record.{Bytes}
use Rattle.spec_encoding.specs.Record as Record
use Rattle.spec_encoding.specs.Columns as Columns
use Rattle.spec_encoding.specs.Data as Data
use Rattle.spec_outcome.specs.Directions as Directions
use Rattle.spec_logs.specs.Logs.{Log, never_falls, Pair, Paired, near, paired_from, paired}
use Rattle.spec_logs.specs.Records.{list_content, list_record, records}
use Rattle.spec_logs.specs.PairLogs.{log_of, is_list, is_log, paired_logs, pair_logs}

-- ---- the procedure
abbrev pair : ℕ → ℕ → Pair
pair i j = record { first = i; second = j }

abbrev told : List Pair → List ℕ → List ℕ → Paired
told p f s = record { pairs = p; first_singles = f; second_singles = s }

abbrev seconds : ℕ → ℕ → ℕ → Log
seconds a b c = pos a ∷ pos b ∷ pos c ∷ []

-- the earliest, also where a later one is nearer
all-pair : paired 10 (seconds 0 10 20) (seconds 10 20 30) ≡ told (pair 0 0 ∷ pair 1 1 ∷ pair 2 2 ∷ []) [] []
unfolding near paired_from Lists.pick
all-pair = refl

earliest : paired 5 (pos 0 ∷ pos 5 ∷ []) (pos 5 ∷ []) ≡ told (pair 0 0 ∷ []) (1 ∷ []) []
unfolding near paired_from Lists.pick
earliest = refl

exact : paired 0 (pos 0 ∷ pos 10 ∷ []) (pos 10 ∷ []) ≡ told (pair 1 0 ∷ []) (0 ∷ []) []
unfolding near paired_from Lists.pick
exact = refl

-- differences do not fit 32 bits
ends : paired 3600 (negsuc 2147483647 ∷ pos 2147483647 ∷ []) (pos 2147483647 ∷ []) ≡ told (pair 1 0 ∷ []) (0 ∷ []) []
unfolding near paired_from Lists.pick
ends = refl

rest-single : paired 0 [] (seconds 1 2 3) ≡ told [] [] (0 ∷ 1 ∷ 2 ∷ [])
unfolding near paired_from Lists.pick
rest-single = refl

-- ---- the call
-- a table of collection c with two rows of one column
abbrev log : ℕ → ℕ → ℕ → ℕ → Bytes
log n c a b = 17 ∷ 0 ∷ 20 ∷ 0 ∷ n ∷ c ∷ 1 ∷ 2 ∷ 0 ∷ (small 99 ++ (small a ++ small b))

unfoldable pairing : Unit {0}
unfolding Lists.pick Lists.bind_l Value.as_int Value.nth Value.field_of Value.kind_of Value.columns_of Value.is_there Value.rows_of Record.and_then Record.require Record.signed Record.is_whole Columns.summed Columns.unfolded Columns.in_order Columns.bytes_by_rows Data.bounds_from Data.cells Data.rows_from Data.fits Data.table_of Data.content_by_rows Data.table_by Data.bounds_fit Data.cells_within Data.rows_within Data.bounded Data.tables_from Data.read_data Directions.filled never_falls near paired_from list_content list_record records log_of is_list is_log paired_logs pair_logs
pairing = tt

-- 0 and 9 against 9 and 12, tolerance 3: 59 bytes, and none behind them
answer : pair_logs (log 0 1 0 9 ++ log 1 1 9 12) 0 1 3 (replicate 60 7) ≡ record {
  number = 0;
  size = 59;
  buffer = 21 ∷ 0 ∷ 20 ∷ 0 ∷ 5 ∷ 1 ∷ 2 ∷ 1 ∷ 0 ∷ 255 ∷ 3 ∷ 0 ∷ 0 ∷ 255 ∷ 3 ∷ 0 ∷ 0 ∷ 1 ∷ 0 ∷ 0 ∷ 0 ∷ 0 ∷ 0 ∷ 0 ∷ 0 ∷ 13 ∷ 0 ∷ 20 ∷ 0 ∷ 6 ∷ 1 ∷ 1 ∷ 1 ∷ 0 ∷ 255 ∷ 3 ∷ 0 ∷ 0 ∷ 0 ∷ 0 ∷ 0 ∷ 0 ∷ 13 ∷ 0 ∷ 20 ∷ 0 ∷ 7 ∷ 1 ∷ 1 ∷ 1 ∷ 0 ∷ 255 ∷ 3 ∷ 0 ∷ 0 ∷ 1 ∷ 0 ∷ 0 ∷ 0 ∷ 7 ∷ [];
}
unfolding pairing
answer = refl

short-target : pair_logs (log 0 1 0 9 ++ log 1 1 9 12) 0 1 3 (replicate 58 7) ≡ record { number = 52; size = 0; buffer = replicate 58 7 }
unfolding pairing
short-target = refl

-- a log against itself is two list tables
itself : (pair_logs (log 0 1 0 9) 0 0 0 (replicate 59 7)).size ≡ 59
unfolding pairing
itself = refl

absent : (pair_logs (log 0 1 0 9) 0 8 0 []).number ≡ 53
unfolding pairing
absent = refl

not-a-list : (pair_logs (log 0 1 0 9 ++ log 1 2 0 9) 0 1 0 []).number ≡ 53
unfolding pairing
not-a-list = refl

-- 53, 54, 52 "in that order, after the data"
falls-first : (pair_logs (log 0 1 9 0) 0 0 9999 []).number ≡ 53
unfolding pairing
falls-first = refl

tolerance-then : (pair_logs (log 0 1 0 9) 0 0 3601 []).number ≡ 54
unfolding pairing
tolerance-then = refl

data-first : (pair_logs (log 8 1 9 0) 0 0 9999 []).number ≡ 50
unfolding pairing
data-first = refl
