-- A table's description: the one word that the engine keeps of a table. Collection (2 bits), columns (4), rows (11), kind (1: 0 by rows, 1 by columns),
-- subset of rows (12), and above them the position of the table's first cell in the data. The subset has a bit for each of the first 12 rows that are
-- stored, the first row's the lowest, set where the row is left out; `rows` is how many are not. A table that is read has subset 0: all rows.
use Rattle.std.specs.Prelude.{◌≡◌, ℕ, zero, suc, ◌+◌, ◌-◌, ◌*◌, ◌/◌, ◌%◌, ◌^◌, ◌<◌, ◌≤◌, Bool, true, false, List, [], ◌∷◌, length, ℤ, pos, ◌==◌, nat_le, nat_lt, slice_index, slice_index_or, unsigned_abs}
use Rattle.spec_calculus.specs.Lists.{pick}
use Rattle.spec_calculus.specs.Syntax.{Collection, list, bag, set}
use Rattle.spec_calculus.specs.Value.{Values, vnil, vcons, num, rec, Tables, junk, as_int, field_of, kind_of, columns_of, bound_of, rows_of}
use Rattle.spec_encoding.specs.Record.{Bytes, four, signed}
use Rattle.spec_encoding.specs.Columns.{summed}
use Rattle.spec_encoding.specs.Data.{table_collection, table_columns, table_rows}

-- what one of each field counts for
abbrev pub one_column : ℕ
one_column = 4

abbrev pub one_row : ℕ
one_row = 64

abbrev pub one_kind : ℕ
one_kind = 131072

abbrev pub one_subset : ℕ
one_subset = 262144

abbrev pub one_position : ℕ
one_position = 1073741824

-- "Add kind 23, the same table rearranged: columns one after another" (document 02, E10)
unfoldable pub kind_bit : ℕ → ℕ
kind_bit k = pick (k == 23) 1 0

-- of the table with this content, of a record of kind k, whose bounds begin at p; its cells stand behind them
unfoldable pub description_of : ℕ → Bytes → ℕ → ℕ
description_of k c p = table_collection c + one_column * table_columns c + one_row * table_rows c + one_kind * kind_bit k + one_position * (p + 4 * table_columns c)

abbrev pub collection_in : ℕ → ℕ
collection_in w = w % one_column

abbrev pub columns_in : ℕ → ℕ
columns_in w = w / one_column % 16

abbrev pub rows_in : ℕ → ℕ
rows_in w = w / one_row % 2048

abbrev pub kind_in : ℕ → ℕ
kind_in w = w / one_kind % 2

abbrev pub subset_in : ℕ → ℕ
subset_in w = w / one_subset % 4096

abbrev pub position_in : ℕ → ℕ
position_in w = w / one_position

-- all rows: no subset of them
abbrev pub full_in : ℕ → Bool
full_in w = subset_in w == 0

-- "Data is 0 to 8 such records", numbered "0 to 7" (document 02, E9)
abbrev pub most_tables : ℕ
most_tables = 8

-- the description of table k, scratch word 1 + k; 0, which has no columns and no rows, where there is no such table
unfoldable pub table_in : List ℕ → ℕ → ℕ
table_in s k = pick (nat_lt k most_tables) (slice_index s (suc k)) 0

-- whether there is a table k: its word has columns
unfoldable pub present_in : List ℕ → ℕ → Bool
present_in s k = nat_le 1 (columns_in (table_in s k))

-- that of table n - 1
unfoldable pub description_in : List ℕ → ℕ → ℕ
description_in s zero = 0
description_in s (suc k) = table_in s k

-- the bound of column c, which stands before the first cell; 0 outside
unfoldable pub bound_in : Bytes → ℕ → ℕ → ℕ
bound_in d w c =
    pick (nat_lt c (columns_in w)) (pick (nat_le (4 * columns_in w) (position_in w)) (four d (position_in w - 4 * columns_in w + 4 * c)) 0) 0

-- where the cell in row r and column c stands, by rows; where the numbers stored for column c begin, by columns
abbrev pub place_in : ℕ → ℕ → ℕ → ℕ
place_in w r c = position_in w + 4 * (columns_in w * r + c)

abbrev pub column_place_in : ℕ → ℕ → ℕ
column_place_in w c = position_in w + 4 * (rows_in w * c)

-- the number of that cell's four bytes, by either, of all rows that are stored
unfoldable pub stored_word_in : Bytes → ℕ → ℕ → ℕ → ℕ
stored_word_in d w r c = pick (kind_in w == 1) (summed d (column_place_in w c) (suc r)) (four d (place_in w r c))

-- ---- a subset of the rows (document 02, E12): m has a bit for each of n rows, set where the row is left out
abbrev pub subset_rows : ℕ
subset_rows = 12

-- how many are left out
unfoldable pub ones_in : ℕ → ℕ → ℕ
ones_in zero m = 0
ones_in (suc n) m = m % 2 + ones_in n (m / 2)

-- which of the n rows is row r of those that are not: the first where that is not left out and r is 0, else one behind
unfoldable pub kept_row : ℕ → ℕ → ℕ → ℕ
kept_row zero m r = 0
kept_row (suc n) m r = pick (nat_lt r (1 - m % 2)) 0 (suc (kept_row n (m / 2) (r - (1 - m % 2))))

-- the rows that are not
unfoldable pub kept : {A : Type 0} → ℕ → List A → List A
kept m [] = []
kept m (a ∷ l) = pick (m % 2 == 0) (a ∷ kept (m / 2) l) (kept (m / 2) l)

-- the description of all rows that are stored; that of the rows that m does not leave out, where w has them all
unfoldable pub whole_in : ℕ → ℕ
whole_in w = w - one_subset * subset_in w + one_row * ones_in subset_rows (subset_in w)

unfoldable pub without_in : ℕ → ℕ → ℕ
without_in w m = w + one_subset * m - one_row * ones_in subset_rows m

-- the number of the four bytes of the cell in row r, of the rows that w does not leave out, and column c
unfoldable pub word_in : Bytes → ℕ → ℕ → ℕ → ℕ
word_in d w r c = pick (full_in w) (stored_word_in d w r c) (stored_word_in d (whole_in w) (kept_row subset_rows (subset_in w) r) c)

-- that cell; 0 outside
unfoldable pub cell_in : Bytes → ℕ → ℕ → ℕ → ℤ
cell_in d w r c = pick (nat_lt r (rows_in w)) (pick (nat_lt c (columns_in w)) (signed (word_in d w r c)) (pos 0)) (pos 0)

-- a table of all its rows whose last cell is not behind the data
unfoldable pub placed_in : Bytes → ℕ → Bool
placed_in d w = pick (full_in w) (nat_le (place_in w (rows_in w) 0) (length d)) false

-- What every cell is stored as stands in the data, by rows or by columns: all that a loop over cells asks of a table.
pub record Placed (d : Bytes) (w : ℕ) : Type 0 where
  pub full : full_in w ≡ true
  pub by_rows : {r c : ℕ} → r < rows_in w → c < columns_in w → place_in w r c + 4 ≤ length d
  pub by_columns : {r c : ℕ} → r < rows_in w → c < columns_in w → column_place_in w c + 4 * r + 4 ≤ length d
  pub low : {r c : ℕ} → r < rows_in w → c < columns_in w → word_in d w r c < 2 ^ 32
  pub cell : {r c : ℕ} → r < rows_in w → c < columns_in w → cell_in d w r c ≡ signed (word_in d w r c)

pub record PlacedPost (d : Bytes) (w : ℕ) (r : Bool) : Type 0 where
  pub is : r ≡ placed_in d w
  pub cells : r ≡ true → Placed d w

-- n cells of row r, from column c on
unfoldable pub cells_in : Bytes → ℕ → ℕ → ℕ → ℕ → Values
cells_in d w r c zero = vnil
cells_in d w r c (suc n) = vcons (num (cell_in d w r c)) (cells_in d w r (suc c) n)

-- "collection (1 list, 2 bag, 3 set)"
unfoldable pub collection_number : Collection → ℕ
collection_number list = 1
collection_number bag = 2
collection_number set = 3

-- w describes table k of T, whose bytes are in d: "columns (1 to 8)", "rows (0 to 1,024)"
pub record Describes (d : Bytes) (T : Tables) (k w : ℕ) : Type 0 where
  pub collection : collection_in w ≡ collection_number (kind_of T k)
  pub columns : columns_in w ≡ columns_of T k
  pub most_columns : columns_of T k ≤ 8
  pub rows : rows_in w ≡ length (rows_of T k)
  pub most_rows : length (rows_of T k) ≤ 1024
  pub row : (r : ℕ) → r < length (rows_of T k) → slice_index_or (rows_of T k) r junk ≡ rec (cells_in d w r 0 (columns_of T k))
  pub cell : (r c : ℕ) → r < length (rows_of T k) → c < columns_of T k → cell_in d w r c ≡ as_int (field_of c (slice_index_or (rows_of T k) r junk))
  pub bound : (c : ℕ) → bound_in d w c ≡ bound_of T k c
  pub most_bound : (c : ℕ) → bound_of T k c ≤ 2 ^ 31
  pub within : (r c : ℕ) → unsigned_abs (cell_in d w r c) ≤ bound_of T k c

-- "Reading a cell promises that bound" (document 02, E5); whatever w is, "a cell 2^31"
pub record CellPost (d : Bytes) (w r c : ℕ) (z : ℤ) : Type 0 where
  pub is : z ≡ cell_in d w r c
  pub small : unsigned_abs z ≤ 2 ^ 31
  pub within : (T : Tables) (k : ℕ) → Describes d T k w → unsigned_abs z ≤ bound_of T k c

-- the bound that the column declares
pub record BoundPost (d : Bytes) (w c b : ℕ) : Type 0 where
  pub is : b ≡ bound_in d w c
  pub low : b < 2 ^ 32
  pub declared : (T : Tables) (k : ℕ) → Describes d T k w → b ≡ bound_of T k c
