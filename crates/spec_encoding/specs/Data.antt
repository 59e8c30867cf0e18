-- "Data is 0 to 8 such records"; a table's number "is written as one byte, 0 to 7, ahead of the collection byte. Records may stand in any order and numbers may
-- be skipped" (document 02, E9).
use Rattle.std.specs.Prelude.{◌≡◌, List, [], ◌∷◌, ◌++◌, Bool, true, not, ◌&&◌, ◌||◌, ℕ, zero, suc, ◌+◌, ◌*◌, ◌^◌, ◌<◌, eqb, leb, length, get_or, take, drop, nat_abs}
use Rattle.std.proofs.Math.ListN as Li
use Rattle.spec_calculus.specs.Lists.{pick}
use Rattle.spec_calculus.specs.Syntax.{Collection, list, bag, set}
use Rattle.spec_calculus.specs.Value.{Value, Values, vnil, vcons, num, rec, as_int, field_of, Table, Tables, no_tables, is_there}
use Rattle.spec_encoding.specs.Record.{Bytes, Result, refused, got, require, byte, two, four, signed, length_of, kind_of, content_of, behind, is_whole}
use Rattle.spec_encoding.specs.Columns.{bytes_by_columns, bytes_by_rows}

-- "collection (1 list, 2 bag, 3 set)"
abbrev pub collection_of : ℕ → Collection
collection_of k = get_or (list ∷ list ∷ bag ∷ set ∷ []) k list

-- "one four-byte unsigned bound per column" (document 02, E5)
unfoldable pub bounds_from : ℕ → Bytes → List ℕ
bounds_from zero l = []
bounds_from (suc n) l = four l 0 ∷ bounds_from n (drop 4 l)

-- "then the cells row by row, signed, four bytes each"
unfoldable pub cells : ℕ → Bytes → Values
cells zero l = vnil
cells (suc n) l = vcons (num (signed (four l 0))) (cells n (drop 4 l))

unfoldable pub rows_from : ℕ → ℕ → Bytes → List Value
rows_from columns zero l = []
rows_from columns (suc n) l = rec (cells columns l) ∷ rows_from columns n (drop (4 * columns) l)

-- neither "a record cut short" nor "not kind 20", which are 11; "refusals .. take kind 23 wherever they name 20" (document 02, E10): a whole kind 20 or 23
abbrev pub is_kind : ℕ → Bool
is_kind k = eqb k 20 || eqb k 23

abbrev pub is_table : Bytes → Bool
is_table l = is_whole l && is_kind (kind_of l)

-- the head of a table's content: "The number is written as one byte .. ahead of the collection byte" (document 02, E9); "one byte of collection .., one byte of
-- columns .., two bytes of rows"; behind them the bounds (E5)
abbrev pub table_number : Bytes → ℕ
table_number c = byte c 0

abbrev pub table_collection : Bytes → ℕ
table_collection c = byte c 1

abbrev pub table_columns : Bytes → ℕ
table_columns c = byte c 2

abbrev pub table_rows : Bytes → ℕ
table_rows c = two c 3

abbrev pub bounds_at : ℕ
bounds_at = 5

-- "12: collection, columns or rows outside their ranges, or a length that does not match"; the length is that of number (document 02, E9), bounds (E5) and cells
unfoldable pub fits : Bytes → Bool
fits c = leb bounds_at (length c) && (leb 1 (table_collection c) && (leb (table_collection c) 3 &&
    (leb 1 (table_columns c) && (leb (table_columns c) 8 && (leb (table_rows c) 1024 &&
    eqb (length c) (bounds_at + 4 * table_columns c + 4 * (table_columns c * table_rows c)))))))

-- "one byte of collection .., one byte of columns .., two bytes of rows .., then the cells"; "Between its row count and its cells a table record now
-- holds one four-byte unsigned bound per column" (document 02, E5)
unfoldable pub table_of : Bytes → Table
table_of c = record {
  kind = collection_of (table_collection c);
  columns = table_columns c;
  bounds = bounds_from (table_columns c) (drop bounds_at c);
  rows = rows_from (table_columns c) (table_rows c) (drop (bounds_at + 4 * table_columns c) c);
}

-- "kind 23, the same table rearranged .. It has the header and bounds of kind 20 and the same length" (document 02, E10): the content by columns
-- of a content by rows, and the content by rows of one by columns
abbrev pub cells_at : Bytes → ℕ
cells_at c = bounds_at + 4 * table_columns c

unfoldable pub content_by_columns : Bytes → Bytes
content_by_columns c = take (cells_at c) c ++ bytes_by_columns (table_columns c) (table_rows c) c (cells_at c)

unfoldable pub content_by_rows : Bytes → Bytes
content_by_rows c = take (cells_at c) c ++ bytes_by_rows (table_columns c) (table_rows c) c (cells_at c)

-- the same of a whole record: nothing else but the kind is another
abbrev pub with_kind : ℕ → Bytes → Bytes → Bytes
with_kind k l c = byte l 0 ∷ byte l 1 ∷ k ∷ 0 ∷ c

unfoldable pub to_columns : Bytes → Bytes
to_columns l = with_kind 23 l (content_by_columns (content_of l))

unfoldable pub to_rows : Bytes → Bytes
to_rows l = with_kind 20 l (content_by_rows (content_of l))

-- every byte is one; and the records that a direction is for: of kind k, nothing behind it, and such that 12 lets it pass
abbrev pub Octets : Bytes → Type 0
Octets l = (j : ℕ) → byte l j < 256

pub record TableRecord (k : ℕ) (l : Bytes) : Type 0 where
  pub octets : Octets l
  pub kind : kind_of l ≡ k
  pub alone : length l ≡ 4 + length_of l
  pub fit : fits (content_of l) ≡ true

-- "The engine reads either kind, with the same answers": the content by rows, and the table, of a record of kind k with content c
abbrev pub content_by : ℕ → Bytes → Bytes
content_by k c = pick (eqb k 23) (content_by_rows c) c

unfoldable pub table_by : ℕ → Bytes → Table
table_by k c = table_of (content_by k c)

-- a bound is "at most 2^31"
unfoldable pub bounds_fit : List ℕ → Bool
bounds_fit [] = true
bounds_fit (b ∷ bs) = leb b (2 ^ 31) && bounds_fit bs

-- "each cell's magnitude must not exceed it": the cells of a row from column i on, under the bounds of these columns; then those of each row
unfoldable pub cells_within : ℕ → List ℕ → Value → Bool
cells_within i [] v = true
cells_within i (b ∷ bs) v = leb (nat_abs (as_int (field_of i v))) b && cells_within (suc i) bs v

unfoldable pub rows_within : List ℕ → List Value → Bool
rows_within bs [] = true
rows_within bs (v ∷ l) = cells_within 0 bs v && rows_within bs l

-- neither "a bound over 2^31" nor "a cell beyond its column's", which are 43 (document 02, E5)
unfoldable pub bounded : Table → Bool
bounded t = bounds_fit t.bounds && rows_within t.bounds t.rows

-- n more records may follow those of the tables T: "13: a ninth record"; "11: a record cut short or not kind 20"; "12: ..". "Order: .. the data,
-- earliest record first, 13 before 11 before 12."; "50, a number above 7; 51, a number already used; both at their record, after 12 and before 43, 50 first"
-- (document 02, E9); "43, .. at the same record, after 12" (E5): by the cells that a kind 23 stands for
unfoldable pub tables_from : ℕ → Tables → Bytes → Result Tables
tables_from zero T [] = got T
tables_from zero T (b ∷ l) = refused 13
tables_from (suc n) T [] = got T
tables_from (suc n) T (b ∷ l) =
    let r = b ∷ l in
    let c = content_of r in
    let t = table_by (kind_of r) c in
    require 11 (is_table r)
    (require 12 (fits c)
    (require 50 (leb (table_number c) 7)
    (require 51 (not (is_there T (table_number c)))
    (require 43 (bounded t)
    (tables_from n (Li.set T (table_number c) t) (behind r))))))

-- "Tables that keep these rules, no table at all included, are well formed": the data that this does not refuse
unfoldable pub read_data : Bytes → Result Tables
read_data l = tables_from 8 no_tables l
