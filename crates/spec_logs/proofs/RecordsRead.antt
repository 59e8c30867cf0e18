-- The three records are read back as three well formed tables: the pairs, the singles of the first log, the singles of the second.
use mathlib.Core.Path.{◌≡◌, refl, sym, ap, ap₂, ◌∙◌}
use mathlib.Core.List.{List, [], ◌∷◌, ◌++◌, map, append-nil}
use mathlib.Core.Bool.{Bool, true, false, not, ◌&&◌}
use Prim.Native.Nat.{ℕ, zero, suc, ◌+◌, ◌*◌, ◌/◌, ◌%◌, ◌≤◌, ◌<◌}
use native.Mathlib.Nat.{le_trans, mul-le-mul_left, mul-le-mul_right}
use native.Mathlib.Omega.{arith}
use borrow.Author.Tests.{le-leb, lt-ltb, eq-eqb}
use lib.Dec.{leb, eqb}
use lib.ListN.{length, set, drop, replicate, length-replicate, length-map}
use lib.Seq.{drop_at}
use lib.IntN.{pos, nat_abs}
use Rattle.spec_calculus.specs.Lists.{pick, bind_l}
use Rattle.spec_calculus.specs.Syntax.{list}
use Rattle.spec_calculus.specs.Value.{Value, vcons, num, rec, from_list, as_int, nth, field_of, Table, Tables, columns_of, is_there, no_tables}
use Rattle.spec_calculus.proofs.Lists.{All}
use Rattle.spec_encoding.specs.Record.{Bytes, got, require, signed}
use Rattle.spec_encoding.specs.Data.{bounds_from, cells, rows_from, table_rows, fits, table_of, table_by, bounds_fit, cells_within, rows_within, bounded, tables_from, read_data}
use Rattle.spec_encoding.proofs.Columns.{four-of}
use Rattle.spec_outcome.proofs.WholeRecord.{next, reads}
use Rattle.spec_logs.specs.Logs.{Log, Pair, Paired, paired}
use Rattle.spec_logs.specs.Pairing.{Rising}
use Rattle.spec_logs.specs.Records.{pair_row, single_row, two_bytes, list_content, list_record, records, position_table, paired_tables}
use Rattle.spec_logs.proofs.OwnPairs.{in_order, counts-from}
use Rattle.spec_logs.proofs.RecordsLength.{row_bytes, cell_bytes, row-length, content-length}

-- ---- positions, four bytes each, and read again
-- a row of w positions
pub record Row (w : ℕ) (r : List ℕ) : Type 0 where
  pub width : length r ≡ w
  pub small : All (λ k. k ≤ 1023) r

abbrev position : ℕ → Value
position k = num (pos k)

signed-small : (k : ℕ) → k ≤ 1023 → signed k ≡ pos k
unfolding signed
signed-small k h = rw (lt-ltb k 0x80000000 (omega arith), signed) refl

cells-read : (r : List ℕ) (d : Bytes) → All (λ k. k ≤ 1023) r → cells (length r) (row_bytes r ++ d) ≡ from_list (map position r)
unfolding bind_l cells
cells-read [] d h = refl
cells-read (k ∷ r) d h = ap₂ (λ z v. vcons (num z) v) (ap signed (four-of k (omega (arith, h.0))) ∙ signed-small k h.0) (cells-read r d h.1)

rows-read : (w : ℕ) (rows : List (List ℕ)) → All (Row w) rows → rows_from w (length rows) (cell_bytes rows) ≡ map (λ r. rec (from_list (map position r))) rows
unfolding bind_l rows_from
rows-read w [] h = refl
rows-read w (r ∷ rows) h =
    ap₂ (λ v l. rec v ∷ l)
    (ap (λ (n : ℕ). cells n (row_bytes r ++ cell_bytes rows)) (sym h.0.width) ∙ cells-read r (cell_bytes rows) h.0.small)
    (ap (rows_from w (length rows)) (drop_at (row_bytes r) (cell_bytes rows) (4 * w) (row-length r ∙ ap (λ (n : ℕ). 4 * n) h.0.width)) ∙ rows-read w rows h.1)

bounds-read : (w : ℕ) (d : Bytes) → bounds_from w (row_bytes (replicate w 1023) ++ d) ≡ replicate w 1023
unfolding bind_l bounds_from
bounds-read zero d = refl
bounds-read (suc w) d = ap (λ l. 1023 ∷ l) (bounds-read w d)

-- ---- every position is within its bound
bounds-fit : (w : ℕ) → bounds_fit (replicate w 1023) ≡ true
unfolding bounds_fit
bounds-fit zero = refl
bounds-fit (suc w) = bounds-fit w

field-small : (r : List ℕ) → All (λ k. k ≤ 1023) r → (i : ℕ) → nat_abs (as_int (nth i (from_list (map position r)))) ≤ 1023
unfolding nth as_int
field-small [] h i = omega arith
field-small (k ∷ r) h zero = h.0
field-small (k ∷ r) h (suc i) = field-small r h.1 i

row_within : (r : List ℕ) → All (λ k. k ≤ 1023) r → (i w : ℕ) → cells_within i (replicate w 1023) (rec (from_list (map position r))) ≡ true
unfolding cells_within field_of
row_within r h i zero = refl
row_within r h i (suc w) = rw (le-leb (nat_abs (as_int (nth i (from_list (map position r))))) 1023 (field-small r h i)) (row_within r h (suc i) w)

rows-within : (w : ℕ) (rows : List (List ℕ)) → All (Row w) rows → rows_within (replicate w 1023) (map (λ r. rec (from_list (map position r))) rows) ≡ true
unfolding rows_within
rows-within w [] h = refl
rows-within w (r ∷ rows) h = rw (row_within r h.0.small 0 w) (rows-within w rows h.1)

table-bounded : (w : ℕ) (rows : List (List ℕ)) → All (Row w) rows → bounded (position_table w rows) ≡ true
unfolding bounded
table-bounded w rows h = rw (bounds-fit w) (rows-within w rows h)

-- ---- one record
widths : (w : ℕ) (rows : List (List ℕ)) → All (Row w) rows → All (λ r. length r ≡ w) rows
widths w [] h = tt
widths w (r ∷ rows) h = (h.0.width, widths w rows h.1)

five-hold : (a b c d e : Bool) → a ≡ true → b ≡ true → c ≡ true → d ≡ true → e ≡ true → a && (b && (c && (d && e))) ≡ true
five-hold a b c d e p q r s t = rw (p, q, r, s, t) refl

-- a table of at most 1,024 rows
module _ (n w : ℕ) (rows : List (List ℕ)) (named : n ≤ 7) (least : 1 ≤ w) (most : w ≤ 8) (few : length rows ≤ 1024) (h : All (Row w) rows) where
  abbrev c : Bytes
  c = list_content n w rows

  count-read : table_rows c ≡ length rows
  unfolding list_content
  count-read = omega (arith, few)

  content-long : length c ≡ 5 + 4 * w + 4 * (w * table_rows c)
  content-long = content-length n w rows (widths w rows h) ∙ ap (λ (k : ℕ). 5 + 4 * w + 4 * (w * k)) (sym count-read)

  content-fits : fits c ≡ true
  unfolding fits list_content
  content-fits =
      five-hold (leb 5 (length c)) (leb 1 w) (leb w 8) (leb (table_rows c) 1024) (eqb (length c) (5 + 4 * w + 4 * (w * table_rows c)))
      (le-leb 5 (length c) (omega (arith, content-long))) (le-leb 1 w least) (le-leb w 8 most) (le-leb (table_rows c) 1024 (omega (arith, count-read, few)))
      (eq-eqb (length c) (5 + 4 * w + 4 * (w * table_rows c)) content-long)

  content-small : length c < 65536
  content-small =
      omega (
        arith,
        content-length n w rows (widths w rows h),
        le_trans (mul-le-mul_left {m = length rows} {n = 1024} w few) (mul-le-mul_right {m = w} {n = 8} 1024 most),
      )

  abbrev b : Bytes
  b = row_bytes (replicate w 1023)

  behind-bounds : drop (5 + 4 * w) c ≡ cell_bytes rows
  unfolding list_content
  behind-bounds =
      drop_at (n ∷ 1 ∷ w ∷ (two_bytes (length rows) ++ b)) (cell_bytes rows) (5 + 4 * w)
      (omega (arith, row-length (replicate w 1023), length-replicate {A = ℕ} w 1023))

  abbrev with_rows : List ℕ → List Value → Table
  with_rows bs rs = record { kind = list; columns = w; bounds = bs; rows = rs }

  content-table : table_of c ≡ position_table w rows
  unfolding table_of list_content
  content-table =
      ap₂ with_rows (bounds-read w (cell_bytes rows)) (ap₂ (rows_from w) count-read behind-bounds ∙ rows-read w rows h)

  pub record-read : (T : Tables) → is_there T n ≡ false → (k : ℕ) (d : Bytes)
      → tables_from (suc k) T (list_record n w rows ++ d) ≡ tables_from k (set T n (position_table w rows)) d
  unfolding list_record list_content table_by pick require
  record-read T free k d =
      reads (length c % 256) (length c / 256 % 256) 20 0 c d (omega (arith, content-small)) k T
      ∙ ap₂ (λ f t. next true f (leb n 7) (not (is_there T n)) (bounded t) (tables_from k (set T n t) d)) content-fits content-table
      ∙ ap₂ (λ s u. next true true s (not u) (bounded (position_table w rows)) (tables_from k (set T n (position_table w rows)) d)) (le-leb n 7 named) free
      ∙ ap (λ z. next true true true true z (tables_from k (set T n (position_table w rows)) d)) (table-bounded w rows h)

-- ---- the three records
below-small : (i m : ℕ) (l : List ℕ) → m ≤ 1024 → Rising i m l → All (λ k. k ≤ 1023) l
below-small i m [] p h = tt
below-small i m (k ∷ l) p h = (omega (arith, h.1), below-small (suc k) m l p h.2)

pairs-rows : (l : List Pair) → All (λ k. k ≤ 1023) (map (λ p. p.first) l) → All (λ k. k ≤ 1023) (map (λ p. p.second) l) → All (Row 2) (map pair_row l)
pairs-rows [] f s = tt
pairs-rows (p ∷ l) f s = (record { width = refl; small = (f.0, (s.0, tt)) }, pairs-rows l f.1 s.1)

singles-rows : (l : List ℕ) → All (λ k. k ≤ 1023) l → All (Row 1) (map single_row l)
singles-rows [] h = tt
singles-rows (i ∷ l) h = (record { width = refl; small = (h.0, tt) }, singles-rows l h.1)

-- The three records of two logs of at most 1,024 rows are read as the three tables, and as nothing else.
module _ (t : ℕ) (xs ys : Log) (p : length xs ≤ 1024) (q : length ys ≤ 1024) where
  abbrev r : Paired
  r = paired t xs ys

  abbrev pair_rows : List (List ℕ)
  pair_rows = map pair_row r.pairs

  abbrev first_rows : List (List ℕ)
  first_rows = map single_row r.first_singles

  abbrev second_rows : List (List ℕ)
  second_rows = map single_row r.second_singles

  abbrev with5 : Tables
  with5 = set no_tables 5 (position_table 2 pair_rows)

  abbrev with6 : Tables
  with6 = set with5 6 (position_table 1 first_rows)

  pub records-read : read_data (records r) ≡ got (paired_tables r)
  unfolding read_data records tables_from is_there columns_of
  records-read =
      let o = in_order t xs ys in
      let n = counts-from t 0 0 xs ys in
      record-read 5 2 pair_rows (omega arith) (omega arith) (omega arith) (omega (arith, length-map r.pairs pair_row, n.of_first, p))
      (pairs-rows r.pairs (below-small 0 (length xs) (map (λ p. p.first) r.pairs) p o.pair_firsts)
      (below-small 0 (length ys) (map (λ p. p.second) r.pairs) q o.pair_seconds))
      no_tables refl 7 (list_record 6 1 first_rows ++ list_record 7 1 second_rows)
      ∙ record-read 6 1 first_rows (omega arith) (omega arith) (omega arith) (omega (arith, length-map r.first_singles single_row, n.of_first, p))
      (singles-rows r.first_singles (below-small 0 (length xs) r.first_singles p o.first_singles_ordered))
      with5 refl 6 (list_record 7 1 second_rows)
      ∙ ap (tables_from 6 with6) (sym (append-nil (list_record 7 1 second_rows)))
      ∙ record-read 7 1 second_rows (omega arith) (omega arith) (omega arith) (omega (arith, length-map r.second_singles single_row, n.of_second, q))
      (singles-rows r.second_singles (below-small 0 (length ys) r.second_singles q o.second_singles_ordered))
      with6 refl 5 []
