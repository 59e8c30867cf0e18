-- Tables that are read are well formed.
use mathlib.Core.Path.{◌≡◌, refl, sym, ap, subst, ◌∙◌}
use mathlib.Core.List.{List, [], ◌∷◌, map}
use mathlib.Core.Bool.{Bool, true, false, not, ◌&&◌, and-eq-true_iff}
use mathlib.Core.Logic.{inl, inr}
use Prim.Native.Nat.{ℕ, zero, suc, ◌+◌, ◌-◌, ◌*◌, ◌^◌, ◌≤◌, ◌<◌}
use native.Mathlib.Omega.{arith}
use borrow.Author.Tests.{ltb-true, ltb-false, leb-true, eqb-true}
use lib.Dec.{ltb, leb}
use lib.IntN.{ℤ, pos, negsuc, nat_abs}
use lib.ListN.{length, get_or, drop, length-set, get_or-eq_default}
use lib.ListN as Li
use Rattle.spec_calculus.specs.Value.{Value, vcons, num, rec, from_list, as_int, field_of, Table, Tables, no_table, is_there, no_tables}
use Rattle.spec_calculus.proofs.Lists.{All}
use Rattle.spec_calculus.proofs.WellFormed.{WellFormedRow, row_field, CellsWithin, WellFormedTable, WellFormedAt, WellFormed}
use Rattle.spec_encoding.specs.Record.{Bytes, Result, refused, got, require, four, signed, kind_of, content_of, behind}
use Rattle.spec_encoding.specs.Data.{bounds_from, cells, rows_from, is_table, table_number, table_collection, table_columns, table_rows, bounds_at, fits, table_of, content_by, table_by, bounds_fit, cells_within, rows_within, bounded, tables_from, read_data}
use Rattle.spec_encoding.proofs.Arrangement.{by-fit}

-- Four bytes read as a signed number are of magnitude at most 2^31.
pub signed-small : (n : ℕ) → nat_abs (signed n) ≤ 2 ^ 31
unfolding signed
signed-small n = go (ltb n 0x80000000) refl
  where
    go : (t : Bool) → ltb n 0x80000000 ≡ t → nat_abs (elim t [ true ↦ pos n | false ↦ negsuc (0xffffffff - n) ]) ≤ 2 ^ 31
    go true e = omega (arith, ltb-true n 0x80000000 e)
    go false e = omega (arith, ltb-false n 0x80000000 e)

-- ---- the rows
unfoldable numbers : ℕ → Bytes → List ℤ
numbers zero l = []
numbers (suc n) l = signed (four l 0) ∷ numbers n (drop 4 l)

cells_are : (n : ℕ) (l : Bytes) → cells n l ≡ from_list (map num (numbers n l))
unfolding cells numbers
cells_are zero l = refl
cells_are (suc n) l = ap (vcons (num (signed (four l 0)))) (cells_are n (drop 4 l))

numbers-length : (n : ℕ) (l : Bytes) → length (numbers n l) ≡ n
unfolding numbers
numbers-length zero l = refl
numbers-length (suc n) l = ap suc (numbers-length n (drop 4 l))

numbers-small : (n : ℕ) (l : Bytes) → All (λ z. nat_abs z ≤ 2 ^ 31) (numbers n l)
unfolding numbers
numbers-small zero l = tt
numbers-small (suc n) l = (signed-small (four l 0), numbers-small n (drop 4 l))

row_read : (n : ℕ) (l : Bytes) → WellFormedRow n (rec (cells n l))
row_read n l = record { cells = numbers n l; is = ap rec (cells_are n l); width = numbers-length n l; small = numbers-small n l }

rows-read : (columns n : ℕ) (l : Bytes) → All (WellFormedRow columns) (rows_from columns n l)
unfolding rows_from
rows-read columns zero l = tt
rows-read columns (suc n) l = (row_read columns l, rows-read columns n (drop (4 * columns) l))

pub rows-length : (columns n : ℕ) (l : Bytes) → length (rows_from columns n l) ≡ n
unfolding rows_from
rows-length columns zero l = refl
rows-length columns (suc n) l = ap suc (rows-length columns n (drop (4 * columns) l))

-- ---- the bounds
pub bounds-length : (n : ℕ) (l : Bytes) → length (bounds_from n l) ≡ n
unfolding bounds_from
bounds-length zero l = refl
bounds-length (suc n) l = ap suc (bounds-length n (drop 4 l))

pub bounds-small : (bs : List ℕ) → bounds_fit bs ≡ true → All (λ b. b ≤ 2 ^ 31) bs
unfolding bounds_fit
bounds-small [] h = tt
bounds-small (b ∷ bs) h = let p = (and-eq-true_iff (leb b (2 ^ 31)) (bounds_fit bs)).0 h in (leb-true b (2 ^ 31) p.0, bounds-small bs p.1)

-- each cell is within the bound of its column
pub cells-within : (i : ℕ) (bs : List ℕ) (v : Value) → cells_within i bs v ≡ true → (j : ℕ) → j < length bs → nat_abs (as_int (field_of (i + j) v)) ≤ get_or bs j 0
unfolding cells_within
cells-within i [] v h j l = absurd (omega arith)
cells-within i (b ∷ bs) v h zero l =
    let p = (and-eq-true_iff (leb (nat_abs (as_int (field_of i v))) b) (cells_within (suc i) bs v)).0 h in
    subst (λ (k : ℕ). nat_abs (as_int (field_of k v)) ≤ b) (omega arith) (leb-true (nat_abs (as_int (field_of i v))) b p.0)
cells-within i (b ∷ bs) v h (suc j) l =
    let p = (and-eq-true_iff (leb (nat_abs (as_int (field_of i v))) b) (cells_within (suc i) bs v)).0 h in
    subst (λ (k : ℕ). nat_abs (as_int (field_of k v)) ≤ get_or bs j 0) (omega arith) (cells-within (suc i) bs v p.1 j (omega arith))

row_within : (bs : List ℕ) {v : Value} → WellFormedRow (length bs) v → cells_within 0 bs v ≡ true → CellsWithin (λ i. get_or bs i 0) v
unfolding as_int
row_within bs {v} r h i = go (ltb i (length bs)) refl
  where
    go : (t : Bool) → ltb i (length bs) ≡ t → nat_abs (as_int (field_of i v)) ≤ get_or bs i 0
    go true e = subst (λ (k : ℕ). nat_abs (as_int (field_of k v)) ≤ get_or bs i 0) (omega arith) (cells-within 0 bs v h i (ltb-true i (length bs) e))
    go false e = let past : length r.cells ≤ i = omega (arith, r.width, ltb-false i (length bs) e) in rw (row_field r i, get_or-eq_default r.cells (pos 0) past) (omega arith)

rows-within : (bs : List ℕ) (l : List Value) → All (WellFormedRow (length bs)) l → rows_within bs l ≡ true → All (CellsWithin (λ i. get_or bs i 0)) l
unfolding rows_within
rows-within bs [] r h = tt
rows-within bs (v ∷ l) r h = let p = (and-eq-true_iff (cells_within 0 bs v) (rows_within bs l)).0 h in (row_within bs r.0 p.0, rows-within bs l r.1 p.1)

-- ---- one table
four-tests : (a b c d : Bool) → a && (b && (c && d)) ≡ true → (a ≡ true) × (b ≡ true) × (c ≡ true) × (d ≡ true)
four-tests a b c d h =
    let p = (and-eq-true_iff a (b && (c && d))).0 h in
    let q = (and-eq-true_iff b (c && d)).0 p.1 in
    let r = (and-eq-true_iff c d).0 q.1 in
    (p.0, q.0, r.0, r.1)

-- what 12 leaves
pub record Fit (c : Bytes) : Type 0 where
  pub collection-least : 1 ≤ table_collection c
  pub collection-most : table_collection c ≤ 3
  pub columns-least : 1 ≤ table_columns c
  pub columns-most : table_columns c ≤ 8
  pub rows_most : table_rows c ≤ 1024
  pub long : length c ≡ bounds_at + 4 * table_columns c + 4 * (table_columns c * table_rows c)

pub fit : (c : Bytes) → fits c ≡ true → Fit c
unfolding fits
fit c h =
    let front = four-tests (leb bounds_at (length c)) (leb 1 (table_collection c)) (leb (table_collection c) 3) _ h in
    let behind = four-tests (leb 1 (table_columns c)) (leb (table_columns c) 8) (leb (table_rows c) 1024) _ front.3 in
    record {
      collection-least = leb-true 1 (table_collection c) front.1;
      collection-most = leb-true (table_collection c) 3 front.2;
      columns-least = leb-true 1 (table_columns c) behind.0;
      columns-most = leb-true (table_columns c) 8 behind.1;
      rows_most = leb-true (table_rows c) 1024 behind.2;
      long = eqb-true (length c) (bounds_at + 4 * table_columns c + 4 * (table_columns c * table_rows c)) behind.3;
    }

-- A table record that refusals 12 and 43 let pass is a well formed table.
pub table-read : (c : Bytes) → fits c ≡ true → bounded (table_of c) ≡ true → WellFormedTable (table_of c)
unfolding table_of bounded
table-read c h b =
    let f = fit c h in
    let bs = bounds_from (table_columns c) (drop bounds_at c) in
    let l = drop (bounds_at + 4 * table_columns c) c in
    let p = (and-eq-true_iff (bounds_fit bs) (rows_within bs (rows_from (table_columns c) (table_rows c) l))).0 b in
    let w = bounds-length (table_columns c) (drop bounds_at c) in (
      f.columns-least,
      record {
        columns-most = f.columns-most;
        rows_most = subst (λ n. n ≤ 1024) (sym (rows-length (table_columns c) (table_rows c) l)) f.rows_most;
        rows_are = rows-read (table_columns c) (table_rows c) l;
        bounds-count = w;
        bounds-most = bounds-small bs p.0;
        rows-within = rows-within bs (rows_from (table_columns c) (table_rows c) l) (subst (λ n. All (WellFormedRow n) (rows_from (table_columns c) (table_rows c) l)) (sym w) (rows-read (table_columns c) (table_rows c) l)) p.1;
      },
    )

-- Of either kind: one by columns is the table of its content by rows, which fits as that does.
pub table-by-read : (k : ℕ) (c : Bytes) → fits c ≡ true → bounded (table_by k c) ≡ true → WellFormedTable (table_by k c)
unfolding table_by
table-by-read k c h b = table-read (content_by k c) (by-fit k c (fit c h).long ∙ h) b

-- ---- all tables
refused-got : {A : Type 0} (n : ℕ) (a : A) → refused n ≡ got a → ⊥
refused-got n a h = let z : ◌≡◌ {A = ℕ} 0 1 = cc h in absurd (omega arith)

-- what was read in spite of a test passed it
pub require-got : {A X : Type 0} (n : ℕ) (b : Bool) (r : Result A) (a : A) → require n b r ≡ got a → (b ≡ true → r ≡ got a → X) → X
unfolding require
require-got n true r a h k = k refl h
require-got n false r a h k = absurd (refused-got n a h)

all_set : {A : Type 0} (P : A → Type 0) (l : List A) (k : ℕ) (a : A) → All P l → P a → All P (Li.set l k a)
all_set P [] k a h p = tt
all_set P (x ∷ l) zero a h p = (p, h.1)
all_set P (x ∷ l) (suc k) a h p = (h.0, all_set P l k a h.1 p)

-- what has been read so far: "0 to 7", at each number a table or none
abbrev Read : Tables → Type 0
Read T = (length T ≡ 8) × All WellFormedAt T

one_more : (S : Tables) (k : ℕ) (t : Table) → Read S → WellFormedTable t → Read (Li.set S k t)
one_more S k t R w = (length-set S k t ∙ R.0, all_set WellFormedAt S k t R.1 (inl w))

no-more : {S T : Tables} → Read S → got S ≡ got T → Read T
no-more {S} {T} R h = let e : S ≡ T = cc h in subst Read e R

tables-read : (n : ℕ) (S : Tables) (l : Bytes) (T : Tables) → Read S → tables_from n S l ≡ got T → Read T
unfolding tables_from
tables-read zero S [] T R h = no-more R h
tables-read zero S (b ∷ l) T R h = absurd (refused-got 13 T h)
tables-read (suc n) S [] T R h = no-more R h
tables-read (suc n) S (b ∷ l) T R h =
    let r = b ∷ l in
    let c = content_of r in
    require-got 11 (is_table r) _ T h λ p h₁.
    require-got 12 (fits c) _ T h₁ λ f h₂.
    require-got 50 (leb (table_number c) 7) _ T h₂ λ m h₃.
    require-got 51 (not (is_there S (table_number c))) _ T h₃ λ u h₄.
    let t = table_by (kind_of r) c in
    require-got 43 (bounded t) _ T h₄ λ k h₅.
    tables-read n _ (behind r) T (one_more S (table_number c) t R (table-by-read (kind_of r) c f k)) h₅

all_read : (d : Bytes) {T : Tables} → read_data d ≡ got T → Read T
unfolding read_data
all_read d {T} h = tables-read 8 no_tables d T (refl, (none, (none, (none, (none, (none, (none, (none, (none, tt))))))))) h
  where
    none : WellFormedAt no_table
    none = inr refl

-- Tables that are read, that is, that 11, 12, 13, 43, 50 and 51 let pass, are well formed.
pub read-well-formed : (d : Bytes) {T : Tables} → read_data d ≡ got T → WellFormed T
read-well-formed d h = let k = all_read d h in record { tables-most = omega (arith, k.0); tables-are = k.1 }

-- There is a place for each number.
pub read_length : (d : Bytes) {T : Tables} → read_data d ≡ got T → length T ≡ 8
read_length d h = (all_read d h).0
