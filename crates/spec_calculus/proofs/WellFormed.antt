-- "Tables that keep these rules, no table at all included, are well formed."
use mathlib.Core.Path.{◌≡◌, refl, sym, ap, subst, ◌∙◌}
use mathlib.Core.List.{List, [], ◌∷◌, map}
use mathlib.Core.Bool.{Bool, true, false}
use mathlib.Core.Logic.{◌⊎◌, inl, inr}
use Prim.Native.Nat.{ℕ, zero, suc, ◌^◌, ◌≤◌, ◌<◌}
use native.Mathlib.Omega.{arith}
use borrow.Author.Tests.{ltb-true, ltb-false, leb-true, leb-false}
use lib.Dec.{ltb}
use lib.IntN.{ℤ, pos, nat_abs}
use lib.ListN.{length, get_or, get_or-eq_default}
use Rattle.spec_calculus.specs.Value.{Value, num, rec, from_list, as_int, nth, field_of, Table, Tables, no_table, columns_of, is_there, bound_of, rows_of}
use Rattle.spec_calculus.proofs.Lists.{All, all-imp}

-- a record of so many numbers, each within four signed bytes
pub record WellFormedRow (columns : ℕ) (v : Value) : Type 0 where
  pub cells : List ℤ
  pub is : v ≡ rec (from_list (map num cells))
  pub width : length cells ≡ columns
  pub small : All (λ z. nat_abs z ≤ 2 ^ 31) cells

-- "each cell's magnitude must not exceed" its column's bound (document 02, E5); past the last column both are 0
abbrev pub CellsWithin : (ℕ → ℕ) → Value → Type 0
CellsWithin b v = (i : ℕ) → nat_abs (as_int (field_of i v)) ≤ b i

-- what holds of a table without columns and rows too, as an absent number reads
pub record RowsFit (t : Table) : Type 0 where
  pub columns-most : t.columns ≤ 8
  pub rows_most : length t.rows ≤ 1024
  pub rows_are : All (WellFormedRow t.columns) t.rows
  pub bounds-count : length t.bounds ≡ t.columns
  pub bounds-most : All (λ b. b ≤ 2 ^ 31) t.bounds
  pub rows-within : All (CellsWithin (λ i. get_or t.bounds i 0)) t.rows

-- "one byte of columns (1 to 8), two bytes of rows (0 to 1,024), then the cells row by row, signed, four bytes each"; "one four-byte unsigned
-- bound per column, at most 2^31" (document 02, E5)
abbrev pub WellFormedTable : Table → Type 0
WellFormedTable t = (1 ≤ t.columns) × RowsFit t

-- what stands at a number: a table, or none where "numbers [are] skipped" (document 02, E9)
abbrev pub WellFormedAt : Table → Type 0
WellFormedAt t = WellFormedTable t ⊎ (t ≡ no_table)

-- "Data is 0 to 8 such records", their numbers "0 to 7" (document 02, E9)
pub record WellFormed (T : Tables) : Type 0 where
  pub tables-most : length T ≤ 8
  pub tables-are : All WellFormedAt T

pub all-at : {A : Type 0} (P : A → Type 0) (l : List A) (d : A) → All P l → P d → (k : ℕ) → P (get_or l k d)
all-at P [] d h p k = p
all-at P (a ∷ l) d h p zero = h.0
all-at P (a ∷ l) d h p (suc k) = all-at P l d h.1 p k

-- ---- a row's fields
nth-cells : (zs : List ℤ) (i : ℕ) → nth i (from_list (map num zs)) ≡ num (get_or zs i (pos 0))
unfolding nth
nth-cells [] zero = refl
nth-cells [] (suc i) = refl
nth-cells (z ∷ zs) zero = refl
nth-cells (z ∷ zs) (suc i) = nth-cells zs i

module _ {n : ℕ} {v : Value} (r : WellFormedRow n v) where
  -- Each field of a row is the number in its column; a field past the last column reads as 0.
  pub row_field : (i : ℕ) → field_of i v ≡ num (get_or r.cells i (pos 0))
  unfolding field_of
  row_field i = ap (field_of i) r.is ∙ nth-cells r.cells i

  -- A cell's magnitude is at most 2^31.
  pub cell-small : (i : ℕ) → nat_abs (as_int (field_of i v)) ≤ 2 ^ 31
  unfolding as_int
  cell-small i = subst (λ w. nat_abs (as_int w) ≤ 2 ^ 31) (sym (row_field i)) (all-at (λ z. nat_abs z ≤ 2 ^ 31) r.cells (pos 0) r.small (omega arith) i)

  -- A row as a whole is no number.
  pub row-no-number : as_int v ≡ pos 0
  unfolding as_int
  row-no-number = ap as_int r.is

-- ---- a table by its number
no-rows-fit : RowsFit no_table
no-rows-fit = record { columns-most = omega arith; rows_most = omega arith; rows_are = tt; bounds-count = refl; bounds-most = tt; rows-within = tt }

rows_fit : (t : Table) → WellFormedAt t → RowsFit t
rows_fit t (inl w) = w.1
rows_fit t (inr e) = subst RowsFit (sym e) no-rows-fit

fit_at : (T : Tables) → All WellFormedAt T → (k : ℕ) → RowsFit (get_or T k no_table)
fit_at T h k = all-at RowsFit T no_table (all-imp WellFormedAt RowsFit T h rows_fit) no-rows-fit k

module _ {T : Tables} (W : WellFormed T) (k : ℕ) where
  -- Every table has at most 1,024 rows.
  pub rows-at-most : length (rows_of T k) ≤ 1024
  unfolding rows_of
  rows-at-most = (fit_at T W.tables-are k).rows_most

  -- Every row of a table is a record of as many numbers as the table has columns, each of magnitude at most 2^31.
  pub rows-well-formed : All (WellFormedRow (columns_of T k)) (rows_of T k)
  unfolding rows_of columns_of
  rows-well-formed = (fit_at T W.tables-are k).rows_are

  -- Every cell is within its column's bound, and every bound is at most 2^31.
  pub rows-in-bounds : All (CellsWithin (bound_of T k)) (rows_of T k)
  unfolding rows_of bound_of
  rows-in-bounds = (fit_at T W.tables-are k).rows-within

  pub bound-at-most : (i : ℕ) → bound_of T k i ≤ 2 ^ 31
  unfolding bound_of
  bound-at-most i = all-at (λ b. b ≤ 2 ^ 31) (get_or T k no_table).bounds 0 (fit_at T W.tables-are k).bounds-most (omega arith) i

  -- Every table has at most 8 columns, and one that is there has at least 1.
  pub columns-at-most : columns_of T k ≤ 8
  unfolding columns_of
  columns-at-most = (fit_at T W.tables-are k).columns-most

  pub columns-at-least : is_there T k ≡ true → 1 ≤ columns_of T k
  unfolding is_there
  columns-at-least h = leb-true 1 (columns_of T k) h

  -- A table's number is "0 to 7".
  pub number-few : is_there T k ≡ true → k < 8
  unfolding is_there columns_of
  number-few h = go (ltb k (length T)) refl
    where
      go : (b : Bool) → ltb k (length T) ≡ b → k < 8
      go true e = omega (arith, ltb-true k (length T) e, W.tables-most)
      go false e =
          let none = ap (λ t. t.columns) (get_or-eq_default T no_table (ltb-false k (length T) e)) in
          absurd (omega (arith, leb-true 1 (columns_of T k) h, none))

  -- An absent number reads as no table.
  pub absent_none : is_there T k ≡ false → get_or T k no_table ≡ no_table
  unfolding is_there columns_of
  absent_none h = go (get_or T k no_table) (all-at WellFormedAt T no_table W.tables-are (inr refl) k) (leb-false 1 (columns_of T k) h)
    where
      go : (t : Table) → WellFormedAt t → t.columns < 1 → t ≡ no_table
      go t (inl w) p = absurd (omega (arith, p, w.0))
      go t (inr e) p = e

  pub absent-no-rows : is_there T k ≡ false → rows_of T k ≡ []
  unfolding rows_of
  absent-no-rows h = ap (λ t. t.rows) (absent_none h)
