-- The loops that look for a cell beyond its column's bound: what holds while they run, and a law for each way out. Assumes nothing.
use Rattle.std.proofs.Common.{◌≡◌, ℕ, ◌+◌, ◌-◌, ◌*◌, ◌%◌, ◌^◌, ◌<◌, ◌≤◌, Bool, true, false, eqb, ltb, leb, length, ℤ, nat_abs, sym, refl, ap, ◌∙◌, subst, inl, inr, mul_comm, eq-or-lt_of_le, mul-zero, mul-one, mul-add, add-one, arith, ltb-false, ltb-true, eq-eqb, ne_eqb, eqb-true, le-leb, leb-false, leb-true}
use borrow.Author.Tests.{eqb-false}
use Rattle.spec_calculus.specs.Lists.{pick}
use Rattle.spec_encoding.specs.Record.{Bytes, four, signed}
use Rattle.spec_encoding.specs.Columns.{summed}
use Rattle.spec_encoding.specs.Data.{table_columns, table_rows, bounds_at, fits, table_of, cells_at, content_by_rows, content_by, bounded}
use Rattle.spec_encoding.proofs.Arrangement.{rows_head, by-head}
use Rattle.spec_encoding.proofs.Columns.{summed-cell, by-bound}
use Rattle.spec_encoding.proofs.Data.{signed-small, Fit, fit}
use Rattle.spec_encoding.proofs.ColumnBounds.{content_bound, content_cell, Column, bounded-each, bounded-not}
use Rattle.base_signed.proofs.SignedWords.{by-test, no}
use Rattle.base_tables.specs.ColumnBounds.{ColumnPre, CellsWithin, ColumnWithinPost, ColumnBoundedPost}
use Rattle.base_tables.proofs.ByteReaders.{row_within}

-- ---- one cell
abs-low : (x : ℕ) → ltb x 0x80000000 ≡ true → nat_abs (signed x) ≡ x
unfolding signed
abs-low x y = rw (y, signed) refl

abs-high : (x : ℕ) → ltb x 0x80000000 ≡ false → x < 2 ^ 32 → nat_abs (signed x) ≡ 4294967296 - x
unfolding signed
abs-high x y p = rw (y, signed) (omega arith)

same_test : (a b c e : ℕ) → (a ≤ b → c ≤ e) → (c ≤ e → a ≤ b) → leb a b ≡ leb c e
same_test a b c e f g = by-test (leb a b)
    (λ t. t ∙ sym (le-leb c e (f (leb-true a b t))))
    (λ t. t ∙ sym (by-test (leb c e) (λ u. absurd (omega (arith, g (leb-true c e u), leb-false a b t))) (λ u. u)))

-- Counted from -b on, modulo 2^32, a cell within b is at most 2 b, and another above that.
pub cell-within-is : {x b : ℕ} → x < 2 ^ 32 → b < 2 ^ 31 → leb ((x + b) % 4294967296) (2 * b) ≡ leb (nat_abs (signed x)) b
cell-within-is {x} {b} p q =
    by-test (ltb x 0x80000000)
    (λ t. let l = ltb-true x 0x80000000 t in let e = abs-low x t in
    same_test ((x + b) % 4294967296) (2 * b) (nat_abs (signed x)) b (λ h. omega (arith, h, e, l, p, q)) (λ h. omega (arith, h, e, l, p, q)))
    (λ t. let l = ltb-false x 0x80000000 t in let e = abs-high x t p in
    same_test ((x + b) % 4294967296) (2 * b) (nat_abs (signed x)) b (λ h. omega (arith, h, e, l, p, q)) (λ h. omega (arith, h, e, l, p, q)))

-- ---- the cells of a column
-- where the cell in row r and column i stands in a content
abbrev pub cell_place : Bytes → ℕ → ℕ → ℕ
cell_place c r i = bounds_at + 4 * table_columns c + 4 * (table_columns c * r + i)

pub first-place : (c : Bytes) (i : ℕ) {m : ℕ} → m ≡ table_columns c → bounds_at + 4 * m + 4 * i ≡ cell_place c 0 i
first-place c i e = rw (e, mul-zero) (omega arith)

pub next_place : (c : Bytes) (r i : ℕ) {m p : ℕ} → m ≡ table_columns c → p ≡ cell_place c r i → p + 4 * m ≡ cell_place c (r + 1) i
next_place c r i e h = rw (e, h) (omega (arith, mul-add (table_columns c) r 1, mul-one (table_columns c)))

module _ {c : Bytes} {i : ℕ} (P : ColumnPre c i) where
  F : Fit c
  F = fit c P.fitting

  pub bound-inside : (i < 8) × (bounds_at + 4 * i + 4 ≤ length c)
  bound-inside = (omega (arith, F.columns-most, P.inside), omega (arith, F.long, P.inside))

  pub place_inside : {n r p : ℕ} → n ≡ table_rows c → r < n → p ≡ cell_place c r i → p + 4 ≤ length c
  place_inside {n} {r} e l h = omega (arith, F.long, h, row_within {m = table_columns c} {r = r} {n = table_rows c} {c = i} (omega arith) P.inside)

-- the cell that stands there
pub cell_at : (c : Bytes) (r i : ℕ) {p x : ℕ} → p ≡ cell_place c r i → x ≡ four c p → content_cell c r i ≡ signed x
cell_at c r i e X = ap signed (ap (four c) (sym e) ∙ sym X)

-- ---- the same by columns: where the numbers stored for column i begin
abbrev pub column_place : Bytes → ℕ → ℕ
column_place c i = cells_at c + 4 * (table_rows c * i)

pub column-first : (c : Bytes) (i : ℕ) {m n k : ℕ} → m ≡ table_columns c → n ≡ table_rows c → k ≡ i * n → bounds_at + 4 * m + 4 * k ≡ column_place c i + 4 * 0
column-first c i e f g = rw (e, g, f) (omega (arith, mul_comm i (table_rows c)))

module _ {c : Bytes} {i : ℕ} (P : ColumnPre c i) where
  pub number-inside : {n r p : ℕ} → n ≡ table_rows c → r < n → p ≡ column_place c i + 4 * r → p + 4 ≤ length c
  number-inside {n} {r} e l h =
      omega (arith, (fit c P.fitting).long, h, mul_comm (table_columns c) (table_rows c), row_within {m = table_rows c} {r = i} {n = table_columns c} {c = r} P.inside (omega arith))

  pub column-few : (i < 16) × (table_rows c < 2048)
  column-few = (omega (arith, (fit c P.fitting).columns-most, P.inside), omega (arith, (fit c P.fitting).rows_most))

  -- the rows of the content by rows are as many
  pub rows-many : {n : ℕ} → n ≡ table_rows c → n ≡ table_rows (content_by_rows c)
  rows-many e = e ∙ sym (rows_head c (fit c P.fitting).long).rows

  pub sum-here : {n r x : ℕ} → n ≡ table_rows c → r < n → x ≡ summed c (column_place c i) (r + 1) → content_cell (content_by_rows c) r i ≡ signed x
  sum-here {n} {r} e l X = summed-cell c (fit c P.fitting).long P.inside (omega arith) ∙ ap signed (ap (summed c (column_place c i)) (sym (add-one r)) ∙ sym X)

pub number-next : (c : Bytes) (i r : ℕ) {p : ℕ} → p ≡ column_place c i + 4 * r → p + 4 ≡ column_place c i + 4 * (r + 1)
number-next c i r h = omega arith

-- the first r cells are within b
pub record Looking (c : Bytes) (i b r : ℕ) : Type 0 where
  pub so_far : CellsWithin c i b r

module _ {c : Bytes} {i b : ℕ} where
  pub look-first : Looking c i b 0
  look-first = record { so_far = λ r p. absurd (omega arith) }

  module _ {n r : ℕ} (L : Looking c i b r) (N : n ≡ table_rows c) where
    pub look-last : n ≤ r → ColumnWithinPost c i b true
    look-last l = record { yes = λ e q p. L.so_far q (omega arith); no = λ e. no e }

    module _ (l : r < n) (x : ℕ) (here : content_cell c r i ≡ signed x) {t : Bool} (h : t ≡ leb (nat_abs (signed x)) b) where
      pub look-again : t ≡ true → Looking c i b (r + 1)
      look-again y = record {
        so_far = λ q k. elim (eq-or-lt_of_le {n = q} {m = r} (omega arith)) [
          | inl j ↦ subst (λ (u : ℕ). nat_abs (content_cell c u i) ≤ b) (sym j) (subst (λ (z : ℤ). nat_abs z ≤ b) (sym here) (leb-true (nat_abs (signed x)) b (sym h ∙ y)))
          | inr j ↦ L.so_far q j
        ];
      }

      pub look-beyond : t ≡ false → ColumnWithinPost c i b false
      look-beyond y = record {
        yes = λ u. no (sym u);
        no = λ u W. omega (arith, leb-false (nat_abs (signed x)) b (sym h ∙ y), subst (λ (z : ℤ). nat_abs z ≤ b) here (W r (omega arith)));
      }

-- ---- a column
module _ {c : Bytes} {i b : ℕ} (B : b ≡ content_bound c i) where
  bound-low : b < 2 ^ 31 → {t : Bool} → ColumnWithinPost c i b t → ColumnBoundedPost c i t
  bound-low l W = record {
    yes = λ e. record { most = omega arith; cells = λ r p. subst (λ (k : ℕ). nat_abs (content_cell c r i) ≤ k) B (W.yes e r p) };
    no = λ e C. W.no e (λ r p. subst (λ (k : ℕ). nat_abs (content_cell c r i) ≤ k) (sym B) (C.cells r p));
  }

  bound-high : 2 ^ 31 ≤ b → ColumnBoundedPost c i (eqb b 2147483648)
  bound-high l = record {
    yes = λ e.
        let u = eqb-true b 2147483648 e in
        record { most = omega arith; cells = λ r p. omega (arith, u, B, signed-small (four c (cell_place c r i))) };
    no = λ e C. eqb-false b 2147483648 e (omega (arith, C.most));
  }

-- of a record of kind k: by the cells of its content by rows
module _ (k : ℕ) {c : Bytes} {i b : ℕ} (P : ColumnPre c i) (B : b ≡ content_bound c i) where
  B' : b ≡ content_bound (content_by k c) i
  B' = B ∙ sym (by-bound c (fit c P.fitting).long P.inside k)

  pub bound-low-rows : b < 2 ^ 31 → (k ≡ 23 → ⊥) → {t : Bool} → ColumnWithinPost c i b t → ColumnBoundedPost (content_by k c) i t
  unfolding pick
  bound-low-rows l z {t} W = bound-low B' l (subst (λ (e : Bytes). ColumnWithinPost e i b t) (sym (ap (λ t. pick t (content_by_rows c) c) (ne_eqb k 23 z))) W)

  pub bound-low-columns : b < 2 ^ 31 → k ≡ 23 → {t : Bool} → ColumnWithinPost (content_by_rows c) i b t → ColumnBoundedPost (content_by k c) i t
  unfolding pick
  bound-low-columns l z {t} W = bound-low B' l (subst (λ (e : Bytes). ColumnWithinPost e i b t) (sym (ap (λ t. pick t (content_by_rows c) c) (eq-eqb k 23 z))) W)

  pub bound-high-either : 2 ^ 31 ≤ b → ColumnBoundedPost (content_by k c) i (eqb b 2147483648)
  bound-high-either l = bound-high B' l

-- ---- the columns
-- the first i columns keep their bounds
pub record Keeping (c : Bytes) (i : ℕ) : Type 0 where
  pub so_far : (j : ℕ) → j < i → Column c j

module _ {c : Bytes} where
  pub keep-first : Keeping c 0
  keep-first = record { so_far = λ j p. absurd (omega arith) }

  module _ {n i : ℕ} (K : Keeping c i) (N : n ≡ table_columns c) where
    pub keep-last : n ≤ i → true ≡ bounded (table_of c)
    keep-last l = sym (bounded-each c (λ j p. K.so_far j (omega arith)))

    module _ (l : i < n) {t : Bool} (h : ColumnBoundedPost c i t) where
      pub keep-again : t ≡ true → Keeping c (i + 1)
      keep-again y = record {
        so_far = λ j p. elim (eq-or-lt_of_le {n = j} {m = i} (omega arith)) [ inl u ↦ subst (Column c) (sym u) (h.yes y) | inr u ↦ K.so_far j u ];
      }

      pub keep-beyond : t ≡ false → false ≡ bounded (table_of c)
      keep-beyond y = sym (bounded-not c (omega arith) (h.no y))

-- of a record of kind k
module _ (k : ℕ) (c : Bytes) (f : fits c ≡ true) where
  pub columns-many : {n : ℕ} → n ≡ table_columns c → n ≡ table_columns (content_by k c)
  columns-many e = e ∙ sym (by-head k c (fit c f).long).columns
