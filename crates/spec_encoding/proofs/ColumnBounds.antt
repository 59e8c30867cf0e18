-- Where a table's bounds and cells stand in the content of its record; what 43 asks, column by column.
use mathlib.Core.Path.{◌≡◌, refl, sym, ap, subst, ◌∙◌}
use mathlib.Core.List.{List, [], ◌∷◌}
use mathlib.Core.Bool.{Bool, true, false, ◌&&◌, and-eq-true_iff}
use Prim.Native.Nat.{ℕ, zero, suc, ◌+◌, ◌*◌, ◌^◌, ◌≤◌, ◌<◌}
use native.Mathlib.Nat.{zero-add, add-zero, add_assoc, mul-zero, mul-suc}
use native.Mathlib.Omega.{arith}
use borrow.Author.Tests.{le-leb}
use lib.Dec.{leb}
use lib.IntN.{ℤ, nat_abs}
use lib.ListN.{length, get_or, drop}
use lib.Seq.{drop-drop, get_or-drop}
use Rattle.spec_calculus.specs.Value.{Value, num, rec, junk, as_int, nth, field_of}
use Rattle.spec_calculus.proofs.WellFormed.{all-at}
use Rattle.spec_encoding.specs.Record.{Bytes, four, signed}
use Rattle.spec_encoding.specs.Data.{bounds_from, cells, rows_from, table_columns, table_rows, bounds_at, table_of, bounds_fit, cells_within, rows_within, bounded}
use Rattle.spec_encoding.proofs.Data.{rows-length, bounds-length, bounds-small, cells-within}

-- ---- four bytes at a place
-- four bytes are the same where each of them is
pub four_same : (l m : Bytes) (i j : ℕ) → ((x : ℕ) → x < 4 → get_or l (i + x) 0 ≡ get_or m (j + x) 0) → four l i ≡ four m j
four_same l m i j h =
    let e0 : get_or l i 0 ≡ get_or m j 0 = simp add-zero at (h 0 (omega arith)) in
    let e3 : get_or l (i + 2 + 1) 0 ≡ get_or m (j + 2 + 1) 0 = simp add_assoc (h 3 (omega arith)) in
    rw (e0, h 1 (omega arith), h 2 (omega arith), e3)

pub four-drop : (k i : ℕ) (l : Bytes) → four (drop k l) i ≡ four l (k + i)
four-drop k i l = four_same (drop k l) l i (k + i) (λ x q. get_or-drop k l (i + x) 0 ∙ simp add_assoc)

four-on : (i : ℕ) (l : Bytes) → four (drop 4 l) (4 * i) ≡ four l (4 * suc i)
four-on i l = four-drop 4 (4 * i) l ∙ ap (four l) k
  where
    k : 4 + 4 * i ≡ 4 * suc i
    k = omega arith

-- ---- the rows of a table's content, the cells of a row, the bounds
pub row_at : (m n r : ℕ) (l : Bytes) → r < n → get_or (rows_from m n l) r junk ≡ rec (cells m (drop (4 * (m * r)) l))
unfolding rows_from
row_at m zero r l p = absurd (omega arith)
row_at m (suc n) zero l p = rw mul-zero
row_at m (suc n) (suc r) l p = row_at m n r (drop (4 * m) l) (omega arith) ∙ ap (λ x. rec (cells m x)) (drop-drop (4 * (m * r)) (4 * m) l ∙ ap (λ k. drop k l) k)
  where
    k : 4 * m + 4 * (m * r) ≡ 4 * (m * suc r)
    k = omega (arith, mul-suc m r)

pub cell_at : (m c : ℕ) (l : Bytes) → c < m → nth c (cells m l) ≡ num (signed (four l (4 * c)))
unfolding cells nth
cell_at zero c l p = absurd (omega arith)
cell_at (suc m) zero l p = refl
cell_at (suc m) (suc c) l p = cell_at m c (drop 4 l) (omega arith) ∙ ap (λ x. num (signed x)) (four-on c l)

pub bound-at : (m c : ℕ) (l : Bytes) → c < m → get_or (bounds_from m l) c 0 ≡ four l (4 * c)
unfolding bounds_from
bound-at zero c l p = absurd (omega arith)
bound-at (suc m) zero l p = refl
bound-at (suc m) (suc c) l p = bound-at m c (drop 4 l) (omega arith) ∙ four-on c l

-- the bound of column i, and the cell in row r and column i, in a content
abbrev pub content_bound : Bytes → ℕ → ℕ
content_bound c i = four c (bounds_at + 4 * i)

abbrev pub content_cell : Bytes → ℕ → ℕ → ℤ
content_cell c r i = signed (four c (bounds_at + 4 * table_columns c + 4 * (table_columns c * r + i)))

module _ (c : Bytes) {i : ℕ} (p : i < table_columns c) where
  pub bound-read : get_or (table_of c).bounds i 0 ≡ content_bound c i
  unfolding table_of
  bound-read = bound-at (table_columns c) i (drop bounds_at c) p ∙ four-drop bounds_at (4 * i) c

  pub cell-read : {r : ℕ} → r < table_rows c → as_int (field_of i (get_or (table_of c).rows r junk)) ≡ content_cell c r i
  unfolding table_of as_int field_of
  cell-read {r} q =
      let w = table_columns c in
      ap (λ v. as_int (field_of i v)) (row_at w (table_rows c) r (drop (bounds_at + 4 * w) c) q)
      ∙ ap as_int (cell_at w i (drop (4 * (w * r)) (drop (bounds_at + 4 * w) c)) p)
      ∙ ap signed (four-drop (4 * (w * r)) (4 * i) (drop (bounds_at + 4 * w) c) ∙ four-drop (bounds_at + 4 * w) (4 * (w * r) + 4 * i) c ∙ ap (four c) (place w (w * r)))
    where
      place : (w x : ℕ) → bounds_at + 4 * w + (4 * x + 4 * i) ≡ bounds_at + 4 * w + 4 * (x + i)
      place w x = omega arith

-- ---- tests of lists, by their places
fit-each : (bs : List ℕ) → ((i : ℕ) → i < length bs → get_or bs i 0 ≤ 2 ^ 31) → bounds_fit bs ≡ true
unfolding bounds_fit
fit-each [] h = refl
fit-each (b ∷ bs) h = rw (le-leb b (2 ^ 31) (h 0 (omega arith))) (fit-each bs (λ i p. h (suc i) (omega arith)))

within-each : (i : ℕ) (bs : List ℕ) (v : Value) → ((j : ℕ) → j < length bs → nat_abs (as_int (field_of (i + j) v)) ≤ get_or bs j 0) → cells_within i bs v ≡ true
unfolding cells_within
within-each i [] v h = refl
within-each i (b ∷ bs) v h =
    let here : nat_abs (as_int (field_of i v)) ≤ b = subst (λ (k : ℕ). nat_abs (as_int (field_of k v)) ≤ b) (add-zero i) (h 0 (omega arith)) in
    rw (le-leb (nat_abs (as_int (field_of i v))) b here) (within-each (suc i) bs v (λ j p. subst (λ (k : ℕ). nat_abs (as_int (field_of k v)) ≤ get_or bs j 0) (omega arith) (h (suc j) (omega arith))))

rows-each : (bs : List ℕ) (l : List Value) → ((r : ℕ) → r < length l → cells_within 0 bs (get_or l r junk) ≡ true) → rows_within bs l ≡ true
unfolding rows_within
rows-each bs [] h = refl
rows-each bs (v ∷ l) h = rw (h 0 (omega arith)) (rows-each bs l (λ r p. h (suc r) (omega arith)))

row-holds : (bs : List ℕ) (l : List Value) → rows_within bs l ≡ true → (r : ℕ) → r < length l → cells_within 0 bs (get_or l r junk) ≡ true
unfolding rows_within
row-holds bs [] h r p = absurd (omega arith)
row-holds bs (v ∷ l) h zero p = ((and-eq-true_iff (cells_within 0 bs v) (rows_within bs l)).0 h).0
row-holds bs (v ∷ l) h (suc r) p = row-holds bs l ((and-eq-true_iff (cells_within 0 bs v) (rows_within bs l)).0 h).1 r (omega arith)

-- ---- 43
-- "a bound over 2^31 or a cell beyond its column's": neither in column i
pub record Column (c : Bytes) (i : ℕ) : Type 0 where
  pub most : content_bound c i ≤ 2 ^ 31
  pub cells : (r : ℕ) → r < table_rows c → nat_abs (content_cell c r i) ≤ content_bound c i

module _ (c : Bytes) where
  abbrev bs : List ℕ
  bs = (table_of c).bounds

  abbrev rows : List Value
  rows = (table_of c).rows

  bounds-count : length bs ≡ table_columns c
  unfolding table_of
  bounds-count = bounds-length (table_columns c) (drop bounds_at c)

  rows-count : length rows ≡ table_rows c
  unfolding table_of
  rows-count = rows-length (table_columns c) (table_rows c) (drop (bounds_at + 4 * table_columns c) c)

  -- Where every column keeps its bound, 43 passes.
  pub bounded-each : ((i : ℕ) → i < table_columns c → Column c i) → bounded (table_of c) ≡ true
  unfolding bounded
  bounded-each h = rw (fit-each bs small) (rows-each bs rows (λ r p. within-each 0 bs (get_or rows r junk) (λ i q. cell r p i q)))
    where
      small : (i : ℕ) → i < length bs → get_or bs i 0 ≤ 2 ^ 31
      small i p = let q : i < table_columns c = omega (arith, bounds-count, p) in subst (λ (b : ℕ). b ≤ 2 ^ 31) (sym (bound-read c q)) (h i q).most

      cell : (r : ℕ) → r < length rows → (i : ℕ) → i < length bs → nat_abs (as_int (field_of (0 + i) (get_or rows r junk))) ≤ get_or bs i 0
      cell r p i q =
          let j : i < table_columns c = omega (arith, bounds-count, q) in
          let k : r < table_rows c = omega (arith, rows-count, p) in
          rw (zero-add i, bound-read c j) (subst (λ z. nat_abs z ≤ content_bound c i) (sym (cell-read c j k)) ((h i j).cells r k))

  -- Where 43 passes, every column keeps its bound.
  pub bounded-column : bounded (table_of c) ≡ true → {i : ℕ} → i < table_columns c → Column c i
  unfolding bounded
  bounded-column h {i} p =
      let t = (and-eq-true_iff (bounds_fit bs) (rows_within bs rows)).0 h in
      record {
        most = subst (λ (b : ℕ). b ≤ 2 ^ 31) (bound-read c p) (all-at (λ b. b ≤ 2 ^ 31) bs 0 (bounds-small bs t.0) (omega arith) i);
        cells = λ r q.
            let u : r < length rows = omega (arith, rows-count, q) in
            let j : i < length bs = omega (arith, bounds-count, p) in
            subst (λ z. nat_abs z ≤ content_bound c i) (cell-read c p q) (rw (← bound-read c p) (rw zero-add at (cells-within 0 bs (get_or rows r junk) (row-holds bs rows t.1 r u) i j)));
      }

  pub bounded-not : {i : ℕ} → i < table_columns c → (Column c i → ⊥) → bounded (table_of c) ≡ false
  bounded-not {i} p h = go (bounded (table_of c)) refl
    where
      go : (t : Bool) → bounded (table_of c) ≡ t → t ≡ false
      go true e = absurd (h (bounded-column e p))
      go false e = refl
