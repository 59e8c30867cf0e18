-- Each arrangement of a table's cells undoes the other, byte for byte; a table and its rearrangement are one table.
use mathlib.Core.Path.{◌≡◌, refl, sym, ap, ap₂, subst, ◌∙◌}
use mathlib.Core.List.{[], ◌∷◌, ◌++◌}
use mathlib.Core.Bool.{Bool, true, false}
use Prim.Native.Nat.{ℕ, zero, suc, ◌+◌, ◌-◌, ◌*◌, ◌/◌, ◌%◌, ◌^◌, ◌≤◌, ◌<◌}
use native.Mathlib.Nat.{add-zero, zero-add, mul-zero, mul-suc, mod-lt, div-add-mod', div-lt_iff_lt-mul, mul_comm, mul-le-mul_left}
use native.Mathlib.Omega.{arith}
use borrow.Author.Tests.{ltb-true, ltb-false}
use lib.Dec.{eqb, ltb}
use lib.ListN.{length, get_or, take}
use lib.Seq.{ext_get_or}
use Rattle.spec_calculus.specs.Lists.{pick}
use Rattle.spec_encoding.specs.Record.{Bytes, byte, four, signed}
use Rattle.spec_encoding.specs.Columns.{minus, plus, folded, unfolded, above, difference, summed, bytes_of, in_order, bytes_by_columns, bytes_by_rows}
use Rattle.spec_encoding.specs.Data.{table_columns, table_rows, bounds_at, table_of, cells_at, content_by_columns, content_by_rows, Octets, content_by, table_by}
use Rattle.spec_encoding.proofs.Folding.{folded_low, minus-low, plus-low, cell-back, stored_back}
use Rattle.spec_encoding.proofs.Arrangement.{grid, grid-byte, front-byte, behind-byte, both-length, SameHead, by-columns-length, by-rows-length, Long, columns-head, rows_head, columns-length, rows-length}
use Rattle.spec_encoding.proofs.ColumnBounds.{four_same, content_bound, content_cell}

-- ---- bytes
pub octets-append : (l m : Bytes) → Octets l → Octets m → Octets (l ++ m)
octets-append [] m h k j = k j
octets-append (x ∷ l) m h k zero = h zero
octets-append (x ∷ l) m h k (suc j) = octets-append l m (λ i. h (suc i)) k j

pub octets-take : (p : ℕ) (l : Bytes) → Octets l → Octets (take p l)
octets-take zero l h j = omega arith
octets-take (suc p) [] h j = omega arith
octets-take (suc p) (x ∷ l) h zero = h zero
octets-take (suc p) (x ∷ l) h (suc j) = octets-take p l (λ i. h (suc i)) j

octets-of : (w : ℕ) → Octets (bytes_of w)
octets-of w zero = omega arith
octets-of w (suc zero) = omega arith
octets-of w (suc (suc zero)) = omega arith
octets-of w (suc (suc (suc zero))) = omega arith
octets-of w (suc (suc (suc (suc j)))) = omega arith

octets-order : (f : ℕ → Bytes) → ((i : ℕ) → Octets (f i)) → (n : ℕ) → Octets (in_order f n)
unfolding in_order
octets-order f h zero j = omega arith
octets-order f h (suc n) j = octets-append (in_order f n) (f n) (octets-order f h n) (h n) j

pub octets-columns : (w n : ℕ) (l : Bytes) (p : ℕ) → Octets (bytes_by_columns w n l p)
unfolding bytes_by_columns
octets-columns w n l p = octets-order _ (λ i. octets-order _ (λ r. octets-of (difference l (p + 4 * i) (4 * w) r)) n) w

pub octets-rows : (w n : ℕ) (l : Bytes) (p : ℕ) → Octets (bytes_by_rows w n l p)
unfolding bytes_by_rows
octets-rows w n l p = octets-order _ (λ r. octets-order _ (λ i. octets-of (summed l (p + 4 * (n * i)) (suc r))) w) n

-- ---- four bytes and their number
pub four_low : (l : Bytes) → Octets l → (i : ℕ) → four l i < 2 ^ 32
four_low l h i = omega (arith, h i, h (i + 1), h (i + 2), h (i + 2 + 1))

join : (w q₁ q₂ q₃ a b c f : ℕ) → w ≡ a + 256 * q₁ → q₁ ≡ b + 256 * q₂ → q₂ ≡ c + 256 * q₃ → q₃ ≡ f → a + 256 * b + 65536 * (c + 256 * f) ≡ w
join w q₁ q₂ q₃ a b c f e₁ e₂ e₃ e₄ = omega arith

-- a number is that of its bytes
pub four-of : (w : ℕ) → w < 2 ^ 32 → four (bytes_of w) 0 ≡ w
four-of w h =
    join w (w / 256) (w / 65536) (w / 16777216) (w % 256) (w / 256 % 256) (w / 65536 % 256) (w / 16777216 % 256)
    (omega arith) (split (w / 256) ∙ ap (λ (q : ℕ). w / 256 % 256 + 256 * q) (deeper w)) (split (w / 65536) ∙ ap (λ (q : ℕ). w / 65536 % 256 + 256 * q) (deepest w)) (omega arith)
  where
    split : (q : ℕ) → q ≡ q % 256 + 256 * (q / 256)
    split q = omega arith

    deeper : (w : ℕ) → w / 256 / 256 ≡ w / 65536
    deeper w = omega arith

    deepest : (w : ℕ) → w / 65536 / 256 ≡ w / 16777216
    deepest w = omega arith

-- bytes are the same where their numbers are
digits : (a b c d e f g h : ℕ) → a < 256 → b < 256 → c < 256 → d < 256 → e < 256 → f < 256 → g < 256 → h < 256
    → a + 256 * b + 65536 * (c + 256 * d) ≡ e + 256 * f + 65536 * (g + 256 * h) → (a ≡ e) × (b ≡ f) × (c ≡ g) × (d ≡ h)
digits a b c d e f g h a' b' c' d' e' f' g' h' s = (omega arith, omega arith, omega arith, omega arith)

pub bytes_same : (l m : Bytes) → Octets l → Octets m → (i x : ℕ) → four l i ≡ four m i → x < 4 → byte l (i + x) ≡ byte m (i + x)
bytes_same l m L M i x s h =
    let t = digits (byte l i) (byte l (i + 1)) (byte l (i + 2)) (byte l (i + 2 + 1)) (byte m i) (byte m (i + 1)) (byte m (i + 2)) (byte m (i + 2 + 1))
    (L i) (L (i + 1)) (L (i + 2)) (L (i + 2 + 1)) (M i) (M (i + 1)) (M (i + 2)) (M (i + 2 + 1)) s in
    go x h t.0 t.1 t.2 t.3
  where
    go : (x : ℕ) → x < 4 → byte l i ≡ byte m i → byte l (i + 1) ≡ byte m (i + 1) → byte l (i + 2) ≡ byte m (i + 2) → byte l (i + 2 + 1) ≡ byte m (i + 2 + 1) → byte l (i + x) ≡ byte m (i + x)
    go zero h a b c d = subst (λ (k : ℕ). byte l k ≡ byte m k) (sym (add-zero i)) a
    go (suc zero) h a b c d = b
    go (suc (suc zero)) h a b c d = c
    go (suc (suc (suc zero))) h a b c d = subst (λ (k : ℕ). byte l k ≡ byte m k) (omega arith) d
    go (suc (suc (suc (suc x)))) h a b c d = absurd (omega arith)

-- ---- places: the byte of a number, the number of a piece
pub at_place : {A : Type 0} (m n y : ℕ) → y < 4 * (n * m) → ((a b x : ℕ) → a < m → b < n → x < 4 → 4 * (n * a + b) + x ≡ y → A) → A
at_place {A} m n y h k = go n h k
  where
    go : (n : ℕ) → y < 4 * (n * m) → ((a b x : ℕ) → a < m → b < n → x < 4 → 4 * (n * a + b) + x ≡ y → A) → A
    go zero h k = absurd (omega arith)
    go (suc n) h k =
        let q = y / 4 in
        let s : q / suc n * suc n + q % suc n ≡ q = div-add-mod' q (suc n) in
        k (q / suc n) (q % suc n) (y % 4)
        ((div-lt_iff_lt-mul {k = suc n} {x = q} {y = m} (omega arith)).1 (omega (arith, mul_comm m (suc n))))
        (mod-lt q (omega arith)) (omega arith) (omega (arith, s, mul_comm (suc n) (q / suc n)))

-- bytes that are the same before p, and the same numbers in n places of m pieces from there on
pub same_numbers : (p m n : ℕ) (l e : Bytes) → length e ≡ length l → length l ≡ p + 4 * (n * m) → Octets l → Octets e → ((j : ℕ) → j < p → byte e j ≡ byte l j)
    → ((a b : ℕ) → a < m → b < n → four e (p + 4 * (n * a + b)) ≡ four l (p + 4 * (n * a + b))) → e ≡ l
same_numbers p m n l e s t L E front cells = ext_get_or 0 e l s (λ j h. go j (omega (arith, s, t, h)) (ltb j p) refl)
  where
    go : (j : ℕ) → j < p + 4 * (n * m) → (b : Bool) → ltb j p ≡ b → byte e j ≡ byte l j
    go j h true q = front j (ltb-true j p q)
    go j h false q =
        let r : p ≤ j = ltb-false j p q in
        at_place m n (j - p) (omega arith) λ a b x u v y z.
        subst (λ (k : ℕ). byte e k ≡ byte l k) (omega arith) (bytes_same e l E L (p + 4 * (n * a + b)) x (cells a b u v) y)

-- ---- what stands where in each arrangement, of w columns and n rows from p on
grid-four : (g : ℕ → ℕ → ℕ) (m n p : ℕ) (l : Bytes) → p ≤ length l → (a b : ℕ) → a < m → b < n → g a b < 2 ^ 32 → four (take p l ++ grid g m n) (p + 4 * (n * a + b)) ≡ g a b
grid-four g m n p l inside a b u v h = four_same (take p l ++ grid g m n) (bytes_of (g a b)) (p + 4 * (n * a + b)) 0 at ∙ four-of (g a b) h
  where
    at : (x : ℕ) → x < 4 → get_or (take p l ++ grid g m n) (p + 4 * (n * a + b) + x) 0 ≡ get_or (bytes_of (g a b)) (0 + x) 0
    at x y =
        subst (λ (k : ℕ). byte (take p l ++ grid g m n) k ≡ byte (grid g m n) (4 * n * a + (4 * b + x))) (omega arith) (behind-byte p l (grid g m n) inside (4 * n * a + (4 * b + x)))
        ∙ grid-byte g m n a b x u v y
        ∙ ap (λ (k : ℕ). byte (bytes_of (g a b)) k) (sym (zero-add x))

module _ (w n p : ℕ) where
  abbrev pub columns_of : Bytes → Bytes
  columns_of l = take p l ++ bytes_by_columns w n l p

  abbrev pub rows_of : Bytes → Bytes
  rows_of l = take p l ++ bytes_by_rows w n l p

  -- where column i begins, and what the cell in row r of it is: by rows, by columns
  module _ (l : Bytes) (inside : p ≤ length l) {i r : ℕ} (u : i < w) (v : r < n) where
    pub columns-four : four (columns_of l) (p + 4 * (n * i) + 4 * r) ≡ difference l (p + 4 * i) (4 * w) r
    unfolding bytes_by_columns difference
    columns-four =
        let s : p + 4 * (n * i + r) ≡ p + 4 * (n * i) + 4 * r = omega arith in
        subst (λ (k : ℕ). four (columns_of l) k ≡ difference l (p + 4 * i) (4 * w) r) s
        (grid-four (λ i r. difference l (p + 4 * i) (4 * w) r) w n p l inside i r u v (folded_low _ (minus-low _ _)))

    pub rows_four : four (rows_of l) (p + 4 * i + 4 * w * r) ≡ summed l (p + 4 * (n * i)) (suc r)
    unfolding bytes_by_rows summed
    rows_four =
        let s : p + 4 * (w * r + i) ≡ p + 4 * i + 4 * w * r = omega arith in
        subst (λ (k : ℕ). four (rows_of l) k ≡ summed l (p + 4 * (n * i)) (suc r)) s
        (grid-four (λ r i. summed l (p + 4 * (n * i)) (suc r)) n w p l inside r i v u (plus-low _ _))

  -- ---- each undoes the other
  pub summed-low : (l : Bytes) (q r : ℕ) → summed l q r < 2 ^ 32
  unfolding summed
  summed-low l q zero = omega arith
  summed-low l q (suc r) = plus-low _ _

  pub above_low : (l : Bytes) → Octets l → (q step r : ℕ) → above l q step r < 2 ^ 32
  unfolding above
  above_low l h q step zero = omega arith
  above_low l h q step (suc r) = four_low l h (q + step * r)

  -- the sums over the differences are the cells
  pub sums-back : (l : Bytes) → Octets l → p ≤ length l → {i : ℕ} → i < w → (r : ℕ) → r ≤ n → summed (columns_of l) (p + 4 * (n * i)) r ≡ above l (p + 4 * i) (4 * w) r
  unfolding summed above difference
  sums-back l h inside u zero v = refl
  sums-back l h inside {i} u (suc r) v =
      ap₂ (λ a b. plus a (unfolded b)) (sums-back l h inside u r (omega arith)) (columns-four l inside u (omega arith))
      ∙ cell-back (four l (p + 4 * i + 4 * w * r)) (above l (p + 4 * i) (4 * w) r) (four_low l h _) (above_low l h (p + 4 * i) (4 * w) r)

  -- the differences of the sums are what was stored
  above-back : (l : Bytes) → p ≤ length l → {i : ℕ} → i < w → (r : ℕ) → r ≤ n → above (rows_of l) (p + 4 * i) (4 * w) r ≡ summed l (p + 4 * (n * i)) r
  unfolding above summed
  above-back l inside u zero v = refl
  above-back l inside u (suc r) v = rows_four l inside u (omega arith)

  pub differences-back : (l : Bytes) → Octets l → p ≤ length l → {i : ℕ} → i < w → {r : ℕ} → r < n → difference (rows_of l) (p + 4 * i) (4 * w) r ≡ four l (p + 4 * (n * i) + 4 * r)
  unfolding difference summed
  differences-back l h inside {i} u {r} v =
      ap₂ (λ a b. folded (signed (minus a b))) (rows_four l inside u v) (above-back l inside u r (omega arith))
      ∙ stored_back (four l (p + 4 * (n * i) + 4 * r)) (summed l (p + 4 * (n * i)) r) (four_low l h _) (summed-low l (p + 4 * (n * i)) r)

  module _ (l : Bytes) (h : Octets l) (long : length l ≡ p + 4 * (w * n)) where
    inside : p ≤ length l
    inside = omega (arith, long)

    columns-long : length (columns_of l) ≡ length l
    columns-long = both-length p l (bytes_by_columns w n l p) inside ∙ omega (arith, long, by-columns-length w n l p)

    rows_long : length (rows_of l) ≡ length l
    rows_long = both-length p l (bytes_by_rows w n l p) inside ∙ omega (arith, long, by-rows-length w n l p)

    pub rows-of-columns : rows_of (columns_of l) ≡ l
    unfolding above
    rows-of-columns =
        let e = columns_of l in
        let k : p ≤ length e = omega (arith, columns-long, inside) in
        same_numbers p n w l (rows_of e) (both-length p e (bytes_by_rows w n e p) k ∙ omega (arith, long, by-rows-length w n e p)) long h
        (octets-append (take p e) (bytes_by_rows w n e p) (octets-take p e (octets-append (take p l) (bytes_by_columns w n l p) (octets-take p l h) (octets-columns w n l p))) (octets-rows w n e p))
        (λ j q. front-byte p e (bytes_by_rows w n e p) k j q ∙ front-byte p l (bytes_by_columns w n l p) inside j q)
        (λ r i v u. subst (λ (x : ℕ). four (rows_of e) x ≡ four l x) (omega arith) (rows_four e k u v ∙ sums-back l h inside u (suc r) v))

    pub columns-of-rows : columns_of (rows_of l) ≡ l
    columns-of-rows =
        let e = rows_of l in
        let k : p ≤ length e = omega (arith, rows_long, inside) in
        same_numbers p w n l (columns_of e) (both-length p e (bytes_by_columns w n e p) k ∙ omega (arith, long, by-columns-length w n e p)) (long ∙ omega arith) h
        (octets-append (take p e) (bytes_by_columns w n e p) (octets-take p e (octets-append (take p l) (bytes_by_rows w n l p) (octets-take p l h) (octets-rows w n l p))) (octets-columns w n e p))
        (λ j q. front-byte p e (bytes_by_columns w n e p) k j q ∙ front-byte p l (bytes_by_rows w n l p) inside j q)
        (λ i r u v. subst (λ (x : ℕ). four (columns_of e) x ≡ four l x) (omega arith) (columns-four e k u v ∙ differences-back l h inside u v))

-- ---- contents
-- by the head of another content, where it is the same
rows_as : (c e : Bytes) → SameHead c e → content_by_rows e ≡ rows_of (table_columns c) (table_rows c) (cells_at c) e
unfolding content_by_rows
rows_as c e s = rw (s.columns, s.rows)

columns-as : (c e : Bytes) → SameHead c e → content_by_columns e ≡ columns_of (table_columns c) (table_rows c) (cells_at c) e
unfolding content_by_columns
columns-as c e s = rw (s.columns, s.rows)

module _ (c : Bytes) (h : Octets c) (long : Long c) where
  -- "each undoes the other, for every well formed table"
  pub content-rows-back : content_by_rows (content_by_columns c) ≡ c
  content-rows-back = rows_as c (content_by_columns c) (columns-head c long) ∙ (unfold content_by_columns in rows-of-columns (table_columns c) (table_rows c) (cells_at c) c h long)

  pub content-columns-back : content_by_columns (content_by_rows c) ≡ c
  content-columns-back = columns-as c (content_by_rows c) (rows_head c long) ∙ (unfold content_by_rows in columns-of-rows (table_columns c) (table_rows c) (cells_at c) c h long)

  -- "the same table rearranged"
  pub table-by_columns : table_by 23 (content_by_columns c) ≡ table_by 20 c
  unfolding table_by pick
  table-by_columns = ap table_of content-rows-back

pub table-by-rows : (c : Bytes) → table_by 20 (content_by_rows c) ≡ table_by 23 c
unfolding table_by pick
table-by-rows c = refl

-- ---- what the table of a content by columns has
-- sums over the same numbers
pub summed_same : (l m : Bytes) (p q n : ℕ) → ((x : ℕ) → x < n → four l (p + 4 * x) ≡ four m (q + 4 * x)) → summed l p n ≡ summed m q n
unfolding summed
summed_same l m p q zero h = refl
summed_same l m p q (suc n) h = ap₂ (λ a b. plus a (unfolded b)) (summed_same l m p q n (λ x u. h x (omega arith))) (h n (omega arith))

module _ (c : Bytes) (long : Long c) {i : ℕ} (u : i < table_columns c) where
  inside-content : cells_at c ≤ length c
  inside-content = omega (arith, long)

  -- in row r the sum of column i down to that row
  pub summed-cell : {r : ℕ} → r < table_rows c → content_cell (content_by_rows c) r i ≡ signed (summed c (cells_at c + 4 * (table_rows c * i)) (suc r))
  summed-cell {r} v =
      let e : bounds_at + 4 * table_columns c + 4 * (table_columns c * r + i) ≡ cells_at c + 4 * i + 4 * table_columns c * r = omega arith in
      ap (λ (w : ℕ). signed (four (content_by_rows c) (bounds_at + 4 * w + 4 * (w * r + i)))) (rows_head c long).columns
      ∙ ap (λ (k : ℕ). signed (four (content_by_rows c) k)) e
      ∙ ap signed (unfold content_by_rows in rows_four (table_columns c) (table_rows c) (cells_at c) c inside-content u v)

  summed-bound : content_bound (content_by_rows c) i ≡ content_bound c i
  unfolding content_by_rows
  summed-bound = four_same (content_by_rows c) c (bounds_at + 4 * i) (bounds_at + 4 * i)
      (λ x h. front-byte (cells_at c) c (bytes_by_rows (table_columns c) (table_rows c) c (cells_at c)) inside-content (bounds_at + 4 * i + x) (omega arith))

  -- the bounds of either kind stand where they do
  pub by-bound : (k : ℕ) → content_bound (content_by k c) i ≡ content_bound c i
  unfolding pick
  by-bound k = go (eqb k 23)
    where
      go : (t : Bool) → content_bound (pick t (content_by_rows c) c) i ≡ content_bound c i
      go true = summed-bound
      go false = refl
