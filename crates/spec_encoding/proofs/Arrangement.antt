-- Pieces one after another: their length, and where each of their bytes stands. A table's content rearranged has the head, the bounds and the length of
-- the other.
use mathlib.Core.Path.{◌≡◌, refl, sym, ap, subst, ◌∙◌}
use mathlib.Core.List.{[], ◌∷◌, ◌++◌}
use mathlib.Core.Bool.{Bool, true, false}
use Prim.Native.Nat.{ℕ, zero, suc, ◌+◌, ◌*◌, ◌≤◌, ◌<◌}
use native.Mathlib.Nat.{add-zero, mul-zero, mul-suc, mul-le-mul_left}
use native.Mathlib.Omega.{arith}
use borrow.Author.Tests.{ltb-true, ltb-false}
use lib.Dec.{eqb, ltb}
use lib.ListN.{length, get_or, take, length-append, get_or-append}
use lib.Seq.{length-take-le, get_or-take, get_or-append-add}
use Rattle.spec_calculus.specs.Lists.{pick}
use Rattle.spec_encoding.specs.Record.{Bytes, byte, two}
use Rattle.spec_encoding.specs.Columns.{difference, summed, bytes_of, in_order, bytes_by_columns, bytes_by_rows}
use Rattle.spec_encoding.specs.Data.{table_number, table_collection, table_columns, table_rows, bounds_at, fits, cells_at, content_by_columns, content_by_rows, content_by}

-- ---- pieces of k bytes each
module _ (f : ℕ → Bytes) (k : ℕ) (each : (i : ℕ) → length (f i) ≡ k) where
  pub order-length : (n : ℕ) → length (in_order f n) ≡ k * n
  unfolding in_order
  order-length zero = omega (arith, mul-zero k)
  order-length (suc n) = length-append (in_order f n) (f n) ∙ omega (arith, order-length n, each n, mul-suc k n)

  pub order-byte : (n i x : ℕ) → i < n → x < k → get_or (in_order f n) (k * i + x) 0 ≡ get_or (f i) x 0
  unfolding in_order
  order-byte zero i x h q = absurd (omega arith)
  order-byte (suc n) i x h q = go (ltb i n) refl (λ l. order-byte n i x l q)
    where
      go : (t : Bool) → ltb i n ≡ t → (i < n → get_or (in_order f n) (k * i + x) 0 ≡ get_or (f i) x 0) → get_or (in_order f n ++ f n) (k * i + x) 0 ≡ get_or (f i) x 0
      go true e on =
          let l : i < n = ltb-true i n e in
          get_or-append (in_order f n) (f n) 0 (k * i + x) (omega (arith, order-length n, mul-suc k i, mul-le-mul_left {m = suc i} {n = n} k l)) ∙ on l
      go false e on =
          let s : n ≡ i = omega (arith, ltb-false i n e) in
          subst (λ (j : ℕ). get_or (in_order f n ++ f n) (k * j + x) 0 ≡ get_or (f j) x 0) s
          (subst (λ (p : ℕ). get_or (in_order f n ++ f n) (p + x) 0 ≡ get_or (f n) x 0) (order-length n) (get_or-append-add (in_order f n) (f n) x 0))

-- ---- n numbers in each of m pieces
module _ (g : ℕ → ℕ → ℕ) (m n : ℕ) where
  abbrev piece : ℕ → Bytes
  piece a = in_order (λ b. bytes_of (g a b)) n

  abbrev pub grid : Bytes
  grid = in_order piece m

  piece-length : (a : ℕ) → length (piece a) ≡ 4 * n
  piece-length a = order-length (λ b. bytes_of (g a b)) 4 (λ b. refl) n

  pub grid-length : length grid ≡ 4 * n * m
  grid-length = order-length piece (4 * n) piece-length m

  pub grid-byte : (a b x : ℕ) → a < m → b < n → x < 4 → get_or grid (4 * n * a + (4 * b + x)) 0 ≡ get_or (bytes_of (g a b)) x 0
  grid-byte a b x h q y =
      order-byte piece (4 * n) piece-length m a (4 * b + x) h (omega (arith, q, y))
      ∙ order-byte (λ b. bytes_of (g a b)) 4 (λ b. refl) n b x q y

-- ---- bytes with others from a place on
module _ (p : ℕ) (l G : Bytes) (inside : p ≤ length l) where
  pub front-byte : (j : ℕ) → j < p → byte (take p l ++ G) j ≡ byte l j
  front-byte j h = get_or-append (take p l) G 0 j (omega (arith, length-take-le p l inside)) ∙ get_or-take p l j 0 h

  pub behind-byte : (j : ℕ) → byte (take p l ++ G) (p + j) ≡ byte G j
  behind-byte j = subst (λ (k : ℕ). byte (take p l ++ G) (k + j) ≡ byte G j) (length-take-le p l inside) (get_or-append-add (take p l) G j 0)

  pub both-length : length (take p l ++ G) ≡ p + length G
  both-length = length-append (take p l) G ∙ ap (λ (k : ℕ). k + length G) (length-take-le p l inside)

-- what is asked of a content by 12 is asked of its length and its head
pub record SameHead (c e : Bytes) : Type 0 where
  pub number : table_number e ≡ table_number c
  pub collection : table_collection e ≡ table_collection c
  pub columns : table_columns e ≡ table_columns c
  pub rows : table_rows e ≡ table_rows c

head-same : (c G : Bytes) → cells_at c ≤ length c → SameHead c (take (cells_at c) c ++ G)
head-same c G p = record {
  number = front-byte (cells_at c) c G p 0 (omega arith);
  collection = front-byte (cells_at c) c G p 1 (omega arith);
  columns = front-byte (cells_at c) c G p 2 (omega arith);
  rows = rw (front-byte (cells_at c) c G p 3 (omega arith), front-byte (cells_at c) c G p (3 + 1) (omega arith));
}

fits-same : (c e : Bytes) → SameHead c e → length e ≡ length c → fits e ≡ fits c
unfolding fits
fits-same c e s l = rw (s.collection, s.columns, s.rows, l)

-- ---- the two arrangements of w columns and n rows from p on
module _ (w n : ℕ) (l : Bytes) (p : ℕ) where
  pub by-columns-length : length (bytes_by_columns w n l p) ≡ 4 * (w * n)
  unfolding bytes_by_columns
  by-columns-length = grid-length (λ i r. difference l (p + 4 * i) (4 * w) r) w n ∙ omega arith

  pub by-rows-length : length (bytes_by_rows w n l p) ≡ 4 * (w * n)
  unfolding bytes_by_rows
  by-rows-length = grid-length (λ r i. summed l (p + 4 * (n * i)) (suc r)) n w ∙ omega arith

-- what 12 asks of the length
abbrev pub Long : Bytes → Type 0
Long c = length c ≡ cells_at c + 4 * (table_columns c * table_rows c)

module _ (c : Bytes) (long : Long c) where
  within : cells_at c ≤ length c
  within = omega (arith, long)

  pub columns-head : SameHead c (content_by_columns c)
  unfolding content_by_columns
  columns-head = head-same c (bytes_by_columns (table_columns c) (table_rows c) c (cells_at c)) within

  pub rows_head : SameHead c (content_by_rows c)
  unfolding content_by_rows
  rows_head = head-same c (bytes_by_rows (table_columns c) (table_rows c) c (cells_at c)) within

  pub columns-length : length (content_by_columns c) ≡ length c
  unfolding content_by_columns
  columns-length =
      both-length (cells_at c) c (bytes_by_columns (table_columns c) (table_rows c) c (cells_at c)) within
      ∙ omega (arith, long, by-columns-length (table_columns c) (table_rows c) c (cells_at c))

  pub rows-length : length (content_by_rows c) ≡ length c
  unfolding content_by_rows
  rows-length =
      both-length (cells_at c) c (bytes_by_rows (table_columns c) (table_rows c) c (cells_at c)) within
      ∙ omega (arith, long, by-rows-length (table_columns c) (table_rows c) c (cells_at c))

  -- the refusals by its head and its length are the same
  pub columns-fit : fits (content_by_columns c) ≡ fits c
  columns-fit = fits-same c (content_by_columns c) columns-head columns-length

  pub rows_fit : fits (content_by_rows c) ≡ fits c
  rows_fit = fits-same c (content_by_rows c) rows_head rows-length

-- ---- of a record of kind k
module _ (k : ℕ) (c : Bytes) (long : Long c) where
  pub by-head : SameHead c (content_by k c)
  unfolding pick
  by-head = go (eqb k 23)
    where
      go : (t : Bool) → SameHead c (pick t (content_by_rows c) c)
      go true = rows_head c long
      go false = record { number = refl; collection = refl; columns = refl; rows = refl }

  pub by_length : length (content_by k c) ≡ length c
  unfolding pick
  by_length = go (eqb k 23)
    where
      go : (t : Bool) → length (pick t (content_by_rows c) c) ≡ length c
      go true = rows-length c long
      go false = refl

  pub by-fit : fits (content_by k c) ≡ fits c
  by-fit = fits-same c (content_by k c) by-head by_length
