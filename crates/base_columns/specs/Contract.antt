-- What the loops over a table's columns ask and leave, and by which number a record is refused.
use Rattle.std.specs.Prelude.{◌≡◌, ℕ, zero, suc, ◌+◌, ◌*◌, ◌<◌, ◌≤◌, true, length, ◌≢◌, nat_le}
use Rattle.spec_calculus.specs.Lists.{pick}
use Rattle.spec_encoding.specs.Record.{Bytes, byte, length_of, content_of}
use Rattle.spec_encoding.specs.Columns.{difference, summed, bytes_of}
use Rattle.spec_encoding.specs.Data.{bounds_at, table_number, table_columns, table_rows, fits, cells_at, table_by, bounded}
use Rattle.spec_outcome.specs.Directions.{is_alone}

-- n numbers f, each in four bytes, the first at p, each step bytes behind the last, and nothing else
pub record Written (d d' : Bytes) (n p step : ℕ) (f : ℕ → ℕ) : Type 0 where
  pub long : length d' ≡ length d
  pub here : (r x : ℕ) → r < n → x < 4 → byte d' (p + step * r + x) ≡ byte (bytes_of (f r)) x
  pub other : (j : ℕ) → ((r : ℕ) → r < n → p + step * r ≤ j → j < p + step * r + 4 → ⊥) → byte d' j ≡ byte d j

-- n numbers of each of m columns, that in row r of column i the one at place q i r from p on, and nothing else
pub record Cells (d d' : Bytes) (m n p : ℕ) (q : ℕ → ℕ → ℕ) (f : ℕ → ℕ → ℕ) : Type 0 where
  pub long : length d' ≡ length d
  pub here : (i r x : ℕ) → i < m → r < n → x < 4 → byte d' (p + 4 * q i r + x) ≡ byte (bytes_of (f i r)) x
  pub other : (j : ℕ) → ((i r : ℕ) → i < m → r < n → p + 4 * q i r ≤ j → j < p + 4 * q i r + 4 → ⊥) → byte d' j ≡ byte d j

-- ---- one column: n cells from a place on, so many bytes apart
pub record FoldPre (c d : Bytes) (from step to n : ℕ) : Type 0 where
  pub reads : (r : ℕ) → r < n → from + step * r + 4 ≤ length c
  pub room : to + 4 * n ≤ length d
  pub most : step ≤ 32

abbrev pub FoldPost : Bytes → ℕ → ℕ → ℕ → ℕ → Bytes → Bytes → Type 0
FoldPost c from step n to d d' = Written d d' n to 4 (λ r. difference c from step r)

pub record UnfoldPre (c d : Bytes) (from to step n : ℕ) : Type 0 where
  pub reads : from + 4 * n ≤ length c
  pub room : (r : ℕ) → r < n → to + step * r + 4 ≤ length d
  pub least : 4 ≤ step
  pub most : step ≤ 32

abbrev pub UnfoldPost : Bytes → ℕ → ℕ → ℕ → ℕ → Bytes → Bytes → Type 0
UnfoldPost c from n to step d d' = Written d d' n to step (λ r. summed c from (suc r))

-- ---- all columns of a content of w columns and n rows; its record's bytes are in d
pub record CellsPre (c d : Bytes) (w n : ℕ) : Type 0 where
  pub least : 1 ≤ w
  pub most : w ≤ 8
  pub rows_most : n ≤ 1024
  pub long : length c ≡ bounds_at + 4 * w + 4 * (w * n)
  pub room : 4 + length c ≤ length d

abbrev pub ByColumnsPost : Bytes → ℕ → ℕ → Bytes → Bytes → Type 0
ByColumnsPost c w n d d' = Cells d d' w n (4 + (bounds_at + 4 * w)) (λ i r. n * i + r) (λ i r. difference c (bounds_at + 4 * w + 4 * i) (4 * w) r)

abbrev pub ByRowsPost : Bytes → ℕ → ℕ → Bytes → Bytes → Type 0
ByRowsPost c w n d d' = Cells d d' w n (4 + (bounds_at + 4 * w)) (λ i r. w * r + i) (λ i r. summed c (bounds_at + 4 * w + 4 * (n * i)) (suc r))

-- ---- the first n bytes of a record, of kind k
pub record HeadPost (l : Bytes) (n k : ℕ) (d d' : Bytes) : Type 0 where
  pub long : length d' ≡ length d
  pub front : (j : ℕ) → j < n → (j ≢ 2) → (j ≢ 3) → byte d' j ≡ byte l j
  pub kind : byte d' 2 ≡ k
  pub high : byte d' 3 ≡ 0
  pub behind : (j : ℕ) → n ≤ j → byte d' j ≡ byte d j

-- ---- the record's own refusals, and all of them where the target has so many bytes; 0 for none
unfoldable pub own_refusal : ℕ → Bytes → ℕ
own_refusal k c = pick (fits c) (pick (nat_le (table_number c) 7) (pick (bounded (table_by k c)) 0 43) 50) 12

unfoldable pub or_else : ℕ → ℕ → ℕ
or_else zero n = n
or_else (suc k) n = suc k

unfoldable pub refusal_of : ℕ → Bytes → ℕ → ℕ
refusal_of k l n = pick (is_alone k l) (or_else (own_refusal k (content_of l)) (pick (nat_le (length l) n) 0 52)) 11

-- a record that none refuses, and room for it
pub record Turnable (l d : Bytes) : Type 0 where
  pub alone : length l ≡ 4 + length_of l
  pub fitting : fits (content_of l) ≡ true
  pub room : length l ≤ length d

-- its head written for kind k; its columns and rows
pub record LaidHead (l : Bytes) (k : ℕ) (d d' : Bytes) (r : ℕ × ℕ) : Type 0 where
  pub head : HeadPost l (4 + cells_at (content_of l)) k d d'
  pub columns : r.0 ≡ table_columns (content_of l)
  pub rows : r.1 ≡ table_rows (content_of l)
