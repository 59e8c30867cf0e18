-- "each undoes the other, for every well formed table" (document 02, E10), of whole records: from a record of one kind comes one of the other, and back
-- the same bytes.
use mathlib.Core.Path.{◌≡◌, refl, sym, ap, ap₂, subst, ◌∙◌}
use mathlib.Core.List.{[], ◌∷◌, ◌++◌}
use mathlib.Core.Bool.{Bool, true, false}
use Prim.Native.Nat.{ℕ, zero, suc, ◌+◌, ◌-◌, ◌*◌, ◌≤◌, ◌<◌}
use native.Mathlib.Omega.{arith}
use lib.ListN.{length, get_or, take, drop, length-drop}
use lib.Seq.{take_all, length-take-le, ext_get_or, get_or-take, get_or-drop}
use Rattle.spec_encoding.specs.Record.{Bytes, byte, two, length_of, kind_of, content_of}
use Rattle.spec_encoding.specs.Columns.{bytes_by_columns, bytes_by_rows}
use Rattle.spec_encoding.specs.Data.{table_columns, table_rows, fits, cells_at, content_by_columns, content_by_rows, with_kind, to_columns, to_rows, Octets, TableRecord, table_number, table_by}
use Rattle.spec_encoding.proofs.Arrangement.{Long, columns-head, rows_head, columns-length, rows-length, columns-fit, rows_fit}
use Rattle.spec_encoding.proofs.Data.{fit}
use Rattle.spec_encoding.proofs.Columns.{octets-append, octets-take, octets-columns, octets-rows, content-rows-back, content-columns-back, table-by_columns, table-by-rows}

octets-drop : (p : ℕ) (l : Bytes) → Octets l → Octets (drop p l)
octets-drop p l h j = subst (λ (x : ℕ). x < 256) (sym (get_or-drop p l j 0)) (h (p + j))

pub octets-content : (l : Bytes) → Octets l → Octets (content_of l)
octets-content l h = octets-take (length_of l) (drop 4 l) (octets-drop 4 l h)

pub content-length : (l : Bytes) → length l ≡ 4 + length_of l → length (content_of l) ≡ length_of l
content-length l a = length-take-le (length_of l) (drop 4 l) (omega (arith, length-drop 4 l, a))

-- a record is its header and its content
pub header-content : (l : Bytes) → length l ≡ 4 + length_of l → byte l 0 ∷ byte l 1 ∷ byte l 2 ∷ byte l 3 ∷ content_of l ≡ l
header-content l a = ext_get_or 0 (byte l 0 ∷ byte l 1 ∷ byte l 2 ∷ byte l 3 ∷ content_of l) l (omega (arith, content-length l a, a)) at
  where
    at : (j : ℕ) → j < length (byte l 0 ∷ byte l 1 ∷ byte l 2 ∷ byte l 3 ∷ content_of l) → get_or (byte l 0 ∷ byte l 1 ∷ byte l 2 ∷ byte l 3 ∷ content_of l) j 0 ≡ get_or l j 0
    at zero h = refl
    at (suc zero) h = refl
    at (suc (suc zero)) h = refl
    at (suc (suc (suc zero))) h = refl
    at (suc (suc (suc (suc j)))) h = get_or-take (length_of l) (drop 4 l) j 0 (omega (arith, content-length l a, h)) ∙ get_or-drop 4 l j 0 ∙ ap (λ (k : ℕ). get_or l k 0) (omega arith)

kind-bytes : (k a b : ℕ) → k < 256 → a + 256 * b ≡ k → (a ≡ k) × (b ≡ 0)
kind-bytes k a b l h = (omega arith, omega arith)

-- so a content is all that another kind needs
pub record_is : (k : ℕ) (l : Bytes) → k < 256 → kind_of l ≡ k → length l ≡ 4 + length_of l → with_kind k l (content_of l) ≡ l
record_is k l s e a =
    let b = kind-bytes k (byte l 2) (byte l 3) s e in
    ap₂ (λ x y. byte l 0 ∷ byte l 1 ∷ x ∷ y ∷ content_of l) (sym b.0) (sym b.1) ∙ header-content l a

-- ---- a record with another kind and another content of the same length
module _ (k : ℕ) (l c : Bytes) (s : length c ≡ length_of l) where
  pub with-content : content_of (with_kind k l c) ≡ c
  with-content = take_all (length_of l) c (omega (arith, s))

  pub with-alone : length (with_kind k l c) ≡ 4 + length_of (with_kind k l c)
  with-alone = omega (arith, s)

pub with-octets : (k : ℕ) (l c : Bytes) → k < 256 → Octets l → Octets c → Octets (with_kind k l c)
with-octets k l c s h g = octets-append (byte l 0 ∷ byte l 1 ∷ k ∷ 0 ∷ []) c front g
  where
    front : Octets (byte l 0 ∷ byte l 1 ∷ k ∷ 0 ∷ [])
    front zero = h 0
    front (suc zero) = h 1
    front (suc (suc zero)) = s
    front (suc (suc (suc zero))) = omega arith
    front (suc (suc (suc (suc j)))) = omega arith

-- ---- the two directions
module _ {l : Bytes} where
  module _ {k : ℕ} (R : TableRecord k l) where
    abbrev c : Bytes
    c = content_of l

    pub record-long : Long c
    record-long = (fit c R.fit).long

    columns-size : length (content_by_columns c) ≡ length_of l
    columns-size = columns-length c record-long ∙ content-length l R.alone

    rows-size : length (content_by_rows c) ≡ length_of l
    rows-size = rows-length c record-long ∙ content-length l R.alone

    columns-octets : Octets (content_by_columns c)
    unfolding content_by_columns
    columns-octets = octets-append (take (cells_at c) c) (bytes_by_columns (table_columns c) (table_rows c) c (cells_at c)) (octets-take (cells_at c) c (octets-content l R.octets)) (octets-columns (table_columns c) (table_rows c) c (cells_at c))

    rows-octets : Octets (content_by_rows c)
    unfolding content_by_rows
    rows-octets = octets-append (take (cells_at c) c) (bytes_by_rows (table_columns c) (table_rows c) c (cells_at c)) (octets-take (cells_at c) c (octets-content l R.octets)) (octets-rows (table_columns c) (table_rows c) c (cells_at c))

    columns-content : content_of (to_columns l) ≡ content_by_columns c
    unfolding to_columns
    columns-content = with-content 23 l (content_by_columns c) columns-size

    rows-content : content_of (to_rows l) ≡ content_by_rows c
    unfolding to_rows
    rows-content = with-content 20 l (content_by_rows c) rows-size

    pub to-columns-number : table_number (content_of (to_columns l)) ≡ table_number c
    to-columns-number = ap table_number columns-content ∙ (columns-head c record-long).number

    pub to-rows-number : table_number (content_of (to_rows l)) ≡ table_number c
    to-rows-number = ap table_number rows-content ∙ (rows_head c record-long).number

    -- the same length, kind 23 or 20
    pub to-columns-record : TableRecord 23 (to_columns l)
    unfolding to_columns
    to-columns-record = record {
      octets = with-octets 23 l (content_by_columns c) (omega arith) R.octets columns-octets;
      kind = refl;
      alone = with-alone 23 l (content_by_columns c) columns-size;
      fit = ap fits columns-content ∙ columns-fit c record-long ∙ R.fit;
    }

    pub to-rows-record : TableRecord 20 (to_rows l)
    unfolding to_rows
    to-rows-record = record {
      octets = with-octets 20 l (content_by_rows c) (omega arith) R.octets rows-octets;
      kind = refl;
      alone = with-alone 20 l (content_by_rows c) rows-size;
      fit = ap fits rows-content ∙ rows_fit c record-long ∙ R.fit;
    }

    pub to-columns-length : length (to_columns l) ≡ length l
    unfolding to_columns
    to-columns-length = omega (arith, columns-size, R.alone)

    pub to-rows-length : length (to_rows l) ≡ length l
    unfolding to_rows
    to-rows-length = omega (arith, rows-size, R.alone)

  -- byte for byte
  pub rows-undo-columns : TableRecord 20 l → to_rows (to_columns l) ≡ l
  unfolding to_columns to_rows
  rows-undo-columns R =
      ap (with_kind 20 l) (ap content_by_rows (columns-content R) ∙ content-rows-back (content_of l) (octets-content l R.octets) (record-long R))
      ∙ record_is 20 l (omega arith) R.kind R.alone

  pub columns-undo-rows : TableRecord 23 l → to_columns (to_rows l) ≡ l
  unfolding to_columns to_rows
  columns-undo-rows R =
      ap (with_kind 23 l) (ap content_by_columns (rows-content R) ∙ content-columns-back (content_of l) (octets-content l R.octets) (record-long R))
      ∙ record_is 23 l (omega arith) R.kind R.alone

  -- and one table
  pub to-columns-table : TableRecord 20 l → table_by 23 (content_of (to_columns l)) ≡ table_by 20 (content_of l)
  to-columns-table R = ap (table_by 23) (columns-content R) ∙ table-by_columns (content_of l) (octets-content l R.octets) (record-long R)

  pub to-rows-table : TableRecord 23 l → table_by 20 (content_of (to_rows l)) ≡ table_by 23 (content_of l)
  to-rows-table R = ap (table_by 20) (rows-content R) ∙ table-by-rows (content_of l)
