-- Reading at a whole record: it is tested, and its table stands at its number while the rest is read.
use mathlib.Core.Path.{◌≡◌, sym, ap, ap₂, ◌∙◌}
use mathlib.Core.List.{◌∷◌, ◌++◌}
use mathlib.Core.Bool.{Bool, true, false, not, ◌&&◌}
use Prim.Native.Nat.{ℕ, suc, ◌+◌, ◌*◌}
use native.Mathlib.Omega.{arith}
use borrow.Author.Tests.{le-leb}
use lib.Dec.{leb}
use lib.ListN.{length, set, take, drop, length-append}
use lib.Seq.{take_at, drop_at}
use Rattle.spec_calculus.specs.Lists.{pick}
use Rattle.spec_calculus.specs.Value.{Table, Tables, is_there}
use Rattle.spec_encoding.specs.Record.{Bytes, Result, refused, require, byte, length_of, kind_of, content_of, behind, is_whole}
use Rattle.spec_encoding.specs.Data.{is_kind, is_table, fits, table_number, table_by, bounded, tables_from}
use Rattle.spec_encoding.proofs.ColumnRecords.{header-content, content-length}
use Rattle.spec_outcome.specs.RowOrder.{record_bytes}

-- what is read behind a record, where it is a table (a) that fits (b), its number is one (s) and not yet used (u), and it keeps its bounds (z)
abbrev pub next : Bool → Bool → Bool → Bool → Bool → Result Tables → Result Tables
next a b s u z x = require 11 a (require 12 b (require 50 s (require 51 u (require 43 z x))))

-- the table t of content c put at its number
abbrev pub put : Tables → Bytes → Table → Tables
put T c t = set T (table_number c) t

-- what is read at a record of content c, whose table is t, behind those of the tables T, with d behind it
abbrev pub reading : ℕ → Tables → Bool → Bytes → Table → Bytes → Result Tables
reading n T a c t d = next a (fits c) (leb (table_number c) 7) (not (is_there T (table_number c))) (bounded t) (tables_from n (put T c t) d)

module _ (l₀ l₁ k₀ k₁ : ℕ) (c d : Bytes) (p : l₀ + 256 * l₁ ≡ length c) where
  whole : is_whole (record_bytes l₀ l₁ k₀ k₁ c d) ≡ true
  unfolding is_whole pick
  whole =
      let n = length (record_bytes l₀ l₁ k₀ k₁ c d) in
      ap (λ b. pick (leb 4 n) b false) (le-leb (4 + (l₀ + 256 * l₁)) n (omega (arith, p, length-append c d))) ∙ ap (λ b. pick b true false) (le-leb 4 n (omega arith))

  pub table-as : is_table (record_bytes l₀ l₁ k₀ k₁ c d) ≡ is_kind (k₀ + 256 * k₁)
  table-as = ap (λ b. b && is_kind (k₀ + 256 * k₁)) whole

  pub behind-is : behind (record_bytes l₀ l₁ k₀ k₁ c d) ≡ d
  behind-is = drop_at (l₀ ∷ l₁ ∷ k₀ ∷ k₁ ∷ c) d (4 + (l₀ + 256 * l₁)) (omega (arith, p))

  pub reads : (n : ℕ) (T : Tables) → tables_from (suc n) T (record_bytes l₀ l₁ k₀ k₁ c d) ≡ reading n T (is_kind (k₀ + 256 * k₁)) c (table_by (k₀ + 256 * k₁) c) d
  unfolding tables_from
  reads n T =
      ap (λ b. reading n T (b && is_kind k) (content (c ++ d)) (table_by k (content (c ++ d))) (behind' (c ++ d))) whole
      ∙ ap₂ (λ x b. reading n T (is_kind k) x (table_by k x) b) (take_at c d (l₀ + 256 * l₁) (sym p)) behind-is
    where
      k : ℕ
      k = k₀ + 256 * k₁

      content : Bytes → Bytes
      content x = take (l₀ + 256 * l₁) x

      behind' : Bytes → Bytes
      behind' x = drop (4 + (l₀ + 256 * l₁)) (l₀ ∷ l₁ ∷ k₀ ∷ k₁ ∷ x)

-- the same of a record that is alone, with d behind it
pub reads-alone : (l d : Bytes) → length l ≡ 4 + length_of l → (n : ℕ) (T : Tables)
    → tables_from (suc n) T (l ++ d) ≡ reading n T (is_kind (kind_of l)) (content_of l) (table_by (kind_of l) (content_of l)) d
reads-alone l d a n T =
    ap (λ x. tables_from (suc n) T (x ++ d)) (sym (header-content l a))
    ∙ reads (byte l 0) (byte l 1) (byte l 2) (byte l 3) (content_of l) d (sym (content-length l a)) n T

-- where no more records may follow
pub ninth : (l d : Bytes) → length l ≡ 4 + length_of l → (T : Tables) → tables_from 0 T (l ++ d) ≡ refused 13
unfolding tables_from
ninth l d a T = ap (λ x. tables_from 0 T (x ++ d)) (sym (header-content l a))
