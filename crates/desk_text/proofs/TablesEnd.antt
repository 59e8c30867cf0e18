-- Where the table records end.
use mathlib.Core.Path.{◌≡◌, refl, sym, ap, ◌∙◌}
use mathlib.Core.Bool.{Bool, true, false}
use Prim.Native.Nat.{ℕ, zero, suc, ◌+◌, ◌-◌, ◌≤◌}
use native.Mathlib.Omega.{arith}
use lib.ListN.{length, take, drop, length-drop}
use lib.Seq.{take_all, drop-drop}
use Rattle.spec_calculus.specs.Lists.{pick}
use Rattle.base_signed.proofs.SignedWords.{by-test}
use Rattle.spec_encoding.specs.Record.{Bytes, length_of, behind}
use Rattle.spec_encoding.specs.Data.{is_table}
use Rattle.std.specs.Prelude.{Option, Some, None}
use Rattle.base_tables.specs.DataReader.{header_gives, header_at}
use Rattle.base_tables.proofs.DataRecords.{passes, whole}
use Rattle.base_tables.proofs.ByteReaders.{found, not_found}
use Rattle.spec_desk.specs.TablesEnd.{table_bytes, tables_end}

-- ---- one record
table_more : (f : ℕ) (l : Bytes) → is_table l ≡ true → table_bytes (suc f) l ≡ 4 + length_of l + table_bytes f (behind l)
unfolding table_bytes pick
table_more f l e = ap (λ (t : Bool). pick t (4 + length_of l + table_bytes f (behind l)) 0) e

table_none : (f : ℕ) (l : Bytes) → is_table l ≡ false → table_bytes f l ≡ 0
unfolding table_bytes pick
table_none zero l e = refl
table_none (suc f) l e = ap (λ (t : Bool). pick t (4 + length_of l + table_bytes f (behind l)) 0) e

no_bytes : (l : Bytes) → length l ≤ 0 → is_table l ≡ false
no_bytes l p = passes (is_table l) (whole l) (λ w. omega (arith, w.within))

-- any two counts of records that are enough give the same
same : (f g : ℕ) (l : Bytes) → length l ≤ f → length l ≤ g → table_bytes f l ≡ table_bytes g l
same zero g l p q = table_none zero l (no_bytes l p) ∙ sym (table_none g l (no_bytes l p))
same (suc f) zero l p q = table_none (suc f) l (no_bytes l q) ∙ sym (table_none zero l (no_bytes l q))
same (suc f) (suc g) l p q = by-test (is_table l)
    (λ e.
    let shorter = length-drop (4 + length_of l) l in
    table_more f l e ∙ ap (λ (k : ℕ). 4 + length_of l + k) (same f g (behind l) (omega (arith, (whole l e).within, shorter)) (omega (arith, (whole l e).within, shorter))) ∙ sym (table_more g l e))
    (λ e. table_none (suc f) l e ∙ sym (table_none (suc g) l e))

-- one table more, or none
pub end_more : (l : Bytes) → is_table l ≡ true → tables_end l ≡ 4 + length_of l + tables_end (behind l)
unfolding tables_end
end_more l e = same (length l) (suc (length l)) l (omega arith) (omega arith) ∙ table_more (length l) l e
    ∙ ap (λ (k : ℕ). 4 + length_of l + k) (same (length l) (length (behind l)) (behind l) (omega (arith, length-drop (4 + length_of l) l)) (omega arith))

pub end_none : (l : Bytes) → is_table l ≡ false → tables_end l ≡ 0
unfolding tables_end
end_none l e = table_none (length l) l e

-- the records before p are tables
pub record Past (s : Bytes) (p : ℕ) : Type 0 where
  pub within : p ≤ length s
  pub rest : tables_end s ≡ p + tables_end (drop p s)

pub past-none : (s : Bytes) → Past s 0
past-none s = record { within = omega arith; rest = omega arith }

module _ (s : Bytes) (p : ℕ) (P : Past s p) where
  ends : is_table (drop p s) ≡ false → (p ≡ tables_end s) × (p ≤ length s)
  ends e = (omega (arith, P.rest, end_none (drop p s) e), P.within)

  pub past_all : length s ≤ p → (p ≡ tables_end s) × (p ≤ length s)
  past_all h = ends (no_bytes (drop p s) (omega (arith, length-drop p s)))

  -- `&input[p..]`
  part : take (length s - p) (drop p s) ≡ drop p s
  part = take_all (length s - p) (drop p s) (omega (arith, length-drop p s))

  module _ {h : Option ℕ} (e : header_gives h ≡ header_at (take (length s - p) (drop p s))) where
    pub past-bad : h ≡ None → (p ≡ tables_end s) × (p ≤ length s)
    past-bad q = ends (not_found (drop p s) (e ∙ ap header_at part) q)

    module _ {n : ℕ} (q : h ≡ Some n) where
      here : (is_table (drop p s) ≡ true) × (length_of (drop p s) ≡ n)
      here = found (drop p s) (e ∙ ap header_at part) q

      pub record-room : p + (4 + n) ≤ length s
      record-room = omega (arith, P.within, (whole (drop p s) here.0).within, here.1, length-drop p s)

      behind-is : behind (drop p s) ≡ drop (p + (4 + n)) s
      behind-is = drop-drop (4 + length_of (drop p s)) p s ∙ ap (λ (k : ℕ). drop (p + (4 + k)) s) here.1

      pub past_more : Past s (p + (4 + n))
      past_more = record {
        within = record-room;
        rest = omega (arith, P.rest, end_more (drop p s) here.0, here.1, ap tables_end behind-is);
      }
