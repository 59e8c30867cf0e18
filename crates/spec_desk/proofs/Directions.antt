-- "The desk program's input take[s] kind 23" wherever it takes 20 (document 02, E10): it prints the same text over the same tables in the other kind.
use mathlib.Core.Path.{◌≡◌, refl, sym, ap, ap₂, subst, ◌∙◌}
use mathlib.Core.List.{◌++◌, append_assoc}
use mathlib.Core.Bool.{Bool, true, false}
use Prim.Native.Nat.{ℕ, zero, suc, ◌+◌, ◌*◌}
use native.Mathlib.Omega.{arith}
use lib.Dec.{leb}
use lib.ListN.{length, length-append}
use Rattle.spec_calculus.specs.Lists.{pick}
use Rattle.spec_calculus.specs.Value.{Tables}
use Rattle.spec_encoding.specs.Record.{Bytes, got, and_then, byte, length_of, kind_of, content_of}
use Rattle.spec_encoding.specs.Data.{is_kind, is_table, to_columns, to_rows, read_data}
use Rattle.spec_encoding.proofs.ColumnRecords.{content-length, header-content, to-columns-record, to-rows-record, to-columns-length, to-rows-length}
use Rattle.spec_plan.specs.Lines.{ascii}
use Rattle.spec_outcome.specs.Directions.{Turned, rest, same, columns, rows}
use Rattle.spec_outcome.proofs.WholeRecord.{table-as, behind-is}
use Rattle.spec_outcome.proofs.SameTables.{examined-same}
use Rattle.spec_outcome.proofs.RecordOrder.{records-read, kinds-read}
use Rattle.spec_outcome.proofs.Directions.{turned-read}
use Rattle.spec_desk.specs.Desk.{alone, plan_and_answer, or_refusal, asked, desk}
use Rattle.spec_desk.specs.TablesEnd.{table_bytes, tables_end}
use Rattle.spec_desk.proofs.RecordOrder.{desk-at, tables_end_lem}

-- "the same length"
pub turned-long : {d e : Bytes} → Turned d e → length d ≡ length e
turned-long (rest d) = refl
turned-long (same l {d} {e} a E) = omega (arith, length-append l d, length-append l e, turned-long E)
turned-long (columns l {d} {e} R E) = omega (arith, length-append l d, length-append (to_columns l) e, to-columns-length R, turned-long E)
turned-long (rows l {d} {e} R E) = omega (arith, length-append l d, length-append (to_rows l) e, to-rows-length R, turned-long E)

-- how many bytes of tables there are from a record that is alone on
table-bytes : (f : ℕ) (r d : Bytes) → length r ≡ 4 + length_of r → table_bytes (suc f) (r ++ d) ≡ pick (is_kind (kind_of r)) (length r + table_bytes f d) 0
unfolding table_bytes
table-bytes f r d a =
    ap (λ x. table_bytes (suc f) (x ++ d)) (sym (header-content r a))
    ∙ ap₂ (λ t y. pick t (4 + length_of r + table_bytes f y) 0) (table-as (byte r 0) (byte r 1) (byte r 2) (byte r 3) (content_of r) d p) (behind-is (byte r 0) (byte r 1) (byte r 2) (byte r 3) (content_of r) d p)
    ∙ ap (λ k. pick (is_kind (kind_of r)) (k + table_bytes f d) 0) (sym a)
  where
    p : byte r 0 + 256 * byte r 1 ≡ length (content_of r)
    p = sym (content-length r a)

module _ (l : Bytes) where
  -- a record r of d and a record s of e, both tables or neither, of one length
  one-ends : (f : ℕ) (r s d e : Bytes) → length r ≡ 4 + length_of r → length s ≡ 4 + length_of s → length r ≡ length s → is_kind (kind_of r) ≡ is_kind (kind_of s)
      → (table_bytes f (d ++ l) ≡ length d → table_bytes f (e ++ l) ≡ length e) → table_bytes (suc f) ((r ++ d) ++ l) ≡ length (r ++ d) → table_bytes (suc f) ((s ++ e) ++ l) ≡ length (s ++ e)
  unfolding pick
  one-ends f r s d e a b m k h z = go (is_kind (kind_of r)) refl
    where
      at : (x y : Bytes) → length x ≡ 4 + length_of x → table_bytes (suc f) ((x ++ y) ++ l) ≡ pick (is_kind (kind_of x)) (length x + table_bytes f (y ++ l)) 0
      at x y c = ap (table_bytes (suc f)) (append_assoc x y l) ∙ table-bytes f x (y ++ l) c

      go : (t : Bool) → is_kind (kind_of r) ≡ t → table_bytes (suc f) ((s ++ e) ++ l) ≡ length (s ++ e)
      go true q =
          let u : table_bytes (suc f) ((r ++ d) ++ l) ≡ length r + table_bytes f (d ++ l) = at r d a ∙ ap (λ t. pick t (length r + table_bytes f (d ++ l)) 0) q in
          let v : table_bytes (suc f) ((s ++ e) ++ l) ≡ length s + table_bytes f (e ++ l) = at s e b ∙ ap (λ t. pick t (length s + table_bytes f (e ++ l)) 0) (sym k ∙ q) in
          omega (arith, v, h (omega (arith, u, z, length-append r d)), length-append s e)
      go false q =
          let u : table_bytes (suc f) ((r ++ d) ++ l) ≡ 0 = at r d a ∙ ap (λ t. pick t (length r + table_bytes f (d ++ l)) 0) q in
          absurd (omega (arith, u, z, a, length-append r d))

  -- where the question begins behind the one, it begins behind the other
  turned-ends : {d e : Bytes} (f : ℕ) → Turned d e → table_bytes f (d ++ l) ≡ length d → table_bytes f (e ++ l) ≡ length e
  turned-ends f (rest d) z = z
  turned-ends zero (same r {d} {e} a E) z = unfold table_bytes in absurd (omega (arith, z, a, length-append r d))
  turned-ends (suc f) (same r {d} {e} a E) z = one-ends f r r d e a a refl refl (λ h. turned-ends f E h) z
  turned-ends zero (columns r {d} {e} R E) z = unfold table_bytes in absurd (omega (arith, z, R.alone, length-append r d))
  turned-ends (suc f) (columns r {d} {e} R E) z =
      let S = to-columns-record R in
      one-ends f r (to_columns r) d e R.alone S.alone (sym (to-columns-length R)) (ap is_kind R.kind ∙ sym (ap is_kind S.kind)) (λ h. turned-ends f E h) z
  turned-ends zero (rows r {d} {e} R E) z = unfold table_bytes in absurd (omega (arith, z, R.alone, length-append r d))
  turned-ends (suc f) (rows r {d} {e} R E) z =
      let S = to-rows-record R in
      one-ends f r (to_rows r) d e R.alone S.alone (sym (to-rows-length R)) (ap is_kind R.kind ∙ sym (ap is_kind S.kind)) (λ h. turned-ends f E h) z

  -- Table records, some in the other kind, and behind them the same question: the desk prints the same, where the data are refused, too.
  pub desk-turned : {d e : Bytes} → Turned d e → tables_end (d ++ l) ≡ length d → desk (d ++ l) ≡ desk (e ++ l)
  unfolding asked tables_end
  desk-turned {d} {e} E z =
      desk-at l d z
      ∙ ap₂ (λ k r. pick (leb (k + length l) 65536) (or_refusal (and_then r plan_and_answer)) (ascii "too long\n")) (turned-long E) (examined-same d e (alone l) (turned-read E))
      ∙ sym (desk-at l e (turned-ends (length (e ++ l)) E (subst (λ f. table_bytes f (d ++ l) ≡ length d) (omega (arith, length-append d l, length-append e l, turned-long E)) z)))

  -- So it begins behind all data that are read, where it is "not a whole kind 20", nor 23.
  pub read-ends : is_table l ≡ false → (d : Bytes) {T : Tables} → read_data d ≡ got T → tables_end (d ++ l) ≡ length d
  read-ends n d {T} t =
      let R = records-read d t in
      subst (λ (x : Bytes). tables_end (x ++ l) ≡ length x) (sym R.1) (tables_end_lem l n R.0 (kinds-read R.0 (ap read_data (sym R.1) ∙ t)))
