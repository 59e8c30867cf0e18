-- "The same records in another order give the same answer" (document 02, E9), at the desk: it prints the same text.
use mathlib.Core.Path.{◌≡◌, refl, sym, ap, ap₂, ◌∙◌}
use mathlib.Core.List.{List, [], ◌∷◌, ◌++◌, append_assoc}
use mathlib.Core.Bool.{false}
use Prim.Native.Nat.{ℕ, zero, suc, ◌+◌, ◌≤◌}
use native.Mathlib.Omega.{arith}
use lib.Dec.{leb}
use lib.ListN.{length, take, drop, length-append}
use lib.Seq.{take_at, drop_at}
use Rattle.spec_calculus.specs.Lists.{pick}
use Rattle.spec_calculus.specs.Value.{Tables}
use Rattle.spec_calculus.specs.Rearrangement.{Rearranged}
use Rattle.spec_calculus.proofs.Lists.{All}
use Rattle.spec_encoding.specs.Record.{Bytes, got, and_then, length_of, behind}
use Rattle.spec_encoding.specs.Data.{is_table, read_data}
use Rattle.spec_plan.specs.Lines.{ascii}
use Rattle.spec_outcome.specs.RowOrder.{record_bytes}
use Rattle.spec_outcome.specs.RecordOrder.{WholeRecord, data_of}
use Rattle.spec_outcome.proofs.WholeRecord.{table-as, behind-is}
use Rattle.spec_outcome.proofs.RecordOrder.{read-any-order, OfTable, kinds-read, bytes_same, record-order-examined}
use Rattle.spec_desk.specs.Desk.{alone, plan_and_answer, or_refusal, asked, desk}
use Rattle.spec_desk.specs.TablesEnd.{table_bytes, tables_end}

-- where the question l begins behind d, over d that question is answered
pub desk-at : (l d : Bytes) → tables_end (d ++ l) ≡ length d → desk (d ++ l) ≡ pick (leb (length d + length l) 65536) (asked d l) (ascii "too long\n")
unfolding desk
desk-at l d k =
    ap (λ n. pick (leb (length (d ++ l)) 65536) (asked (take n (d ++ l)) (drop n (d ++ l))) (ascii "too long\n")) k
    ∙ ap₂ (λ x y. pick (leb (length (d ++ l)) 65536) (asked x y) (ascii "too long\n")) (take_at d l (length d) refl) (drop_at d l (length d) refl)
    ∙ ap (λ n. pick (leb n 65536) (asked d l) (ascii "too long\n")) (length-append d l)

-- ---- records of kind 20 or 23, and behind them l, which is "not a whole kind 20", nor 23
module _ (l : Bytes) (e : is_table l ≡ false) where
  ends : (f : ℕ) (rs : List WholeRecord) → All OfTable rs → length (data_of rs) ≤ f → table_bytes f (data_of rs ++ l) ≡ length (data_of rs)
  unfolding table_bytes pick
  ends zero [] K b = refl
  ends (suc f) [] K b = ap (λ t. pick t (4 + length_of l + table_bytes f (behind l)) 0) e
  ends zero (r ∷ rs) K b = absurd (omega arith)
  ends (suc f) (r ∷ rs) K b =
      let c = r.content in
      let d = data_of rs ++ l in
      let x = record_bytes r.length₀ r.length₁ r.kind₀ r.kind₁ c d in
      ap (λ m. table_bytes (suc f) (r.length₀ ∷ r.length₁ ∷ r.kind₀ ∷ r.kind₁ ∷ m)) (append_assoc c (data_of rs) l)
      ∙ ap (λ t. pick t (4 + length_of x + table_bytes f (behind x)) 0) (table-as r.length₀ r.length₁ r.kind₀ r.kind₁ c d r.counted ∙ K.0)
      ∙ ap₂ (λ k y. 4 + k + table_bytes f y) r.counted (behind-is r.length₀ r.length₁ r.kind₀ r.kind₁ c d r.counted)
      ∙ ap (λ k. 4 + length c + k) (ends f rs K.1 (omega (arith, b, length-append c (data_of rs))))
      ∙ omega (arith, length-append c (data_of rs))

  -- the question begins behind them
  pub tables_end_lem : (rs : List WholeRecord) → All OfTable rs → tables_end (data_of rs ++ l) ≡ length (data_of rs)
  unfolding tables_end
  tables_end_lem rs K = ends (length (data_of rs ++ l)) rs K (omega (arith, length-append (data_of rs) l))

  -- Table records that are read, in another order, and behind them the same question: the desk prints the same.
  pub desk-order : {rs us : List WholeRecord} → Rearranged rs us → {T : Tables} → read_data (data_of rs) ≡ got T → desk (data_of rs ++ l) ≡ desk (data_of us ++ l)
  unfolding asked
  desk-order {rs} {us} P t =
      desk-at l (data_of rs) (tables_end_lem rs (kinds-read rs t))
      ∙ ap₂ (λ n r. pick (leb (n + length l) 65536) (or_refusal (and_then r plan_and_answer)) (ascii "too long\n")) (bytes_same P) (record-order-examined P t (alone l))
      ∙ sym (desk-at l (data_of us) (tables_end_lem us (kinds-read us (read-any-order P t))))
