-- What a description says of a log is what the tables that were read say: whether it is one, and its times. Assumes nothing.
use mathlib.Core.Path.{◌≡◌, refl, sym, ap, ap₂, subst, ◌∙◌}
use mathlib.Core.List.{List, [], ◌∷◌, map}
use mathlib.Core.Bool.{true, false, ◌&&◌}
use Prim.Native.Nat.{ℕ, suc, ◌+◌, ◌≤◌, ◌<◌}
use native.Mathlib.Omega.{arith}
use borrow.Author.Tests.{lt-ltb, leb-true, eq-eqb}
use lib.Dec.{eqb, leb}
use lib.ListN.{length, get_or}
use lib.IntN.{ℤ}
use Rattle.spec_calculus.specs.Lists.{pick}
use Rattle.spec_calculus.specs.Syntax.{Collection, list, bag, set}
use Rattle.spec_calculus.specs.Value.{Value, junk, as_int, field_of, Tables, kind_of, columns_of, is_there, rows_of}
use Rattle.spec_calculus.proofs.WellFormed.{absent-no-rows}
use Rattle.spec_encoding.specs.Record.{Bytes, got, signed}
use Rattle.spec_encoding.specs.Data.{read_data}
use Rattle.spec_encoding.proofs.Data.{read-well-formed}
use Rattle.base_signed.proofs.SignedWords.{by-test}
use Rattle.spec_logs.specs.Logs.{never_falls}
use Rattle.spec_logs.specs.PairLogs.{log_of, is_list, is_log}
use Rattle.base_tables.specs.Description.{columns_in, rows_in, subset_in, table_in, stored_word_in, word_in, cell_in, collection_number, Describes}
use Rattle.base_tables.specs.DataReader.{Stored}
use Rattle.base_tables.proofs.TableWords.{described-in, undescribed, none-left-out}
use Rattle.base_logs.specs.Times.{times_from, times_in, is_log_in}

list-number : (c : Collection) → eqb (collection_number c) 1 ≡ is_list c
unfolding collection_number is_list
list-number list = refl
list-number bag = refl
list-number set = refl

abbrev time : Value → ℤ
time v = as_int (field_of 0 v)

-- times that are those of the rows, one by one
times-are : (d : Bytes) (w r : ℕ) (l : List Value) → ((i : ℕ) → i < length l → signed (stored_word_in d w (r + i) 0) ≡ time (get_or l i junk)) → times_from d w r (length l) ≡ map time l
unfolding times_from
times-are d w r [] h = refl
times-are d w r (v ∷ l) h =
    ap₂ (λ z m. z ∷ m) (ap (λ (k : ℕ). signed (stored_word_in d w k 0)) here ∙ h 0 (omega arith))
    (times-are d w (suc r) l (λ i p. ap (λ (k : ℕ). signed (stored_word_in d w k 0)) (next i) ∙ h (suc i) (omega arith)))
  where
    here : r ≡ r + 0
    here = omega arith

    next : (i : ℕ) → suc r + i ≡ r + suc i
    next i = omega arith

module _ {d : Bytes} {T : Tables} {k w : ℕ} (D : Describes d T k w) (f : subset_in w ≡ 0) (p : is_there T k ≡ true) where
  wide : 1 ≤ columns_of T k
  unfolding is_there
  wide = leb-true 1 (columns_of T k) p

  word-time : (r : ℕ) → r < length (rows_of T k) → signed (stored_word_in d w r 0) ≡ time (get_or (rows_of T k) r junk)
  unfolding cell_in word_in pick
  word-time r l = sym (rw (lt-ltb r (rows_in w) (omega (arith, D.rows, l)), lt-ltb 0 (columns_in w) (omega (arith, D.columns, wide)), eq-eqb (subset_in w) 0 f) refl) ∙ D.cell r 0 l wide

  described-times : times_in d w ≡ log_of T k
  unfolding log_of
  described-times =
      ap (times_from d w 0) D.rows
      ∙ times-are d w 0 (rows_of T k) (λ i l. let e : 0 + i ≡ i = omega arith in ap (λ (j : ℕ). signed (stored_word_in d w j 0)) e ∙ word-time i l)

  described-log : is_log_in d w ≡ is_log T k
  unfolding is_log_in is_log is_there
  described-log =
      ap₂ ◌&&◌ (ap (leb 1) D.columns)
      (ap₂ ◌&&◌ (ap (λ (n : ℕ). eqb n 1) D.collection ∙ list-number (kind_of T k)) (ap never_falls described-times))

-- ---- of the tables that were read, table k
pub record DescribedLog (d : Bytes) (T : Tables) (k w : ℕ) : Type 0 where
  pub times : times_in d w ≡ log_of T k
  pub is : is_log_in d w ≡ is_log T k
  pub rows : rows_in w ≡ length (rows_of T k)

absent-log : (d : Bytes) (T : Tables) (k : ℕ) → is_there T k ≡ false → rows_of T k ≡ [] → DescribedLog d T k 0
unfolding times_from log_of is_log_in is_log
absent-log d T k p e = record { times = ap (map time) (sym e); is = rw p refl; rows = ap length (sym e) }

pub described-log-in : {d : Bytes} {T : Tables} {s : List ℕ} → Stored d s → read_data d ≡ got T → (k : ℕ) → {w : ℕ} → w ≡ table_in s k → DescribedLog d T k w
described-log-in {d} {T} {s} S h k e = subst (DescribedLog d T k) (sym e) (by-test (is_there T k)
    (λ p. let D = described-in S h k p in let f = none-left-out S h k in record { times = described-times D f p; is = described-log D f p; rows = D.rows })
    (λ p. subst (DescribedLog d T k) (sym (undescribed S h k p)) (absent-log d T k p (absent-no-rows (read-well-formed d h) k p))))
