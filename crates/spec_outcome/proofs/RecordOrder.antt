-- "The same records in another order give the same answer" (document 02, E9), over the outcomes: data that are read are read as the same tables in whichever
-- order their records stand, and the outcomes see nothing else of them.
use mathlib.Core.Path.{◌≡◌, refl, sym, ap, ◌∙◌}
use mathlib.Core.List.{List, [], ◌∷◌, ◌++◌}
use mathlib.Core.Bool.{Bool, true, false, not, true≢false, and-eq-true_iff}
use Prim.Native.Nat.{ℕ, zero, suc, ◌+◌, ◌*◌, ◌≤◌}
use native.Mathlib.Omega.{arith}
use borrow.Author.Tests.{leb-true, le-leb}
use lib.Dec.{leb}
use lib.ListN.{length, set, take, length-set, length-append, take-append-drop}
use lib.Seq.{length-take-le, get_or-set_same, get_or-set_other, set_comm, drop-drop}
use lib.IntN.{ℤ}
use Rattle.spec_calculus.specs.Lists.{pick}
use Rattle.spec_calculus.specs.Value.{Table, Tables, no_table, columns_of, is_there, no_tables}
use Rattle.spec_calculus.specs.Rearrangement.{Rearranged, nil, cons, swap, trans}
use Rattle.spec_calculus.proofs.Lists.{All}
use Rattle.spec_calculus.proofs.Truths.{not-true}
use Rattle.spec_calculus.proofs.Sorting.{rearranged-sym}
use Rattle.spec_encoding.specs.Record.{Bytes, Result, refused, got, require, length_of, kind_of, content_of, behind, is_whole}
use Rattle.spec_encoding.specs.Data.{is_kind, is_table, fits, table_number, table_by, bounded, tables_from, read_data}
use Rattle.spec_encoding.proofs.Data.{table-by-read}
use Rattle.spec_outcome.specs.Acceptance.{Lent, examine}
use Rattle.spec_outcome.specs.Outcome.{checked, plan_lines}
use Rattle.spec_outcome.specs.RowOrder.{Way, by}
use Rattle.spec_outcome.specs.RecordOrder.{WholeRecord, data_of}
use Rattle.spec_outcome.proofs.Checks.{passed}
use Rattle.spec_outcome.proofs.WholeRecord.{next, put, reads}
use Rattle.spec_outcome.proofs.SameTables.{examined-same, answered-same, checked-same, lines_same}

-- ---- one record
not-refused : {A : Type 0} (n : ℕ) {X : Tables} → refused n ≡ got X → A
not-refused n h = let o : ◌≡◌ {A = ℕ} 0 1 = cc h in absurd (omega arith)

-- what a record that was read has passed, and what was read behind it
record Admitted (a b s u z : Bool) (x : Result Tables) (U : Tables) : Type 0 where
  pub table : a ≡ true
  pub fitting : b ≡ true
  pub numbered : s ≡ true
  pub unused : u ≡ true
  pub within : z ≡ true
  pub rest : x ≡ got U

admitted : (a b s u z : Bool) (x : Result Tables) (U : Tables) → next a b s u z x ≡ got U → Admitted a b s u z x U
admitted a b s u z x U h =
    let p = passed 11 a (require 12 b (require 50 s (require 51 u (require 43 z x)))) U h in
    let q = passed 12 b (require 50 s (require 51 u (require 43 z x))) U p.1 in
    let r = passed 50 s (require 51 u (require 43 z x)) U q.1 in
    let v = passed 51 u (require 43 z x) U r.1 in
    let w = passed 43 z x U v.1 in
    record { table = p.0; fitting = q.0; numbered = r.0; unused = v.0; within = w.0; rest = w.1 }

admits : (a b s u z : Bool) (x : Result Tables) (U : Tables) → Admitted a b s u z x U → next a b s u z x ≡ got U
unfolding require
admits a b s u z x U A = ap (λ a. next a b s u z x) A.table ∙ ap (λ b. next true b s u z x) A.fitting ∙ ap (λ s. next true true s u z x) A.numbered
    ∙ ap (λ u. next true true true u z x) A.unused ∙ ap (λ z. next true true true true z x) A.within ∙ A.rest

-- the same of a record behind those of the tables T, with the records rs behind it
abbrev table_in : WholeRecord → Table
table_in r = table_by (r.kind₀ + 256 * r.kind₁) r.content

abbrev with : Tables → WholeRecord → Tables
with T r = put T r.content (table_in r)

abbrev Admits : ℕ → Tables → WholeRecord → List WholeRecord → Tables → Type 0
Admits n T r rs U =
    let c = r.content in
    let a = is_kind (r.kind₀ + 256 * r.kind₁) in
    Admitted a (fits c) (leb (table_number c) 7) (not (is_there T (table_number c))) (bounded (table_in r)) (tables_from n (with T r) (data_of rs)) U

front_read : (n : ℕ) (T : Tables) (r : WholeRecord) (rs : List WholeRecord) (U : Tables) → tables_from (suc n) T (data_of (r ∷ rs)) ≡ got U → Admits n T r rs U
front_read n T r rs U h = admitted _ _ _ _ _ _ U (sym (reads r.length₀ r.length₁ r.kind₀ r.kind₁ r.content (data_of rs) r.counted n T) ∙ h)

read-front : (n : ℕ) (T : Tables) (r : WholeRecord) (rs : List WholeRecord) (U : Tables) → Admits n T r rs U → tables_from (suc n) T (data_of (r ∷ rs)) ≡ got U
read-front n T r rs U A = reads r.length₀ r.length₁ r.kind₀ r.kind₁ r.content (data_of rs) r.counted n T ∙ admits _ _ _ _ _ _ U A

whole_long : (l : Bytes) → is_whole l ≡ true → (4 ≤ length l) × (4 + length_of l ≤ length l)
unfolding is_whole pick
whole_long l w = go (leb 4 (length l)) (leb (4 + length_of l) (length l)) refl refl w
  where
    go : (p q : Bool) → leb 4 (length l) ≡ p → leb (4 + length_of l) (length l) ≡ q → pick p q false ≡ true → (4 ≤ length l) × (4 + length_of l ≤ length l)
    go true true e f h = (leb-true 4 (length l) e, leb-true (4 + length_of l) (length l) f)
    go true false e f h = absurd (true≢false (sym h))
    go false q e f h = absurd (true≢false (sym h))

-- a record that is not cut short, at the front of whole records
front-record : (l : Bytes) → is_whole l ≡ true → (rs : List WholeRecord) → behind l ≡ data_of rs → (us : List WholeRecord) × (l ≡ data_of us)
front-record [] w rs h = absurd (omega (arith, (whole_long [] w).0))
front-record (a ∷ []) w rs h = absurd (omega (arith, (whole_long (a ∷ []) w).0))
front-record (a ∷ b ∷ []) w rs h = absurd (omega (arith, (whole_long (a ∷ b ∷ []) w).0))
front-record (a ∷ b ∷ c ∷ []) w rs h = absurd (omega (arith, (whole_long (a ∷ b ∷ c ∷ []) w).0))
front-record (a ∷ b ∷ c ∷ e ∷ l) w rs h =
    let k = a + 256 * b in
    let long : k ≤ length l = omega (arith, (whole_long (a ∷ b ∷ c ∷ e ∷ l) w).1) in
    let r : WholeRecord = record { length₀ = a; length₁ = b; kind₀ = c; kind₁ = e; content = take k l; counted = sym (length-take-le k l long) } in
    (r ∷ rs, ap (λ m. a ∷ b ∷ c ∷ e ∷ m) (sym (take-append-drop k l) ∙ ap (λ m. take k l ++ m) (drop-drop k 4 (a ∷ b ∷ c ∷ e ∷ l) ∙ h)))

-- ---- two records, one behind the other: their numbers are different, so it does not matter which is read first
module _ (T : Tables) (long : length T ≡ 8) (r : WholeRecord) (k : ℕ) (f : fits r.content ≡ true) (m : leb (table_number r.content) 7 ≡ true) (z : bounded (table_in r) ≡ true) where
  abbrev j : ℕ
  j = table_number r.content

  -- behind a table its number is used
  used : is_there (with T r) j ≡ true
  unfolding is_there columns_of
  used = ap (λ (t : Table). leb 1 t.columns) (get_or-set_same T j (table_in r) no_table (omega (arith, long, leb-true j 7 m)))
      ∙ le-leb 1 (table_in r).columns (table-by-read (r.kind₀ + 256 * r.kind₁) r.content f z).0

  module _ (u : is_there (with T r) k ≡ false) where
    apart : k ≡ j → ⊥
    apart h = true≢false (sym used ∙ ap (is_there (with T r)) (sym h) ∙ u)

-- a number that is another record's is used where it was before
unused-other : (T : Tables) (k j : ℕ) (t : Table) → (j ≡ k → ⊥) → is_there (set T k t) j ≡ is_there T j
unfolding is_there columns_of
unused-other T k j t h = ap (λ (x : Table). leb 1 x.columns) (get_or-set_other T k j t no_table h)

exchanged : (n : ℕ) (T : Tables) → length T ≡ 8 → (r q : WholeRecord) (rs : List WholeRecord) (U : Tables)
    → tables_from (suc (suc n)) T (data_of (r ∷ q ∷ rs)) ≡ got U → tables_from (suc (suc n)) T (data_of (q ∷ r ∷ rs)) ≡ got U
exchanged n T long r q rs U h =
    let A = front_read (suc n) T r (q ∷ rs) U h in
    let B = front_read n (with T r) q rs U A.rest in
    let j = table_number r.content in
    let k = table_number q.content in
    let different = apart T long r k A.fitting A.numbered A.within (not-true _ B.unused) in
    read-front (suc n) T q (r ∷ rs) U (record {
      table = B.table;
      fitting = B.fitting;
      numbered = B.numbered;
      unused = ap not (sym (unused-other T j k (table_in r) different)) ∙ B.unused;
      within = B.within;
      rest = read-front n (with T q) r rs U (record {
        table = A.table;
        fitting = A.fitting;
        numbered = A.numbered;
        unused = ap not (unused-other T k j (table_in q) (λ e. different (sym e))) ∙ A.unused;
        within = A.within;
        rest = ap (λ S. tables_from n S (data_of rs)) (set_comm T k j (table_in q) (table_in r) different) ∙ B.rest;
      });
    })

-- ---- all records
read-from : {rs us : List WholeRecord} → Rearranged rs us → (n : ℕ) (T : Tables) → length T ≡ 8 → (U : Tables)
    → tables_from n T (data_of rs) ≡ got U → tables_from n T (data_of us) ≡ got U
unfolding tables_from
read-from nil n T long U h = h
read-from (cons r P) zero T long U h = not-refused 13 h
read-from (cons r {l} {m} P) (suc n) T long U h =
    let A = front_read n T r l U h in
    read-front n T r m U (record {
      table = A.table;
      fitting = A.fitting;
      numbered = A.numbered;
      unused = A.unused;
      within = A.within;
      rest = read-from P n (with T r) (length-set T (table_number r.content) (table_in r) ∙ long) U A.rest;
    })
read-from (swap r q rs) zero T long U h = not-refused 13 h
read-from (swap r q rs) (suc zero) T long U h = not-refused 13 (front_read zero T r (q ∷ rs) U h).rest
read-from (swap r q rs) (suc (suc n)) T long U h = exchanged n T long r q rs U h
read-from (trans P Q) n T long U h = read-from Q n T long U (read-from P n T long U h)

-- Data that are read are read in every order of their records, as the same tables.
pub read-any-order : {rs us : List WholeRecord} → Rearranged rs us → {T : Tables} → read_data (data_of rs) ≡ got T → read_data (data_of us) ≡ got T
unfolding read_data
read-any-order P {T} h = read-from P 8 no_tables refl T h

-- Data that are refused are refused in every order of their records; "earliest record first", so the number may be another.
pub refused-any-order : {rs us : List WholeRecord} → Rearranged rs us → {m : ℕ} → read_data (data_of rs) ≡ refused m
    → (n : ℕ) × (read_data (data_of us) ≡ refused n)
refused-any-order {rs} {us} P {m} h = go (read_data (data_of us)) refl
  where
    go : (x : Result Tables) → read_data (data_of us) ≡ x → (n : ℕ) × (read_data (data_of us) ≡ refused n)
    go (refused n) e = (n, e)
    go (got U) e = not-refused m (sym h ∙ read-any-order (rearranged-sym P) e)

-- Data that are read are whole records: they have orders.
records-from : (n : ℕ) (T : Tables) (d : Bytes) (U : Tables) → tables_from n T d ≡ got U → (rs : List WholeRecord) × (d ≡ data_of rs)
unfolding tables_from
records-from zero T [] U h = ([], refl)
records-from zero T (b ∷ l) U h = not-refused 13 h
records-from (suc n) T [] U h = ([], refl)
records-from (suc n) T (b ∷ l) U h =
    let r = b ∷ l in
    let c = content_of r in
    let t = table_by (kind_of r) c in
    let x = tables_from n (put T c t) (behind r) in
    let A = admitted (is_table r) (fits c) (leb (table_number c) 7) (not (is_there T (table_number c))) (bounded t) x U h in
    let R = records-from n (put T c t) (behind r) U A.rest in
    front-record r ((and-eq-true_iff (is_whole r) (is_kind (kind_of r))).0 A.table).0 R.0 R.1

pub records-read : (d : Bytes) {T : Tables} → read_data d ≡ got T → (rs : List WholeRecord) × (d ≡ data_of rs)
unfolding read_data
records-read d {T} h = records-from 8 no_tables d T h

-- They are of kind 20 or 23, and have as many bytes in every order.
abbrev pub OfTable : WholeRecord → Type 0
OfTable r = is_kind (r.kind₀ + 256 * r.kind₁) ≡ true

kinds-from : (n : ℕ) (T : Tables) (rs : List WholeRecord) (U : Tables) → tables_from n T (data_of rs) ≡ got U → All OfTable rs
unfolding tables_from
kinds-from n T [] U h = tt
kinds-from zero T (r ∷ rs) U h = not-refused 13 h
kinds-from (suc n) T (r ∷ rs) U h = let A = front_read n T r rs U h in (A.table, kinds-from n (with T r) rs U A.rest)

pub kinds-read : (rs : List WholeRecord) {T : Tables} → read_data (data_of rs) ≡ got T → All OfTable rs
unfolding read_data
kinds-read rs {T} h = kinds-from 8 no_tables rs T h

pub bytes_same : {rs us : List WholeRecord} → Rearranged rs us → length (data_of rs) ≡ length (data_of us)
bytes_same nil = refl
bytes_same (cons r {l} {m} P) = omega (arith, length-append r.content (data_of l), length-append r.content (data_of m), bytes_same P)
bytes_same (swap r q rs) = omega (
  arith,
  length-append r.content (data_of (q ∷ rs)),
  length-append q.content (data_of (r ∷ rs)),
  length-append r.content (data_of rs),
  length-append q.content (data_of rs),
)
bytes_same (trans P Q) = bytes_same P ∙ bytes_same Q

-- ---- the outcomes
-- "The same records in another order give the same answer": whatever else is lent, number, length, buffer and scratch are the same, by loops, by plan, from the
-- checker and from the plan call; where the question is refused, too.
module _ {rs us : List WholeRecord} (P : Rearranged rs us) {T : Tables} (t : read_data (data_of rs) ≡ got T) (l : Lent) where
  same_read : read_data (data_of rs) ≡ read_data (data_of us)
  same_read = t ∙ sym (read-any-order P t)

  pub record-order-examined : examine (data_of rs) l ≡ examine (data_of us) l
  record-order-examined = examined-same (data_of rs) (data_of us) l same_read

  pub record-order : (w : Way) (s : List ℕ) (b : List ℤ) → by w (data_of rs) l s b ≡ by w (data_of us) l s b
  record-order = answered-same (data_of rs) (data_of us) l same_read

  pub record-order-checked : (s : List ℕ) → checked (data_of rs) l s ≡ checked (data_of us) l s
  record-order-checked = checked-same (data_of rs) (data_of us) l same_read

  pub record-order-lines : (s b : List ℕ) → plan_lines (data_of rs) l s b ≡ plan_lines (data_of us) l s b
  record-order-lines = lines_same (data_of rs) (data_of us) l same_read
