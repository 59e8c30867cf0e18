-- "The engine reads either kind, with the same answers" (document 02, E10): data in which tables are turned into the other kind have the same outcome
-- from every call; and each of the two calls that turn them undoes the other.
use mathlib.Core.Path.{◌≡◌, refl, sym, ap, ap₂, subst, ◌∙◌}
use mathlib.Core.List.{List, [], ◌∷◌, ◌++◌}
use mathlib.Core.Bool.{Bool, true, false, not, ◌&&◌, and-eq-true_iff}
use Prim.Native.Nat.{ℕ, zero, suc, ◌+◌, ◌≤◌}
use native.Mathlib.Omega.{arith}
use borrow.Author.Tests.{le-leb, leb-true, eqb-true, eq-eqb}
use lib.Dec.{eqb, leb}
use lib.ListN.{length, take, drop}
use lib.ListN as Li
use lib.Seq.{take_at}
use lib.IntN.{ℤ}
use Rattle.spec_calculus.specs.Lists.{pick}
use Rattle.spec_calculus.specs.Syntax.{Collection}
use Rattle.spec_calculus.specs.Value.{Value, Table, Tables, is_there, no_tables}
use Rattle.spec_encoding.specs.Record.{Bytes, Result, refused, got, and_then, require, length_of, kind_of, content_of, is_whole}
use Rattle.spec_encoding.specs.Data.{is_kind, fits, table_number, to_columns, to_rows, Octets, TableRecord, table_by, bounded, tables_from, read_data}
use Rattle.spec_encoding.proofs.Refusals.{Only, only-require}
use Rattle.spec_encoding.proofs.ColumnRecords.{to-columns-record, to-rows-record, to-columns-length, to-rows-length, to-columns-number, to-rows-number, rows-undo-columns, columns-undo-rows, to-columns-table, to-rows-table}
use Rattle.spec_outcome.specs.Acceptance.{Lent}
use Rattle.spec_outcome.specs.Outcome.{checked, plan_lines}
use Rattle.spec_outcome.specs.RowOrder.{Rereads, Rewritten, Way, by}
use Rattle.spec_outcome.specs.Directions.{Filled, filled, is_alone, turned, table_to_columns, table_to_rows, Turned, rest, same, columns, rows}
use Rattle.spec_outcome.proofs.Checks.{passed}
use Rattle.spec_outcome.proofs.CheckOrder as CheckOrder
use Rattle.spec_outcome.proofs.WholeRecord.{next, put, reading, reads-alone, ninth}
use Rattle.spec_outcome.proofs.SameTables.{answered-same, checked-same, lines_same}

-- ---- data
-- records of two contents that are read as one table at one number
reading-same : (n : ℕ) (T : Tables) (a b : Bool) (c f : Bytes) (t u : Table) (d e : Bytes) → a ≡ b → fits c ≡ fits f → table_number c ≡ table_number f → t ≡ u
    → tables_from n (put T c t) d ≡ tables_from n (put T c t) e → reading n T a c t d ≡ reading n T b f u e
reading-same n T a b c f t u d e p g j s h =
    ap (λ r. next a (fits c) (leb (table_number c) 7) (not (is_there T (table_number c))) (bounded t) r) h
    ∙ ap₂ (λ a x. next a x (leb (table_number c) 7) (not (is_there T (table_number c))) (bounded t) (tables_from n (put T c t) e)) p g
    ∙ ap₂ (λ k t. next b (fits f) (leb k 7) (not (is_there T k)) (bounded t) (tables_from n (Li.set T k t) e)) j s

-- a record l and a record m that are read so
one_same : (l m d e : Bytes) → length l ≡ 4 + length_of l → length m ≡ 4 + length_of m → is_kind (kind_of l) ≡ is_kind (kind_of m) → fits (content_of l) ≡ fits (content_of m)
    → table_number (content_of l) ≡ table_number (content_of m) → table_by (kind_of l) (content_of l) ≡ table_by (kind_of m) (content_of m)
    → (n : ℕ) (T : Tables) → ((k : ℕ) (U : Tables) → tables_from k U d ≡ tables_from k U e) → tables_from n T (l ++ d) ≡ tables_from n T (m ++ e)
one_same l m d e a b k g j s zero T h = ninth l d a T ∙ sym (ninth m e b T)
one_same l m d e a b k g j s (suc n) T h =
    reads-alone l d a n T
    ∙ reading-same n T (is_kind (kind_of l)) (is_kind (kind_of m)) (content_of l) (content_of m) (table_by (kind_of l) (content_of l)) (table_by (kind_of m) (content_of m)) d e k g j s (h n _)
    ∙ sym (reads-alone m e b n T)

turned-from : {d e : Bytes} → Turned d e → (n : ℕ) (T : Tables) → tables_from n T d ≡ tables_from n T e
turned-from (rest d) n T = refl
turned-from (same l {d} {e} a E) n T = one_same l l d e a a refl refl refl refl n T (λ k U. turned-from E k U)
turned-from (columns l {d} {e} R E) n T =
    let S = to-columns-record R in
    one_same l (to_columns l) d e R.alone S.alone (ap is_kind R.kind ∙ sym (ap is_kind S.kind)) (R.fit ∙ sym S.fit) (sym (to-columns-number R))
    (ap (λ k. table_by k (content_of l)) R.kind ∙ sym (to-columns-table R) ∙ sym (ap (λ k. table_by k (content_of (to_columns l))) S.kind)) n T (λ k U. turned-from E k U)
turned-from (rows l {d} {e} R E) n T =
    let S = to-rows-record R in
    one_same l (to_rows l) d e R.alone S.alone (ap is_kind R.kind ∙ sym (ap is_kind S.kind)) (R.fit ∙ sym S.fit) (sym (to-rows-number R))
    (ap (λ k. table_by k (content_of l)) R.kind ∙ sym (to-rows-table R) ∙ sym (ap (λ k. table_by k (content_of (to_rows l))) S.kind)) n T (λ k U. turned-from E k U)

module _ {d e : Bytes} (E : Turned d e) where
  -- The same tables, or the same refusal.
  pub turned-read : read_data d ≡ read_data e
  unfolding read_data
  turned-read = turned-from E 8 no_tables

  -- "with the same answers": the outcome of each call.
  module _ (q : Lent) where
    pub turned-answered : (w : Way) (s : List ℕ) (b : List ℤ) → by w d q s b ≡ by w e q s b
    turned-answered = answered-same d e q turned-read

    pub turned-checked : (s : List ℕ) → checked d q s ≡ checked e q s
    turned-checked = checked-same d e q turned-read

    pub turned-lines : (s b : List ℕ) → plan_lines d q s b ≡ plan_lines e q s b
    turned-lines = lines_same d e q turned-read

-- "Survey order must not show" (E14) of tables of either kind: in data turned so that the tables whose rows are rearranged are of kind 20.
pub turned-reread : (B : Collection → List Bytes → List Bytes → Type 0) (R : Collection → List Value → List Value → Type 0) → ((d e : Bytes) → Rewritten B d e → Rereads R (read_data d) (read_data e))
    → {d d' e e' : Bytes} → Turned d d' → Rewritten B d' e' → Turned e e' → Rereads R (read_data d) (read_data e)
turned-reread B R h {d} {d'} {e} {e'} D W E = subst (λ r. Rereads R r (read_data e)) (sym (turned-read D)) (subst (Rereads R (read_data d')) (sym (turned-read E)) (h d' e' W))

-- ---- the two calls
-- what passes all of a record's own refusals
pub record Passes (k : ℕ) (l : Bytes) : Type 0 where
  pub table : TableRecord k l
  pub numbered : leb (table_number (content_of l)) 7 ≡ true
  pub within : bounded (table_by k (content_of l)) ≡ true

-- A record that passes them, and a target with room for it: the other kind, and the target's bytes behind the record.
pub turned-passes : (k : ℕ) (turn : Bytes → Bytes) (l b : Bytes) → Passes k l → length l ≤ length b → turned k turn l b ≡ got (turn l)
unfolding turned is_alone is_whole pick
turned-passes k turn l b P h =
    CheckOrder.next 11 _ alone
    ∙ CheckOrder.next 12 _ P.table.fit
    ∙ CheckOrder.next 50 _ P.numbered
    ∙ CheckOrder.next 43 _ P.within
    ∙ CheckOrder.next 52 _ (le-leb (length l) (length b) h)
  where
    a : length l ≡ 4 + length_of l
    a = P.table.alone

    whole : is_whole l ≡ true
    whole = rw (le-leb 4 (length l) (omega (arith, a)), le-leb (4 + length_of l) (length l) (omega (arith, a))) refl

    alone : is_alone k l ≡ true
    alone = rw (whole, eq-eqb (kind_of l) k P.table.kind, eq-eqb (length l) (4 + length_of l) a) refl

-- They refuse by no number but their own: no 13, no 31, no 51.
pub turned-only : (P : ℕ → Type 0) → P 11 → P 12 → P 43 → P 50 → P 52 → (k : ℕ) (turn : Bytes → Bytes) (l b : Bytes) → Only P (turned k turn l b)
unfolding turned
turned-only P p11 p12 p43 p50 p52 k turn l b =
    only-require P 11 _ _ p11 (only-require P 12 _ _ p12 (only-require P 50 _ _ p50 (only-require P 43 _ _ p43 (only-require P 52 _ _ p52 tt))))

-- what was turned passed every test
pub turned-passed : (k : ℕ) (turn : Bytes → Bytes) (l b m : Bytes) → Octets l → turned k turn l b ≡ got m → Passes k l × (turn l ≡ m)
unfolding turned is_alone
turned-passed k turn l b m o h =
    let c = content_of l in
    let p = passed 11 (is_alone k l) _ m h in
    let q = passed 12 (fits c) _ m p.1 in
    let r = passed 50 (leb (table_number c) 7) _ m q.1 in
    let s = passed 43 (bounded (table_by k c)) _ m r.1 in
    let t = passed 52 (leb (length l) (length b)) _ m s.1 in
    let x = (and-eq-true_iff (is_whole l) (eqb (kind_of l) k && eqb (length l) (4 + length_of l))).0 p.0 in
    let y = (and-eq-true_iff (eqb (kind_of l) k) (eqb (length l) (4 + length_of l))).0 x.1 in (
      record {
        table = record { octets = o; kind = eqb-true (kind_of l) k y.0; alone = eqb-true (length l) (4 + length_of l) y.1; fit = q.0 };
        numbered = r.0;
        within = s.0;
      },
      cc t.1,
    )

pub to-columns-passes : {l : Bytes} → Passes 20 l → Passes 23 (to_columns l)
to-columns-passes {l} P = record {
  table = to-columns-record P.table;
  numbered = ap (λ n. leb n 7) (to-columns-number P.table) ∙ P.numbered;
  within = ap bounded (to-columns-table P.table) ∙ P.within;
}

pub to-rows-passes : {l : Bytes} → Passes 23 l → Passes 20 (to_rows l)
to-rows-passes {l} P = record {
  table = to-rows-record P.table;
  numbered = ap (λ n. leb n 7) (to-rows-number P.table) ∙ P.numbered;
  within = ap bounded (to-rows-table P.table) ∙ P.within;
}

-- ---- "each undoes the other", of the calls
-- an answer of number 0 and what it is the record of
pub answered-zero : (k : ℕ) (turn : Bytes → Bytes) (l b : Bytes) → Octets l → (filled b (turned k turn l b)).number ≡ 0
    → Passes k l × (take (filled b (turned k turn l b)).size (filled b (turned k turn l b)).buffer ≡ turn l)
unfolding filled
answered-zero k turn l b o h = go (turned k turn l b) refl (turned-only (λ n. n ≡ 0 → ⊥) (λ z. omega arith) (λ z. omega arith) (λ z. omega arith) (λ z. omega arith) (λ z. omega arith) k turn l b) h
  where
    go : (r : Result Bytes) → turned k turn l b ≡ r → Only (λ n. n ≡ 0 → ⊥) r → (filled b r).number ≡ 0 → Passes k l × (take (filled b r).size (filled b r).buffer ≡ turn l)
    go (refused n) e p h = absurd (p h)
    go (got m) e p h = let t = turned-passed k turn l b m o e in (t.0, take_at m _ (length m) refl ∙ sym t.1)

-- A record that was answered, turned back into a target with room for it: its own bytes, and behind them the target's.
module _ (l b b' : Bytes) (o : Octets l) (room : length l ≤ length b') where
  abbrev own : Filled
  own = record { number = 0; size = length l; buffer = l ++ drop (length l) b' }

  pub columns-then-rows : (table_to_columns l b).number ≡ 0 → table_to_rows (take (table_to_columns l b).size (table_to_columns l b).buffer) b' ≡ own
  unfolding table_to_columns table_to_rows filled
  columns-then-rows h =
      let t = answered-zero 20 to_columns l b o h in
      ap (λ x. table_to_rows x b') t.1
      ∙ ap (filled b') (turned-passes 23 to_rows (to_columns l) b' (to-columns-passes t.0) (omega (arith, to-columns-length t.0.table, room)) ∙ ap got (rows-undo-columns t.0.table))

  pub rows-then-columns : (table_to_rows l b).number ≡ 0 → table_to_columns (take (table_to_rows l b).size (table_to_rows l b).buffer) b' ≡ own
  unfolding table_to_columns table_to_rows filled
  rows-then-columns h =
      let t = answered-zero 23 to_rows l b o h in
      ap (λ x. table_to_columns x b') t.1
      ∙ ap (filled b') (turned-passes 20 to_columns (to_rows l) b' (to-rows-passes t.0) (omega (arith, to-rows-length t.0.table, room)) ∙ ap got (columns-undo-rows t.0.table))
