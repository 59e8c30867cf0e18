-- Laws of the data's records: what 11, 12, 50 and 43 leave, and how a reading goes on behind a record. Assumes nothing.
use Rattle.std.proofs.Common.{◌≡◌, ℕ, zero, suc, ◌+◌, ◌*◌, ◌<◌, ◌≤◌, Bool, true, false, not, ◌&&◌, leb, List, [], ◌∷◌, length, drop, set, refl, ap, ◌∙◌, subst, le_trans, mul-le-mul_right, mul-le-mul_left, arith, length-drop, length-take-le, drop-drop, eq-eqb, le-leb, leb-true, Ok, Err}
use mathlib.Core.Bool.{and-eq-true_iff}
use Rattle.spec_calculus.specs.Lists.{pick}
use Rattle.spec_calculus.specs.Value.{Tables, is_there}
use Rattle.spec_encoding.specs.Record.{Bytes, refused, got, require, length_of, kind_of, content_of, behind, is_whole}
use Rattle.spec_encoding.specs.Data.{is_kind, is_table, table_number, table_collection, table_columns, table_rows, bounds_at, fits, table_by, bounded, tables_from}
use Rattle.spec_encoding.proofs.Data.{Fit, fit}
use Rattle.base_signed.proofs.SignedWords.{no}
use Rattle.base_tables.specs.Description.{description_of, present_in}
use Rattle.base_tables.specs.DataReader.{TableRead, numbered_table, table_at, descriptions_from}
use Rattle.base_refusals.specs.declared.Refusal.{Refusal}
use Rattle.base_refusals.specs.declared.Refusal.TheVariants.{NotATable, TableOutOfRange, CellBeyondBound, TableNumberOutOfRange, TableNumberUsed}
use Rattle.base_refusals.specs.Numbers.{number_of}

-- a test, and the facts that it tests
pub passes : (t : Bool) {F : Type 0} → (t ≡ true → F) → (F → ⊥) → t ≡ false
passes true h k = absurd (k (h refl))
passes false h k = refl

-- what 11 leaves
pub record TableRecord (l : Bytes) : Type 0 where
  pub within : 4 + length_of l ≤ length l
  pub kind : is_kind (kind_of l) ≡ true

pub whole : (l : Bytes) → is_table l ≡ true → TableRecord l
unfolding is_whole pick
whole l e = go (leb 4 (length l)) e
  where
    go : (t : Bool) → (pick t (leb (4 + length_of l) (length l)) false && is_kind (kind_of l)) ≡ true → TableRecord l
    go true h =
        let f = (and-eq-true_iff (leb (4 + length_of l) (length l)) (is_kind (kind_of l))).0 h in
        record { within = leb-true (4 + length_of l) (length l) f.0; kind = f.1 }
    go false h = no (cc)

pub whole_is : (l : Bytes) → TableRecord l → is_table l ≡ true
unfolding is_whole pick
whole_is l w =
    rw (le-leb 4 (length l) (omega arith), le-leb (4 + length_of l) (length l) w.within, w.kind)

pub content-length : (l : Bytes) → TableRecord l → length (content_of l) ≡ length_of l
content-length l w = length-take-le (length_of l) (drop 4 l) (rw length-drop (omega (arith, w.within)))

-- ---- what 12 leaves
pub fit_is : (c : Bytes) → Fit c → fits c ≡ true
unfolding fits
fit_is c f =
    simp (
      le-leb bounds_at (length c) (omega (arith, f.long)),
      le-leb 1 (table_collection c) f.collection-least,
      le-leb (table_collection c) 3 f.collection-most,
      le-leb 1 (table_columns c) f.columns-least,
      le-leb (table_columns c) 8 f.columns-most,
      le-leb (table_rows c) 1024 f.rows_most,
      eq-eqb (length c) (bounds_at + 4 * table_columns c + 4 * (table_columns c * table_rows c)) f.long,
    )

pub fit_small : (c : Bytes) → Fit c → length c ≤ 32805
fit_small c f =
    omega (arith, f.long, le_trans (mul-le-mul_left (table_columns c) f.rows_most) (mul-le-mul_right 1024 f.columns-most))

-- one record of the data
pub tables-one : (n : ℕ) (T : Tables) (l : Bytes) → 0 < length l →
    tables_from (suc n) T l
    ≡ require 11 (is_table l) (require 12 (fits (content_of l)) (require 50 (leb (table_number (content_of l)) 7)
    (require 51 (not (is_there T (table_number (content_of l)))) (require 43 (bounded (table_by (kind_of l) (content_of l)))
    (tables_from n (set T (table_number (content_of l)) (table_by (kind_of l) (content_of l))) (behind l))))))
unfolding tables_from
tables-one n T [] p = absurd (omega arith)
tables-one n T (b ∷ l) p = refl

pub tables-ninth : (T : Tables) (l : Bytes) → 0 < length l → tables_from 0 T l ≡ refused 13
unfolding tables_from
tables-ninth T [] p = absurd (omega arith)
tables-ninth T (b ∷ l) p = refl

pub tables-none : (n : ℕ) (T : Tables) → tables_from n T [] ≡ got T
unfolding tables_from
tables-none zero T = refl
tables-none (suc n) T = refl

descriptions-one : (n p : ℕ) (D : List ℕ) (l : Bytes) → 0 < length l →
    descriptions_from (suc n) p D l
    ≡ descriptions_from n (p + 4 + length_of l) (set D (table_number (content_of l)) (description_of (kind_of l) (content_of l) (p + 4 + bounds_at))) (behind l)
unfolding descriptions_from
descriptions-one n p D [] q = absurd (omega arith)
descriptions-one n p D (b ∷ l) q = refl

pub descriptions-none : (n p : ℕ) (D : List ℕ) → descriptions_from n p D [] ≡ D
unfolding descriptions_from
descriptions-none zero p D = refl
descriptions-none (suc n) p D = refl

-- kind and content of the record that begins at p
abbrev pub kind_at : Bytes → ℕ → ℕ
kind_at d p = kind_of (drop p d)

abbrev pub content_at : Bytes → ℕ → Bytes
content_at d p = content_of (drop p d)

-- what it gives, by its tests: 11, 12, 50, 51, 43
abbrev tested : Bytes → ℕ → Bool → Bool → Bool → Bool → Bool → TableRead
tested d p a b m u f =
    pick a
    (pick b
    (pick m
    (pick u (Err TableNumberUsed)
    (pick f (Ok (table_number (content_at d p), description_of (kind_at d p) (content_at d p) (p + 4 + bounds_at), p + 4 + length_of (drop p d))) (Err CellBeyondBound)))
    (Err TableNumberOutOfRange))
    (Err TableOutOfRange))
    (Err NotATable)

-- a record that was read: table k, with the description w, and e the position behind it
pub record ReadAt (d : Bytes) (p k w e : ℕ) : Type 0 where
  pub good : is_table (drop p d) ≡ true
  pub fitting : fits (content_of (drop p d)) ≡ true
  pub low : leb (table_number (content_of (drop p d))) 7 ≡ true
  pub keeping : bounded (table_by (kind_of (drop p d)) (content_of (drop p d))) ≡ true
  pub number : table_number (content_of (drop p d)) ≡ k
  pub word : description_of (kind_of (drop p d)) (content_of (drop p d)) (p + 4 + bounds_at) ≡ w
  pub next : p + 4 + length_of (drop p d) ≡ e

-- what a table's reading gives is one thing
abbrev Is : ℕ × ℕ × ℕ → TableRead
Is x = Ok x

got_are : {x y : ℕ × ℕ × ℕ} → Is x ≡ Is y → x ≡ y
got_are h = cc

-- and its number was not used
pub read_at : (d : Bytes) (s : List ℕ) (p : ℕ) {k w e : ℕ} → table_at d s p ≡ Ok (k, w, e) → ReadAt d p k w e × (present_in s k ≡ false)
unfolding table_at numbered_table pick
read_at d s p {k} {w} {e} h = go _ _ _ _ _ refl refl refl refl refl h
  where
    go : (a b m u f : Bool) → is_table (drop p d) ≡ a → fits (content_at d p) ≡ b → leb (table_number (content_at d p)) 7 ≡ m →
        present_in s (table_number (content_at d p)) ≡ u → bounded (table_by (kind_at d p) (content_at d p)) ≡ f →
        tested d p a b m u f ≡ Ok (k, w, e) →
        ReadAt d p k w e × (present_in s k ≡ false)
    go true true true false true a b m u f h =
        let t = got_are h in
        let n : table_number (content_at d p) ≡ k = ap (λ (x : ℕ × ℕ × ℕ). x.0) t in
        (record { good = a; fitting = b; low = m; keeping = f; number = n; word = ap (λ (x : ℕ × ℕ × ℕ). x.1) t; next = ap (λ (x : ℕ × ℕ × ℕ). x.2) t }, subst (λ (j : ℕ). present_in s j ≡ false) n u)
    go true true true false false a b m u f h = no (cc)
    go true true true true f' a b m u f h = no (cc)
    go true true false u' f' a b m u f h = no (cc)
    go true false m' u' f' a b m u f h = no (cc)
    go false b' m' u' f' a b m u f h = no (cc)

module _ {d : Bytes} {p k w e : ℕ} (R : ReadAt d p k w e) where
  pub read_whole : TableRecord (drop p d)
  read_whole = whole (drop p d) R.good

  pub read-fit : Fit (content_of (drop p d))
  read-fit = fit (content_of (drop p d)) R.fitting

  pub number-few : k < 8
  number-few = omega (arith, R.number, leb-true (table_number (content_of (drop p d))) 7 R.low)

  pub next-far : p < e
  next-far = omega (arith, R.next)

  pub next-within : p ≤ length d → e ≤ length d
  next-within q = omega (arith, R.next, read_whole.within, length-drop p d)

  pub next-near : e ≤ p + 32809
  next-near =
      omega (arith, R.next, content-length (drop p d) read_whole, fit_small (content_of (drop p d)) read-fit)

  next-bytes : behind (drop p d) ≡ drop e d
  next-bytes = drop-drop (4 + length_of (drop p d)) p d ∙ ap (λ (i : ℕ). drop i d) place
    where
      place : p + (4 + length_of (drop p d)) ≡ e
      place = omega (arith, R.next)

  module _ (n : ℕ) (q : 0 < length (drop p d)) where
    pub read-tables : (T : Tables) → is_there T k ≡ false → tables_from (suc n) T (drop p d) ≡ tables_from n (set T k (table_by (kind_of (drop p d)) (content_of (drop p d)))) (drop e d)
    unfolding require
    read-tables T u = rw (tables-one n T (drop p d) q, R.good, R.fitting, R.low, R.number, u, R.keeping, next-bytes)

    pub read-descriptions : (D : List ℕ) → descriptions_from (suc n) p D (drop p d) ≡ descriptions_from n e (set D k w) (drop e d)
    read-descriptions D = rw (descriptions-one n p D (drop p d) q, R.number, R.word, R.next, next-bytes)

pub refused-at : (d : Bytes) (s : List ℕ) (T : Tables) → ((k : ℕ) → present_in s k ≡ is_there T k) → (p n : ℕ) {x : Refusal} → 0 < length (drop p d) →
    table_at d s p ≡ Err x → tables_from (suc n) T (drop p d) ≡ refused (number_of x)
unfolding table_at numbered_table pick require
refused-at d s T same p n {x} q h =
    let c = content_at d p in
    tables-one n T (drop p d) q ∙ go (is_table (drop p d)) (fits c) (leb (table_number c) 7) (is_there T (table_number c)) (bounded (table_by (kind_at d p) c)) (rw same at h)
  where
    go : (a b m u f : Bool) →
        tested d p a b m u f ≡ Err x →
        require 11 a (require 12 b (require 50 m (require 51 (not u) (require 43 f
        (tables_from n (set T (table_number (content_at d p)) (table_by (kind_at d p) (content_at d p))) (behind (drop p d))))))) ≡ refused (number_of x)
    go true true true false true h = no (cc)
    go true true true false false h = cc
    go true true true true f h = cc
    go true true false u f h = cc
    go true false m u f h = cc
    go false b m u f h = cc
