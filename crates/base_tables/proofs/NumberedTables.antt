-- Tables and their descriptions, each at its number: what holds of both from record to record. Assumes nothing.
use Rattle.std.proofs.Common.{◌≡◌, ℕ, zero, suc, ◌+◌, ◌<◌, true, false, not, eqb, ltb, leb, ◌⊎◌, List, [], ◌∷◌, length, get_or, drop, set, replicate, sym, refl, ap, ◌∙◌, subst, inl, inr, ⊎_elim, one-add, arith, length-set, get_or-set_other, get_or-set_same, ltb-false, ltb-true, eqb-true, le-leb, leb-false}
use borrow.Author.Tests.{eqb-false}
use lib.ListN.{get_or-eq_default}
use Rattle.spec_calculus.specs.Lists.{pick}
use Rattle.spec_calculus.specs.Value.{Table, Tables, no_table, columns_of, is_there, no_tables}
use Rattle.spec_encoding.specs.Record.{Bytes, got, length_of, kind_of, content_of}
use Rattle.spec_encoding.specs.Data.{is_table, table_number, bounds_at, fits, table_by, bounded, tables_from, read_data}
use Rattle.spec_encoding.proofs.Data.{table-by-read, require-got}
use Rattle.spec_calculus.proofs.Truths.{not-true}
use Rattle.base_signed.proofs.SignedWords.{by-test, no}
use Rattle.base_tables.specs.Description.{most_tables, description_of, columns_in, subset_in, table_in, present_in, Describes}
use Rattle.base_tables.specs.DataReader.{descriptions_from, descriptions}
use Rattle.base_tables.proofs.DataRecords.{kind_at, content_at, tables-one, tables-ninth, tables-none, descriptions-none, ReadAt, number-few, read-tables, read-descriptions}
use Rattle.base_tables.proofs.TableCells.{described-same, described-here, full-here}

-- each table of T is described by the word at its number in D, and where there is none that word is 0; no word leaves a row out
pub record Numbered (d : Bytes) (T : Tables) (D : List ℕ) : Type 0 where
  pub tables : length T ≡ most_tables
  pub words : length D ≡ most_tables
  pub there : (k : ℕ) → is_there T k ≡ true → Describes d T k (get_or D k 0)
  pub absent : (k : ℕ) → is_there T k ≡ false → get_or D k 0 ≡ 0
  pub full : (k : ℕ) → subset_in (get_or D k 0) ≡ 0

module _ (T U : Tables) (k : ℕ) (e : get_or T k no_table ≡ get_or U k no_table) where
  there-same : is_there T k ≡ is_there U k
  unfolding is_there columns_of
  there-same = ap (λ t. leb 1 t.columns) e

-- ---- nothing has been read
all_alike : {A : Type 0} (n k : ℕ) (a : A) → get_or (replicate n a) k a ≡ a
all_alike zero k a = refl
all_alike (suc n) zero a = refl
all_alike (suc n) (suc k) a = all_alike n k a

none-there : (k : ℕ) → is_there no_tables k ≡ false
unfolding is_there columns_of
none-there k = ap (λ t. leb 1 t.columns) (all_alike most_tables k no_table)

pub numbered-first : (d : Bytes) → Numbered d no_tables (replicate most_tables 0)
numbered-first d = record {
  tables = refl;
  words = refl;
  there = λ k h. no (sym h ∙ none-there k);
  absent = λ k h. all_alike most_tables k 0;
  full = λ k. ap subset_in (all_alike most_tables k 0);
}

-- ---- one more table
module _ {d : Bytes} {S : Tables} {D : List ℕ} (N : Numbered d S D) {p k w e : ℕ} (R : ReadAt d p k w e) where
  abbrev this : Table
  this = table_by (kind_at d p) (content_at d p)

  abbrev more : Tables
  more = set S k this

  here : get_or more k no_table ≡ this
  here = get_or-set_same S k this no_table (omega (arith, N.tables, number-few R))

  word-here : get_or (set D k w) k 0 ≡ w
  word-here = get_or-set_same D k w 0 (omega (arith, N.words, number-few R))

  this-there : is_there more k ≡ true
  unfolding is_there columns_of
  this-there = ap (λ t. leb 1 t.columns) here ∙ le-leb 1 this.columns (table-by-read (kind_at d p) (content_at d p) R.fitting R.keeping).0

  module _ {j : ℕ} (z : j ≡ k → ⊥) where
    other : get_or more j no_table ≡ get_or S j no_table
    other = get_or-set_other S k j this no_table z

    word-other : get_or (set D k w) j 0 ≡ get_or D j 0
    word-other = get_or-set_other D k j w 0 z

  described-next : (j : ℕ) → is_there more j ≡ true → Describes d more j (get_or (set D k w) j 0)
  described-next j h = by-test (eqb j k)
      (λ t. let z = eqb-true j k t in
      subst (λ (i : ℕ). Describes d more i (get_or (set D k w) i 0)) (sym z) (subst (Describes d more k) (sym word-here) (described-here R more here)))
      (λ t. let z = eqb-false j k t in
      subst (Describes d more j) (sym (word-other z)) (described-same S more j j (sym (other z)) (N.there j (sym (there-same more S j (other z)) ∙ h))))

  undescribed-next : (j : ℕ) → is_there more j ≡ false → get_or (set D k w) j 0 ≡ 0
  undescribed-next j h = by-test (eqb j k)
      (λ t. let z = eqb-true j k t in no (sym this-there ∙ ap (is_there more) (sym z) ∙ h))
      (λ t. let z = eqb-false j k t in word-other z ∙ N.absent j (sym (there-same more S j (other z)) ∙ h))

  full-next : (j : ℕ) → subset_in (get_or (set D k w) j 0) ≡ 0
  full-next j = by-test (eqb j k)
      (λ t. ap (λ (i : ℕ). subset_in (get_or (set D k w) i 0)) (eqb-true j k t) ∙ ap subset_in word-here ∙ full-here R)
      (λ t. ap subset_in (word-other (eqb-false j k t)) ∙ N.full j)

  pub numbered_next : Numbered d more (set D k w)
  numbered_next = record {
    tables = length-set S k this ∙ N.tables;
    words = length-set D k w ∙ N.words;
    there = described-next;
    absent = undescribed-next;
    full = full-next;
  }

-- ---- all of them
some_or_none : (l : Bytes) → (l ≡ []) ⊎ (0 < length l)
some_or_none [] = inl refl
some_or_none (b ∷ l) = inr (omega arith)

module _ (d : Bytes) where
  abbrev Reads : ℕ → ℕ → Type 0
  Reads n p = (S : Tables) (D : List ℕ) → Numbered d S D → (T : Tables) → tables_from n S (drop p d) ≡ got T → Numbered d T (descriptions_from n p D (drop p d))

  none_left : (n p : ℕ) → drop p d ≡ [] → Reads n p
  none_left n p e S D N T h =
      let z : S ≡ T = cc (rw e at h, tables-none n S) in
      rw (e, descriptions-none n p D) (subst (λ (X : Tables). Numbered d X D) z N)

  one_left : (n : ℕ) → ((p : ℕ) → Reads n p) → (p : ℕ) → 0 < length (drop p d) → Reads (suc n) p
  one_left n I p m S D N T h =
      let l = drop p d in
      let c = content_of l in
      require-got 11 (is_table l) _ T (sym (tables-one n S l m) ∙ h) λ good h₁.
      require-got 12 (fits c) _ T h₁ λ fitting h₂.
      require-got 50 (leb (table_number c) 7) _ T h₂ λ low h₃.
      require-got 51 (not (is_there S (table_number c))) _ T h₃ λ free h₄.
      require-got 43 (bounded (table_by (kind_of l) c)) _ T h₄ λ keeping h₅.
      let R : ReadAt d p (table_number c) (description_of (kind_of l) c (p + 4 + bounds_at)) (p + 4 + length_of l) =
      record { good = good; fitting = fitting; low = low; keeping = keeping; number = refl; word = refl; next = refl } in
      rw (read-descriptions R n m D) (I (p + 4 + length_of l) _ _ (numbered_next N R) T (sym (read-tables R n m S (not-true _ free)) ∙ h))

  numbered-from : (n p : ℕ) → Reads n p
  numbered-from zero p S D N T h = ⊎_elim (λ e. none_left zero p e S D N T h) (λ m. no (cc (tables-ninth S (drop p d) m))) (some_or_none (drop p d))
  numbered-from (suc n) p S D N T h = ⊎_elim (λ e. none_left (suc n) p e S D N T h) (λ m. one_left n (numbered-from n) p m S D N T h) (some_or_none (drop p d))

  pub numbered : {T : Tables} → read_data d ≡ got T → Numbered d T (descriptions d)
  unfolding read_data descriptions
  numbered {T} h = numbered-from 8 0 no_tables (replicate most_tables 0) (numbered-first d) T h

-- ---- scratch that has these words from word 1 on
module _ {d : Bytes} {T : Tables} {D : List ℕ} (N : Numbered d T D) (s : List ℕ) (W : (k : ℕ) → k < most_tables → get_or s (1 + k) 0 ≡ get_or D k 0) (k : ℕ) where
  pub word-is : table_in s k ≡ get_or D k 0
  unfolding table_in pick
  word-is = by-test (ltb k most_tables)
      (λ p. rw p (ap (λ (j : ℕ). get_or s j 0) (sym (one-add k)) ∙ W k (ltb-true k most_tables p)))
      (λ p. rw p (sym (get_or-eq_default D 0 (omega (arith, N.words, ltb-false k most_tables p)))))

  columns-word : columns_in (get_or D k 0) ≡ columns_of T k
  unfolding is_there
  columns-word = by-test (is_there T k)
      (λ t. (N.there k t).columns)
      (λ t. ap columns_in (N.absent k t) ∙ omega (arith, leb-false 1 (columns_of T k) t))

  pub present-word : present_in s k ≡ is_there T k
  unfolding present_in is_there
  present-word = ap (leb 1) (ap columns_in word-is ∙ columns-word)
