-- What the words of scratch say of the tables that were read: which there are, and their descriptions.
use Rattle.std.proofs.Common.{◌≡◌, ℕ, zero, suc, ◌+◌, ◌-◌, ◌<◌, ◌≤◌, true, false, ltb, leb, List, length, get_or, sym, refl, ap, ◌∙◌, subst, one-add, arith, ltb-true, le-ltb, lt-ltb}
use native.Mathlib.Numerals.{unary_clauses}
use Rattle.spec_calculus.specs.Lists.{pick}
use Rattle.spec_calculus.specs.Syntax.{Collection, list, bag, set}
use Rattle.spec_calculus.specs.Value.{Tables, is_there}
use Rattle.spec_encoding.specs.Record.{Bytes, got}
use Rattle.spec_encoding.specs.Data.{collection_of, read_data}
use Rattle.base_signed.proofs.SignedWords.{by-test}
use Rattle.base_tables.specs.Description.{most_tables, columns_in, subset_in, present_in, table_in, description_in, collection_number, Describes}
use Rattle.base_tables.specs.DataReader.{Stored}
use Rattle.base_tables.proofs.NumberedTables.{numbered, word-is, present-word}

-- ---- the functions
module _ (s : List ℕ) (k : ℕ) where
  pub table-few : {r : ℕ} → k < most_tables → r ≡ get_or s (1 + k) 0 → r ≡ table_in s k
  unfolding table_in pick
  table-few p h = rw (lt-ltb k most_tables p) (h ∙ ap (λ (j : ℕ). get_or s j 0) (one-add k))

  pub table-past : most_tables ≤ k → 0 ≡ table_in s k
  unfolding table_in pick
  table-past p = rw (le-ltb k most_tables p)

  pub present-columns : {w c : ℕ} → w ≡ table_in s k → c ≡ columns_in w → leb 1 c ≡ present_in s k
  unfolding present_in
  present-columns e h = ap (leb 1) (h ∙ ap columns_in e)

pub description-none : (s : List ℕ) {n : ℕ} → n ≡ 0 → 0 ≡ description_in s n
unfolding description_in
description-none s e = rw e

pub description-is : (s : List ℕ) (n : ℕ) {r : ℕ} → (n ≡ 0 → ⊥) → r ≡ table_in s (n - 1) → r ≡ description_in s n
unfolding description_in
description-is s zero z h = absurd (z refl)
description-is s (suc k) z h = simp unary_clauses at h

-- ---- a collection's number
pub by_number : (c : Collection) → collection_of (collection_number c) ≡ c
unfolding collection_number
by_number list = refl
by_number bag = refl
by_number set = refl

-- ---- the tables that were read
pub numbers-eight : (d : Bytes) {T : Tables} → read_data d ≡ got T → length T ≡ most_tables
numbers-eight d h = (numbered d h).tables

module _ {d : Bytes} {T : Tables} {s : List ℕ} (S : Stored d s) (h : read_data d ≡ got T) (k : ℕ) where
  pub present-is : present_in s k ≡ is_there T k
  present-is = present-word (numbered d h) s S.each k

  pub described-in : is_there T k ≡ true → Describes d T k (table_in s k)
  described-in p = subst (Describes d T k) (sym (word-is (numbered d h) s S.each k)) ((numbered d h).there k p)

  pub undescribed : is_there T k ≡ false → table_in s k ≡ 0
  undescribed p = word-is (numbered d h) s S.each k ∙ (numbered d h).absent k p

  pub none-left-out : subset_in (table_in s k) ≡ 0
  none-left-out = ap subset_in (word-is (numbered d h) s S.each k) ∙ (numbered d h).full k

-- ---- they are the same where the words of the descriptions are
module _ (s t : List ℕ) (same : (j : ℕ) → j ≤ most_tables → get_or s j 0 ≡ get_or t j 0) (k : ℕ) where
  pub table_same : table_in s k ≡ table_in t k
  unfolding table_in pick
  table_same = by-test (ltb k most_tables)
      (λ p. rw (p, same (suc k) (omega (arith, ltb-true k most_tables p))))
      (λ p. rw p)

  pub present-same : present_in s k ≡ present_in t k
  unfolding present_in
  present-same = ap (λ (w : ℕ). leb 1 (columns_in w)) table_same

-- So are the descriptions, and what they are known to be.
pub description-same : (s t : List ℕ) → ((j : ℕ) → j ≤ most_tables → get_or s j 0 ≡ get_or t j 0) → (n : ℕ) → description_in s n ≡ description_in t n
unfolding description_in
description-same s t h zero = refl
description-same s t h (suc k) = table_same s t h k

pub stored_same : {d : Bytes} {s : List ℕ} (t : List ℕ) → ((j : ℕ) → j ≤ most_tables → get_or t j 0 ≡ get_or s j 0) → Stored d s → Stored d t
stored_same t same S = record { each = λ k p. same (1 + k) (omega arith) ∙ S.each k p }
