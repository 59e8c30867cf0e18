-- Reading refuses by no number but its own: data by 11, 12, 13, 43, 50 and 51, a question by 21, 22 and 23.
use mathlib.Core.List.{[], ◌∷◌}
use mathlib.Core.Bool.{Bool, true, false}
use Prim.Native.Nat.{ℕ, zero, suc}
use lib.ListN.{get_or, drop}
use Rattle.spec_calculus.specs.Syntax.{Monoid, Term, Question, tnil}
use Rattle.spec_calculus.specs.Value.{Tables, no_tables}
use Rattle.spec_encoding.specs.Record.{Bytes, Result, refused, got, and_then, require, kind_of, content_of, behind}
use Rattle.spec_encoding.specs.Data.{tables_from, read_data}
use Rattle.spec_encoding.specs.Reader.{Kind, number, truth_k, name_k, field_k, record', not, choice_k, open_k, table_k, comprehension, generator, binding, condition, unknown, two_terms, monoids, Part, term, generates, binds, holds, Step, Read, Reader, no_more, as_term, one_term, filled, terms, in_front, on_part, parts, comprehends, named, content, at_record, read_part, read_question}

-- a result that, where it is a refusal, is one by a number of P
abbrev pub Only : {A : Type 0} → (ℕ → Type 0) → Result A → Type 0
Only P (refused n) = P n
Only P (got a) = Unit {0}

pub only_then : {A B : Type 0} (P : ℕ → Type 0) (r : Result A) (k : A → Result B) → Only P r → ((a : A) → Only P (k a)) → Only P (and_then r k)
unfolding and_then
only_then P (refused n) k p h = p
only_then P (got a) k p h = h a

pub only-require : {A : Type 0} (P : ℕ → Type 0) (n : ℕ) (b : Bool) (r : Result A) → P n → Only P r → Only P (require n b r)
unfolding require
only-require P n true r p h = h
only-require P n false r p h = p

module _ (P : ℕ → Type 0) (p11 : P 11) (p12 : P 12) (p13 : P 13) (p43 : P 43) (p50 : P 50) (p51 : P 51) where
  tables-only : (n : ℕ) (T : Tables) (l : Bytes) → Only P (tables_from n T l)
  unfolding tables_from
  tables-only zero T [] = tt
  tables-only zero T (b ∷ l) = p13
  tables-only (suc n) T [] = tt
  tables-only (suc n) T (b ∷ l) =
      only-require P 11 _ _ p11
      (only-require P 12 _ _ p12
      (only-require P 50 _ _ p50
      (only-require P 51 _ _ p51
      (only-require P 43 _ _ p43 (tables-only n _ (behind (b ∷ l)))))))

  pub data-only : (d : Bytes) → Only P (read_data d)
  unfolding read_data
  data-only d = tables-only 8 no_tables d

module _ (P : ℕ → Type 0) (p21 : P 21) (p22 : P 22) (p23 : P 23) where
  no-more : (A : Type 0) (l : Bytes) → Only P (no_more {A = A} l)
  unfolding no_more
  no-more A [] = p22
  no-more A (b ∷ l) = p23

  filled-only : {A : Type 0} (a : A) (l : Bytes) (n : ℕ) → Only P (filled a l n)
  unfolding filled
  filled-only a [] n = tt
  filled-only a (b ∷ l) n = p22

  monoid-only : (k : ℕ) → Only P (get_or monoids k (refused 22))
  monoid-only zero = p22
  monoid-only (suc zero) = tt
  monoid-only (suc (suc zero)) = tt
  monoid-only (suc (suc (suc zero))) = tt
  monoid-only (suc (suc (suc (suc zero)))) = tt
  monoid-only (suc (suc (suc (suc (suc zero))))) = tt
  monoid-only (suc (suc (suc (suc (suc (suc zero)))))) = tt
  monoid-only (suc (suc (suc (suc (suc (suc (suc zero))))))) = tt
  monoid-only (suc (suc (suc (suc (suc (suc (suc (suc zero)))))))) = tt
  monoid-only (suc (suc (suc (suc (suc (suc (suc (suc (suc k))))))))) = p22

  as-term : (x : Part) → Only P (as_term x)
  unfolding as_term
  as-term (term t) = tt
  as-term (generates x t) = p22
  as-term (binds x t) = p22
  as-term (holds t) = p22

  -- over a reader of the records inside that refuses by these numbers only
  module _ (R : Reader) (h : (q : Bool) (l : Bytes) (n : ℕ) → Only P (R q l n)) where
    one-term : {A : Type 0} (l : Bytes) (n : ℕ) (k : Term → Bytes → ℕ → Read A) → ((t : Term) (r : Bytes) (j : ℕ) → Only P (k t r j)) → Only P (one_term R l n k)
    unfolding one_term
    one-term l n k g = only_then P (R false l n) _ (h false l n) (λ s. only_then P (as_term s.is) _ (as-term s.is) (λ t. g t s.rest s.left))

    terms-only : (k : ℕ) (l : Bytes) (n : ℕ) → Only P (terms R k l n)
    unfolding terms
    terms-only zero l n = filled-only tnil l n
    terms-only (suc k) [] n = tt
    terms-only (suc k) (b ∷ l) n = one-term (b ∷ l) n _ (λ t r j. only_then P (terms R k r j) _ (terms-only k r j) (λ s. tt))

    on-part : (x : Part) (m : Monoid) (l : Bytes) (n : ℕ) (more : Bytes → ℕ → Read Question) → ((r : Bytes) (j : ℕ) → Only P (more r j)) → Only P (on_part x m l n more)
    unfolding on_part in_front
    on-part (term t) m l n more g = filled-only _ l n
    on-part (generates x t) m l n more g = only_then P (more l n) _ (g l n) (λ s. tt)
    on-part (binds x t) m l n more g = only_then P (more l n) _ (g l n) (λ s. tt)
    on-part (holds t) m l n more g = only_then P (more l n) _ (g l n) (λ s. tt)

    parts-only : (m : Monoid) (k : ℕ) (l : Bytes) (n : ℕ) → Only P (parts R m k l n)
    unfolding parts
    parts-only m zero l n = no-more (Step Question) l
    parts-only m (suc k) l n = only_then P (R true l n) _ (h true l n) (λ s. on-part s.is m s.rest s.left _ (λ r j. parts-only m k r j))

    comprehends-only : (l : Bytes) (n : ℕ) → Only P (comprehends R l n)
    unfolding comprehends
    comprehends-only [] n = p22
    comprehends-only (b ∷ l) n = only_then P (get_or monoids b (refused 22)) _ (monoid-only b) (λ m. parts-only m n l n)

    named-only : (part : ℕ → Term → Part) (c : Bytes) (n : ℕ) → Only P (named R part c n)
    unfolding named
    named-only part c n = only-require P 22 _ _ p22 (one-term (drop 2 c) n _ (λ t l j. filled-only _ l j))

    content-only : (q : Bool) (k : Kind) (c : Bytes) (n : ℕ) → Only P (content R q k c n)
    unfolding content
    content-only q number c n = only-require P 22 _ _ p22 tt
    content-only q truth_k c n = only-require P 22 _ _ p22 tt
    content-only q name_k c n = only-require P 22 _ _ p22 tt
    content-only q field_k c n = only-require P 22 _ _ p22 (one-term (drop 1 c) n _ (λ t l j. filled-only _ l j))
    content-only q record' c n = only-require P 22 _ _ p22 (only_then P (terms R 8 c n) _ (terms-only 8 c n) (λ s. tt))
    content-only q (two_terms o) c n = one-term c n _ (λ t l j. one-term l j _ (λ u r i. filled-only _ r i))
    content-only q not c n = one-term c n _ (λ t l j. filled-only _ l j)
    content-only q choice_k c n = one-term c n _ (λ t l j. one-term l j _ (λ u r i. one-term r i _ (λ v b h. filled-only _ b h)))
    content-only q open_k c n = only-require P 22 _ _ p22 (one-term (drop 1 c) n _ (λ t l j. filled-only _ l j))
    content-only q comprehension c n = only_then P (comprehends R c n) _ (comprehends-only c n) (λ s. tt)
    content-only q table_k c n = only-require P 22 _ _ p22 tt
    content-only q generator c n = only-require P 22 _ _ p22 (named-only generates c n)
    content-only q binding c n = only-require P 22 _ _ p22 (named-only binds c n)
    content-only q condition c n = only-require P 22 _ _ p22 (one-term c n _ (λ t l j. filled-only _ l j))
    content-only q unknown c n = p22

    at-record : (q : Bool) (l : Bytes) (n : ℕ) → Only P (at_record R q l n)
    unfolding at_record
    at-record q l zero = no-more (Step Part) l
    at-record q l (suc n) = only-require P 22 _ _ p22 (only_then P (content R q (get_or Rattle.spec_encoding.specs.Reader.kinds (kind_of l) unknown) (content_of l) n) _ (content-only q (get_or Rattle.spec_encoding.specs.Reader.kinds (kind_of l) unknown) (content_of l) n) (λ s. tt))

  part-only : (levels : ℕ) (q : Bool) (l : Bytes) (n : ℕ) → Only P (read_part levels q l n)
  unfolding read_part
  part-only zero q l n = no-more (Step Part) l
  part-only (suc levels) q l n = at-record (λ p r j. read_part levels p r j) (λ p r j. part-only levels p r j) q l n

  pub question-only : (l : Bytes) → Only P (read_question l)
  unfolding read_question
  question-only l = only-require P 21 _ _ p21 (only-require P 22 _ _ p22
      (only_then P (comprehends (read_part 31) (content_of l) 255) _ (comprehends-only (read_part 31) (part-only 31) (content_of l) 255) (λ s. only-require P 22 _ _ p22 tt)))
