-- The compacting walk. Raw words are read at `src` and written words go to `dst`, which is never behind `src`. Each promise is
-- for whatever value of the type stands in the words lent, however these are cut.
use Rattle.std.specs.Prelude.{◌≡◌, List, ◌++◌, map, ℕ, ◌+◌, ◌-◌, ◌<◌, length, replicate, ℤ, pos}
use Rattle.spec_calculus.specs.Syntax.{list}
use Rattle.spec_calculus.specs.Value.{Value, Values}
use Rattle.spec_calculus.specs.Monoid.{ordered}
use Rattle.spec_calculus.proofs.Lists.{All}
use Rattle.spec_checks.specs.Types.{Ty, number, truth, record', coll}
use Rattle.spec_checks.proofs.Refold.{refolds, arrange_as}
use Rattle.spec_outcome.specs.WrittenForm.{words, words_l}
use Rattle.form_words.specs.FormTree.{left}
use Rattle.answer_types.specs.Shape.{type_at, types_at}
use Rattle.answer_types.specs.TypedValues.{Of, OfEach}
use Rattle.answer_types.specs.Elements.{words_of}
use Rattle.answer_heap.specs.HeapSort.{capped}
use Rattle.answer_canonical.specs.Comparisons.{total, own, inside, inside_each, steps}
use Rattle.answer_canonical.specs.declared.Ends.{Ends}

-- behind D stand the words M, then a gap, then R; the ends are behind M and behind the gap, and k comparisons have been made
pub record Moved (D M R o : List ℤ) (e : Ends) (k : ℕ) : Type 0 where
  pub gap : List ℤ
  pub cut : o ≡ D ++ (M ++ (gap ++ R))
  pub at_dst : e.dst ≡ length D + length M
  pub at_src : e.dst + length gap ≡ e.src
  pub told : e.comparisons ≡ capped k

-- n words move down as they are
pub record CarryPost (n : ℕ) (e : Ends) (o o' : List ℤ) (r : Ends) : Type 0 where
  pub is : (D G M R : List ℤ) → length M ≡ n → o ≡ D ++ (G ++ (M ++ R)) → length D ≡ e.dst → length D + length G ≡ e.src → (k : ℕ) → e.comparisons ≡ capped k → Moved D M R o' r k

-- the type of a list of the same elements, where a type is a collection's: by it a value's parts are written, and it itself is not
-- ordered
abbrev pub unordered : Ty → Ty
unordered number = number
unordered truth = truth
unordered (record' ts) = record' ts
unordered (coll c t) = coll list t

-- a value: its parts are brought to written form
pub record WalkPost (s : List ℕ) (i : ℕ) (e : Ends) (o o' : List ℤ) (r : Ends) : Type 0 where
  pub is :
      (f : ℕ) → left i < f → (D G R : List ℤ) (v : Value) → Of (type_at f s i) v →
      o ≡ D ++ (G ++ (words v ++ R)) → length D ≡ e.dst → length D + length G ≡ e.src →
      (k : ℕ) → e.comparisons ≡ capped k → Moved D (words (arrange_as (unordered (type_at f s i)) v)) R o' r (k + inside (type_at f s i) v)

-- then the value itself, which stands at p
pub record ArrangePost (s : List ℕ) (i p : ℕ) (e : Ends) (o o' : List ℤ) (r : Ends) : Type 0 where
  pub is :
      (f : ℕ) → left i < f → (D R : List ℤ) (v : Value) → Of (type_at f s i) v → length D ≡ p →
      (k : ℕ) → Moved D (words (arrange_as (unordered (type_at f s i)) v)) R o e k → Moved D (words (arrange_as (type_at f s i) v)) R o' r (k + own (type_at f s i) v)

-- the fields of the types from place i to e, n elements: each is brought to written form
pub record WalkFieldsPost (s : List ℕ) (i end : ℕ) (e : Ends) (o o' : List ℤ) (r : Ends) : Type 0 where
  pub is :
      (f : ℕ) → left i + 1 < f → (D G R : List ℤ) (vs : Values) → OfEach (types_at f s i end) vs →
      o ≡ D ++ (G ++ (words_l vs ++ R)) → length D ≡ e.dst → length D + length G ≡ e.src →
      (k : ℕ) → e.comparisons ≡ capped k → Moved D (words_l (refolds ordered (types_at f s i end) vs)) R o' r (k + inside_each (types_at f s i end) vs)

pub record WalkElementsPost (s : List ℕ) (i n : ℕ) (e : Ends) (o o' : List ℤ) (r : Ends) : Type 0 where
  pub is :
      (f : ℕ) → left i < f → (D G R : List ℤ) (l : List Value) → All (Of (type_at f s i)) l → length l ≡ n →
      o ≡ D ++ (G ++ (words_of l ++ R)) → length D ≡ e.dst → length D + length G ≡ e.src →
      (k : ℕ) → e.comparisons ≡ capped k → Moved D (words_of (map (arrange_as (type_at f s i)) l)) R o' r (k + total (map (steps (type_at f s i)) l))

-- The raw words of a value, at the buffer's front, become its written words. "After an answer the words from its length up to G
-- are 0 and later ones unchanged", G being the length of the raw words.
pub record FinishPost (s : List ℕ) (i : ℕ) (o o' : List ℤ) (r : ℕ) : Type 0 where
  pub is :
      (f : ℕ) → left i < f → (R : List ℤ) (v : Value) → Of (type_at f s i) v → o ≡ words v ++ R →
      let ws = words (arrange_as (type_at f s i) v) in
      (o' ≡ ws ++ (replicate (length (words v) - length ws) (pos 0) ++ R)) × (r ≡ length ws)

-- ... by r comparisons in all
pub record FinishCount (s : List ℕ) (i : ℕ) (o : List ℤ) (r : ℕ) : Type 0 where
  pub is : (f : ℕ) → left i < f → (R : List ℤ) (v : Value) → Of (type_at f s i) v → o ≡ words v ++ R → r ≡ capped (steps (type_at f s i) v)
