-- The loop over the nodes: what holds when node i is next.
use mathlib.Core.Path.{◌≡◌, refl, sym, ap, subst, ◌∙◌}
use mathlib.Core.List.{List}
use mathlib.Core.Bool.{Bool, true, false}
use Prim.Native.Nat.{ℕ, ◌+◌, ◌<◌, ◌≤◌}
use native.Mathlib.Omega.{arith}
use lib.Dec.{ltb}
use lib.ListN.{length, get_or, set, length-set}
use borrow.Author.Tests.{ltb-true, ltb-false}
use Rattle.spec_calculus.specs.Lists.{pick}
use Rattle.spec_calculus.specs.Syntax.{Collection}
use Rattle.base_scratch.specs.Map.{sizes_at, most_nodes}
use Rattle.base_signed.proofs.SignedWords.{by-test}
use Rattle.front_sizes.specs.declared.FormSize.{FormSize}
use Rattle.front_sizes.specs.SizeWords.{place, word_at, pack, SmallSize, first_pair, second_pair, third_pair, condition_count, spliced_count, stored}
use Rattle.front_sizes.proofs.SizeWords.{put-term, put-condition, put-spliced, put-stored, put_other, put_word}
use Rattle.front_measure.specs.declared.Ways.{Ways}
use Rattle.front_measure.specs.declared.Weight.{Weight}
use Rattle.front_measure.specs.MeasurableNodes.{Arranged}
use Rattle.front_measure.specs.KeptSizes.{Measured, KeptSizes, MeasurePost}
use Rattle.front_measure.specs.PartContracts.{way, Right, SmallWeight, WeighPost, offsets_of, storing}
use Rattle.front_measure.proofs.Frame.{arranged-same, measured-same}

-- ---- the same words give the same counts
condition-words : (s r : List ℕ) (j : ℕ) → word_at r j 0 ≡ word_at s j 0 → (v : Bool) → condition_count r j v ≡ condition_count s j v
unfolding condition_count
condition-words s r j p v = ap (λ (w : ℕ). pick v (third_pair w) (second_pair w)) p

spliced-words : (s r : List ℕ) (j : ℕ) → word_at r j 1 ≡ word_at s j 1 → (v : Bool) → spliced_count r j v ≡ spliced_count s j v
unfolding spliced_count
spliced-words s r j p v = ap (λ (w : ℕ). pick v (second_pair w) (first_pair w)) p

stored-words : (s r : List ℕ) (j : ℕ) → word_at r j 1 ≡ word_at s j 1 → (v : Bool) → stored r j v ≡ stored s j v
unfolding stored
stored-words s r j p v = ap (λ (w : ℕ). pick v (third_pair w).gens (third_pair w).size) p

recast : {K : ℕ → Collection} {s : List ℕ} {i : ℕ} {t u : FormSize} {c d p q : Bool → FormSize} {o a : Bool → ℕ} → Measured K s i t c p o
    → t ≡ u → ((v : Bool) → c v ≡ d v) → ((v : Bool) → p v ≡ q v) → ((v : Bool) → o v ≡ a v) → Measured K s i u d q a
recast M x y z w = record {
  term = λ h. let W = M.term h in record { term = W.term ∙ x; condition = λ v. W.condition v ∙ y v; splice = λ v. W.splice v ∙ z v };
  qualifier = λ h. let W = M.qualifier h in record { writes = λ v. W.writes v ∙ y v; sum = λ v. W.sum v ∙ z v; offset = λ v. W.offset v ∙ w v };
  apart = λ h v. sym (w v) ∙ M.apart h v;
  bare = λ h. sym x ∙ M.bare h;
}

pub kept-words : {K : ℕ → Collection} {s₀ : List ℕ} (s r : List ℕ) (j : ℕ) → word_at r j 0 ≡ word_at s j 0 → word_at r j 1 ≡ word_at s j 1 → KeptSizes K s₀ s j → KeptSizes K s₀ r j
kept-words s r j p q M =
    recast M (ap first_pair (sym p)) (λ v. sym (condition-words s r j p v)) (λ v. sym (spliced-words s r j q v)) (λ v. sym (stored-words s r j q v))

-- ---- what is stored for node i is read back
way-is : (w : Ways) (v : Bool) → way w v ≡ pick v w.yields w.stays
unfolding way pick
way-is w true = refl
way-is w false = refl

offset-is : (w : Ways) (v : Bool) → (way w v).gens ≡ pick v (offsets_of w).gens (offsets_of w).size
unfolding way pick
offset-is w true = refl
offset-is w false = refl

module _ (s : List ℕ) (i : ℕ) (w : Weight) (S : SmallWeight w) (room : place i 1 < length s) where
  one : List ℕ
  one = set s (place i 0) (pack w.term w.condition.stays w.condition.yields)

  first_word : word_at (storing s i w) i 0 ≡ word_at one i 0
  unfolding one
  first_word = put_word one i 1 (pack w.splice.stays w.splice.yields (offsets_of w.before)) i 0 (omega arith) (omega arith) (λ p q. omega arith)

  room-two : place i 1 < length one
  unfolding one
  room-two = omega (arith, length-set s (place i 0) (pack w.term w.condition.stays w.condition.yields))

  offsets-small : SmallSize (offsets_of w.before)
  offsets-small = record { size = S.before.stays.gens; gens = S.before.yields.gens }

  right_kept : {K : ℕ → Collection} → Right K s i w → KeptSizes K s (storing s i w) i
  unfolding one
  right_kept M =
      let C = S.condition in
      let P = S.splice in
      recast M
      (sym (ap first_pair first_word ∙ put-term s i w.term w.condition.stays w.condition.yields S.term C.stays C.yields (omega arith)))
      (λ v. way-is w.condition v ∙ sym (condition-words one (storing s i w) i first_word v ∙ put-condition s i w.term w.condition.stays w.condition.yields S.term C.stays C.yields (omega arith) v))
      (λ v. way-is w.splice v ∙ sym (put-spliced one i w.splice.stays w.splice.yields (offsets_of w.before) P.stays P.yields offsets-small room-two v))
      (λ v. offset-is w.before v ∙ sym (put-stored one i w.splice.stays w.splice.yields (offsets_of w.before) P.stays P.yields offsets-small room-two v))

-- ---- nothing else changes
module _ (s : List ℕ) (i : ℕ) (w : Weight) where
  store_long : length (storing s i w) ≡ length s
  store_long = length-set (set s (place i 0) (pack w.term w.condition.stays w.condition.yields)) (place i 1) (pack w.splice.stays w.splice.yields (offsets_of w.before))
      ∙ length-set s (place i 0) (pack w.term w.condition.stays w.condition.yields)

  store_other : (j : ℕ) → (j ≡ place i 0 → ⊥) → (j ≡ place i 1 → ⊥) → get_or (storing s i w) j 0 ≡ get_or s j 0
  store_other j p q =
      put_other (set s (place i 0) (pack w.term w.condition.stays w.condition.yields)) i 1 (pack w.splice.stays w.splice.yields (offsets_of w.before)) j q
      ∙ put_other s i 0 (pack w.term w.condition.stays w.condition.yields) j p

-- ---- node i is next
pub record MeasureLoop (s₀ : List ℕ) (n : ℕ) (s : List ℕ) (i : ℕ) : Type 0 where
  pub upto : i ≤ n
  pub long : length s ≡ length s₀
  pub front : (j : ℕ) → j < sizes_at → get_or s j 0 ≡ get_or s₀ j 0
  pub back : (j : ℕ) → place i 0 ≤ j → get_or s j 0 ≡ get_or s₀ j 0
  pub kept : Arranged s₀ n → n ≤ most_nodes → place n 0 ≤ length s₀ → (K : ℕ → Collection) (j : ℕ) → j < i → KeptSizes K s₀ s j

pub going-first : (s : List ℕ) (n : ℕ) → MeasureLoop s n s 0
going-first s n = record { upto = omega arith; long = refl; front = λ j h. refl; back = λ j h. refl; kept = λ A m r K j h. absurd (omega (arith, h)) }

module _ {s₀ : List ℕ} {n : ℕ} {s : List ℕ} {i : ℕ} (G : MeasureLoop s₀ n s i) where
  -- what is kept of the table of s₀ is kept of the table of s, and back
  own : n ≤ most_nodes → {K : ℕ → Collection} {j : ℕ} → j < n → KeptSizes K s₀ s j → KeptSizes K s s j
  own m h M = measured-same s₀ s G.front (omega arith) M

  pub going_on : {w : Weight} {r : List ℕ} → i < n → WeighPost s i w → r ≡ storing s i w → MeasureLoop s₀ n r (i + 1)
  going_on {w} {r} l W e = subst (λ (x : List ℕ). MeasureLoop s₀ n x (i + 1)) (sym e) (record {
    upto = omega arith;
    long = store_long s i w ∙ G.long;
    front = λ j h. store_other s i w j (λ p. omega arith) (λ p. omega arith) ∙ G.front j h;
    back = λ j h. store_other s i w j (λ p. omega (arith, h, p)) (λ p. omega (arith, h, p)) ∙ G.back j (omega (arith, h));
    kept = λ A m room K j h. by-test (ltb j i)
        (λ t. let k = ltb-true j i t in
        kept-words s (storing s i w) j (store_other s i w (place j 0) (λ p. omega (arith, k, p)) (λ p. omega (arith, k, p))) (store_other s i w (place j 1) (λ p. omega (arith, k, p)) (λ p. omega (arith, k, p)))
        (G.kept A m room K j k))
        (λ t. let k : i ≡ j = omega (arith, ltb-false j i t, h) in
        subst (λ (x : ℕ). KeptSizes K s₀ (storing s i w) x) k
        (measured-same s s₀ (λ x y. sym (G.front x y)) (omega arith)
        (right_kept s i w W.small (omega (arith, room, G.long)) (W.is n l (arranged-same s₀ s G.front n m A) K (λ x y. own m (omega (arith, y, l)) (G.kept A m room K x y))))));
  })

  pub going-last : n ≤ i → MeasurePost s₀ n s
  going-last l = record {
    long = G.long;
    front = G.front;
    back = λ j h. G.back j (omega (arith, h, G.upto));
    kept = λ A m room K j h. G.kept A m room K j (omega (arith, l, h));
  }
