-- One law for each way out of the walk.
use mathlib.Core.Path.{◌≡◌, refl, sym, ap, subst, ◌∙◌}
use mathlib.Core.List.{List, [], ◌∷◌, ◌++◌, map, append_assoc, append-nil}
use Prim.Native.Nat.{ℕ, ◌+◌, ◌-◌, ◌^◌, ◌≤◌, ◌<◌}
use native.Mathlib.Nat.{add-zero, zero-add, add_assoc}
use native.Mathlib.Omega.{arith}
use lib.ListN.{length, drop, replicate, length-append, length-map}
use lib.Seq.{drop_at}
use lib.IntN.{ℤ, pos}
use Rattle.spec_calculus.specs.Syntax.{Collection, list}
use Rattle.spec_calculus.specs.Value.{Value, Values, count, to_list, from_list}
use Rattle.spec_calculus.specs.Value as Va
use Rattle.spec_calculus.specs.Monoid.{ordered}
use Rattle.spec_calculus.proofs.Lists.{All}
use Rattle.spec_calculus.proofs.Folds.{arranged, from-to}
use Rattle.spec_checks.specs.Types.{Ty, Tys, number, truth, record', coll, ynil, ycons}
use Rattle.spec_checks.proofs.Refold.{on_parts, refold, refolds, arrange_as, arrange-coll}
use Rattle.spec_outcome.specs.WrittenForm.{words, words_l}
use Rattle.base_scratch.specs.Map.{form_words}
use Rattle.form_words.specs.NodeWord.{next}
use Rattle.form_words.specs.FormTree.{left}
use Rattle.form_words.proofs.NodeWords.{next_past}
use Rattle.base_buffer.specs.TotalReads.{count_at, behind, times}
use Rattle.base_buffer.specs.Blocks.{ShiftPost, MarkPost, ClearPost}
use Rattle.base_buffer.proofs.TotalReads.{behind-in, ahead_in}
use Rattle.answer_types.specs.declared.CollectionKind.{CollectionKind}
use Rattle.answer_types.specs.declared.ValueType.TheVariants.{Words, Fields, Elements}
use Rattle.answer_types.specs.declared.Layout.{Layout}
use Rattle.answer_types.specs.FlatTypes.{Flat, FlatEach, width_of}
use Rattle.answer_types.specs.Elements.{words_of}
use Rattle.answer_types.specs.Shape.{type_at, types_at, collection_of, Shaped, LayoutOf}
use Rattle.answer_types.specs.TypedValues.{Of, a_record, a_collection, OfEach, no_field, field}
use Rattle.answer_types.proofs.Types.{at-laid, by-words, by-fields, by-elements, by-none, by-more}
use Rattle.answer_types.proofs.FlatSkip.{flat-words}
use Rattle.answer_types.proofs.SkippedValues.{words-cons, count-stands}
use Rattle.answer_types.proofs.RawValueType.{to-all, from_all}
use Rattle.answer_types.proofs.Elements.{one_of, words_last}
use Rattle.answer_sort.specs.declared.Kept.{Kept}
use Rattle.answer_heap.specs.HeapSort.{Counted, capped}
use Rattle.answer_heap.proofs.BufferHeapSort.{cap-both}
use Rattle.answer_sort.specs.Ordering.{ordering}
use Rattle.answer_sort.specs.OrderStep.{GappedElements, OrderPost, OrderCountPost}
use Rattle.answer_canonical.specs.Comparisons.{total, parts, own, inside, inside_each, steps}
use Rattle.answer_canonical.specs.declared.Ends.{Ends}
use Rattle.answer_canonical.specs.CompactingWalk.{Moved, CarryPost, unordered, WalkPost, ArrangePost, WalkFieldsPost, WalkElementsPost, FinishPost, FinishCount}
use Rattle.answer_canonical.proofs.ArrangedValues.{count-from, arranged-count, arrange-list, flat-same}

-- ---- carry
pub carried : {n : ℕ} {e r : Ends} {o o' : List ℤ} {q : ℕ} → q ≡ times n (behind o) e.src → ShiftPost e.dst e.src q o o' → length o' ≡ length o → r.src ≡ q → r.dst ≡ times n (behind o') e.dst → r.comparisons ≡ e.comparisons → CarryPost n e o o' r
carried {n} {e} {r} {o} {o'} {q} eq T el es ed ec = record {
  is = λ D G M R m c ld ls k tk.
      let L : length o ≡ length D + (length G + (length M + length R)) = ap length c ∙ length-append D (G ++ (M ++ R)) ∙ ap (λ (k : ℕ). length D + k) (length-append G (M ++ R) ∙ ap (λ (k : ℕ). length G + k) (length-append M R)) in
      let a : q ≡ e.src + n = eq ∙ sym (ahead_in o e.src n (omega arith)) in
      let d : r.dst ≡ e.dst + n = ed ∙ sym (ahead_in o' e.dst n (omega arith)) in
      let Z = T.is D G M R c ld ls (omega arith) in
      record { gap = Z.gap; cut = Z.cut; at_dst = omega arith; at_src = omega (arith, Z.size); told = ec ∙ tk };
}

-- one block behind another
then-moved : (D M N R o : List ℤ) (e : Ends) (k : ℕ) → Moved (D ++ M) N R o e k → Moved D (M ++ N) R o e k
then-moved D M N R o e k Z = record {
  gap = Z.gap;
  cut = Z.cut ∙ append_assoc D M (N ++ (Z.gap ++ R)) ∙ ap (λ (w : List ℤ). D ++ w) (sym (append_assoc M N (Z.gap ++ R)));
  at_dst = Z.at_dst ∙ omega (arith, length-append D M, length-append M N);
  at_src = Z.at_src;
  told = Z.told;
}

-- comparisons added up in another way
recount : {D M R o : List ℤ} {e : Ends} {k k' : ℕ} → k ≡ k' → Moved D M R o e k → Moved D M R o e k'
recount {D} {M} {R} {o} {e} q Z = subst (λ (k : ℕ). Moved D M R o e k) q Z

-- ---- a value of type t, written by type u, by so many comparisons
abbrev WalksAs : Ty → Ty → (Value → ℕ) → Ends → List ℤ → List ℤ → Ends → Type 0
WalksAs t u c e o o' r = (D G R : List ℤ) (v : Value) → Of t v → o ≡ D ++ (G ++ (words v ++ R)) → length D ≡ e.dst → length D + length G ≡ e.src → (k : ℕ) → e.comparisons ≡ capped k → Moved D (words (arrange_as u v)) R o' r (k + c v)

abbrev WalksEach : Tys → Ends → List ℤ → List ℤ → Ends → Type 0
WalksEach ts e o o' r = (D G R : List ℤ) (vs : Values) → OfEach ts vs → o ≡ D ++ (G ++ (words_l vs ++ R)) → length D ≡ e.dst → length D + length G ≡ e.src → (k : ℕ) → e.comparisons ≡ capped k → Moved D (words_l (refolds ordered ts vs)) R o' r (k + inside_each ts vs)

-- a type without a collection
flat-unordered : (t : Ty) → Flat t → unordered t ≡ t
flat-unordered number h = refl
flat-unordered truth h = refl
flat-unordered (record' ts) h = refl
flat-unordered (coll c t) h = absurd h

-- it takes no comparison
flat-own : (t : Ty) (v : Value) → Flat t → own t v ≡ 0
unfolding own
flat-own number v h = refl
flat-own truth v h = refl
flat-own (record' ts) v h = refl
flat-own (coll c t) v h = absurd h

mutual
  unfolding own inside

  flat-inside : (t : Ty) (v : Value) → Flat t → inside t v ≡ 0
  flat-inside number v h = refl
  flat-inside truth v h = refl
  flat-inside (record' ts) v h = flat-each ts (parts v) h
  flat-inside (coll c t) v h = absurd h

  flat-each : (ts : Tys) (vs : Values) → FlatEach ts → inside_each ts vs ≡ 0
  flat-each ynil vs h = refl
  flat-each (ycons t ts) Va.vnil h = refl
  flat-each (ycons t ts) (Va.vcons v vs) h = omega (arith, flat-inside t v h.0, flat-own t v h.0, flat-each ts vs h.1)

words-by : {n : ℕ} {e r : Ends} {o o' : List ℤ} → CarryPost n e o o' r → (t : Ty) → Flat t → n ≡ width_of t → WalksAs t (unordered t) (inside t) e o o' r
words-by {r = r} {o' = o'} C t h en D G R v k c ld ls m tm =
    subst (λ (u : Value). Moved D (words u) R o' r (m + inside t v)) (sym (ap (λ u. arrange_as u v) (flat-unordered t h) ∙ flat-same t v h)) (recount (omega (arith, flat-inside t v h)) (C.is D G (words v) R (flat-words t v h k ∙ sym en) c ld ls m tm))

record-by : {ts : Tys} {e r : Ends} {o o' : List ℤ} → WalksEach ts e o o' r → WalksAs (record' ts) (record' ts) (inside (record' ts)) e o o' r
unfolding words refold on_parts inside
record-by W D G R v (a_record {vs = vs} n h) c ld ls = W D G R vs h c ld ls

module _ {s : List ℕ} {i : ℕ} {e r : Ends} {o o' : List ℤ} where
  pub walk-words : {n : ℕ} → Shaped s i (Words n) → CarryPost n e o o' r → WalkPost s i e o o' r
  walk-words H C = record { is = by-words (λ t. WalksAs t (unordered t) (inside t) e o o' r) H (words-by C) }

  pub walk-record : {end : ℕ} → Shaped s i (Fields end) → WalkFieldsPost s (i + 1) end e o o' r → WalkPost s i e o o' r
  walk-record H F = record { is = by-fields (λ t. WalksAs t (unordered t) (inside t) e o o' r) H (λ g l. record-by (F.is g l)) }

-- both steps
pub record WalkedArranged (s : List ℕ) (i : ℕ) (e : Ends) (o o' : List ℤ) (r : Ends) : Type 0 where
  pub is : (f : ℕ) → left i < f → WalksAs (type_at f s i) (type_at f s i) (steps (type_at f s i)) e o o' r

pub written : {s : List ℕ} {i p : ℕ} {e g r : Ends} {o o₁ o₂ : List ℤ} → p ≡ e.dst → WalkPost s i e o o₁ g → ArrangePost s i p g o₁ o₂ r → WalkedArranged s i e o o₂ r
written {s} {i} ep W A = record {
  is = λ f k D G R v h c ld ls m tm. recount (add_assoc m (inside (type_at f s i) v) (own (type_at f s i) v)) (A.is f k D R v h (ld ∙ sym ep) (m + inside (type_at f s i) v) (W.is f k D G R v h c ld ls m tm));
}

-- by the layout of a place
pub written_at : {s : List ℕ} {i : ℕ} {t : Layout} {e r : Ends} {o o' : List ℤ} → LayoutOf s i t → WalkedArranged s t.place e o o' r → WalkedArranged s i e o o' r
written_at {s} {e = e} {r = r} {o = o} {o' = o'} L W = at-laid L (λ i. WalkedArranged s i e o o' r) W

-- ---- fields
none-by : {e : Ends} {o : List ℤ} → WalksEach ynil e o o e
unfolding words refold inside
none-by D G R vs no_field c ld ls k tk = record { gap = G; cut = c; at_dst = omega arith; at_src = omega arith; told = tk ∙ ap capped (sym (add-zero k)) }

more_by : {t : Ty} {ts : Tys} {e g r : Ends} {o o₁ o₂ : List ℤ} → WalksAs t t (steps t) e o o₁ g → WalksEach ts g o₁ o₂ r → WalksEach (ycons t ts) e o o₂ r
unfolding words refold inside
more_by {t} {ts} {g = g} {r = r} {o₂ = o₂} W F D G R vs (field {v = v} {vs = us} h k) c ld ls m tm =
    let Z = W D G (words_l us ++ R) v h (c ∙ ap (λ (w : List ℤ). D ++ (G ++ w)) (words-cons v us R)) ld ls m tm in
    let M : List ℤ = words (arrange_as t v) in
    let q : length (D ++ words (arrange_as t v)) ≡ g.dst = length-append D (words (arrange_as t v)) ∙ sym Z.at_dst in
    then-moved D (words (arrange_as t v)) (words_l (refolds ordered ts us)) R o₂ r (m + (steps t v + inside_each ts us))
    (recount (add_assoc m (steps t v) (inside_each ts us))
    (F (D ++ words (arrange_as t v)) Z.gap R us k (Z.cut ∙ sym (append_assoc D (words (arrange_as t v)) (Z.gap ++ (words_l us ++ R)))) q (ap (λ (n : ℕ). n + length Z.gap) q ∙ Z.at_src) (m + steps t v) Z.told))

module _ {s : List ℕ} {c end : ℕ} {e : Ends} {o : List ℤ} where
  fields-none : end ≤ c → WalkFieldsPost s c end e o o e
  fields-none q = record { is = by-none s (λ ts. WalksEach ts e o o e) q none-by }

  fields-more : {d : ℕ} {g r : Ends} {o₁ o₂ : List ℤ} → c < end → end ≤ form_words → WalkedArranged s c e o o₁ g → d ≡ next s c → WalkFieldsPost s d end g o₁ o₂ r → WalkFieldsPost s c end e o o₂ r
  fields-more {d} {g} {r} {o₁} {o₂} l m W ed F = record {
    is = by-more s (λ ts. WalksEach ts e o o₂ r) l m (λ f k j.
        more_by (W.is f k) (subst (λ (x : ℕ). WalksEach (types_at f s x end) g o₁ o₂ r) ed (F.is f (omega (arith, ap left ed)))));
  }

-- those before place d are written
pub record WalkingFields (s : List ℕ) (c end : ℕ) (e₀ : Ends) (o₀ o : List ℤ) (d : ℕ) (e : Ends) : Type 0 where
  pub long : length o ≡ length o₀
  pub past : c ≤ d
  pub rest : {o' : List ℤ} {r : Ends} → WalkFieldsPost s d end e o o' r → WalkFieldsPost s c end e₀ o₀ o' r

pub fields-first : {s : List ℕ} {c end : ℕ} {e : Ends} {o : List ℤ} → WalkingFields s c end e o o c e
fields-first = record { long = refl; past = omega arith; rest = λ F. F }

module _ {s : List ℕ} {c end d : ℕ} {e₀ e : Ends} {o₀ o : List ℤ} (I : WalkingFields s c end e₀ o₀ o d e) where
  module _ (l : d < end) (m : end ≤ form_words) {n : ℕ} (en : n ≡ next s d) where
    pub fields-again : {g : Ends} {o' : List ℤ} → length o' ≡ length o → WalkedArranged s d e o o' g → WalkingFields s c end e₀ o₀ o' n g
    fields-again el W = record { long = el ∙ I.long; past = omega (arith, I.past, en, next_past s d (omega (arith, l, m))); rest = λ F. I.rest (fields-more l m W en F) }

    pub fields-less : end - n < end - d
    fields-less = omega (arith, l, en, next_past s d (omega (arith, l, m)))

  pub fields-last : end ≤ d → WalkFieldsPost s c end e₀ o₀ o e
  fields-last l = I.rest (fields-none l)

-- ---- elements: `done` are written, `todo` are to come
pub record Underway (t : Ty) (D R : List ℤ) (l : List Value) (o : List ℤ) (n : ℕ) (e : Ends) (k : ℕ) : Type 0 where
  pub done : List Value
  pub todo : List Value
  pub gap : List ℤ
  pub cut : o ≡ (D ++ words_of done) ++ (gap ++ (words_of todo ++ R))
  pub all-todo : All (Of t) todo
  pub others : length todo ≡ n
  pub want : done ++ map (arrange_as t) todo ≡ map (arrange_as t) l
  pub at_dst : length (D ++ words_of done) ≡ e.dst
  pub at_src : e.dst + length gap ≡ e.src
  pub made : ℕ
  pub told : e.comparisons ≡ capped made
  pub sum : made + total (map (steps t) todo) ≡ k + total (map (steps t) l)

pub record Walking (s : List ℕ) (i count : ℕ) (e₀ : Ends) (o₀ o : List ℤ) (n : ℕ) (e : Ends) : Type 0 where
  pub long : length o ≡ length o₀
  pub by :
      (f : ℕ) → left i < f → (D G R : List ℤ) (l : List Value) → All (Of (type_at f s i)) l → length l ≡ count →
      o₀ ≡ D ++ (G ++ (words_of l ++ R)) → length D ≡ e₀.dst → length D + length G ≡ e₀.src → (k : ℕ) → e₀.comparisons ≡ capped k → Underway (type_at f s i) D R l o n e k

walk-begins : {s : List ℕ} {i n : ℕ} {e : Ends} {o : List ℤ} → Walking s i n e o o n e
unfolding words
walk-begins = record {
  long = refl;
  by = λ f k D G R l h c q ld ls m tm. record {
    done = [];
    todo = l;
    gap = G;
    cut = q ∙ ap (λ (w : List ℤ). w ++ (G ++ (words_of l ++ R))) (sym (append-nil D));
    all-todo = h;
    others = c;
    want = refl;
    at_dst = ap length (append-nil D) ∙ ld;
    at_src = omega arith;
    made = m;
    told = tm;
    sum = refl;
  };
}

pub walk_first : {s : List ℕ} {i n m : ℕ} {e : Ends} {o : List ℤ} → n ≡ m → Walking s i n e o o m e
walk_first {s} {i} {n} {e = e} {o = o} q = subst (λ (k : ℕ). Walking s i n e o o k e) q walk-begins

module _ {t : Ty} {e g : Ends} {o o' : List ℤ} (W : WalksAs t t (steps t) e o o' g) (D R : List ℤ) (l : List Value) (n : ℕ) (p : 0 < n) (k₀ : ℕ) where
  one-walked : (done todo : List Value) (gap : List ℤ) → o ≡ (D ++ words_of done) ++ (gap ++ (words_of todo ++ R)) → All (Of t) todo → length todo ≡ n → done ++ map (arrange_as t) todo ≡ map (arrange_as t) l → length (D ++ words_of done) ≡ e.dst → e.dst + length gap ≡ e.src
      → (made : ℕ) → e.comparisons ≡ capped made → made + total (map (steps t) todo) ≡ k₀ + total (map (steps t) l) → Underway t D R l o' (n - 1) g k₀
  unfolding total
  one-walked done [] gap c h k w ld ls made tm sm = absurd (omega arith)
  one-walked done (v ∷ todo) gap c h k w ld ls made tm sm =
      let a : Value = arrange_as t v in
      let Z = W (D ++ words_of done) gap (words_of todo ++ R) v h.0 (c ∙ ap (λ (u : List ℤ). (D ++ words_of done) ++ (gap ++ u)) (one_of v todo R)) ld (omega arith) made tm in
      let q : (D ++ words_of done) ++ words (arrange_as t v) ≡ D ++ words_of (done ++ (arrange_as t v ∷ [])) = append_assoc D (words_of done) (words (arrange_as t v)) ∙ ap (λ (u : List ℤ). D ++ u) (sym (words_last done (arrange_as t v))) in
      record {
        done = done ++ (arrange_as t v ∷ []);
        todo = todo;
        gap = Z.gap;
        cut = Z.cut ∙ sym (append_assoc (D ++ words_of done) (words (arrange_as t v)) (Z.gap ++ (words_of todo ++ R))) ∙ ap (λ (u : List ℤ). u ++ (Z.gap ++ (words_of todo ++ R))) q;
        all-todo = h.1;
        others = omega arith;
        want = append_assoc done (arrange_as t v ∷ []) (map (arrange_as t) todo) ∙ w;
        at_dst = sym (ap length q) ∙ length-append (D ++ words_of done) (words (arrange_as t v)) ∙ sym Z.at_dst;
        at_src = Z.at_src;
        made = made + steps t v;
        told = Z.told;
        sum = add_assoc made (steps t v) (total (map (steps t) todo)) ∙ sm;
      }

walk-next : {s : List ℕ} {i count n : ℕ} {e₀ e g : Ends} {o₀ o o' : List ℤ} → Walking s i count e₀ o₀ o n e → 0 < n → length o' ≡ length o → WalkedArranged s i e o o' g → Walking s i count e₀ o₀ o' (n - 1) g
walk-next {n = n} I p el W = record {
  long = el ∙ I.long;
  by = λ f k D G R l h c q ld ls m tm.
      let U = I.by f k D G R l h c q ld ls m tm in
      one-walked (W.is f k) D R l n p m U.done U.todo U.gap U.cut U.all-todo U.others U.want U.at_dst U.at_src U.made U.told U.sum;
}

all-walked : (t : Ty) (D R : List ℤ) (l : List Value) (o : List ℤ) (n : ℕ) (e : Ends) → n ≤ 0 → (done todo : List Value) (gap : List ℤ) → o ≡ (D ++ words_of done) ++ (gap ++ (words_of todo ++ R)) → length todo ≡ n → done ++ map (arrange_as t) todo ≡ map (arrange_as t) l → length (D ++ words_of done) ≡ e.dst → e.dst + length gap ≡ e.src
    → (k₀ made : ℕ) → e.comparisons ≡ capped made → made + total (map (steps t) todo) ≡ k₀ + total (map (steps t) l) → Moved D (words_of (map (arrange_as t) l)) R o e (k₀ + total (map (steps t) l))
unfolding words total
all-walked t D R l o n e p done [] gap c k w ld ls k₀ made tm sm = subst (λ (m : List Value). Moved D (words_of m) R o e (k₀ + total (map (steps t) l))) (sym (append-nil done) ∙ w) (record {
  gap = gap;
  cut = c ∙ append_assoc D (words_of done) (gap ++ R);
  at_dst = sym ld ∙ length-append D (words_of done);
  at_src = ls;
  told = tm ∙ ap capped (sym (add-zero made) ∙ sm);
})
all-walked t D R l o n e p done (v ∷ todo) gap c k w ld ls k₀ made tm sm = absurd (omega arith)

pub walk-again : {s : List ℕ} {i count n m : ℕ} {e₀ e g : Ends} {o₀ o o' : List ℤ} → Walking s i count e₀ o₀ o n e → n ≡ m + 1 → length o' ≡ length o → WalkedArranged s i e o o' g → Walking s i count e₀ o₀ o' m g
walk-again {s} {i} {count} {e₀ = e₀} {g = g} {o₀ = o₀} {o' = o'} I q el W = subst (λ (k : ℕ). Walking s i count e₀ o₀ o' k g) (omega (arith, q)) (walk-next I (omega (arith, q)) el W)

pub walk-last : {s : List ℕ} {i count n : ℕ} {e₀ e : Ends} {o₀ o : List ℤ} → Walking s i count e₀ o₀ o n e → n ≤ 0 → WalkElementsPost s i count e₀ o₀ o e
walk-last {s} {i} {n = n} {e = e} {o = o} I p = record {
  is = λ f k D G R l h c q ld ls m tm.
      let U = I.by f k D G R l h c q ld ls m tm in
      all-walked (type_at f s i) D R l o n e p U.done U.todo U.gap U.cut U.others U.want U.at_dst U.at_src m U.made U.told U.sum;
}

-- ---- a collection
-- the count that is read is the one that stands there
count-read : (t : Ty) (D G R o : List ℤ) (l : List Value) (k n p : ℕ) → All (Of t) l → length l ≡ k → n ≡ count_at o p → o ≡ D ++ (G ++ (pos k ∷ (words_of l ++ R))) → length D + length G ≡ p → length l ≡ n
count-read t D G R o l k n p h lk en q lp =
    let c : count (from_list l) ≡ length l = count-from l in
    let B : List ℤ = pos (count (from_list l)) ∷ (words_of l ++ R) in
    sym (en
    ∙ count-stands t (from_list l) o p R (from_all l h)
    (ap (drop p) (q ∙ ap (λ (x : ℕ). D ++ (G ++ (pos x ∷ (words_of l ++ R)))) (sym (c ∙ lk)) ∙ sym (append_assoc D G B)) ∙ drop_at (D ++ G) B p (length-append D G ∙ lp))
    ∙ c)

-- its words when it is written: the count, then the elements
coll-words : (c : Collection) (t : Ty) (vs : Values) → let m = arranged c (map (arrange_as t) (to_list vs)) in words (arrange_as (coll c t) (Va.coll vs)) ≡ pos (length m) ∷ words_of m
unfolding words
coll-words c t vs =
    let m = arranged c (map (arrange_as t) (to_list vs)) in
    ap words (arrange-coll c t vs) ∙ ap (λ (x : ℕ). pos x ∷ words_of m) (count-from m)

list-words : (t : Ty) (vs : Values) → let m = map (arrange_as t) (to_list vs) in words (arrange_as (coll list t) (Va.coll vs)) ≡ pos (length m) ∷ words_of m
unfolding arranged
list-words t vs = coll-words list t vs

-- ---- its count, then its elements
abbrev WalksList : Ty → ℕ → Ends → List ℤ → List ℤ → Ends → Type 0
WalksList t n e o o' r = (D G R : List ℤ) (l : List Value) → All (Of t) l → length l ≡ n → o ≡ D ++ (G ++ (words_of l ++ R)) → length D ≡ e.dst → length D + length G ≡ e.src → (k : ℕ) → e.comparisons ≡ capped k → Moved D (words_of (map (arrange_as t) l)) R o' r (k + total (map (steps t) l))

module _ {t : Ty} {n : ℕ} {e b g : Ends} {o o₁ o₂ : List ℤ} (en : n ≡ count_at o e.src) (C : CarryPost 1 e o o₁ b) (W : WalksList t n b o₁ o₂ g) where
  -- k stands in front of the elements of l, which are so many; F: what is written before them
  list-by : (D G R : List ℤ) (l : List Value) (k : ℕ) → length l ≡ k → All (Of t) l → o ≡ D ++ (G ++ (pos k ∷ (words_of l ++ R))) → length D ≡ e.dst → length D + length G ≡ e.src →
      (F : List ℤ) → F ≡ D ++ (pos k ∷ []) → (m : ℕ) → e.comparisons ≡ capped m → Moved F (words_of (map (arrange_as t) l)) R o₂ g (m + total (map (steps t) l))
  list-by D G R l k lk h q ld ls F e_f m tm =
      let l_f : length F ≡ length D + 1 = ap length e_f ∙ length-append D (pos k ∷ []) in
      let X = C.is D G (pos k ∷ []) (words_of l ++ R) refl q ld ls m tm in
      W F X.gap R l h (count-read t D G R o l k n e.src h lk en q ls) (X.cut ∙ sym (append_assoc D (pos k ∷ []) (X.gap ++ (words_of l ++ R))) ∙ ap (λ (x : List ℤ). x ++ (X.gap ++ (words_of l ++ R))) (sym e_f)) (omega (arith, X.at_dst)) (omega (arith, X.at_dst, X.at_src)) m X.told

  coll-by : (c : Collection) → WalksAs (coll c t) (coll list t) (inside (coll c t)) e o o₂ g
  unfolding words inside
  coll-by c D G R v (a_collection d {vs = vs} h) q ld ls a ta =
      let l : List Value = to_list vs in
      let m : List Value = map (arrange_as t) l in
      let lk : length l ≡ count vs = sym (count-from l) ∙ ap count (from-to vs) in
      let Y : Moved D (pos (count vs) ∷ words_of m) R o₂ g (a + inside (coll c t) v) = then-moved D (pos (count vs) ∷ []) (words_of m) R o₂ g (a + inside (coll c t) v)
      (list-by D G R l (count vs) lk (to-all h) (q ∙ ap (λ (us : Values). D ++ (G ++ (pos (count vs) ∷ (words_l us ++ R)))) (sym (from-to vs))) ld ls (D ++ (pos (count vs) ∷ [])) refl a ta) in
      subst (λ (w : List ℤ). Moved D w R o₂ g (a + inside (coll c t) v)) (ap (λ (x : ℕ). pos x ∷ words_of m) (sym (length-map l (arrange_as t) ∙ lk)) ∙ sym (list-words t vs)) Y

-- u: the elements' layout
pub walk-collection : {s : List ℕ} {i h : ℕ} {k : CollectionKind} {u : Layout} {n : ℕ} {e b g : Ends} {o o₁ o₂ : List ℤ} → Shaped s i (Elements k h) → LayoutOf s h u → n ≡ count_at o e.src → CarryPost 1 e o o₁ b → WalkElementsPost s u.place n b o₁ o₂ g → WalkPost s i e o o₂ g
walk-collection {s} {i} {h} {k} {u} {n} {e} {b} {g} {o} {o₁} {o₂} H L en C W =
    let W₁ = at-laid L (λ x. WalkElementsPost s x n b o₁ o₂ g) W in
    record { is = by-elements (λ t. WalksAs t (unordered t) (inside t) e o o₂ g) H (λ f l. coll-by en C (W₁.is f l) (collection_of k)) }

-- ---- then their order, and the count mended
abbrev ArrangesAs : Ty → ℕ → Ends → List ℤ → List ℤ → Ends → Type 0
ArrangesAs t p e o o' r = (D R : List ℤ) (v : Value) → Of t v → length D ≡ p → (k : ℕ) → Moved D (words (arrange_as (unordered t) v)) R o e k → Moved D (words (arrange_as t v)) R o' r (k + own t v)

abbrev OrdersAs : Ty → Collection → ℕ → ℕ → ℕ → List ℤ → List ℤ → Kept → Type 0
OrdersAs t c first n end o o' r = (F R : List ℤ) (l : List Value) → All (Of t) l → length l ≡ n → o ≡ F ++ (words_of l ++ R) → length F ≡ first → length F + length (words_of l) ≡ end → GappedElements F R (arranged c l) (length (words_of l)) o' r.count r.end

abbrev CountsAs : Ty → Collection → ℕ → ℕ → List ℤ → Kept → Type 0
CountsAs t c first n o r = (F R : List ℤ) (l : List Value) → All (Of t) l → length l ≡ n → o ≡ F ++ (words_of l ++ R) → length F ≡ first → r.comparisons ≡ capped (ordering c l).comparisons

-- the count m that was mended is n
mended : (D M G H R o : List ℤ) (m n : ℕ) → o ≡ D ++ (pos m ∷ (M ++ (G ++ (H ++ R)))) → m ≡ n → o ≡ D ++ ((pos n ∷ M) ++ ((G ++ H) ++ R))
mended D M G H R o m n q e = q ∙ ap (λ (x : ℕ). D ++ (pos x ∷ (M ++ (G ++ (H ++ R))))) e ∙ ap (λ (x : List ℤ). D ++ (pos n ∷ (M ++ x))) (sym (append_assoc G H R))

module _ {t : Ty} {n p q : ℕ} {e r : Ends} {o o₁ o₂ : List ℤ} (j : Kept) (c : Collection) (en : n ≡ count_at o p) (small : n < 2 ^ 63) (eq : q ≡ behind o p)
    (S : OrdersAs t c q n e.dst o o₁ j) (N : CountsAs t c q n o j) (K : MarkPost p j.count o₁ o₂) (es : r.src ≡ e.src) (ed : r.dst ≡ j.end) (ec : r.comparisons ≡ capped (e.comparisons + j.comparisons)) where
  order-by : (D R : List ℤ) (m : List Value) → All (Of t) m → length D ≡ p → (k : ℕ) → Moved D (pos (length m) ∷ words_of m) R o e k → Moved D (pos (length (arranged c m)) ∷ words_of (arranged c m)) R o₂ r (k + (ordering c m).comparisons)
  order-by D R m h ld k X =
      let F : List ℤ = D ++ (pos (length m) ∷ []) in
      let a : List Value = arranged c m in
      let T : List ℤ = X.gap ++ R in
      let cm : length m ≡ n = count-read t D [] T o m (length m) n p h refl en X.cut (omega (arith, ld)) in
      let l_f : length F ≡ length D + 1 = length-append D (pos (length m) ∷ []) in
      let lo : length D < length o = omega (arith, ap length X.cut ∙ length-append D (pos (length m) ∷ (words_of m ++ T))) in
      let cut : o ≡ F ++ (words_of m ++ T) = X.cut ∙ sym (append_assoc D (pos (length m) ∷ []) (words_of m ++ T)) in
      let at : length F ≡ q = omega (arith, l_f, ld, eq, behind-in o p (omega (arith, lo, ld))) in
      let Z = S F T m h cm cut at (omega (arith, l_f, X.at_dst)) in
      record {
        gap = Z.gap ++ X.gap;
        cut = mended D (words_of a) Z.gap X.gap R o₂ j.count (length a)
            (K.is D (words_of a ++ (Z.gap ++ T)) (pos (length m)) (omega (arith, Z.counted, arranged-count c m)) (Z.cut ∙ append_assoc D (pos (length m) ∷ []) (words_of a ++ (Z.gap ++ T))) ld)
            Z.counted;
        at_dst = omega (arith, Z.at_end, l_f);
        at_src = omega (arith, Z.at_end, Z.size, l_f, X.at_dst, X.at_src, length-append Z.gap X.gap);
        told = ec ∙ cap-both k (ordering c m).comparisons X.told (N F T m h cm cut at);
      }

  arrange-by : ArrangesAs (coll c t) p e o o₂ r
  unfolding own
  arrange-by D R v (a_collection d {vs = vs} h) ld k X =
      let m : List Value = map (arrange_as t) (to_list vs) in
      subst (λ (w : List ℤ). Moved D w R o₂ r (k + (ordering c m).comparisons)) (sym (coll-words c t vs)) (order-by D R m (arrange-list t (to_list vs) (to-all h)) ld k (subst (λ (w : List ℤ). Moved D w R o e k) (list-words t vs) X))

module _ {s : List ℕ} {i p : ℕ} {e : Ends} {o : List ℤ} where
  -- nothing to order
  pub arrange-words : {n : ℕ} → Shaped s i (Words n) → ArrangePost s i p e o o e
  arrange-words H = record { is = by-words (λ t. ArrangesAs t p e o o e) H (λ t h n D R v k ld m X. recount (omega (arith, flat-own t v h)) (subst (λ (u : Ty). Moved D (words (arrange_as u v)) R o e m) (flat-unordered t h) X)) }

  pub arrange-record : {end : ℕ} → Shaped s i (Fields end) → ArrangePost s i p e o o e
  unfolding own
  arrange-record H = record { is = by-fields (λ t. ArrangesAs t p e o o e) H (λ g l D R v k ld m X. recount (sym (add-zero m)) X) }

  pub arrange-collection : {h : ℕ} {k : CollectionKind} {u : Layout} {n q : ℕ} {r : Ends} {j : Kept} {o₁ o₂ : List ℤ} → Shaped s i (Elements k h) → LayoutOf s h u → (n ≡ count_at o p) × (n < 2 ^ 63) → q ≡ behind o p → OrderPost s u.place k q n e.dst o o₁ j → OrderCountPost s u.place k q n o j.comparisons → MarkPost p j.count o₁ o₂ → r.src ≡ e.src → r.dst ≡ j.end → r.comparisons ≡ capped (e.comparisons + j.comparisons) → ArrangePost s i p e o o₂ r
  arrange-collection {h} {k} {u} {n} {q} {r} {j} {o₁} {o₂} H L en eq S N K es ed ec =
      let S₁ = at-laid L (λ x. OrderPost s x k q n e.dst o o₁ j) S in
      let N₁ = at-laid L (λ x. OrderCountPost s x k q n o j.comparisons) N in
      record { is = by-elements (λ t. ArrangesAs t p e o o₂ r) H (λ f l. arrange-by j (collection_of k) en.0 en.1 eq (S₁.is f l) (N₁.is f l) K es ed ec) }

-- ---- finish
pub finished : {s : List ℕ} {i : ℕ} {e r : Ends} {o o₁ o₂ : List ℤ} → e.src ≡ 0 → e.dst ≡ 0 → e.comparisons ≡ 0 → WalkedArranged s i e o o₁ r → length o₁ ≡ length o → ClearPost r.dst r.src o₁ o₂ → FinishPost s i o o₂ r.dst
finished {s} {i} {e} {r} {o} {o₁} {o₂} es ed ec W el K = record {
  is = λ f k R v h q.
      let M : List ℤ = words (arrange_as (type_at f s i) v) in
      let Z = W.is f k [] [] R v h q (sym ed) (sym es) 0 (ec ∙ omega arith) in
      let n : length Z.gap ≡ length (words v) - length M = omega (arith, sym (ap length Z.cut ∙ length-append M (Z.gap ++ R)) ∙ el ∙ ap length q, length-append Z.gap R, length-append (words v) R) in
      (K.is M Z.gap R Z.cut (omega (arith, Z.at_dst)) (omega (arith, Z.at_dst, Z.at_src)) ∙ ap (λ (x : ℕ). M ++ (replicate x (pos 0) ++ R)) n, omega (arith, Z.at_dst));
}

pub finish-counted : {s : List ℕ} {i : ℕ} {e r : Ends} {o o₁ : List ℤ} → e.src ≡ 0 → e.dst ≡ 0 → e.comparisons ≡ 0 → WalkedArranged s i e o o₁ r → FinishCount s i o r.comparisons
finish-counted {s} {i} es ed ec W = record { is = λ f k R v h q. (W.is f k [] [] R v h q (sym ed) (sym es) 0 (ec ∙ omega arith)).told ∙ ap capped (zero-add (steps (type_at f s i) v)) }
