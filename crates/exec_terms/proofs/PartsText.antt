-- What is written of a head's parts is what the text of the answer says of them, where the collections among them stand
-- already.
use mathlib.Core.Path.{◌≡◌, refl, sym, ap, ap₂, ◌∙◌}
use mathlib.Core.List.{List, [], ◌∷◌, ◌++◌}
use mathlib.Core.Bool.{Bool, true, false}
use Prim.Native.Nat.{ℕ, zero, suc, ◌+◌, ◌<◌, min}
use borrow.Author.Tests.{leb-false}
use lib.Dec.{leb}
use lib.IntN.{ℤ, pos}
use Rattle.spec_calculus.specs.Lists.{pick, bind_l}
use Rattle.spec_calculus.specs.Value.{Value, Values, num, truth, rec, coll, vnil, vcons, count}
use Rattle.spec_plan.specs.Plan.{PTerm}
use Rattle.spec_plan.specs.Operators.{Row, eval_p}
use Rattle.form_words.specs.NodeWord.{next, node_at}
use Rattle.answer_writer.specs.declared.WriteForm.{WriteForm}
use Rattle.answer_writer.specs.declared.WriteForm.TheVariants as Sh
use Rattle.base_signed.specs.Limit.{number_limit}
use Rattle.answer_writer.specs.LaidWords.{Point, pt, lays, cut_words, cut_words_l}
use Rattle.answer_writer.specs.Shapes.{shape_of}
use Rattle.answer_writer.proofs.LaidWords.{lays-append}
use Rattle.plan_marks.specs.PlanIn.{term_in}
use Rattle.plan_machine.specs.AnswerText.{words_to, words_to_l, said}
use Rattle.exec_state.specs.StateWords.{end_in}
use Rattle.exec_terms.specs.PartsWalk.{words_at, go_on, walk_by, walk}

-- ---- the same words
mutual
  unfolding words_to cut_words

  pub words-cut : (v : Value) → words_to number_limit v ≡ cut_words v
  words-cut (num z) = refl
  words-cut (truth b) = refl
  words-cut (rec vs) = words-cuts vs
  words-cut (coll vs) = ap (λ (l : List ℤ). pos (min (count vs) number_limit) ∷ l) (words-cuts vs)

  words-cuts : (vs : Values) → words_to_l number_limit vs ≡ cut_words_l vs
  words-cuts vnil = refl
  words-cuts (vcons v vs) = ap₂ ◌++◌ (words-cut v) (words-cuts vs)

-- ---- the parts between two nodes, as terms
abbrev pub parts_by : (ℕ → List PTerm) → List ℕ → PTerm → ℕ → WriteForm → List PTerm
parts_by X s t a (Sh.Word k) = t ∷ X (next s a)
parts_by X s t a (Sh.Row g) = t ∷ X (next s a)
parts_by X s t a (Sh.Record e) = X (a + 1)
parts_by X s t a Sh.Collection = t ∷ X (next s a)

unfoldable pub parts_in : ℕ → List ℕ → ℕ → ℕ → List PTerm
parts_in zero s a b = []
parts_in (suc f) s a b = pick (leb b a) [] (parts_by (λ j. parts_in f s j b) s (term_in f s a) a (shape_of (node_at s a)))

-- each collection's words stand where the walk meets it, and end where its kept word says
abbrev pub walkable_by : (ℕ → Point → Type 0) → ℕ → List ℕ → List ℤ → ℕ → WriteForm → Point → Type 0
walkable_by W lim s l a (Sh.Word k) P = W (next s a) (lays lim l P)
walkable_by W lim s l a (Sh.Row g) P = W (next s a) (lays lim l P)
walkable_by W lim s l a (Sh.Record e) P = W (a + 1) P
walkable_by W lim s l a Sh.Collection P = (lays lim l P ≡ go_on (end_in s a) P) × W (next s a) (go_on (end_in s a) P)

unfoldable pub Walkable : ℕ → ℕ → List ℕ → Row → ℕ → ℕ → Point → Type 0
Walkable zero lim s r a b P = Unit {0}
Walkable (suc f) lim s r a b P = a < b → walkable_by (λ j Q. Walkable f lim s r j b Q) lim s (words_at f s r a) a (shape_of (node_at s a)) P

module _ (lim : ℕ) (s : List ℕ) (r : Row) (b : ℕ) where
  -- the words of parts, laid
  abbrev saying : List PTerm → Point → Point
  saying ts P = lays lim (said number_limit r ts) P

  say-none : (P : Point) → P ≡ saying [] P
  unfolding said bind_l lays
  say-none (pt o p) = refl

  say-more : (f a : ℕ) (ts : List PTerm) (P : Point) → saying ts (lays lim (words_at f s r a) P) ≡ saying (term_in f s a ∷ ts) P
  unfolding said bind_l
  say-more f a ts P = sym (ap (λ (l : List ℤ). lays lim (l ++ said number_limit r ts) P) (words-cut (eval_p (term_in f s a) r)) ∙ lays-append lim (words_at f s r a) (said number_limit r ts) P)

  pub walk-said : (f a : ℕ) (P : Point) → Walkable f lim s r a b P → walk f lim s r a b P ≡ saying (parts_in f s a b) P
  unfolding walk parts_in Walkable pick
  walk-said zero a P S = say-none P
  walk-said (suc f) a P S = go (λ j Q. walk-said f j Q) (leb b a) refl
    where
      by_shape : ((j : ℕ) (Q : Point) → Walkable f lim s r j b Q → walk f lim s r j b Q ≡ saying (parts_in f s j b) Q) → (x : WriteForm) → walkable_by (λ j Q. Walkable f lim s r j b Q) lim s (words_at f s r a) a x P →
          walk_by (λ j Q. walk f lim s r j b Q) lim s (words_at f s r a) a x P ≡ saying (parts_by (λ j. parts_in f s j b) s (term_in f s a) a x) P
      by_shape ih (Sh.Word k) h = ih (next s a) (lays lim (words_at f s r a) P) h ∙ say-more f a (parts_in f s (next s a) b) P
      by_shape ih (Sh.Row g) h = ih (next s a) (lays lim (words_at f s r a) P) h ∙ say-more f a (parts_in f s (next s a) b) P
      by_shape ih (Sh.Record e) h = ih (a + 1) P h
      by_shape ih Sh.Collection h = ih (next s a) (go_on (end_in s a) P) h.1 ∙ ap (saying (parts_in f s (next s a) b)) (sym h.0) ∙ say-more f a (parts_in f s (next s a) b) P

      go : ((j : ℕ) (Q : Point) → Walkable f lim s r j b Q → walk f lim s r j b Q ≡ saying (parts_in f s j b) Q) → (t : Bool) → leb b a ≡ t →
          pick t P (walk_by (λ j Q. walk f lim s r j b Q) lim s (words_at f s r a) a (shape_of (node_at s a)) P) ≡ saying (pick t [] (parts_by (λ j. parts_in f s j b) s (term_in f s a) a (shape_of (node_at s a)))) P
      go ih true e = say-none P
      go ih false e = by_shape ih (shape_of (node_at s a)) (S (leb-false b a e))
