-- A head that lies in the words: the parts between its nodes are its parts, and where a row agrees on them.
use mathlib.Core.Path.{◌≡◌, refl, sym, ap, ap₂, subst, ◌∙◌}
use mathlib.Core.List.{List, [], ◌∷◌, ◌++◌, append_assoc, append-nil}
use Prim.Native.Nat.{ℕ, zero, suc, pred, ◌+◌, ◌≤◌, ◌<◌}
use native.Mathlib.Omega.{arith}
use borrow.Author.Tests.{le-leb, lt-leb}
use Rattle.spec_calculus.specs.Lists.{pick}
use Rattle.spec_normal_form.specs.Form.{Form, Forms, num, truth, row, cell, rec, bin, negate, app, comp, fnil, fcons}
use Rattle.spec_plan.specs.Plan.{PTerm, prec, pbin, pnegate, papp, pnil, pcons}
use Rattle.form_words.specs.declared.FormNode.{FormNode}
use Rattle.form_words.specs.NodeWord.{next, node_at}
use Rattle.form_words.specs.FormTree.{op_in, left}
use Rattle.form_words.specs.FormWords.{size, size_f}
use Rattle.base_syntax.specs.declared.Monoid as Mo
use Rattle.base_syntax.specs.declared.Monoid.TheVariants as Mv
use Rattle.base_syntax.specs.Numbers.{bin_of, op_arg, op_at, fun_arg, fun_at, monoid_arg, monoid_at}
use Rattle.base_scratch.specs.Map.{form_words}
use Rattle.form_arith.specs.declared.Sort.TheVariants as So
use Rattle.form_arith.specs.WordSorts.{result_sort}
use Rattle.form_words.proofs.ReadBack.{size-some}
use Rattle.answer_writer.specs.declared.WriteForm.{WriteForm}
use Rattle.answer_writer.specs.declared.WriteForm.TheVariants as Sh
use Rattle.answer_writer.specs.Shapes.{comprehension_shape, shape_of}
use Rattle.plan_marks.specs.Marks.{mark_at, slot_by}
use Rattle.plan_marks.specs.PlanIn.{term_in, terms_in}
use Rattle.plan_marks.proofs.FormInWords.{Lies, LiesF}
use Rattle.plan_machine.specs.AnswerText.{parts, parts_l}
use Rattle.exec_terms.proofs.TermBounds.{term_node}
use Rattle.exec_terms.proofs.PartsText.{parts_by, parts_in}

-- ---- the parts as terms
pub one-slot : (m : ℕ) → parts (slot_by m) ≡ slot_by m ∷ []
unfolding parts slot_by
one-slot zero = refl
one-slot (suc n) = refl

-- a part that is one term
abbrev pub Single : WriteForm → Type 0
Single (Sh.Word k) = Unit {0}
Single (Sh.Row g) = Unit {0}
Single (Sh.Record e) = ⊥
Single Sh.Collection = Unit {0}

pub single-comp : (m : Mo.Monoid) → Single (comprehension_shape m)
single-comp Mv.List = tt
single-comp Mv.Bag = tt
single-comp Mv.Set = tt
single-comp Mv.Sum = tt
single-comp Mv.Max = tt
single-comp Mv.Some = tt
single-comp Mv.All = tt
single-comp Mv.Min = tt

pub own-part : {t u : PTerm} → t ≡ u → parts u ≡ u ∷ [] → parts t ≡ t ∷ []
own-part {t} {u} e o = subst (λ (y : PTerm). parts y ≡ y ∷ []) (sym e) o

module _ (s : List ℕ) where
  pub term-at : {n : FormNode} (f i : ℕ) → node_at s i ≡ n → 0 < f → term_in f s i ≡ term_node (pred f) s i n
  unfolding term_in
  term-at zero i e p = absurd (omega arith)
  term-at (suc f) i e p = ap (term_node f s i) e

  terms-end : (f i e : ℕ) → 0 < f → e ≤ i → terms_in f s i e ≡ pnil
  unfolding term_in pick
  terms-end zero i e p h = absurd (omega arith)
  terms-end (suc f) i e p h = rw (le-leb e i h)

  pub terms-more : (f i e : ℕ) → 0 < f → i < e → terms_in f s i e ≡ pcons (term_in (pred f) s i) (terms_in (pred f) s (next s i) e)
  unfolding term_in pick
  terms-more zero i e p h = absurd (omega arith)
  terms-more (suc f) i e p h = rw (lt-leb e i h)

  -- more fuel changes no term
  mutual
    unfolding size

    pub term-same : (t : Form) (i f g : ℕ) → Lies s i t → i + size t ≤ form_words → left i < f → left i < g → term_in f s i ≡ term_in g s i
    term-same (num z) i f g h l p q = term-at f i h (omega arith) ∙ sym (term-at g i h (omega arith))
    term-same (truth b) i f g h l p q = term-at f i h (omega arith) ∙ sym (term-at g i h (omega arith))
    term-same (row n) i f g h l p q = term-at f i h.0 (omega arith) ∙ sym (term-at g i h.0 (omega arith))
    term-same (cell c n) i f g h l p q = term-at f i h.0 (omega arith) ∙ sym (term-at g i h.0 (omega arith))
    term-same (rec ts) i f g h l p q = term-at f i h.0 (omega arith)
        ∙ ap prec (terms-same ts (i + 1) (pred f) (pred g) (i + 1 + size_f ts) h.1 refl (omega arith) (omega arith) (omega arith)) ∙ sym (term-at g i h.0 (omega arith))
    term-same (bin o t u) i f g h l p q = term-at f i h.0 (omega arith)
        ∙ ap₂ (pbin (bin_of (op_at (op_arg o)))) (term-same t (i + 1) (pred f) (pred g) h.1.0 (omega arith) (omega arith) (omega arith)) (term-same u (i + 1 + size t) (pred f) (pred g) h.1.1 (omega arith) (omega arith) (omega arith))
        ∙ sym (term-at g i h.0 (omega arith))
    term-same (app o ts) i f g h l p q = term-at f i h.0 (omega arith)
        ∙ ap (papp (op_in s (fun_at (fun_arg o)))) (terms-same ts (i + 1) (pred f) (pred g) (i + 1 + size_f ts) h.1 refl (omega arith) (omega arith) (omega arith)) ∙ sym (term-at g i h.0 (omega arith))
    term-same (negate t) i f g h l p q = term-at f i h.0 (omega arith) ∙ ap pnegate (term-same t (i + 1) (pred f) (pred g) h.1 (omega arith) (omega arith) (omega arith)) ∙ sym (term-at g i h.0 (omega arith))
    term-same (comp m c u) i f g h l p q = term-at f i h.0 (omega arith) ∙ sym (term-at g i h.0 (omega arith))

    terms-same : (ts : Forms) (i f g e : ℕ) → LiesF s i ts → e ≡ i + size_f ts → e ≤ form_words → left i + 1 < f → left i + 1 < g → terms_in f s i e ≡ terms_in g s i e
    terms-same fnil i f g e h k l p q = terms-end f i e (omega arith) (omega arith) ∙ sym (terms-end g i e (omega arith) (omega arith))
    terms-same (fcons t ts) i f g e h k l p q = terms-more f i e (omega arith) (omega (arith, size-some t))
        ∙ ap₂ pcons (term-same t i (pred f) (pred g) h.1.0 (omega arith) (omega arith) (omega arith))
        (ap (λ j. terms_in (pred f) s j e) h.0 ∙ terms-same ts (i + size t) (pred f) (pred g) e h.1.1 (omega arith) l (omega (arith, size-some t)) (omega (arith, size-some t)) ∙ sym (ap (λ j. terms_in (pred g) s j e) h.0))
        ∙ sym (terms-more g i e (omega arith) (omega (arith, size-some t)))

  pub parts_at : {x : WriteForm} (f i b : ℕ) → shape_of (node_at s i) ≡ x → 0 < f → i < b → parts_in f s i b ≡ parts_by (λ j. parts_in (pred f) s j b) s (term_in (pred f) s i) i x
  unfolding parts_in pick
  parts_at zero i b e p h = absurd (omega arith)
  parts_at (suc f) i b e p h = rw (lt-leb b i h) (ap (parts_by (λ j. parts_in f s j b) s (term_in f s i) i) e)

  module _ (b : ℕ) (top : b ≤ form_words) where
    -- what follows a form of so many words
    abbrev After : ℕ → List PTerm → Type 0
    After e K = (h : ℕ) → left e + 1 < h → parts_in h s e b ≡ K

    single : {K : List PTerm} (x : WriteForm) → Single x → (t : Form) (i f g : ℕ) → Lies s i t → next s i ≡ i + size t → i + size t ≤ b → left i + 1 < f → left i < g → shape_of (node_at s i) ≡ x →
        parts (term_in g s i) ≡ term_in g s i ∷ [] → After (i + size t) K → parts_in f s i b ≡ parts (term_in g s i) ++ K
    single {K} x w t i f g h n l p q e o k = parts_at f i b e (omega arith) (omega (arith, size-some t)) ∙ go x w ∙ ap₂ ◌∷◌ (term-same t i (pred f) g h (omega arith) (omega arith) q) rest ∙ ap (λ z. z ++ K) (sym o)
      where
        rest : parts_in (pred f) s (next s i) b ≡ K
        rest = ap (λ j. parts_in (pred f) s j b) n ∙ k (pred f) (omega (arith, size-some t))

        go : (x : WriteForm) → Single x → parts_by (λ j. parts_in (pred f) s j b) s (term_in (pred f) s i) i x ≡ term_in (pred f) s i ∷ parts_in (pred f) s (next s i) b
        go (Sh.Word c) w = refl
        go (Sh.Row c) w = refl
        go (Sh.Record c) w = absurd w
        go Sh.Collection w = refl

    mutual
      unfolding size parts

      pub parts-in : {K : List PTerm} (t : Form) (i f g : ℕ) → Lies s i t → next s i ≡ i + size t → i + size t ≤ b → left i + 1 < f → left i < g → After (i + size t) K → parts_in f s i b ≡ parts (term_in g s i) ++ K
      parts-in (num z) i f g h n l p q k = single (Sh.Word So.Number) tt (num z) i f g h n l p q (ap shape_of h) (own-part (term-at g i h (omega arith)) refl) k
      parts-in (truth z) i f g h n l p q k = single (Sh.Word So.Truth) tt (truth z) i f g h n l p q (ap shape_of h) (own-part (term-at g i h (omega arith)) refl) k
      parts-in (row z) i f g h n l p q k = single (Sh.Row z) tt (row z) i f g h n l p q (ap shape_of h.0) (own-part (term-at g i h.0 (omega arith)) (one-slot (mark_at s i))) k
      parts-in (cell c z) i f g h n l p q k = single (Sh.Word So.Number) tt (cell c z) i f g h n l p q (ap shape_of h.0) (own-part (term-at g i h.0 (omega arith)) refl) k
      parts-in {K} (rec ts) i f g h n l p q k = parts_at f i b (ap shape_of h.0) (omega arith) (omega arith)
          ∙ parts-each ts (i + 1) (pred f) (pred g) (i + 1 + size_f ts) h.1 refl (omega arith) (omega arith) (omega arith) (subst (λ j. After j K) (omega arith) k)
          ∙ ap (λ z. z ++ K) (sym (ap parts (term-at g i h.0 (omega arith)) ∙ refl))
      parts-in (bin o t u) i f g h n l p q k = single (Sh.Word (result_sort (bin_of (op_at (op_arg o))))) tt (bin o t u) i f g h n l p q (ap shape_of h.0) (own-part (term-at g i h.0 (omega arith)) refl) k
      parts-in (app o ts) i f g h n l p q k = single (Sh.Word So.Either) tt (app o ts) i f g h n l p q (ap shape_of h.0) (own-part (term-at g i h.0 (omega arith)) refl) k
      parts-in (negate t) i f g h n l p q k = single (Sh.Word So.Truth) tt (negate t) i f g h n l p q (ap shape_of h.0) (own-part (term-at g i h.0 (omega arith)) refl) k
      parts-in (comp m c u) i f g h n l p q k = single (comprehension_shape (monoid_at (monoid_arg m))) (single-comp (monoid_at (monoid_arg m))) (comp m c u) i f g h n l p q (ap shape_of h.0) (own-part (term-at g i h.0 (omega arith)) (one-slot (mark_at s i))) k

      parts-each : {K : List PTerm} (ts : Forms) (i f g e : ℕ) → LiesF s i ts → e ≡ i + size_f ts → e ≤ b → left i + 1 < f → left i + 1 < g → After e K → parts_in f s i b ≡ parts_l (terms_in g s i e) ++ K
      parts-each {K} fnil i f g e h n l p q k = subst (λ j. After j K) (omega arith) k f p ∙ sym (ap (λ z. parts_l z ++ K) (terms-end g i e (omega arith) (omega arith)) ∙ refl)
      parts-each {K} (fcons t ts) i f g e h n l p q k =
          parts-in t i f (pred g) h.1.0 h.0 (omega arith) p (omega arith) (λ y z. parts-each ts (i + size t) y (pred g) e h.1.1 (omega arith) l z (omega (arith, size-some t)) k)
          ∙ sym (append_assoc (parts (term_in (pred g) s i)) (parts_l (terms_in (pred g) s (i + size t) e)) K)
          ∙ ap (λ z. (parts (term_in (pred g) s i) ++ parts_l (terms_in (pred g) s z e)) ++ K) (sym h.0)
          ∙ ap (λ z. z ++ K) (sym (ap parts_l (terms-more g i e (omega arith) (omega (arith, size-some t))) ∙ refl))

  pub parts-end : (f i : ℕ) → parts_in f s i i ≡ []
  unfolding parts_in pick
  parts-end zero i = refl
  parts-end (suc f) i = rw (le-leb i i (omega arith))

  -- The parts from a head's node up to the node behind it are the head's parts.
  pub head-parts : (t : Form) (i f g : ℕ) → Lies s i t → next s i ≡ i + size t → i + size t ≤ form_words → left i + 1 < f → left i < g → parts_in f s i (i + size t) ≡ parts (term_in g s i)
  head-parts t i f g h n l p q = parts-in (i + size t) l t i f g h n (omega arith) p q (λ y z. parts-end y (i + size t)) ∙ append-nil (parts (term_in g s i))
