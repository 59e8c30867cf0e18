-- Where each collection among a head's parts stands behind the parts before it, the walk over the parts finds all of them settled.
use mathlib.Core.Path.{◌≡◌, refl, sym, ap, subst, ◌∙◌}
use mathlib.Core.Logic.{inl, inr}
use mathlib.Core.List.{List, [], ◌∷◌, ◌++◌, append_assoc, append-nil}
use Prim.Native.Nat.{ℕ, zero, suc, pred, ◌+◌, ◌≤◌, ◌<◌}
use native.Mathlib.Omega.{arith}
use lib.IntN.{ℤ}
use Rattle.spec_calculus.specs.Lists.{bind_l}
use Rattle.spec_calculus.proofs.Lists.{bind-append}
use Rattle.spec_normal_form.specs.Form.{Form, Forms, num, truth, row, cell, rec, bin, negate, app, comp, fnil, fcons}
use Rattle.spec_plan.specs.Plan.{PTerm}
use Rattle.spec_plan.specs.Operators.{Row, eval_p}
use Rattle.base_syntax.specs.Numbers.{bin_of, op_arg, op_at, monoid_arg, monoid_at}
use Rattle.form_words.specs.NodeWord.{next, node_at}
use Rattle.form_words.specs.FormTree.{left}
use Rattle.form_words.specs.FormWords.{size, size_f}
use Rattle.base_scratch.specs.Map.{form_words}
use Rattle.form_words.proofs.ReadBack.{size-some}
use Rattle.form_arith.specs.declared.Sort.TheVariants as So
use Rattle.form_arith.specs.WordSorts.{result_sort}
use Rattle.answer_writer.specs.declared.WriteForm.{WriteForm}
use Rattle.answer_writer.specs.declared.WriteForm.TheVariants as Sh
use Rattle.base_signed.specs.Limit.{number_limit}
use Rattle.answer_writer.specs.LaidWords.{Point, pt, lays, cut_words}
use Rattle.answer_writer.specs.Shapes.{comprehension_shape, shape_of}
use Rattle.answer_writer.proofs.LaidWords.{lays-append}
use Rattle.plan_marks.specs.Marks.{mark_at}
use Rattle.plan_marks.specs.PlanIn.{term_in}
use Rattle.plan_marks.proofs.FormInWords.{Lies, LiesF}
use Rattle.plan_machine.specs.AnswerText.{words_to, parts, said}
use Rattle.exec_state.specs.StateWords.{end_in}
use Rattle.exec_terms.specs.PartsWalk.{words_at, go_on}
use Rattle.exec_terms.proofs.PartsText.{words-cut, parts_in, walkable_by, Walkable}
use Rattle.exec_terms.proofs.HeadParts.{Single, single-comp, own-part, one-slot, term-at, term-same, parts_at, parts-in, parts-end, head-parts}
use Rattle.exec_terms.proofs.PartsBefore.{PartAt, PartAtF, parts_within}

-- the parts from node i up to node j, at every fuel that is enough
abbrev pub Between : List ℕ → ℕ → ℕ → List PTerm → Type 0
Between s i j us = (f : ℕ) → left i + 1 < f → parts_in f s i j ≡ us

module _ (s : List ℕ) (F : ℕ) (enough : left 0 + 1 < F) where
  pub one-part : (t : Form) (i : ℕ) → Lies s i t → next s i ≡ i + size t → i + size t ≤ form_words → parts (term_in F s i) ≡ term_in F s i ∷ [] → Between s i (i + size t) (term_in F s i ∷ [])
  one-part t i h n l o = λ f p. head-parts s t i f F h n l p (omega arith) ∙ o

  pub add_parts : (t : Form) (i j : ℕ) (us vs : List PTerm) → Lies s i t → next s i ≡ i + size t → i + size t ≤ j → j ≤ form_words → Between s i (i + size t) us → Between s (i + size t) j vs → Between s i j (us ++ vs)
  add_parts t i j us vs h n k l B C = λ f p. parts-in s j l t i f F h n k p (omega arith) C ∙ ap (λ (z : List PTerm). z ++ vs) (sym (head-parts s t i F F h n (omega arith) (omega arith) (omega arith)) ∙ B F (omega arith))

  pub into-parts : (i j e : ℕ) (us : List PTerm) → shape_of (node_at s i) ≡ Sh.Record e → i < j → j ≤ form_words → Between s (i + 1) j us → Between s i j us
  into-parts i j e us h k l B = λ f p. parts_at s f i j h (omega arith) k ∙ B (pred f) (omega arith)

module _ (lim : ℕ) (s : List ℕ) (r : Row) (b F : ℕ) (P : Point) (enough : left 0 + 1 < F) where
  -- where the words of parts end
  abbrev pub behind : List PTerm → Point
  behind ts = lays lim (said number_limit r ts) P

  -- the collection at j stands there, and ends where its kept word says
  abbrev pub Stood : List PTerm → ℕ → Type 0
  Stood ts j = behind (ts ++ term_in F s j ∷ []) ≡ go_on (end_in s j) (behind ts)

  behind_more : (t : PTerm) (ts : List PTerm) → lays lim (cut_words (eval_p t r)) (behind ts) ≡ behind (ts ++ t ∷ [])
  unfolding said bind_l
  behind_more t ts = sym (ap (λ (l : List ℤ). lays lim l P) (bind-append ts (t ∷ []) (λ (u : PTerm). words_to number_limit (eval_p u r)))
      ∙ lays-append lim (said number_limit r ts) (words_to number_limit (eval_p t r) ++ []) P ∙ ap (λ (l : List ℤ). lays lim l (behind ts)) (append-nil (words_to number_limit (eval_p t r)) ∙ words-cut (eval_p t r)))

  lays-none : (Q : Point) → lays lim [] Q ≡ Q
  unfolding lays
  lays-none (pt o p) = refl

  settled_at : {x : WriteForm} (f i : ℕ) (Q : Point) → shape_of (node_at s i) ≡ x → (i < b → walkable_by (λ j Z. Walkable (pred f) lim s r j b Z) lim s (words_at (pred f) s r i) i x Q) → Walkable f lim s r i b Q
  unfolding Walkable
  settled_at zero i Q e a = tt
  settled_at (suc f) i Q e a = λ z. subst (λ (x : WriteForm). walkable_by (λ j Z. Walkable f lim s r j b Z) lim s (words_at f s r i) i x Q) (sym e) (a z)

  -- ---- one part
  abbrev Collections : (ℕ → Type 0) → List PTerm → ℕ → Type 0
  Collections At ts i = (j : ℕ) → At j → j < b → shape_of (node_at s j) ≡ Sh.Collection → (us : List PTerm) → Between s i j us → Stood (ts ++ us) j

  abbrev Rest : List PTerm → ℕ → ℕ → Type 0
  Rest ts i e = (us : List PTerm) → Between s i e us → (f : ℕ) → left e + 1 < f → Walkable f lim s r e b (behind (ts ++ us))

  single : (x : WriteForm) → Single x → (t : Form) (i f : ℕ) (ts : List PTerm) → Lies s i t → next s i ≡ i + size t → i + size t ≤ form_words → left i + 1 < f → shape_of (node_at s i) ≡ x → parts (term_in F s i) ≡ term_in F s i ∷ []
      → Collections (λ j. j ≡ i) ts i → Rest ts i (i + size t) → Walkable f lim s r i b (behind ts)
  single x w t i f ts h n l p e o a k = settled_at f i (behind ts) e (λ z. go x w e z)
    where
      same : term_in (pred f) s i ≡ term_in F s i
      same = term-same s t i (pred f) F h l (omega (arith, size-some t)) (omega arith)

      rest : (Z : Point) → Z ≡ behind (ts ++ term_in F s i ∷ []) → Walkable (pred f) lim s r (next s i) b Z
      rest Z q = subst (λ (Y : Point). Walkable (pred f) lim s r (next s i) b Y) (sym q) (subst (λ j. Walkable (pred f) lim s r j b (behind (ts ++ term_in F s i ∷ []))) (sym n) (k (term_in F s i ∷ []) (one-part s F enough t i h n l o) (pred f) (omega (arith, size-some t))))

      laid : lays lim (words_at (pred f) s r i) (behind ts) ≡ behind (ts ++ term_in F s i ∷ [])
      laid = ap (λ (y : PTerm). lays lim (cut_words (eval_p y r)) (behind ts)) same ∙ behind_more (term_in F s i) ts

      go : (x : WriteForm) → Single x → shape_of (node_at s i) ≡ x → i < b → walkable_by (λ j Z. Walkable (pred f) lim s r j b Z) lim s (words_at (pred f) s r i) i x (behind ts)
      go (Sh.Word c) w e z = rest (lays lim (words_at (pred f) s r i) (behind ts)) laid
      go (Sh.Row c) w e z = rest (lays lim (words_at (pred f) s r i) (behind ts)) laid
      go (Sh.Record c) w e z = absurd w
      go Sh.Collection w e z =
          let S : Stood ts i = subst (λ (l : List PTerm). Stood l i) (append-nil ts) (a i refl z e [] (λ g y. parts-end s g i)) in
          (laid ∙ S, rest (go_on (end_in s i) (behind ts)) (sym S))

  -- ---- all
  mutual
    unfolding size parts

    settles : (t : Form) (i f : ℕ) (ts : List PTerm) → Lies s i t → next s i ≡ i + size t → i + size t ≤ form_words → left i + 1 < f → Collections (PartAt i t) ts i → Rest ts i (i + size t) → Walkable f lim s r i b (behind ts)
    settles (num z) i f ts h n l p a k = single (Sh.Word So.Number) tt (num z) i f ts h n l p (ap shape_of h) (own-part (term-at s F i h (omega arith)) refl) a k
    settles (truth z) i f ts h n l p a k = single (Sh.Word So.Truth) tt (truth z) i f ts h n l p (ap shape_of h) (own-part (term-at s F i h (omega arith)) refl) a k
    settles (row g) i f ts h n l p a k = single (Sh.Row g) tt (row g) i f ts h n l p (ap shape_of h.0) (own-part (term-at s F i h.0 (omega arith)) (one-slot (mark_at s i))) a k
    settles (cell c g) i f ts h n l p a k = single (Sh.Word So.Number) tt (cell c g) i f ts h n l p (ap shape_of h.0) (own-part (term-at s F i h.0 (omega arith)) refl) a k
    settles (rec fs) i f ts h n l p a k =
        let e : shape_of (node_at s i) ≡ Sh.Record (i + 1 + size_f fs) = ap shape_of h.0 in
        settled_at f i (behind ts) e (λ z. settles-each fs (i + 1) (pred f) (i + 1 + size_f fs) ts h.1 refl (omega arith) (omega arith)
        (λ j m y c us B. let w = parts_within fs (i + 1) j m in a j m y c us (into-parts s F enough i j (i + 1 + size_f fs) us e (omega (arith, w.0)) (omega (arith, w.1)) B))
        (λ us B. subst (λ j. (g : ℕ) → left j + 1 < g → Walkable g lim s r j b (behind (ts ++ us))) (omega arith) (k us (subst (λ j. Between s i j us) (omega arith) (into-parts s F enough i (i + 1 + size_f fs) (i + 1 + size_f fs) us e (omega arith) (omega arith) B)))))
    settles (bin o t u) i f ts h n l p a k = single (Sh.Word (result_sort (bin_of (op_at (op_arg o))))) tt (bin o t u) i f ts h n l p (ap shape_of h.0) (own-part (term-at s F i h.0 (omega arith)) refl) a k
    settles (app o us) i f ts h n l p a k = single (Sh.Word So.Either) tt (app o us) i f ts h n l p (ap shape_of h.0) (own-part (term-at s F i h.0 (omega arith)) refl) a k
    settles (negate t) i f ts h n l p a k = single (Sh.Word So.Truth) tt (negate t) i f ts h n l p (ap shape_of h.0) (own-part (term-at s F i h.0 (omega arith)) refl) a k
    settles (comp m q u) i f ts h n l p a k = single (comprehension_shape (monoid_at (monoid_arg m))) (single-comp (monoid_at (monoid_arg m))) (comp m q u) i f ts h n l p (ap shape_of h.0) (own-part (term-at s F i h.0 (omega arith)) (one-slot (mark_at s i))) a k

    settles-each : (fs : Forms) (i f e : ℕ) (ts : List PTerm) → LiesF s i fs → e ≡ i + size_f fs → e ≤ form_words → left i + 1 < f → Collections (PartAtF i fs) ts i → Rest ts i e → Walkable f lim s r i b (behind ts)
    settles-each fnil i f e ts h n l p a k =
        let q : e ≡ i = omega arith in
        subst (λ (y : List PTerm). Walkable f lim s r i b (behind y)) (append-nil ts) (subst (λ j. (g : ℕ) → left j + 1 < g → Walkable g lim s r j b (behind (ts ++ []))) q (k [] (subst (λ j. Between s i j []) (sym q) (λ g y. parts-end s g i))) f p)
    settles-each (fcons t fs) i f e ts h n l p a k =
        settles t i f ts h.1.0 h.0 (omega arith) p (λ j m y c us B. a j (inl m) y c us B)
        (λ us B g y. settles-each fs (i + size t) g e (ts ++ us) h.1.1 (omega arith) l y
        (λ j m z c vs C. let w = parts_within fs (i + size t) j m in
        subst (λ (x : List PTerm). Stood x j) (sym (append_assoc ts us vs)) (a j (inr m) z c (us ++ vs) (add_parts s F enough t i j us vs h.1.0 h.0 w.0 (omega (arith, w.1)) B C)))
        (λ vs C o x. subst (λ (z : List PTerm). Walkable o lim s r e b (behind z)) (sym (append_assoc ts us vs)) (k (us ++ vs) (add_parts s F enough t i e us vs h.1.0 h.0 (omega arith) l B C) o x)))

  past : (f i : ℕ) (Q : Point) → b ≤ i → Walkable f lim s r i b Q
  unfolding Walkable
  past zero i Q h = tt
  past (suc f) i Q h = λ z. absurd (omega arith)

  -- The parts from a head's node up to b are settled, where each collection among them stands behind the parts before it.
  pub settled-head : (t : Form) (i : ℕ) → Lies s i t → next s i ≡ i + size t → i + size t ≤ form_words → b ≤ i + size t
      → ((j : ℕ) → PartAt i t j → j < b → shape_of (node_at s j) ≡ Sh.Collection → Stood (parts_in F s i j) j) → Walkable F lim s r i b P
  unfolding said bind_l
  settled-head t i h n l k a = subst (λ (Q : Point). Walkable F lim s r i b Q) (lays-none P)
      (settles t i F [] h n l (omega arith) (λ j m y c us B. subst (λ (x : List PTerm). Stood x j) (B F (omega arith)) (a j m y c)) (λ us B g y. past g (i + size t) (behind us) k))
