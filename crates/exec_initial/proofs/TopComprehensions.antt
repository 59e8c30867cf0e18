-- The comprehensions that stand in a term, none inside another: in marked words each has a mark of its own, in written order.
use native.Mathlib.Omega.{arith}
use mathlib.Core.Path.{◌≡◌, sym, ap, subst, ◌∙◌}
use mathlib.Core.Logic.{◌⊎◌, inl, inr}
use mathlib.Core.Bool.{true}
use mathlib.Core.List.{List}
use Prim.Native.Nat.{ℕ, suc, ◌+◌, ◌≤◌, ◌<◌}
use Rattle.spec_normal_form.specs.Form.{Form, Forms, Clauses, num, truth, row, cell, rec, bin, negate, app, comp, fnil, fcons, done, gen, cond}
use Rattle.base_syntax.specs.declared.Monoid.{Monoid}
use Rattle.form_words.specs.declared.FormNode.{FormNode}
use Rattle.form_words.specs.declared.FormNode.TheVariants as N
use Rattle.form_words.specs.NodeWord.{node_at}
use Rattle.form_words.specs.FormWords.{size, size_f, size_c}
use Rattle.spec_plan.specs.Planner as P
use Rattle.base_signed.proofs.SignedWords.{no}
use Rattle.plan_marks.specs.Marks.{mark_at}
use Rattle.plan_marks.proofs.FormInWords.{Lies, LiesF}
use Rattle.plan_marks.proofs.FormMarks.{next_c, Marked, MarkedF, MarkedC, next_up, nexts-up, next_c-up, and_left, and_right}
use Rattle.exec_terms.proofs.PartsBefore.{PartAt, PartAtF}

abbrev mutual
  pub TopAt : ℕ → Form → ℕ → Type 0
  TopAt i (num z) b = ⊥
  TopAt i (truth z) b = ⊥
  TopAt i (row g) b = ⊥
  TopAt i (cell c g) b = ⊥
  TopAt i (rec ts) b = TopAtF (i + 1) ts b
  TopAt i (app f ts) b = TopAtF (i + 1) ts b
  TopAt i (bin o t u) b = TopAt (i + 1) t b ⊎ TopAt (i + 1 + size t) u b
  TopAt i (negate t) b = TopAt (i + 1) t b
  TopAt i (comp m q h) b = b ≡ i

  pub TopAtF : ℕ → Forms → ℕ → Type 0
  TopAtF i fnil b = ⊥
  TopAtF i (fcons t ts) b = TopAt i t b ⊎ TopAtF (i + size t) ts b

-- in conditions
abbrev pub TopAtC : ℕ → Clauses → ℕ → Type 0
TopAtC i done b = ⊥
TopAtC i (gen g k q) b = TopAtC (i + 1) q b
TopAtC i (cond t q) b = TopAt (i + 1) t b ⊎ TopAtC (i + 1 + size t) q b

-- in the conditions or in the head of the comprehension at c
abbrev pub TopOf : Clauses → Form → ℕ → ℕ → Type 0
TopOf q h c b = TopAtC (c + 1) q b ⊎ TopAt (c + 1 + size_c q) h b

-- a term free of comprehensions has none
mutual
  unfolding P.free

  pub free-top : (t : Form) (i b : ℕ) → P.free t ≡ true → TopAt i t b → ⊥
  free-top (num z) i b e h = h
  free-top (truth z) i b e h = h
  free-top (row g) i b e h = h
  free-top (cell c g) i b e h = h
  free-top (rec ts) i b e h = frees-top ts (i + 1) b e h
  free-top (app f ts) i b e h = frees-top ts (i + 1) b e h
  free-top (bin o t u) i b e (inl h) = free-top t (i + 1) b (and_left (P.free t) (P.free u) e) h
  free-top (bin o t u) i b e (inr h) = free-top u (i + 1 + size t) b (and_right (P.free t) (P.free u) e) h
  free-top (negate t) i b e h = free-top t (i + 1) b e h
  free-top (comp m q u) i b e h = no (sym e)

  frees-top : (ts : Forms) (i b : ℕ) → P.frees ts ≡ true → TopAtF i ts b → ⊥
  frees-top fnil i b e h = h
  frees-top (fcons t ts) i b e (inl h) = free-top t i b (and_left (P.free t) (P.frees ts) e) h
  frees-top (fcons t ts) i b e (inr h) = frees-top ts (i + size t) b (and_right (P.free t) (P.frees ts) e) h

-- they stand within the term
mutual
  unfolding size

  pub top_within : (t : Form) (i b : ℕ) → TopAt i t b → (i ≤ b) × (b < i + size t)
  top_within (num z) i b h = absurd h
  top_within (truth z) i b h = absurd h
  top_within (row g) i b h = absurd h
  top_within (cell c g) i b h = absurd h
  top_within (rec ts) i b h = let w = tops_within ts (i + 1) b h in (omega (arith, w.0), omega (arith, w.1))
  top_within (app f ts) i b h = let w = tops_within ts (i + 1) b h in (omega (arith, w.0), omega (arith, w.1))
  top_within (bin o t u) i b (inl h) = let w = top_within t (i + 1) b h in (omega (arith, w.0), omega (arith, w.1))
  top_within (bin o t u) i b (inr h) = let w = top_within u (i + 1 + size t) b h in (omega (arith, w.0), omega (arith, w.1))
  top_within (negate t) i b h = let w = top_within t (i + 1) b h in (omega (arith, w.0), omega (arith, w.1))
  top_within (comp m q u) i b h = (omega arith, omega arith)

  tops_within : (ts : Forms) (i b : ℕ) → TopAtF i ts b → (i ≤ b) × (b < i + size_f ts)
  tops_within fnil i b h = absurd h
  tops_within (fcons t ts) i b (inl h) = let w = top_within t i b h in (omega (arith, w.0), omega (arith, w.1))
  tops_within (fcons t ts) i b (inr h) = let w = tops_within ts (i + size t) b h in (omega (arith, w.0), omega (arith, w.1))

-- a part that is a comprehension
abbrev Inner : FormNode → Type 0
Inner (N.Number z) = ⊥
Inner (N.Truth z) = ⊥
Inner (N.Row g) = ⊥
Inner (N.Cell c g) = ⊥
Inner (N.Record j) = ⊥
Inner (N.Operator f j) = ⊥
Inner (N.Binary o j) = ⊥
Inner N.Negation = ⊥
Inner (N.Comprehension m) = Unit {0}
Inner (N.Generator g k) = ⊥
Inner (N.Condition j) = ⊥
Inner N.Nothing = ⊥

module _ (s : List ℕ) {m : Monoid} (b : ℕ) (e : node_at s b ≡ N.Comprehension m) where
  other : {n : FormNode} (i : ℕ) → b ≡ i → node_at s i ≡ n → Inner n
  other i h l = subst Inner (sym e ∙ ap (node_at s) h ∙ l) tt

  mutual
    pub part-top : (t : Form) (i : ℕ) → Lies s i t → PartAt i t b → TopAt i t b
    part-top (num z) i l h = other i h l
    part-top (truth z) i l h = other i h l
    part-top (row g) i l h = other i h l.0
    part-top (cell c g) i l h = other i h l.0
    part-top (rec ts) i l h = parts-top ts (i + 1) l.1 h
    part-top (app f ts) i l h = absurd (other i h l.0)
    part-top (bin o t u) i l h = absurd (other i h l.0)
    part-top (negate t) i l h = absurd (other i h l.0)
    part-top (comp n q u) i l h = h

    pub parts-top : (ts : Forms) (i : ℕ) → LiesF s i ts → PartAtF i ts b → TopAtF i ts b
    parts-top fnil i l h = h
    parts-top (fcons t ts) i l (inl h) = inl (part-top t i l.1.0 h)
    parts-top (fcons t ts) i l (inr h) = inr (parts-top ts (i + size t) l.1.1 h)

module _ (s : List ℕ) (c : ℕ → ℕ) where
  -- ---- their marks
  abbrev Between : ℕ → ℕ → ℕ → Type 0
  Between k n b = (k < mark_at s b) × (mark_at s b ≤ n)

  mutual
    unfolding P.next

    pub top-range : (t : Form) (i k b : ℕ) → Marked s i t c k → TopAt i t b → Between k (P.next t k) b
    top-range (num z) i k b w h = absurd h
    top-range (truth z) i k b w h = absurd h
    top-range (row g) i k b w h = absurd h
    top-range (cell j g) i k b w h = absurd h
    top-range (rec ts) i k b w h = tops-range ts (i + 1) k b w h
    top-range (app f ts) i k b w h = tops-range ts (i + 1) k b w h
    top-range (bin o t u) i k b w (inl h) = let r = top-range t (i + 1) k b w.0 h in (r.0, omega (arith, r.1, next_up u (P.next t k)))
    top-range (bin o t u) i k b w (inr h) = let r = top-range u (i + 1 + size t) (P.next t k) b w.1 h in (omega (arith, r.0, next_up t k), r.1)
    top-range (negate t) i k b w h = top-range t (i + 1) k b w h
    top-range (comp m q u) i k b w h = let e : mark_at s b ≡ suc k = rw h w.0 in (omega (arith, e), omega (arith, e))

    pub tops-range : (ts : Forms) (i k b : ℕ) → MarkedF s i ts c k → TopAtF i ts b → Between k (P.nexts ts k) b
    tops-range fnil i k b w h = absurd h
    tops-range (fcons t ts) i k b w (inl h) = let r = top-range t i k b w.0 h in (r.0, omega (arith, r.1, nexts-up ts (P.next t k)))
    tops-range (fcons t ts) i k b w (inr h) = let r = tops-range ts (i + size t) (P.next t k) b w.1 h in (omega (arith, r.0, next_up t k), r.1)

  pub clause-range : (q : Clauses) (i n k b : ℕ) → MarkedC s i q c n k → TopAtC i q b → Between k (next_c q k) b
  unfolding next_c
  clause-range done i n k b w h = absurd h
  clause-range (gen g t q) i n k b w h = clause-range q (i + 1) n k b w h
  clause-range (cond t q) i n k b w (inl h) = let r = top-range t (i + 1) k b w.1.0 h in (r.0, omega (arith, r.1, next_c-up q (P.next t k)))
  clause-range (cond t q) i n k b w (inr h) = let r = clause-range q (i + 1 + size t) n (P.next t k) b w.1.1 h in (omega (arith, r.0, next_up t k), r.1)

  -- ---- no two have the same
  mutual
    unfolding P.next

    top_one : (t : Form) (i k b d : ℕ) → Marked s i t c k → TopAt i t b → TopAt i t d → mark_at s b ≡ mark_at s d → b ≡ d
    top_one (num z) i k b d w h g e = absurd h
    top_one (truth z) i k b d w h g e = absurd h
    top_one (row x) i k b d w h g e = absurd h
    top_one (cell j x) i k b d w h g e = absurd h
    top_one (rec ts) i k b d w h g e = tops-one ts (i + 1) k b d w h g e
    top_one (app f ts) i k b d w h g e = tops-one ts (i + 1) k b d w h g e
    top_one (bin o t u) i k b d w (inl h) (inl g) e = top_one t (i + 1) k b d w.0 h g e
    top_one (bin o t u) i k b d w (inl h) (inr g) e = absurd (omega (arith, e, (top-range t (i + 1) k b w.0 h).1, (top-range u (i + 1 + size t) (P.next t k) d w.1 g).0))
    top_one (bin o t u) i k b d w (inr h) (inl g) e = absurd (omega (arith, e, (top-range t (i + 1) k d w.0 g).1, (top-range u (i + 1 + size t) (P.next t k) b w.1 h).0))
    top_one (bin o t u) i k b d w (inr h) (inr g) e = top_one u (i + 1 + size t) (P.next t k) b d w.1 h g e
    top_one (negate t) i k b d w h g e = top_one t (i + 1) k b d w h g e
    top_one (comp m q u) i k b d w h g e = h ∙ sym g

    tops-one : (ts : Forms) (i k b d : ℕ) → MarkedF s i ts c k → TopAtF i ts b → TopAtF i ts d → mark_at s b ≡ mark_at s d → b ≡ d
    tops-one fnil i k b d w h g e = absurd h
    tops-one (fcons t ts) i k b d w (inl h) (inl g) e = top_one t i k b d w.0 h g e
    tops-one (fcons t ts) i k b d w (inl h) (inr g) e = absurd (omega (arith, e, (top-range t i k b w.0 h).1, (tops-range ts (i + size t) (P.next t k) d w.1 g).0))
    tops-one (fcons t ts) i k b d w (inr h) (inl g) e = absurd (omega (arith, e, (top-range t i k d w.0 g).1, (tops-range ts (i + size t) (P.next t k) b w.1 h).0))
    tops-one (fcons t ts) i k b d w (inr h) (inr g) e = tops-one ts (i + size t) (P.next t k) b d w.1 h g e

  clause-one : (q : Clauses) (i n k b d : ℕ) → MarkedC s i q c n k → TopAtC i q b → TopAtC i q d → mark_at s b ≡ mark_at s d → b ≡ d
  clause-one done i n k b d w h g e = absurd h
  clause-one (gen x t q) i n k b d w h g e = clause-one q (i + 1) n k b d w h g e
  clause-one (cond t q) i n k b d w (inl h) (inl g) e = top_one t (i + 1) k b d w.1.0 h g e
  clause-one (cond t q) i n k b d w (inl h) (inr g) e = absurd (omega (arith, e, (top-range t (i + 1) k b w.1.0 h).1, (clause-range q (i + 1 + size t) n (P.next t k) d w.1.1 g).0))
  clause-one (cond t q) i n k b d w (inr h) (inl g) e = absurd (omega (arith, e, (top-range t (i + 1) k d w.1.0 g).1, (clause-range q (i + 1 + size t) n (P.next t k) b w.1.1 h).0))
  clause-one (cond t q) i n k b d w (inr h) (inr g) e = clause-one q (i + 1 + size t) n (P.next t k) b d w.1.1 h g e

  -- those of one comprehension, whose first place is n and which has k behind its loops
  module _ (q : Clauses) (u : Form) (a n k : ℕ) (w : MarkedC s (a + 1) q c n k) (v : Marked s (a + 1 + size_c q) u c (next_c q k)) where
    pub one-mark : (b d : ℕ) → TopOf q u a b → TopOf q u a d → mark_at s b ≡ mark_at s d → b ≡ d
    one-mark b d (inl h) (inl g) e = clause-one q (a + 1) n k b d w h g e
    one-mark b d (inl h) (inr g) e = absurd (omega (arith, e, (clause-range q (a + 1) n k b w h).1, (top-range u (a + 1 + size_c q) (next_c q k) d v g).0))
    one-mark b d (inr h) (inl g) e = absurd (omega (arith, e, (clause-range q (a + 1) n k d w g).1, (top-range u (a + 1 + size_c q) (next_c q k) b v h).0))
    one-mark b d (inr h) (inr g) e = top_one u (a + 1 + size_c q) (next_c q k) b d v h g e
