-- The operators of a normal form in marked words fill the places that its marks name.
use native.Mathlib.Omega.{arith}
use mathlib.Core.Path.{◌≡◌, refl, sym, ap, subst, ◌∙◌}
use mathlib.Core.Logic.{inl, inr}
use mathlib.Core.Bool.{Bool, true, false, false≢true}
use mathlib.Core.List.{List, [], ◌∷◌, ◌++◌}
use Prim.Native.Nat.{ℕ, suc, ◌+◌, ◌≤◌}
use lib.ListN.{length}
use Rattle.spec_calculus.specs.Lists.{upd}
use Rattle.spec_calculus.specs.Syntax.{Monoid}
use Rattle.spec_normal_form.specs.Form.{Form, Forms, Clauses, NormalForm, as_form, num, truth, row, cell, rec, bin, negate, app, comp, fnil, fcons, done, gen, cond, gens, gens_c}
use Rattle.spec_normal_form.proofs.Locality.{Grows}
use Rattle.spec_normal_form.specs.NoRule.{behind, Ordered, OrderedF, OrderedC}
use Rattle.spec_normal_form.proofs.NoRuleApplies.{behind-grows}
use Rattle.base_scratch.specs.Map.{form_words}
use Rattle.form_words.specs.FormWords.{size, size_f, size_c}
use Rattle.spec_plan.specs.Planner as P
use Rattle.plan_marks.specs.Marks.{mark_at}
use Rattle.plan_marks.proofs.FormInWords.{Lies, LiesF, LiesC}
use Rattle.plan_marks.proofs.FormMarks.{registers_of, next_c, Marked, MarkedF, MarkedC, next_c-up, registers-most, behind-is}
use Rattle.plan_marks.proofs.FormMarks as M
use Rattle.plan_machine.specs.AnswerText.{collects}
use Rattle.plan_machine.proofs.CollectionsInHeads.{Scalar, ScalarF, ScalarC, Either, Fitting, FittingF, scalar-fitting}
use Rattle.plan_links.specs.Spots.{Spots, end, comp_of, gens_at, or_unit, inners, inners_f, inners_c, spots_of}
use Rattle.plan_links.proofs.FormLinks.{comp-inners, comp-inners_f, comp-inners_c, comp-own}
use Rattle.exec_simulation.specs.WiredProgram.{Id, end_i}
use Rattle.exec_initial.specs.PlaceFillers.{NamesRow, InnerFilled, Fills}
use Rattle.exec_initial.proofs.WordEnds.{Steps, StepsF, StepsC}
use Rattle.exec_initial.proofs.TopComprehensions.{TopAt, TopAtF, TopAtC, top-range, clause-range}
use Rattle.exec_initial.proofs.BodyPlaces.{Body, holds, tops, Filled, end-filled, inner-filled, past-filled}
use Rattle.exec_initial.proofs.LoopPlaces.{loop_ids, own-length, own-named, own-rise, loops-filled}

pub head-fits : (b : Bool) (t : Form) → Either b (Fitting t) (Scalar t) → Fitting t
head-fits true t h = h
head-fits false t h = scalar-fitting t h

scalars-fitting : (ts : Forms) → ScalarF ts → FittingF ts
scalars-fitting fnil h = tt
scalars-fitting (fcons t ts) h = (scalar-fitting t h.0, scalars-fitting ts h.1)

-- a comprehension planned at width k
module _ (s : List ℕ) (m : Monoid) (q : Clauses) (u : Form) (c k j : ℕ) (d : ℕ → ℕ) (S : ℕ → Bool) (L : Lies s c (comp m q u)) (n : c + size (comp m q u) ≤ form_words) (z : Steps s c (comp m q u)) (w : Marked s c (comp m q u) d k)
    (o : OrderedC q S j) (v : Ordered u (behind q S) (j + gens_c q)) (f : Fitting (comp m q u)) (b : (g : ℕ) → d g ≤ k) where
  abbrev body : Body s
  body = record {
    monoid = m;
    clauses = q;
    head = u;
    node = c;
    registers = registers_of q k d;
    scope = S;
    from = j;
    first = k;
    width = M.behind q k;
    lies = L;
    few = n;
    past = z.0;
    past_head = z.1.0;
    scalars = f.0;
    fitting = f.1;
    conditions = w.1.1.0;
    marked = w.1.1.1;
    ordered = o;
    in_head = v;
    low = λ g. omega (arith, registers-most q k d b g, (behind-is q k).0);
  }

  module _ (F : List Id) (l : length F ≡ k) (R : (g : ℕ) → S g ≡ true → NamesRow s F (d g) g) where
    abbrev full : List Id
    full = F ++ loop_ids (or_unit c (gens_at q (c + 1)))

    -- no comprehension inside it has a place yet
    none_yet : (x : ℕ) → tops body x → mark_at s x ≤ M.behind q k → ⊥
    none_yet x (inl h) y = omega (arith, y, (clause-range s (registers_of q k d) q (c + 1) k (M.behind q k) x w.1.1.0 h).0)
    none_yet x (inr h) y = omega (arith, y, (top-range s (registers_of q k d) u (c + 1 + size_c q) (next_c q (M.behind q k)) x w.1.1.1 h).0, next_c-up q (M.behind q k))

    first-filled : Filled body full (M.behind q k)
    first-filled = record { long = own-length q c (c + 1) k F l; wide = omega arith; rows = own-named s q c (c + 1) k F d S l L.1.0 R; ends = λ x t y. absurd (none_yet x t y) }

    -- C: the comprehensions in the clauses, D: those in the head, in front of what stands behind them
    comp-fills : ((G : List Id) (p : Spots) → comp_of p ≡ c → Filled body G (M.behind q k) → ((J : List Id) → Filled body J (next_c q (M.behind q k)) → Fills s J p) → Fills s G (inners_c q (c + 1) p))
        → ((G : List Id) → Filled body G (next_c q (M.behind q k)) → ((J : List Id) → Filled body J (P.next u (next_c q (M.behind q k))) → Fills s J (end c)) → Fills s G (inners u (c + 1 + size_c q) (end c)))
        → Fills s F (spots_of q u c)
    unfolding spots_of comp_of
    comp-fills C D =
        let h : Spots = inners u (c + 1 + size_c q) (end c) in
        let e : comp_of h ≡ c = comp-inners u (c + 1 + size_c q) (end c) in
        let K : Fills s full (inners_c q (c + 1) h) = C full h e first-filled (λ G J. D G J (λ A I. end-filled body A (P.next u (next_c q (M.behind q k))) I (omega arith))) in
        loops-filled s body full first-filled.rows (inners_c q (c + 1) h) (comp-inners_c q (c + 1) h ∙ e) (or_unit c (gens_at q (c + 1))) F
        (own-rise s q c (c + 1) (length F) (w.0 ∙ sym (ap suc l)) (subst (M.Numbered s (c + 1) q) (sym l) w.1.0)) refl K

module _ (s : List ℕ) where
  -- the comprehensions of a term inside B, in front of what stands behind them
  mutual
    unfolding size inners spots_of comp_of Ordered P.next P.free next_c behind

    term-fills : (t : Form) (i k j : ℕ) (B : Body s) (S : ℕ → Bool) (F : List Id) (p : Spots) → Lies s i t → i + size t ≤ form_words → Steps s i t → Marked s i t B.registers k → Ordered t S j → Fitting t → Grows S (holds B)
        → ((b : ℕ) → TopAt i t b → tops B b) → comp_of p ≡ B.node → Filled B F k → ((G : List Id) → Filled B G (P.next t k) → Fills s G p) → Fills s F (inners t i p)
    term-fills (num z) i k j B S F p L n y w o f g b e H K = K F H
    term-fills (truth z) i k j B S F p L n y w o f g b e H K = K F H
    term-fills (row x) i k j B S F p L n y w o f g b e H K = K F H
    term-fills (cell x v) i k j B S F p L n y w o f g b e H K = K F H
    term-fills (rec ts) i k j B S F p L n y w o f g b e H K = terms-fills ts (i + 1) k j B S F p L.1 (omega (arith, n)) y w o f g b e H K
    term-fills (app φ ts) i k j B S F p L n y w o f g b e H K = terms-fills ts (i + 1) k j B S F p L.1 (omega (arith, n)) y w o (scalars-fitting ts f) g b e H K
    term-fills (bin x t u) i k j B S F p L n y w o f g b e H K =
        term-fills t (i + 1) k j B S F (inners u (i + 1 + size t) p) L.1.0 (omega (arith, n)) y.0 w.0 o.0 (scalar-fitting t f.0) g (λ x h. b x (inl h)) (comp-inners u (i + 1 + size t) p ∙ e) H
        (λ G J. term-fills u (i + 1 + size t) (P.next t k) (j + gens t) B S G p L.1.1 (omega (arith, n)) y.1 w.1 o.1 (scalar-fitting u f.1) g (λ x h. b x (inr h)) e J K)
    term-fills (negate t) i k j B S F p L n y w o f g b e H K = term-fills t (i + 1) k j B S F p L.1 (omega (arith, n)) y w o (scalar-fitting t f) g b e H K
    term-fills (comp m q u) i k j B S F p L n y w o f g b e H K =
        let low : (x : ℕ) → B.registers x ≤ k = λ x. omega (arith, B.low x, H.wide) in
        let C : Body s = body s m q u i k j B.registers S L n y w o.0 o.1 f low in
        let x : comp_of (spots_of q u i) ≡ i = comp-own q u i in (
          subst (λ y. InnerFilled s F y (comp_of (spots_of q u i))) (sym e) (subst (InnerFilled s F B.node) (sym x) (inner-filled B F k H i L.0 (b i refl) w.0)),
          (
            comp-fills s m q u i k j B.registers S L n y w o.0 o.1 f low F H.long (λ a h. H.rows a (g a h))
                (λ G x v J A. clauses-fills q (i + 1) (M.behind q k) j C S G x L.1.0 (omega (arith, n)) y.1.1.0 w.1.1.0 o.0 f.0 (λ a h. h) (λ a h. inl h) v J A)
                (λ G J A. term-fills u (i + 1 + size_c q) (next_c q (M.behind q k)) (j + gens_c q) C (behind q S) G (end i) L.1.1.1 (omega (arith, n)) y.1.1.1 w.1.1.1 o.1 (head-fits (collects m) u f.1) (λ a h. h) (λ a h. inr h) refl J A),
            subst (λ y. Fills s (F ++ end_i y ∷ []) p) (sym x) (K (F ++ end_i i ∷ []) (past-filled B F k H i L.0 (b i refl) w.0)),
          ),
        )

    terms-fills : (ts : Forms) (i k j : ℕ) (B : Body s) (S : ℕ → Bool) (F : List Id) (p : Spots) → LiesF s i ts → i + size_f ts ≤ form_words → StepsF s i ts → MarkedF s i ts B.registers k → OrderedF ts S j → FittingF ts → Grows S (holds B)
        → ((b : ℕ) → TopAtF i ts b → tops B b) → comp_of p ≡ B.node → Filled B F k → ((G : List Id) → Filled B G (P.nexts ts k) → Fills s G p) → Fills s F (inners_f ts i p)
    terms-fills fnil i k j B S F p L n y w o f g b e H K = K F H
    terms-fills (fcons t ts) i k j B S F p L n y w o f g b e H K =
        term-fills t i k j B S F (inners_f ts (i + size t) p) L.1.0 (omega (arith, n)) y.0 w.0 o.0 f.0 g (λ x h. b x (inl h)) (comp-inners_f ts (i + size t) p ∙ e) H
        (λ G J. terms-fills ts (i + size t) (P.next t k) (j + gens t) B S G p L.1.1 (omega (arith, n)) y.1 w.1 o.1 f.1 g (λ x h. b x (inr h)) e J K)

    clauses-fills : (r : Clauses) (i k j : ℕ) (B : Body s) (S : ℕ → Bool) (F : List Id) (p : Spots) → LiesC s i r → i + size_c r ≤ form_words → StepsC s i r → MarkedC s i r B.registers B.first k → OrderedC r S j → ScalarC r → Grows (behind r S) (holds B)
        → ((b : ℕ) → TopAtC i r b → tops B b) → comp_of p ≡ B.node → Filled B F k → ((G : List Id) → Filled B G (next_c r k) → Fills s G p) → Fills s F (inners_c r i p)
    clauses-fills done i k j B S F p L n y w o f g b e H K = K F H
    clauses-fills (gen x v r) i k j B S F p L n y w o f g b e H K = clauses-fills r (i + 1) k (suc j) B (upd x true S) F p L.1.1 (omega (arith, n)) y w o.1 f g b e H K
    clauses-fills (cond t r) i k j B S F p L n y w o f g b e H K =
        term-fills t (i + 1) k j B S F (inners_c r (i + 1 + size t) p) L.1.0 (omega (arith, n)) y.0 w.1.0 o.0 (scalar-fitting t f.0) (λ x h. g x (behind-grows r S x h)) (λ x h. b x (inl h)) (comp-inners_c r (i + 1 + size t) p ∙ e) H
        (λ G J. clauses-fills r (i + 1 + size t) (P.next t k) (j + gens t) B S G p L.1.1 (omega (arith, n)) y.1 w.1.1 o.1 f.1 g (λ x h. b x (inr h)) e J K)

-- The operators of a question's normal form, from a row of no places on.
pub form-fills : (f : NormalForm) (s : List ℕ) → Lies s 0 (as_form f) → size (as_form f) ≤ form_words → Steps s 0 (as_form f) → Marked s 0 (as_form f) (λ g. 0) 0 → Ordered (as_form f) (λ g. false) 0 → Fitting (as_form f)
    → Fills s [] (spots_of f.clauses f.head 0)
unfolding size comp_of Ordered
form-fills f s L n y w o h =
    let q : Clauses = f.clauses in
    let u : Form = f.head in
    let S : ℕ → Bool = λ g. false in
    let C : Body s = body s f.monoid q u 0 0 0 (λ g. 0) S L (omega (arith, n)) y w o.0 o.1 h (λ g. omega arith) in
    comp-fills s f.monoid q u 0 0 0 (λ g. 0) S L (omega (arith, n)) y w o.0 o.1 h (λ g. omega arith) [] refl (λ g e. absurd (false≢true e))
    (λ G x v J K. clauses-fills s q (0 + 1) (M.behind q 0) 0 C S G x L.1.0 (omega (arith, n)) y.1.1.0 w.1.1.0 o.0 h.0 (λ a z. z) (λ a z. inl z) v J K)
    (λ G J K. term-fills s u (0 + 1 + size_c q) (next_c q (M.behind q 0)) (0 + gens_c q) C (behind q S) G (end 0) L.1.1.1 (omega (arith, n)) y.1.1.1 w.1.1.1 o.1 (head-fits (collects f.monoid) u h.1) (λ a z. z) (λ a z. inr z) refl J K)
