-- What a comprehension's accumulator comes to is within what refusal 28 lets pass.
use native.Mathlib.Omega.{arith}
use native.Mathlib.Nat.{le_refl, le_trans, mul_comm, mul-zero, mul-le-mul, zero-add, pow-succ'}
use native.Mathlib.Numerals.{one-add}
use mathlib.Core.Path.{◌≡◌, refl, sym, ap, subst, ◌∙◌}
use mathlib.Core.List.{List, [], ◌∷◌}
use mathlib.Core.Bool.{true}
use Prim.Native.Nat.{ℕ, pred, ◌+◌, ◌*◌, ◌^◌, ◌≤◌, ◌<◌}
use lib.ListN.{length}
use Rattle.spec_calculus.specs.Syntax as Sy
use Rattle.spec_calculus.specs.Syntax.{Monoid, of, sum, max, some, all}
use Rattle.spec_calculus.specs.Value.{Tables, rows_of}
use Rattle.spec_normal_form.specs.Form.{Form, Forms, Clauses, num, truth, row, cell, rec, bin, negate, app, comp, fnil, fcons, done, gen, cond}
use Rattle.spec_normal_form.specs.Bound.{own_gens, Declared, bound, comp_bound, within, within_f, within_c}
use Rattle.spec_normal_form.proofs.Bounds.{within-bound, within-operands, within-negated, within-app, within-fields, within-field, within-gen, within-comp, within-cond}
use Rattle.form_words.specs.declared.FormNode.{FormNode}
use Rattle.form_words.specs.declared.FormNode.TheVariants as N
use Rattle.form_words.specs.declared.Clause.{Clause}
use Rattle.form_words.specs.declared.Clause.TheVariants as Cl
use Rattle.base_scratch.specs.Map.{form_words}
use Rattle.form_words.specs.NodeWord.{node_at}
use Rattle.form_words.specs.FormTree.{clause_of, form_tree, clauses_tree, left}
use Rattle.form_words.specs.FormWords.{size, size_f, size_c}
use Rattle.base_syntax.proofs.Numbers.{monoid-back}
use Rattle.form_words.proofs.ReadBack.{size-some}
use Rattle.spec_plan.specs.Plan.{PTerm}
use Rattle.plan_marks.specs.PlanIn.{monoid_by, term_in, head_in}
use Rattle.plan_marks.proofs.FormInWords.{Lies, LiesF, LiesC}
use Rattle.plan_marks.proofs.WordsArePlan.{head_in_lem}
use Rattle.plan_links.specs.Spots.{Spots, end, loop, inner, comp_of, loops_at, gens_at, or_unit, inners, inners_f, inners_c, spots_of}
use Rattle.plan_links.specs.SpotWords.{fuel}
use Rattle.plan_links.proofs.FormLinks.{comp-own}
use Rattle.form_arith.specs.WordSorts.{sort_of, word_bound, merge_bound}
use Rattle.form_arith.proofs.ValueWords.{more-words, comp-within}
use Rattle.exec_terms.proofs.HeadParts.{term-same}
use Rattle.exec_terms.proofs.FormAgreement.{tree_is, clauses-are, head-node}
use Rattle.base_signed.specs.Limit.{number_limit}
use Rattle.exec_simulation.specs.RowReads.{head_at}
use Rattle.exec_initial.specs.HeadBounds.{head_bound}

-- how many rows the loop with this clause offers, and how many can come to the end of a comprehension from one row
abbrev pub rows_by : Tables → Clause → ℕ
rows_by T (Cl.Generator g k) = length (rows_of T k)
rows_by T (Cl.Condition j) = 1
rows_by T Cl.Head = 1

unfoldable pub spot_takes : List ℕ → Tables → Spots → ℕ
spot_takes s T (end c) = 1
spot_takes s T (loop i p) = rows_by T (clause_of (node_at s i)) * spot_takes s T p
spot_takes s T (inner a p) = spot_takes s T p

-- the numbers in the conditions and in the head of the comprehension at c are small, by what C says that the generators' tables declare, and
-- its head is read where it stands
pub record Smalls (C : Declared) (s : List ℕ) (c : ℕ) : Type 0 where
  pub clauses : within_c C (clauses_tree fuel s (c + 1)) ≡ true
  pub head : within C (form_tree fuel s (head_at s c)) ≡ true
  pub term : head_in fuel s (c + 1) ≡ term_in fuel s (head_at s c)

-- so is what its heads come to, which is within its own bound; and the same of the comprehensions inside
pub record CompFits (C : Declared) (s : List ℕ) (T : Tables) (y : Spots) : Type 0 where
  pub total : merge_bound (monoid_by (node_at s (comp_of y))) (spot_takes s T y) (head_bound C s (comp_of y)) ≤ number_limit
  pub own : merge_bound (monoid_by (node_at s (comp_of y))) (spot_takes s T y) (head_bound C s (comp_of y)) ≤ word_bound C (sort_of (monoid_by (node_at s (comp_of y)))) (form_tree fuel s (comp_of y))
  pub smalls : Smalls C s (comp_of y)

abbrev pub Fit : Declared → List ℕ → Tables → Spots → Type 0
Fit C s T (end c) = Unit {0}
Fit C s T (loop i p) = Fit C s T p
Fit C s T (inner a p) = CompFits C s T a × (Fit C s T a × Fit C s T p)

-- "max its head's; sum its head's times 1,024 for each generator"; min as max
heads-within : (C : Declared) (m : Monoid) (q : Clauses) (h : Form) → merge_bound m (0 + 1024 ^ own_gens q) (word_bound C (sort_of m) h) ≤ word_bound C (sort_of m) (comp m q h)
unfolding merge_bound bound comp_bound
heads-within C (of c) q h = omega (arith, mul-zero (0 + 1024 ^ own_gens q))
heads-within C sum q h = omega (arith, mul_comm (bound C h) (1024 ^ own_gens q), ap (λ (x : ℕ). x * bound C h) (zero-add (1024 ^ own_gens q)))
heads-within C max q h = le_refl (bound C h)
heads-within C Sy.min q h = le_refl (bound C h)
heads-within C some q h = le_refl 1
heads-within C all q h = le_refl 1

module _ (C : Declared) (s : List ℕ) (T : Tables) (few : (k : ℕ) → length (rows_of T k) ≤ 1024) where
  fit-loops : (l : List ℕ) (p : Spots) → Fit C s T p → Fit C s T (loops_at l p)
  unfolding loops_at
  fit-loops [] p h = h
  fit-loops (i ∷ l) p h = fit-loops l p h

  -- ---- how many rows come
  more-power : (n : ℕ) → 1024 * 1024 ^ n ≡ 1024 ^ (1 + n)
  more-power n = sym (ap (λ (k : ℕ). 1024 ^ k) (one-add n) ∙ pow-succ' 1024 n)

  takes-gens : (q : Clauses) (i : ℕ) (p : Spots) → LiesC s i q → spot_takes s T p ≡ 1 → spot_takes s T (loops_at (gens_at q i) p) ≤ 1024 ^ own_gens q
  unfolding loops_at gens_at own_gens spot_takes
  takes-gens done i p h e = omega (arith, e)
  takes-gens (gen g k q) i p h e =
      subst (λ (b : ℕ). rows_by T (clause_of (node_at s i)) * spot_takes s T (loops_at (gens_at q (i + 1)) p) ≤ b) (more-power (own_gens q))
      (mul-le-mul (subst (λ (n : FormNode). rows_by T (clause_of n) ≤ 1024) (sym h.0) (few k)) (takes-gens q (i + 1) p h.1.1 e))
  takes-gens (cond t q) i p h e = takes-gens q (i + 1 + size t) p h.1.1 e

  takes-unit : (c : ℕ) (p : Spots) (b : ℕ) {m : _} → node_at s c ≡ N.Comprehension m → (l : List ℕ) → spot_takes s T (loops_at l p) ≤ b → spot_takes s T (loops_at (or_unit c l) p) ≤ b
  unfolding loops_at or_unit spot_takes
  takes-unit c p b n [] h = subst (λ (x : FormNode). rows_by T (clause_of x) * spot_takes s T p ≤ b) (sym n) (omega (arith, h))
  takes-unit c p b n (i ∷ l) h = h

  mutual
    unfolding inners spot_takes

    takes-inners : (t : Form) (i : ℕ) (p : Spots) → spot_takes s T (inners t i p) ≡ spot_takes s T p
    takes-inners (num z) i p = refl
    takes-inners (truth b) i p = refl
    takes-inners (row g) i p = refl
    takes-inners (cell j g) i p = refl
    takes-inners (rec ts) i p = takes-inners_f ts (i + 1) p
    takes-inners (app f ts) i p = takes-inners_f ts (i + 1) p
    takes-inners (bin o t u) i p = takes-inners t (i + 1) (inners u (i + 1 + size t) p) ∙ takes-inners u (i + 1 + size t) p
    takes-inners (negate t) i p = takes-inners t (i + 1) p
    takes-inners (comp m q h) i p = refl

    takes-inners_f : (ts : Forms) (i : ℕ) (p : Spots) → spot_takes s T (inners_f ts i p) ≡ spot_takes s T p
    takes-inners_f fnil i p = refl
    takes-inners_f (fcons t ts) i p = takes-inners t i (inners_f ts (i + size t) p) ∙ takes-inners_f ts (i + size t) p

    takes-inners_c : (q : Clauses) (i : ℕ) (p : Spots) → spot_takes s T (inners_c q i p) ≡ spot_takes s T p
    takes-inners_c done i p = refl
    takes-inners_c (gen g k q) i p = takes-inners_c q (i + 1) p
    takes-inners_c (cond t q) i p = takes-inners t (i + 1) (inners_c q (i + 1 + size t) p) ∙ takes-inners_c q (i + 1 + size t) p

  takes-comp : (m : Monoid) (q : Clauses) (h : Form) (c : ℕ) → Lies s c (comp m q h) → spot_takes s T (spots_of q h c) ≤ 1024 ^ own_gens q
  unfolding spots_of spot_takes
  takes-comp m q h c L =
      let p : Spots = inners_c q (c + 1) (inners h (c + 1 + size_c q) (end c)) in
      takes-unit c p (1024 ^ own_gens q) L.0 (gens_at q (c + 1))
      (takes-gens q (c + 1) p L.1.0 (takes-inners_c q (c + 1) (inners h (c + 1 + size_c q) (end c)) ∙ takes-inners h (c + 1 + size_c q) (end c)))

  -- ---- the head's term, whatever fuel is left behind the clauses
  head-term : (q : Clauses) (i f e : ℕ) (x : PTerm) → LiesC s i q → e ≡ i + size_c q → clause_of (node_at s e) ≡ Cl.Head → e < form_words → left i + 1 < f → ((g : ℕ) → left e < g → term_in g s e ≡ x) → head_in f s i ≡ x
  unfolding size
  head-term done i f e x h k c l p w = subst (λ j. head_in f s j ≡ x) (omega (arith, k)) (head_in_lem s f e c (omega arith) ∙ w (pred f) (omega arith))
  head-term (gen g t q) i f e x h k c l p w = head_in_lem s f i (ap clause_of h.0) (omega arith) ∙ head-term q (i + 1) (pred f) e x h.1.1 (omega arith) c l (omega arith) w
  head-term (cond t q) i f e x h k c l p w = head_in_lem s f i (ap clause_of h.0) (omega arith) ∙ head-term q (i + 1 + size t) (pred f) e x h.1.1 (omega arith) c l (omega arith) w

  -- ---- what they come to
  module _ (m : Monoid) (q : Clauses) (h : Form) (c : ℕ) (L : Lies s c (comp m q h)) (n : c + size (comp m q h) ≤ form_words) where
    head-place : head_at s c ≡ c + 1 + size_c q
    unfolding size
    head-place = head-node s q (c + 1) fuel (c + 1 + size_c q) L.1.0 refl L.1.1.0 (omega (arith, n, size-some h)) (omega arith)

    term-there : head_in fuel s (c + 1) ≡ term_in fuel s (head_at s c)
    unfolding size
    term-there = let e : ℕ = c + 1 + size_c q in
        head-term q (c + 1) fuel e (term_in fuel s e) L.1.0 refl L.1.1.0 (omega (arith, n, size-some h)) (omega arith) (λ g l. term-same s h e g fuel L.1.1.1 (omega (arith, n)) l (omega arith))
        ∙ ap (term_in fuel s) (sym head-place)

    head-tree : form_tree fuel s (head_at s c) ≡ h
    unfolding size
    head-tree = ap (form_tree fuel s) head-place
        ∙ tree_is s h (c + 1 + size_c q) fuel L.1.1.1 (omega (arith, n)) (omega arith)

    clauses-tree : clauses_tree fuel s (c + 1) ≡ q
    unfolding size
    clauses-tree = clauses-are s q (c + 1) fuel (c + 1 + size_c q) L.1.0 refl L.1.1.0 (omega (arith, n, size-some h)) (omega arith)

    monoid-node : monoid_by (node_at s c) ≡ m
    monoid-node = ap monoid_by L.0 ∙ monoid-back m

    comp-tree : form_tree fuel s c ≡ comp m q h
    comp-tree = tree_is s (comp m q h) c fuel L n (omega arith)

    own-small : merge_bound (monoid_by (node_at s c)) (spot_takes s T (spots_of q h c)) (head_bound C s c) ≤ word_bound C (sort_of (monoid_by (node_at s c))) (form_tree fuel s c)
    own-small =
        subst (λ (x : Monoid). merge_bound x (spot_takes s T (spots_of q h c)) (word_bound C (sort_of x) (form_tree fuel s (head_at s c))) ≤ word_bound C (sort_of x) (form_tree fuel s c)) (sym monoid-node)
        (subst (λ (x : Form). merge_bound m (spot_takes s T (spots_of q h c)) (word_bound C (sort_of m) (form_tree fuel s (head_at s c))) ≤ word_bound C (sort_of m) x) (sym comp-tree)
        (subst (λ (x : Form). merge_bound m (spot_takes s T (spots_of q h c)) (word_bound C (sort_of m) x) ≤ word_bound C (sort_of m) (comp m q h)) (sym head-tree)
        (le_trans (more-words m (word_bound C (sort_of m) h) (omega (arith, takes-comp m q h c L))) (heads-within C m q h))))

    total-small : within C (comp m q h) ≡ true → merge_bound (monoid_by (node_at s c)) (spot_takes s T (spots_of q h c)) (head_bound C s c) ≤ number_limit
    unfolding bound
    total-small w =
        subst (λ (x : Monoid). merge_bound x (spot_takes s T (spots_of q h c)) (word_bound C (sort_of x) (form_tree fuel s (head_at s c))) ≤ number_limit) (sym monoid-node)
        (subst (λ (x : Form). merge_bound m (spot_takes s T (spots_of q h c)) (word_bound C (sort_of m) x) ≤ number_limit) (sym head-tree)
        (le_trans (more-words m (word_bound C (sort_of m) h) (omega (arith, takes-comp m q h c L))) (comp-within C m (own_gens q) h (within-bound C (comp m q h) w))))

    pub comp-fits : within C (comp m q h) ≡ true → CompFits C s T (spots_of q h c)
    comp-fits w =
        let v = within-comp C m q h w in
        let e : c ≡ comp_of (spots_of q h c) = sym (comp-own q h c) in
        record {
          total = subst (λ (x : ℕ). merge_bound (monoid_by (node_at s x)) (spot_takes s T (spots_of q h c)) (head_bound C s x) ≤ number_limit) e (total-small w);
          own = subst (λ (x : ℕ). merge_bound (monoid_by (node_at s x)) (spot_takes s T (spots_of q h c)) (head_bound C s x) ≤ word_bound C (sort_of (monoid_by (node_at s x))) (form_tree fuel s x)) e own-small;
          smalls = subst (Smalls C s) e (record { clauses = ap (within_c C) clauses-tree ∙ v.0; head = ap (within C) head-tree ∙ v.1; term = term-there });
        }

  mutual
    unfolding inners size spots_of

    fit-inners : (t : Form) (i : ℕ) (p : Spots) → Lies s i t → i + size t ≤ form_words → within C t ≡ true → Fit C s T p → Fit C s T (inners t i p)
    fit-inners (num z) i p L n w h = h
    fit-inners (truth b) i p L n w h = h
    fit-inners (row g) i p L n w h = h
    fit-inners (cell j g) i p L n w h = h
    fit-inners (rec ts) i p L n w h = fit-inners_f ts (i + 1) p L.1 (omega arith) (within-fields C ts w) h
    fit-inners (app f ts) i p L n w h = fit-inners_f ts (i + 1) p L.1 (omega arith) (within-app C f ts w) h
    fit-inners (bin o t u) i p L n w h =
        let v = within-operands C o t u w in
        fit-inners t (i + 1) (inners u (i + 1 + size t) p) L.1.0 (omega arith) v.0 (fit-inners u (i + 1 + size t) p L.1.1 (omega arith) v.1 h)
    fit-inners (negate t) i p L n w h = fit-inners t (i + 1) p L.1 (omega arith) (within-negated C t w) h
    fit-inners (comp m q u) i p L n w h =
        let v = within-comp C m q u w in
        let e : Spots = inners u (i + 1 + size_c q) (end i) in (
          comp-fits m q u i L n w,
          (
            fit-loops (or_unit i (gens_at q (i + 1))) (inners_c q (i + 1) e) (fit-inners_c q (i + 1) e L.1.0 (omega arith) v.0 (fit-inners u (i + 1 + size_c q) (end i) L.1.1.1 (omega arith) v.1 tt)),
            h,
          ),
        )

    fit-inners_f : (ts : Forms) (i : ℕ) (p : Spots) → LiesF s i ts → i + size_f ts ≤ form_words → within_f C ts ≡ true → Fit C s T p → Fit C s T (inners_f ts i p)
    fit-inners_f fnil i p L n w h = h
    fit-inners_f (fcons t ts) i p L n w h =
        let v = within-field C t ts w in
        fit-inners t i (inners_f ts (i + size t) p) L.1.0 (omega arith) v.0 (fit-inners_f ts (i + size t) p L.1.1 (omega arith) v.1 h)

    fit-inners_c : (q : Clauses) (i : ℕ) (p : Spots) → LiesC s i q → i + size_c q ≤ form_words → within_c C q ≡ true → Fit C s T p → Fit C s T (inners_c q i p)
    fit-inners_c done i p L n w h = h
    fit-inners_c (gen g k q) i p L n w h = fit-inners_c q (i + 1) p L.1.1 (omega arith) (within-gen C g k q w) h
    fit-inners_c (cond t q) i p L n w h =
        let v = within-cond C t q w in
        fit-inners t (i + 1) (inners_c q (i + 1 + size t) p) L.1.0 (omega arith) v.0 (fit-inners_c q (i + 1 + size t) p L.1.1 (omega arith) v.1 h)

  -- those inside a comprehension
  pub fit-inside : (m : Monoid) (q : Clauses) (u : Form) (c : ℕ) → Lies s c (comp m q u) → c + size (comp m q u) ≤ form_words → within C (comp m q u) ≡ true → Fit C s T (spots_of q u c)
  unfolding inners spots_of
  fit-inside m q u c L n w = (fit-inners (comp m q u) c (end c) L n w tt).1.0
