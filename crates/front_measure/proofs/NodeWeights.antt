-- How much a node writes, by its kind, from how much the nodes before it do.
use mathlib.Core.Path.{◌≡◌, refl, sym, ap, ap₂, subst, ◌∙◌}
use mathlib.Core.List.{List, [], ◌∷◌}
use mathlib.Core.Bool.{Bool, true, false, ◌||◌}
use Prim.Native.Nat.{ℕ, suc, ◌+◌, ◌<◌, ◌≤◌}
use native.Mathlib.Omega.{arith}
use lib.Dec.{ltb, ltb→lt, lt→ltb}
use lib.Dec as De
use lib.IntN.{ℤ, pos}
use Rattle.spec_calculus.specs.Lists.{pick}
use Rattle.spec_calculus.specs.Syntax.{Collection, Monoid, Bin, plus, minus, times, equal, less, and, or, Fun}
use Rattle.spec_normal_form.specs.Form.{Form, gens, gens_f, gens_c}
use Rattle.spec_normal_form.specs.Form as Nf
use Rattle.spec_normal_form.specs.Normal.{Sem, row, fields, both, plain, nothing, quote, quotes, idempotent, gives_way, one, condition, ranges, binary}
use Rattle.spec_normal_form.specs.Size.{nodes, nodes_f, nodes_c}
use Rattle.spec_normal_form.proofs.WriteOut.{condition-cases}
use Rattle.spec_normal_form.proofs.FixedPoint.{quote-binary}
use Rattle.front_theory.specs.NodeTable.{Node, Nodes, nnum, ntruth, nrec, nbin, nnegate, napp, ncomp, ntable, ngen, nbind, ncond, nbad, PostOrder}
use Rattle.front_theory.specs.NodeForms.{Env, enter, outside, Offsets, At, qual_of, clauses_of, sems_of, comp_of, levels, sem_of, sem}
use Rattle.front_theory.proofs.Locality.{sem_is}
use Rattle.front_sizes.specs.declared.FormSize.{FormSize}
use Rattle.front_measure.specs.Measure.{count, form_count, clauses_count, beside, above, none, never, leaf, unplaced, term_of, condition_of, splice_of, qualifier_of, total, all_of}
use Rattle.front_measure.specs.KeptSizes.{Writes}
use Rattle.front_measure.specs.PartContracts.{joins}
use Rattle.front_measure.proofs.AnyEnvironment.{same_count, sum-assoc, Capped, capped, beside_none, clauses-sum, count-sum, term-any, condition-any, splice-any, qualifier-any, qualifiers-any}

-- how much something writes: as a term, as a condition, as a generator's term
pub record Costs (d : Sem) (t : FormSize) (c s : Bool → FormSize) : Type 0 where
  pub term : form_count (quote d 0) ≡ t
  pub condition : (v : Bool) → clauses_count (condition d v 0) ≡ c v
  pub splice : (v : Bool) → clauses_count (ranges d v 0).clauses ≡ s v

-- one node above
one-above : (a g : ℕ) → count (1 + (a + 0)) (g + 0) ≡ above (count a g)
one-above a g = same_count (omega arith) (omega arith)

condition-one : (t : Form) → clauses_count (one t) ≡ above (form_count t)
unfolding nodes gens
condition-one t = one-above (nodes t) (gens t)

-- What is no "and" and no collection is one condition, and never ranges.
scalar : (d : Sem) (t : FormSize) → form_count (quote d 0) ≡ t → ((v : Bool) → condition d v 0 ≡ one (quote d 0)) → ((v : Bool) → (ranges d v 0).clauses ≡ one (Nf.truth false)) → Costs d t (λ v. above t) (λ v. never)
unfolding nodes gens
scalar d t p q r = record {
  term = p;
  condition = λ v. ap clauses_count (q v) ∙ condition-one (quote d 0) ∙ ap above p;
  splice = λ v. ap clauses_count (r v);
}

row-weighs : (g : ℕ) → Costs (row g) leaf (λ v. above leaf) (λ v. never)
unfolding quote condition ranges nodes gens
row-weighs g = scalar (row g) leaf refl (λ v. refl) (λ v. refl)

plain-weighs : (f : ℕ → Form) (t : FormSize) → form_count (f 0) ≡ t → Costs (plain f) t (λ v. above t) (λ v. never)
unfolding quote condition ranges
plain-weighs f t p = scalar (plain f) t p (λ v. refl) (λ v. refl)

-- a node above two
two-above : (a b g h : ℕ) → count (1 + (a + b)) (g + h) ≡ above (beside (count a g) (count b h))
two-above a b g h = same_count (omega arith) (omega arith)

module _ (K : ℕ → Collection) (N : Nodes) (P : PostOrder N) where
  -- what comes to the same writes as much, whatever was known of numbers
  pub writes-by : (off : Offsets) (e : Env) {i D : ℕ} {d : Sem} {t : FormSize} {c s : Bool → FormSize} → sem K N off i D e ≡ d → Costs d t c s → Writes K N D i t c s
  writes-by off e {i} {D} p W = record {
    term = sym (term-any K N P off i D e 0) ∙ ap (λ x. form_count (quote x 0)) p ∙ W.term;
    condition = λ v. sym (condition-any K N P off i D e v 0) ∙ ap (λ x. clauses_count (condition x v 0)) p ∙ W.condition v;
    splice = λ v. sym (splice-any K N P off i D e v 0) ∙ ap (λ x. clauses_count (ranges x v 0).clauses) p ∙ W.splice v;
  }

  abbrev before : At
  before = sem K N unplaced

  at-node : {i D : ℕ} {t : FormSize} {c s : Bool → FormSize} (y : Node) → N i ≡ y → Costs (sem_of K N unplaced before y D outside) t c s → Writes K N D i t c s
  at-node {i} {D} y p W = writes-by unplaced outside (sem_is K N P unplaced i D outside ∙ ap (λ z. sem_of K N unplaced before z D outside) p) W

  leaf-weighs : Costs nothing leaf (λ v. above leaf) (λ v. never)
  unfolding nodes gens
  leaf-weighs = plain-weighs (λ n. Nf.num (pos 0)) leaf refl

  -- a name or a field comes to another node, to a row, to a cell, or to nothing
  pub writes-node : (off : Offsets) (e : Env) {i D : ℕ} (j B : ℕ) (f : Env) → sem K N off i D e ≡ sem K N off j B f → Writes K N D i (term_of K N B j) (condition_of K N B j) (splice_of K N B j)
  writes-node off e j B f p =
      writes-by off e p (record { term = term-any K N P off j B f 0; condition = λ v. condition-any K N P off j B f v 0; splice = λ v. splice-any K N P off j B f v 0 })

  pub writes-row : (off : Offsets) (e : Env) {i D g : ℕ} → sem K N off i D e ≡ row g → Writes K N D i leaf (λ v. above leaf) (λ v. never)
  writes-row off e {g = g} p = writes-by off e p (row-weighs g)

  pub writes-cell : (off : Offsets) (e : Env) {i D k g : ℕ} → sem K N off i D e ≡ plain (λ n. Nf.cell k g) → Writes K N D i (count 2 0) (λ v. above (count 2 0)) (λ v. never)
  unfolding nodes gens
  writes-cell off e {k = k} {g = g} p = writes-by off e p (plain-weighs (λ n. Nf.cell k g) (count 2 0) refl)

  pub writes_nothing : (off : Offsets) (e : Env) {i D : ℕ} → sem K N off i D e ≡ nothing → Writes K N D i leaf (λ v. above leaf) (λ v. never)
  writes_nothing off e p = writes-by off e p leaf-weighs

  -- Two terms: as a term, and "and" as a condition.
  two-term : (D : ℕ) (o : Bin) (a b : ℕ) → form_count (quote (binary o (before a D outside) (before b D outside)) 0) ≡ above (beside (term_of K N D a) (term_of K N D b))
  unfolding nodes gens
  two-term D o a b =
      let s = quote (before a D outside) 0 in
      let t = quote (before b D outside) (0 + gens s) in
      ap form_count (quote-binary o (before a D outside) (before b D outside) 0) ∙ two-above (nodes s) (nodes t) (gens s) (gens t)
      ∙ ap₂ (λ x y. above (beside x y)) (term-any K N P unplaced a D outside 0) (term-any K N P unplaced b D outside (0 + gens s))

  and_condition : (D a b : ℕ) (v : Bool) → clauses_count (condition (both (before a D outside) (before b D outside)) v 0) ≡ beside (condition_of K N D a v) (condition_of K N D b v)
  unfolding condition
  and_condition D a b v =
      let w = condition (before a D outside) v 0 in
      let q = condition (before b D outside) v (0 + gens_c w) in
      clauses-sum w q ∙ ap₂ beside (condition-any K N P unplaced a D outside v 0) (condition-any K N P unplaced b D outside v (0 + gens_c w))

  two-weighs : (D : ℕ) (o : Bin) (a b : ℕ) → let t = above (beside (term_of K N D a) (term_of K N D b)) in
      Costs (binary o (before a D outside) (before b D outside)) t (λ v. pick (joins o) (beside (condition_of K N D a v) (condition_of K N D b v)) (above t)) (λ v. never)
  unfolding binary condition ranges quote nodes gens pick
  two-weighs D plus a b = scalar (binary plus (before a D outside) (before b D outside)) _ (two-term D plus a b) (λ v. refl) (λ v. refl)
  two-weighs D minus a b = scalar (binary minus (before a D outside) (before b D outside)) _ (two-term D minus a b) (λ v. refl) (λ v. refl)
  two-weighs D times a b = scalar (binary times (before a D outside) (before b D outside)) _ (two-term D times a b) (λ v. refl) (λ v. refl)
  two-weighs D equal a b = scalar (binary equal (before a D outside) (before b D outside)) _ (two-term D equal a b) (λ v. refl) (λ v. refl)
  two-weighs D less a b = scalar (binary less (before a D outside) (before b D outside)) _ (two-term D less a b) (λ v. refl) (λ v. refl)
  two-weighs D and a b = record { term = two-term D and a b; condition = and_condition D a b; splice = λ v. refl }
  two-weighs D or a b = scalar (binary or (before a D outside) (before b D outside)) _ (two-term D or a b) (λ v. refl) (λ v. refl)

  -- The terms of a record.
  terms-count : (D : ℕ) (cs : List ℕ) (n : ℕ) (g : FormSize) → Capped g → let f = quotes (sems_of before cs D outside) n in beside g (count (nodes_f f) (gens_f f)) ≡ total (term_of K N D) g cs
  unfolding sems_of quote nodes gens total
  terms-count D [] n g h = beside_none g h
  terms-count D (c ∷ cs) n g h =
      let t = quote (before c D outside) n in
      let f = quotes (sems_of before cs D outside) (n + gens t) in
      let k = term_of K N D c in
      ap (beside g) (count-sum (nodes t) (nodes_f f) (gens t) (gens_f f)) ∙ sym (sum-assoc g (form_count t) (count (nodes_f f) (gens_f f)))
      ∙ ap (λ x. beside (beside g x) (count (nodes_f f) (gens_f f))) (term-any K N P unplaced c D outside n)
      ∙ terms-count D cs (n + gens t) (beside g k) (capped (g.size + k.size) (g.gens + k.gens))

  -- A comprehension: its qualifiers at the flag of its copy, then its head.
  abbrev comp_term : Monoid → List ℕ → ℕ → ℕ → FormSize
  comp_term m cs h D = above (beside (all_of K N (suc D) cs (idempotent m)) (term_of K N (suc D) h))

  comp-term : (m : Monoid) (cs : List ℕ) (h D : ℕ) → form_count (quote (comp_of N before m cs h D outside) 0) ≡ comp_term m cs h D
  unfolding quote nodes gens
  comp-term m cs h D =
      let x = idempotent m in
      let e = enter D 0 x outside in
      let w = clauses_of N before (suc D) e x 0 cs in
      let t = quote (before h (suc D) e) (0 + gens_c w) in
      two-above (nodes_c w) (nodes t) (gens_c w) (gens t) ∙ ap₂ (λ a b. above (beside a b)) (qualifiers-any K N P unplaced cs (suc D) e x 0) (term-any K N P unplaced h (suc D) e (0 + gens_c w))

  comp-condition : (m : Monoid) (cs : List ℕ) (h D : ℕ) (v : Bool) → clauses_count (condition (comp_of N before m cs h D outside) v 0)
      ≡ pick (gives_way m v) (beside (all_of K N (suc D) cs (v || idempotent m)) (condition_of K N (suc D) h v)) (above (comp_term m cs h D))
  unfolding quote pick
  comp-condition m cs h D v =
      let x = v || idempotent m in
      let e = enter D 0 x outside in
      let w = clauses_of N before (suc D) e x 0 cs in
      let y = condition (before h (suc D) e) v (0 + gens_c w) in
      let a = beside (all_of K N (suc D) cs x) (condition_of K N (suc D) h v) in
      let b = above (comp_term m cs h D) in
      condition-cases (λ z. clauses_count z ≡ pick (gives_way m v) a b) m
      (λ u n. clauses_of N before (suc D) (enter D n (u || idempotent m) outside) (u || idempotent m) n cs) (λ u n. before h (suc D) (enter D n (u || idempotent m) outside)) v 0
      (λ p. clauses-sum w y ∙ ap₂ beside (qualifiers-any K N P unplaced cs (suc D) e x 0) (condition-any K N P unplaced h (suc D) e v (0 + gens_c w)) ∙ sym (ap (λ z. pick z a b) p))
      (λ p. condition-one (quote (comp_of N before m cs h D outside) 0) ∙ ap above (comp-term m cs h D) ∙ sym (ap (λ z. pick z a b) p))

  comp-weighs : (m : Monoid) (cs : List ℕ) (h D : ℕ) → Costs (comp_of N before m cs h D outside) (comp_term m cs h D)
      (λ v. pick (gives_way m v) (beside (all_of K N (suc D) cs (v || idempotent m)) (condition_of K N (suc D) h v)) (above (comp_term m cs h D))) (λ v. all_of K N (suc D) cs (v || idempotent m))
  unfolding ranges
  comp-weighs m cs h D = record {
    term = comp-term m cs h D;
    condition = λ v. comp-condition m cs h D v;
    splice = λ v. qualifiers-any K N P unplaced cs (suc D) (enter D 0 (v || idempotent m) outside) (v || idempotent m) 0;
  }

  pick-holds : (b : Bool) (x y : Sem) → De.T b → pick b x y ≡ x
  unfolding pick
  pick-holds true x y t = refl
  pick-holds false x y t = absurd t

  pick-fails : (D : ℕ) (x y : Sem) → levels ≤ D → pick (ltb D levels) x y ≡ y
  unfolding pick
  pick-fails D x y h = go (ltb D levels) refl
    where
      go : (b : Bool) → ltb D levels ≡ b → pick b x y ≡ y
      go true p = absurd (omega (arith, ltb→lt D levels (subst De.T (sym p) tt)))
      go false p = refl

  module _ {i D : ℕ} where
    pub writes-number : {z : ℤ} → N i ≡ nnum z → Writes K N D i leaf (λ v. above leaf) (λ v. never)
    unfolding nodes gens
    writes-number {z} p = at-node (nnum z) p (plain-weighs (λ n. Nf.num z) leaf refl)

    pub writes-truth : {b : Bool} → N i ≡ ntruth b → Writes K N D i leaf (λ v. above leaf) (λ v. never)
    unfolding nodes gens
    writes-truth {b} p = at-node (ntruth b) p (plain-weighs (λ n. Nf.truth b) leaf refl)

    pub writes-bad : N i ≡ nbad → Writes K N D i leaf (λ v. above leaf) (λ v. never)
    writes-bad p = at-node nbad p leaf-weighs

    pub writes-negate : {c : ℕ} → N i ≡ nnegate c → let t = above (term_of K N D c) in Writes K N D i t (λ v. above t) (λ v. never)
    unfolding nodes gens
    writes-negate {c} p =
        let f = quote (before c D outside) 0 in
        let q : count (1 + nodes f) (gens f) ≡ above (form_count f) = same_count (omega arith) (omega arith) in
        at-node (nnegate c) p (plain-weighs (λ n. Nf.negate (quote (before c D outside) n)) (above (term_of K N D c)) (q ∙ ap above (term-any K N P unplaced c D outside 0)))

    pub writes-two : {o : Bin} {a b : ℕ} → N i ≡ nbin o a b → let t = above (beside (term_of K N D a) (term_of K N D b)) in
        Writes K N D i t (λ v. pick (joins o) (beside (condition_of K N D a v) (condition_of K N D b v)) (above t)) (λ v. never)
    writes-two {o} {a} {b} p = at-node (nbin o a b) p (two-weighs D o a b)

    pub writes-record : {cs : List ℕ} → N i ≡ nrec cs → let t = above (total (term_of K N D) none cs) in Writes K N D i t (λ v. above t) (λ v. never)
    unfolding quote condition ranges nodes gens
    writes-record {cs} p =
        let f = quotes (sems_of before cs D outside) 0 in
        let q : count (1 + nodes_f f) (gens_f f) ≡ above (beside none (count (nodes_f f) (gens_f f))) = same_count (omega arith) (omega arith) in
        at-node (nrec cs) p (scalar (fields (sems_of before cs D outside)) _ (q ∙ ap above (terms-count D cs 0 none (capped 0 0))) (λ v. refl) (λ v. refl))

    pub writes-app : {f : Fun} {cs : List ℕ} → N i ≡ napp f cs → let t = above (total (term_of K N D) none cs) in Writes K N D i t (λ v. above t) (λ v. never)
    unfolding nodes gens
    writes-app {f} {cs} p =
        let w = quotes (sems_of before cs D outside) 0 in
        let q : count (1 + nodes_f w) (gens_f w) ≡ above (beside none (count (nodes_f w) (gens_f w))) = same_count (omega arith) (omega arith) in
        at-node (napp f cs) p (plain-weighs (λ n. Nf.app f (quotes (sems_of before cs D outside) n)) _ (q ∙ ap above (terms-count D cs 0 none (capped 0 0))))

    pub writes-comp : {m : Monoid} {cs : List ℕ} {h : ℕ} → N i ≡ ncomp m cs h → D < levels → let t = above (beside (all_of K N (suc D) cs (idempotent m)) (term_of K N (suc D) h)) in
        Writes K N D i t (λ v. pick (gives_way m v) (beside (all_of K N (suc D) cs (v || idempotent m)) (condition_of K N (suc D) h v)) (above t)) (λ v. all_of K N (suc D) cs (v || idempotent m))
    writes-comp {m} {cs} {h} p l =
        writes-by unplaced outside
        (sem_is K N P unplaced i D outside ∙ ap (λ z. sem_of K N unplaced before z D outside) p ∙ pick-holds (ltb D levels) (comp_of N before m cs h D outside) nothing (lt→ltb D levels l))
        (comp-weighs m cs h D)

    -- "a 33rd level" is refused (23)
    pub writes-deep : {m : Monoid} {cs : List ℕ} {h : ℕ} → N i ≡ ncomp m cs h → levels ≤ D → Writes K N D i leaf (λ v. above leaf) (λ v. never)
    writes-deep {m} {cs} {h} p l =
        writes_nothing unplaced outside
        (sem_is K N P unplaced i D outside ∙ ap (λ z. sem_of K N unplaced before z D outside) p ∙ pick-fails D (comp_of N before m cs h D outside) nothing l)

    pub writes-table : {k : ℕ} → N i ≡ ntable k → Writes K N D i (count 4 1) (λ v. count 5 1) (λ v. count 2 1)
    unfolding quote condition ranges gives_way nodes gens
    writes-table {k} p = at-node (ntable k) p (record { term = refl; condition = λ v. refl; splice = λ v. refl })

  -- What a qualifier writes.
  at-qualifier : (x D : ℕ) (y : Node) → N x ≡ y → (v : Bool) → qualifier_of K N D x v ≡ clauses_count (qual_of before D outside v 0 y)
  at-qualifier x D y p v = sym (qualifier-any K N P unplaced x D outside v 0) ∙ ap (λ z. clauses_count (qual_of before D outside v 0 z)) p

  module _ (D : ℕ) {x c : ℕ} where
    pub generator-writes : N x ≡ ngen c → (v : Bool) → qualifier_of K N D x v ≡ splice_of K N D c v
    generator-writes p v = at-qualifier x D (ngen c) p v ∙ splice-any K N P unplaced c D outside v 0

    pub condition-writes : N x ≡ ncond c → (v : Bool) → qualifier_of K N D x v ≡ condition_of K N D c v
    condition-writes p v = at-qualifier x D (ncond c) p v ∙ condition-any K N P unplaced c D outside v 0

    pub binding-writes : N x ≡ nbind c → (v : Bool) → qualifier_of K N D x v ≡ none
    unfolding nodes gens
    binding-writes p v = at-qualifier x D (nbind c) p v
