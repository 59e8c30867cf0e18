-- How much a node writes is the same in any environment, under any offsets, from any number on.
use mathlib.Core.Path.{◌≡◌, refl, sym, ap, ap₂, ◌∙◌}
use mathlib.Core.List.{List, [], ◌∷◌, ◌++◌}
use mathlib.Core.Bool.{Bool}
use Prim.Native.Nat.{ℕ, suc, ◌+◌, ◌≤◌}
use native.Mathlib.Omega.{arith}
use Rattle.spec_calculus.specs.Syntax.{Collection}
use Rattle.spec_normal_form.specs.Form.{Clauses, ◌⊕◌, gens, gens_c}
use Rattle.spec_normal_form.specs.Normal.{quote, condition, ranges}
use Rattle.spec_normal_form.specs.Size.{nodes, nodes_c}
use Rattle.front_theory.specs.NodeTable.{Nodes, PostOrder}
use Rattle.front_theory.specs.NodeForms.{Env, outside, Offsets, At, qual_of, clauses_of, sem_at, sem}
use Rattle.front_theory.specs.CappedOffsets.{limit}
use Rattle.front_theory.proofs.FormCounts.{Counts, counts-append}
use Rattle.front_theory.proofs.Comparison.{alike-counts_c, qual-near, at-near}
use Rattle.front_theory.proofs.StaticCounts.{blind, term-size, condition-size, ranges-size}
use Rattle.front_sizes.specs.declared.FormSize.{FormSize}
use Rattle.front_measure.specs.Measure.{count, form_count, clauses_count, beside, none, unplaced, term_of, condition_of, splice_of, qualifier_of, total}

-- what is kept of what is counted
abbrev kept : Counts → FormSize
kept a = count a.size a.generators

abbrev pub these : ℕ → ℕ → FormSize
these a g = record { size = a; gens = g }

pub same_count : {a b g h : ℕ} → a ≡ b → g ≡ h → these a g ≡ these b h
same_count p q = ap₂ these p q

module _ (K : ℕ → Collection) (N : Nodes) (P : PostOrder N) where
  pub term-any : (off : Offsets) (i D : ℕ) (e : Env) (n : ℕ) → form_count (quote (sem K N off i D e) n) ≡ term_of K N D i
  unfolding term_of
  term-any off i D e n = ap kept (term-size K N P off unplaced i D e outside n 0)

  pub condition-any : (off : Offsets) (i D : ℕ) (e : Env) (v : Bool) (n : ℕ) → clauses_count (condition (sem K N off i D e) v n) ≡ condition_of K N D i v
  unfolding condition_of
  condition-any off i D e v n = ap kept (condition-size K N P off unplaced i D e outside v n 0)

  pub splice-any : (off : Offsets) (i D : ℕ) (e : Env) (v : Bool) (n : ℕ) → clauses_count (ranges (sem K N off i D e) v n).clauses ≡ splice_of K N D i v
  unfolding splice_of
  splice-any off i D e v n = ap kept (ranges-size K N P off unplaced i D e outside v n 0)

  -- of a qualifier, whatever the fuel
  pub qualifier-any : (off : Offsets) (x D : ℕ) (e : Env) (v : Bool) (n : ℕ) → clauses_count (qual_of (sem K N off) D e v n (N x)) ≡ qualifier_of K N D x v
  unfolding sem qualifier_of
  qualifier-any off x D e v n =
      let A : At = sem K N off in
      let B : At = λ k. sem_at K N unplaced x k in
      ap kept (alike-counts_c blind (qual_of A D e v n (N x)) (qual_of B D outside v 0 (N x))
      (qual-near blind A B x D e outside v n 0 (N x)
      (λ c p a u u' E. at-near K N P blind off unplaced (λ y b d k j q r. refl) (suc c) x c (omega arith) p a u u' E) (λ d k. (refl, refl)) refl (P x)))

-- Sums counted to 513.
pub sum-assoc : (a b c : FormSize) → beside (beside a b) c ≡ beside a (beside b c)
sum-assoc a b c = same_count (omega arith) (omega arith)

-- at most 513 each
pub record Capped (a : FormSize) : Type 0 where
  pub size : a.size ≤ limit
  pub gens : a.gens ≤ limit

pub capped : (a g : ℕ) → Capped (count a g)
capped a g = record { size = omega arith; gens = omega arith }

pub beside_none : (a : FormSize) → Capped a → beside a none ≡ a
beside_none a h = same_count (omega (arith, h.size)) (omega (arith, h.gens))

pub count-sum : (a b g h : ℕ) → count (a + b) (g + h) ≡ beside (count a g) (count b h)
count-sum a b g h = same_count (omega arith) (omega arith)

pub clauses-sum : (w q : Clauses) → clauses_count (w ⊕ q) ≡ beside (clauses_count w) (clauses_count q)
clauses-sum w q = ap kept (counts-append w q) ∙ count-sum (nodes_c w) (nodes_c q) (gens_c w) (gens_c q)

pub total-append : (w : ℕ → FormSize) (g : FormSize) (cs ds : List ℕ) → total w g (cs ++ ds) ≡ total w (total w g cs) ds
unfolding total
total-append w g [] ds = refl
total-append w g (c ∷ cs) ds = total-append w (beside g (w c)) cs ds

-- what qualifiers write is what each of them writes, summed
module _ (K : ℕ → Collection) (N : Nodes) (P : PostOrder N) where
  behind : (off : Offsets) (cs : List ℕ) (D : ℕ) (e : Env) (v : Bool) (n : ℕ) (g : FormSize) → Capped g
      → beside g (clauses_count (clauses_of N (sem K N off) D e v n cs)) ≡ total (λ c. qualifier_of K N D c v) g cs
  unfolding clauses_of total gens nodes
  behind off [] D e v n g h = beside_none g h
  behind off (c ∷ cs) D e v n g h =
      let w = qual_of (sem K N off) D e v n (N c) in
      let q = clauses_of N (sem K N off) D e v (n + gens_c w) cs in
      let t = qualifier_of K N D c v in
      ap (beside g) (clauses-sum w q) ∙ sym (sum-assoc g (clauses_count w) (clauses_count q)) ∙ ap (λ a. beside (beside g a) (clauses_count q)) (qualifier-any K N P off c D e v n)
      ∙ behind off cs D e v (n + gens_c w) (beside g t) (capped (g.size + t.size) (g.gens + t.gens))

  pub qualifiers-any : (off : Offsets) (cs : List ℕ) (D : ℕ) (e : Env) (v : Bool) (n : ℕ) → clauses_count (clauses_of N (sem K N off) D e v n cs) ≡ total (λ c. qualifier_of K N D c v) none cs
  qualifiers-any off cs D e v n =
      let w = clauses_of N (sem K N off) D e v n cs in
      let p : clauses_count w ≡ beside none (clauses_count w) = same_count (omega arith) (omega arith) in
      p ∙ behind off cs D e v n none (capped 0 0)
