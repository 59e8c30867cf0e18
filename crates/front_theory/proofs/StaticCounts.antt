-- How many generators, nodes and words are written depends on the node, its depth and the way it is written, not on any
-- environment, offset or number: the comparison of `Comparison`, through the view that tells nothing apart.
use mathlib.Core.Path.{◌≡◌, refl, ap}
use mathlib.Core.Bool.{Bool, false}
use Prim.Native.Nat.{ℕ, suc, ◌<◌, ◌≤◌}
use native.Mathlib.Omega.{arith}
use Rattle.spec_calculus.specs.Syntax.{Collection}
use Rattle.spec_normal_form.specs.Form.{gens_c}
use Rattle.spec_normal_form.specs.Normal.{quote, condition, ranges}
use Rattle.front_theory.specs.NodeTable.{Nodes, PostOrder}
use Rattle.front_theory.specs.NodeForms.{Env, outside, Offsets, At, qual_of, sem_at, sem, count_of}
use Rattle.front_theory.proofs.FormCounts.{Counts, counts, counts_c}
use Rattle.front_theory.proofs.Comparison.{View, Near, alike-counts, alike-counts_c, quote-near, condition-near, ranges-clauses, qual-near, at-near}

abbrev pub blind : View
blind = record { number = λ n. 0; flag = λ b. false; more = λ n j k e. refl; joined = λ b c x e. refl }

module _ (K : ℕ → Collection) (N : Nodes) (P : PostOrder N) where
  -- any two fuels, any two tables of offsets, any two environments
  at_same : (off off' : Offsets) (f g i : ℕ) → i < f → i < g → (D : ℕ) (e e' : Env) → Near blind (sem_at K N off f i D e) (sem_at K N off' g i D e')
  at_same off off' f g i l k D e e' = at-near K N P blind off off' (λ x b c n j v p. refl) f g i l k D e e' (λ d m. (refl, refl))

  pub sem_same : (off off' : Offsets) (i D : ℕ) (e e' : Env) → Near blind (sem K N off i D e) (sem K N off' i D e')
  unfolding sem
  sem_same off off' i D e e' = at_same off off' (suc i) (suc i) i (omega arith) (omega arith) D e e'

  -- The size of node i written as a term, as a condition and as a generator's term.
  pub term-size : (off off' : Offsets) (i D : ℕ) (e e' : Env) (n j : ℕ) → counts (quote (sem K N off i D e) n) ≡ counts (quote (sem K N off' i D e') j)
  term-size off off' i D e e' n j = alike-counts blind (quote (sem K N off i D e) n) (quote (sem K N off' i D e') j) (quote-near blind (sem K N off i D e) (sem K N off' i D e') (sem_same off off' i D e e') n j refl)

  pub condition-size : (off off' : Offsets) (i D : ℕ) (e e' : Env) (v : Bool) (n j : ℕ) → counts_c (condition (sem K N off i D e) v n) ≡ counts_c (condition (sem K N off' i D e') v j)
  condition-size off off' i D e e' v n j =
      alike-counts_c blind (condition (sem K N off i D e) v n) (condition (sem K N off' i D e') v j) (condition-near blind (sem K N off i D e) (sem K N off' i D e') (sem_same off off' i D e e') v n j refl)

  pub ranges-size : (off off' : Offsets) (i D : ℕ) (e e' : Env) (v : Bool) (n j : ℕ) → counts_c (ranges (sem K N off i D e) v n).clauses ≡ counts_c (ranges (sem K N off' i D e') v j).clauses
  ranges-size off off' i D e e' v n j =
      alike-counts_c blind (ranges (sem K N off i D e) v n).clauses (ranges (sem K N off' i D e') v j).clauses (ranges-clauses blind (sem K N off i D e) (sem K N off' i D e') (sem_same off off' i D e e') v n j refl)

  -- The size of a qualifier; so each has its count of generators.
  pub qual-size : (off off' : Offsets) (f g x : ℕ) → x ≤ f → x ≤ g → (D : ℕ) (e e' : Env) (v : Bool) (n j : ℕ)
      → counts_c (qual_of (λ k. sem_at K N off f k) D e v n (N x)) ≡ counts_c (qual_of (λ k. sem_at K N off' g k) D e' v j (N x))
  qual-size off off' f g x l m D e e' v n j =
      let A : At = λ k. sem_at K N off f k in
      let B : At = λ k. sem_at K N off' g k in
      alike-counts_c blind (qual_of A D e v n (N x)) (qual_of B D e' v j (N x))
      (qual-near blind A B x D e e' v n j (N x) (λ c p a u u' E. at_same off off' f g c (omega (arith, l, p)) (omega (arith, m, p)) a u u') (λ d k. (refl, refl)) refl (P x))

  pub qual-count : (off : Offsets) (f x : ℕ) → x ≤ f → (D : ℕ) (e : Env) (v : Bool) (n : ℕ) → gens_c (qual_of (λ j. sem_at K N off f j) D e v n (N x)) ≡ count_of K N x D v
  qual-count off f x l D e v n = ap (λ (a : Counts). a.generators) (qual-size off (λ y b k. k) f x x l (omega arith) D e outside v n 0)
