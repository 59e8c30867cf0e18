-- What a node comes to depends on the nodes up to it alone.
use mathlib.Core.Path.{◌≡◌, refl, ap, ap₂, fun_ext, ◌∙◌}
use mathlib.Core.List.{List, [], ◌∷◌}
use mathlib.Core.Bool.{Bool, ◌||◌}
use Prim.Native.Nat.{ℕ, zero, suc, ◌+◌, ◌<◌, ◌≤◌}
use native.Mathlib.Omega.{arith}
use lib.Dec.{ltb}
use Rattle.spec_calculus.specs.Lists.{pick}
use Rattle.spec_calculus.specs.Syntax.{Collection}
use Rattle.spec_normal_form.specs.Form.{◌⊕◌, gens_c}
use Rattle.spec_normal_form.specs.Form as Nf
use Rattle.spec_normal_form.specs.Normal.{Sem, Sems, fields, nested, plain, scons, nothing, quote, idempotent, condition, ranges, part, binary, applied}
use Rattle.front_theory.specs.NodeTable.{Node, Nodes, nnum, ntruth, nname, nfield, nrec, nbin, nnegate, napp, ncomp, ntable, ngen, nbind, ncond, nbad, Below, Inside, PostOrder}
use Rattle.front_theory.specs.NodeForms.{Env, enter, outside, Offsets, At, bound_of, qual_of, clauses_of, sems_of, levels, sem_of, sem_at, sem}
use Rattle.front_measure.specs.Measure.{clauses_count, unplaced, qualifier_of}

-- readings that are the same for the nodes before i
abbrev Same : ℕ → At → At → Type 0
Same i A B = (j : ℕ) → j < i → A j ≡ B j

module _ (A B : At) where
  bound-agree : (off : Offsets) (x d : ℕ) (e : Env) (y : Node) → Inside x y → Same x A B → bound_of off A x d e y ≡ bound_of off B x d e y
  bound-agree off x d e (nbind c) p h = ap (λ (a : ℕ → Env → Sem). a (suc d) e) (h c p)
  bound-agree off x d e (ngen c) p h = ap (λ (a : ℕ → Env → Sem). (ranges (a (suc d) e) (e d).flag (off x (e d).flag (e d).base)).head) (h c p)
  bound-agree off x d e (nnum z) p h = refl
  bound-agree off x d e (ntruth b) p h = refl
  bound-agree off x d e (nname y k) p h = refl
  bound-agree off x d e (nfield i c) p h = refl
  bound-agree off x d e (nrec cs) p h = refl
  bound-agree off x d e (napp f cs) p h = refl
  bound-agree off x d e (nbin o a b) p h = refl
  bound-agree off x d e (nnegate c) p h = refl
  bound-agree off x d e (ncomp m cs k) p h = refl
  bound-agree off x d e (ntable k) p h = refl
  bound-agree off x d e (ncond c) p h = refl
  bound-agree off x d e nbad p h = refl

  qual-agree : (x D : ℕ) (e : Env) (v : Bool) (n : ℕ) (y : Node) → Inside x y → Same x A B → qual_of A D e v n y ≡ qual_of B D e v n y
  qual-agree x D e v n (ngen c) p h = ap (λ (a : ℕ → Env → Sem). (ranges (a D e) v n).clauses) (h c p)
  qual-agree x D e v n (ncond c) p h = ap (λ (a : ℕ → Env → Sem). condition (a D e) v n) (h c p)
  qual-agree x D e v n (nbind c) p h = refl
  qual-agree x D e v n (nnum z) p h = refl
  qual-agree x D e v n (ntruth b) p h = refl
  qual-agree x D e v n (nname y k) p h = refl
  qual-agree x D e v n (nfield i c) p h = refl
  qual-agree x D e v n (nrec cs) p h = refl
  qual-agree x D e v n (napp f cs) p h = refl
  qual-agree x D e v n (nbin o a b) p h = refl
  qual-agree x D e v n (nnegate c) p h = refl
  qual-agree x D e v n (ncomp m cs k) p h = refl
  qual-agree x D e v n (ntable k) p h = refl
  qual-agree x D e v n nbad p h = refl

  sems-agree : (i : ℕ) → Same i A B → (cs : List ℕ) → Below i cs → (D : ℕ) (e : Env) → sems_of A cs D e ≡ sems_of B cs D e
  unfolding sems_of Below
  sems-agree i h [] b D e = refl
  sems-agree i h (c ∷ cs) b D e = ap₂ (λ (a : ℕ → Env → Sem) (q : Sems). scons (a D e) q) (h c b.0) (sems-agree i h cs b.1 D e)

module _ (K : ℕ → Collection) (N M : Nodes) (P : PostOrder N) (l : ℕ) (same : (j : ℕ) → j < l → N j ≡ M j) (off : Offsets) where
  module _ (A B : At) (i : ℕ) (below : i ≤ l) (h : Same i A B) where
    clauses-agree : (cs : List ℕ) → Below i cs → (D : ℕ) (e : Env) (v : Bool) (n : ℕ) → clauses_of N A D e v n cs ≡ clauses_of M B D e v n cs
    unfolding clauses_of Below
    clauses-agree [] b D e v n = refl
    clauses-agree (c ∷ cs) b D e v n =
        let p : qual_of A D e v n (N c) ≡ qual_of B D e v n (M c) = qual-agree A B c D e v n (N c) (P c) (λ j k. h j (omega (arith, b.0, k))) ∙ ap (qual_of B D e v n) (same c (omega (arith, b.0))) in
        ap₂ (λ w q. w ⊕ q) p (ap (λ w. clauses_of N A D e v (n + gens_c w) cs) p ∙ clauses-agree cs b.1 D e v (n + gens_c (qual_of B D e v n (M c))))

    -- one node
    sem-agree : (y : Node) → Inside i y → (D : ℕ) (e : Env) → sem_of K N off A y D e ≡ sem_of K M off B y D e
    sem-agree (nnum z) p D e = refl
    sem-agree (ntruth b) p D e = refl
    sem-agree (nname x d) p D e =
        ap (λ u. pick (ltb d D) u nothing) (bound-agree A B off x d e (N x) (P x) (λ j k. h j (omega (arith, p, k))) ∙ ap (bound_of off B x d e) (same x (omega (arith, p))))
    sem-agree (nfield k c) p D e = ap (λ (a : ℕ → Env → Sem). part k (a D e)) (h c p)
    sem-agree (nrec cs) p D e = ap fields (sems-agree A B i h cs p D e)
    sem-agree (napp f cs) p D e = ap (applied f) (sems-agree A B i h cs p D e)
    sem-agree (nbin o a b) p D e = ap₂ (λ (x y : ℕ → Env → Sem). binary o (x D e) (y D e)) (h a p.0) (h b p.1)
    sem-agree (nnegate c) p D e = ap (λ (a : ℕ → Env → Sem). plain (λ n. Nf.negate (quote (a D e) n))) (h c p)
    sem-agree (ncomp m cs k) p D e =
        let x = idempotent m in
        ap (λ u. pick (ltb D levels) u nothing) (ap₂ (nested m)
        (fun_ext λ b. fun_ext λ n. clauses-agree cs p.0 (suc D) (enter D n (b || x) e) (b || x) n)
        (fun_ext λ b. fun_ext λ n. ap (λ (a : ℕ → Env → Sem). a (suc D) (enter D n (b || x) e)) (h k p.1)))
    sem-agree (ntable k) p D e = refl
    sem-agree (ngen c) p D e = refl
    sem-agree (nbind c) p D e = refl
    sem-agree (ncond c) p D e = refl
    sem-agree nbad p D e = refl

  at_agree : (f i : ℕ) → i < l → sem_at K N off f i ≡ sem_at K M off f i
  unfolding sem_at
  at_agree zero i k = fun_ext λ D. fun_ext λ e. refl
  at_agree (suc f) i k = fun_ext λ D. fun_ext λ e.
      sem-agree (λ j. sem_at K N off f j) (λ j. sem_at K M off f j) i (omega arith) (λ j q. at_agree f j (omega (arith, k, q))) (N i) (P i) D e
      ∙ ap (λ y. sem_of K M off (λ j. sem_at K M off f j) y D e) (same i k)

  -- Tables with the same first l nodes: each of those comes to the same.
  pub node-agree : (i D : ℕ) (e : Env) → i < l → sem K N off i D e ≡ sem K M off i D e
  unfolding sem
  node-agree i D e k = ap (λ (a : ℕ → Env → Sem). a D e) (at_agree (suc i) i k)

-- And a qualifier writes as much.
module _ (K : ℕ → Collection) (N M : Nodes) (P : PostOrder N) (l : ℕ) (same : (j : ℕ) → j < l → N j ≡ M j) where
  pub qualifier-agree : (D x : ℕ) (v : Bool) → x < l → qualifier_of K N D x v ≡ qualifier_of K M D x v
  unfolding qualifier_of
  qualifier-agree D x v k = ap clauses_count
      (qual-agree (λ j. sem_at K N unplaced x j) (λ j. sem_at K M unplaced x j) x D outside v 0 (N x) (P x) (λ j q. at_agree K N M P l same unplaced x j (omega (arith, k, q)))
      ∙ ap (qual_of (λ j. sem_at K M unplaced x j) D outside v 0) (same x k))
