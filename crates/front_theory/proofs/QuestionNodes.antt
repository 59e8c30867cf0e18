-- A table that holds a question: each node comes to what its term comes to, up to what is seen of generator numbers.
use mathlib.Core.Path.{◌≡◌, refl, sym, ap, subst, ◌∙◌}
use mathlib.Core.Bool.{Bool, true, false, ◌||◌}
use mathlib.Core.List.{List, [], ◌∷◌}
use Prim.Native.Nat.{ℕ, zero, suc, ◌+◌, ◌<◌, ◌≤◌}
use native.Mathlib.Omega.{arith}
use lib.Dec.{eqb, ltb, lt→ltb}
use lib.Dec as De
use Rattle.spec_calculus.specs.Lists.{pick, upd}
use Rattle.spec_calculus.specs.Syntax.{Collection, Term, Terms, Quals, num, truth, name, field, rec, bin, negate, app, comp, table, tnil, tcons, qnil, gen, bind, cond, Question, as_term}
use Rattle.spec_normal_form.specs.Form.{Clauses, ◌⊕◌, gens, gens_c, as_form}
use Rattle.spec_normal_form.specs.Form as Nf
use Rattle.spec_normal_form.specs.Normal.{Sem, nothing, quote, idempotent, condition, ranges, before, SemEnv, norm, norms, walk, nowhere, normal}
use Rattle.spec_normal_form.proofs.WriteOut.{normal-is-quote}
use Rattle.front_theory.specs.NodeTable.{Node, Nodes, nnum, ntruth, nname, nfield, nrec, nbin, nnegate, ncomp, ntable, ngen, nbind, ncond, Below, Inside, PostOrder, qualifiers}
use Rattle.front_theory.specs.NodeForms.{Entry, Env, enter, outside, Offsets, At, bound_of, qual_of, clauses_of, sems_of, comp_of, levels, sem_of, sem_at, sem, count_of}
use Rattle.front_theory.specs.QuestionNodes.{Slots, slot, no_names, first_of, rest_of, behind, Holds, HoldsL, HoldsQ, PlacedQ, Placed}
use Rattle.front_theory.proofs.FormCounts.{Counts, counts}
use Rattle.front_theory.proofs.Renumbering.{renumber, renumber_c}
use Rattle.front_theory.proofs.Comparison.{View, seen, Close, SameClauses, Near, NearL, alike-counts, alike-counts_c, after_c, append-near, quote-near, condition-near, ranges-clauses, ranges-head, plain-near, part-near, binary-near, negate-near, fields-near, nested-near, table-near}
use Rattle.front_theory.proofs.Locality.{agree-enter, at-enter, bound-local}
use Rattle.front_theory.proofs.StaticCounts.{qual-count}
use Rattle.front_theory.specs.NodeTable.{napp}
use Rattle.front_theory.proofs.Comparison.{applied-near}

module _ (K : ℕ → Collection) (N : Nodes) (P : PostOrder N) (dep : ℕ → ℕ) (off : Offsets) (ρ : ℕ → ℕ) (more : (n j k : ℕ) → ρ n ≡ ρ j → ρ (n + k) ≡ ρ (j + k)) (O : Placed ρ K N dep off) where
  abbrev pub view : View
  view = seen ρ more

  abbrev pub up_to : ℕ → At
  up_to f = λ j. sem_at K N off f j

  -- What the environment stands for: the qualifier that binds a name comes to what the name comes to.
  abbrev pub Fits : SemEnv → Env → ℕ → Slots → Type 0
  Fits δ e D S = (x d : ℕ) → (S x).level ≡ suc d → (d < D) × ((f : ℕ) → (S x).by ≤ f → Near view (bound_of off (up_to f) (S x).by d e (N (S x).by)) (δ x))

  fits-enter : (δ : SemEnv) (e : Env) (D : ℕ) (S : Slots) (n : ℕ) (v : Bool) → Fits δ e D S → Fits δ (enter D n v e) (suc D) S
  fits-enter δ e D S n v F x d s =
      let p = F x d s in
      (omega (arith, p.0), λ f l. subst (λ u. Near view u (δ x)) (sym (bound-local K N P off f (S x).by d l (enter D n v e) e (λ a m. agree-enter D n v e a (omega (arith, m, p.0))))) (p.1 f l))

  fits-upd : (δ : SemEnv) (e : Env) (D : ℕ) (S : Slots) (x y : ℕ) (u : Sem) → Fits δ e (suc D) S → ((f : ℕ) → y ≤ f → Near view (bound_of off (up_to f) y D e (N y)) u) → Fits (upd x u δ) e (suc D) (upd x (slot y D) S)
  unfolding upd
  fits-upd δ e D S x y u F h z d = go (eqb x z) refl
    where
      go : (b : Bool) → eqb x z ≡ b → (upd x (slot y D) S z).level ≡ suc d
          → (d < suc D) × ((f : ℕ) → (upd x (slot y D) S z).by ≤ f → Near view (bound_of off (up_to f) (upd x (slot y D) S z).by d e (N (upd x (slot y D) S z).by)) (upd x u δ z))
      go true p = rw (p, upd) (λ s. let q : D ≡ d = omega (arith, s) in
          (omega (arith, s), λ f l. subst (λ k. Near view (bound_of off (up_to f) y k e (N y)) u) q (h f l)))
      go false p = rw (p, upd) (λ s. F z d s)

  -- a test that holds
  pick-holds : (b : Bool) (d u : Sem) → De.T b → Near view d u → Near view (pick b d nothing) u
  unfolding pick
  pick-holds true d u t s = s
  pick-holds false d u t s = absurd t

  at-step : (i D : ℕ) (e : Env) (u : Sem) (y : Node) → N i ≡ y → ((f : ℕ) → i ≤ f → Near view (sem_of K N off (up_to f) y D e) u) → (f : ℕ) → i < f → Near view (sem_at K N off f i D e) u
  unfolding sem_at
  at-step i D e u y p h zero l = absurd (omega (arith, l))
  at-step i D e u y p h (suc f) l = subst (λ z. Near view (sem_of K N off (up_to f) z D e) u) (sym p) (h f (omega (arith, l)))

  -- the copy of the comprehension at depth D in which we stand
  abbrev pub Open : Env → ℕ → ℕ → Bool → Type 0
  Open e D n v = e D ≡ record { base = n; flag = v }

  gen-bound : (x c D : ℕ) (e : Env) (n j : ℕ) (v : Bool) (u : Sem) → N x ≡ ngen c → c < x → Open e D n v → Close view (off x v n) j → ((f : ℕ) → c < f → Near view (sem_at K N off f c (suc D) e) u)
      → (f : ℕ) → x ≤ f → Near view (bound_of off (up_to f) x D e (N x)) (ranges u v j).head
  gen-bound x c D e n j v u p l o q h f k =
      let a = sem_at K N off f c (suc D) e in
      subst (λ y. Near view (bound_of off (up_to f) x D e y) (ranges u v j).head) (sym p)
      (subst (λ (r : Entry). Near view (ranges a r.flag (off x r.flag r.base)).head (ranges u v j).head) (sym o)
      (ranges-head view a u (h f (omega (arith, l, k))) v v (off x v n) j refl q))

  bind-bound : (x c D : ℕ) (e : Env) (u : Sem) → N x ≡ nbind c → c < x → ((f : ℕ) → c < f → Near view (sem_at K N off f c (suc D) e) u) → (f : ℕ) → x ≤ f → Near view (bound_of off (up_to f) x D e (N x)) u
  bind-bound x c D e u p l h f k = subst (λ y. Near view (bound_of off (up_to f) x D e y) u) (sym p) (h f (omega (arith, l, k)))

  -- the first qualifier, then the others
  cons-clauses : (f x : ℕ) (cs ds : List ℕ) (D : ℕ) (e : Env) (v : Bool) (n : ℕ) (w r : Clauses) → cs ≡ x ∷ ds → SameClauses view (qual_of (up_to f) D e v n (N x)) w
      → SameClauses view (clauses_of N (up_to f) D e v (n + gens_c (qual_of (up_to f) D e v n (N x))) ds) r → SameClauses view (clauses_of N (up_to f) D e v n cs) (w ⊕ r)
  unfolding clauses_of
  cons-clauses f x cs ds D e v n w r p q h =
      let a = qual_of (up_to f) D e v n (N x) in
      ap (λ l. renumber_c ρ (clauses_of N (up_to f) D e v n l)) p ∙ append-near view a (clauses_of N (up_to f) D e v (n + gens_c a) ds) w r q h

  bind-clauses : (f x c : ℕ) (cs ds : List ℕ) (D : ℕ) (e : Env) (v : Bool) (n : ℕ) → cs ≡ x ∷ ds → N x ≡ nbind c → clauses_of N (up_to f) D e v n cs ≡ clauses_of N (up_to f) D e v n ds
  unfolding clauses_of ◌⊕◌ gens
  bind-clauses f x c cs ds D e v n p q =
      ap (clauses_of N (up_to f) D e v n) p ∙ ap (λ y. let w = qual_of (up_to f) D e v n y in w ⊕ clauses_of N (up_to f) D e v (n + gens_c w) ds) q ∙ ap (λ a. clauses_of N (up_to f) D e v a ds) (omega arith)

  gen-clauses : (f x c D : ℕ) (e : Env) (v : Bool) (n j : ℕ) (u : Sem) → N x ≡ ngen c → Near view (sem_at K N off f c D e) u → Close view n j → SameClauses view (qual_of (up_to f) D e v n (N x)) (ranges u v j).clauses
  gen-clauses f x c D e v n j u p h q = ap (λ y. renumber_c ρ (qual_of (up_to f) D e v n y)) p ∙ ranges-clauses view (sem_at K N off f c D e) u h v n j q

  cond-clauses : (f x c D : ℕ) (e : Env) (v : Bool) (n j : ℕ) (u : Sem) → N x ≡ ncond c → Near view (sem_at K N off f c D e) u → Close view n j → SameClauses view (qual_of (up_to f) D e v n (N x)) (condition u v j)
  cond-clauses f x c D e v n j u p h q = ap (λ y. renumber_c ρ (qual_of (up_to f) D e v n y)) p ∙ condition-near view (sem_at K N off f c D e) u h v n j q

  -- the number behind the qualifier of node x: what the offsets count, and what `walk` counts
  further : (f x : ℕ) → x ≤ f → (D : ℕ) (e : Env) (v : Bool) (n₀ n j a : ℕ) (w : Clauses) → dep x ≡ D → Close view (n₀ + a) j → SameClauses view (qual_of (up_to f) D e v n (N x)) w
      → Close view (n₀ + (a + count_of K N x (dep x) v)) (j + gens_c w)
  further f x l D e v n₀ n j a w p q h =
      let c = count_of K N x (dep x) v in
      let r : c ≡ gens_c w = ap (λ d. count_of K N x d v) p ∙ sym (qual-count K N P off f x l D e v n) ∙ ap (λ (y : Counts). y.generators) (alike-counts_c view (qual_of (up_to f) D e v n (N x)) w h) in
      let s : n₀ + (a + c) ≡ (n₀ + a) + c = omega arith in
      ap ρ s ∙ more (n₀ + a) j c q ∙ ap (λ y. ρ (j + y)) r

  bind-further : (x c : ℕ) (v : Bool) (n₀ j a : ℕ) → N x ≡ nbind c → Close view (n₀ + a) j → Close view (n₀ + (a + count_of K N x (dep x) v)) j
  unfolding gens
  bind-further x c v n₀ j a p q =
      let r : count_of K N x (dep x) v ≡ 0 = ap (λ y. gens_c (qual_of (λ k. sem_at K N (λ z b n. n) x k) (dep x) outside v 0 y)) p in
      let s : n₀ + (a + count_of K N x (dep x) v) ≡ n₀ + a = omega (arith, r) in
      ap ρ s ∙ q

  -- what a node refers to stands before it
  inside : (i : ℕ) (y : Node) → N i ≡ y → Inside i y
  inside i y p = subst (Inside i) p (P i)

  mutual
    unfolding Holds norm clauses_of sems_of before behind Near PlacedQ Below

    -- Node i comes to what its term comes to.
    pub norm-at : (t : Term) (i D : ℕ) (S : Slots) → Holds N dep t i D S → (δ : SemEnv) (e : Env) → Fits δ e D S → (f : ℕ) → i < f → Near view (sem_at K N off f i D e) (norm K t δ)
    norm-at (num z) i D S H δ e F = at-step i D e (norm K (num z) δ) (nnum z) H (λ f l. plain-near view (λ n. Nf.num z) (λ n. Nf.num z) (λ n j q. refl))
    norm-at (truth b) i D S H δ e F = at-step i D e (norm K (truth b) δ) (ntruth b) H (λ f l. plain-near view (λ n. Nf.truth b) (λ n. Nf.truth b) (λ n j q. refl))
    norm-at (name x) i D S H δ e F = at-step i D e (norm K (name x) δ) (nname (S x).by H.0) H.1 (λ f l.
        let p = F x H.0 H.2 in
        let b : (S x).by < i = inside i (nname (S x).by H.0) H.1 in
        pick-holds (ltb H.0 D) (bound_of off (up_to f) (S x).by H.0 e (N (S x).by)) (δ x) (lt→ltb H.0 D p.0) (p.1 f (omega (arith, l, b))))
    norm-at (field k t) i D S H δ e F = at-step i D e (norm K (field k t) δ) (nfield k H.0) H.1 (λ f l.
        let b : H.0 < i = inside i (nfield k H.0) H.1 in
        part-near view k (sem_at K N off f H.0 D e) (norm K t δ) (norm-at t H.0 D S H.2 δ e F f (omega (arith, l, b))))
    norm-at (rec ts) i D S H δ e F = at-step i D e (norm K (rec ts) δ) (nrec H.0) H.1 (λ f l.
        fields-near view (sems_of (up_to f) H.0 D e) (norms K ts δ) (norms-at ts H.0 D S H.2 δ e F i (inside i (nrec H.0) H.1) f l))
    norm-at (app f ts) i D S H δ e F = at-step i D e (norm K (app f ts) δ) (napp f H.0) H.1 (λ g l.
        applied-near view f (sems_of (up_to g) H.0 D e) (norms K ts δ) (norms-at ts H.0 D S H.2 δ e F i (inside i (napp f H.0) H.1) g l))
    norm-at (bin o s t) i D S H δ e F = at-step i D e (norm K (bin o s t) δ) (nbin o H.0 H.1) H.2 (λ f l.
        let b : (H.0 < i) × (H.1 < i) = inside i (nbin o H.0 H.1) H.2 in
        binary-near view o (sem_at K N off f H.0 D e) (sem_at K N off f H.1 D e) (norm K s δ) (norm K t δ)
        (norm-at s H.0 D S H.3 δ e F f (omega (arith, l, b.0))) (norm-at t H.1 D S H.4 δ e F f (omega (arith, l, b.1))))
    norm-at (negate t) i D S H δ e F = at-step i D e (norm K (negate t) δ) (nnegate H.0) H.1 (λ f l.
        let b : H.0 < i = inside i (nnegate H.0) H.1 in
        negate-near view (sem_at K N off f H.0 D e) (norm K t δ) (norm-at t H.0 D S H.2 δ e F f (omega (arith, l, b))))
    norm-at (comp m qs h) i D S H δ e F = at-step i D e (norm K (comp m qs h) δ) (ncomp m H.0 H.1) H.2 (λ f l.
        let x = idempotent m in
        let b = inside i (ncomp m H.0 H.1) H.2 in
        let G = subst (λ y. PlacedQ ρ K N dep off (qualifiers y) (λ v. 0)) H.2 (O i) in
        let W : (v : Bool) (n j : ℕ) → Close view n j → SameClauses view (clauses_of N (up_to f) (suc D) (enter D n (v || x) e) (v || x) n H.0) (walk K qs (v || x) (λ ε. norm K h ε) δ j).clauses
        × Near view (sem_at K N off f H.1 (suc D) (enter D n (v || x) e)) (walk K qs (v || x) (λ ε. norm K h ε) δ j).head
        = λ v n j c. let z : n + 0 ≡ n = omega arith in
        walk_at qs H.0 D S (λ a. 0) H.4 G (v || x) (λ ε. norm K h ε) δ (enter D n (v || x) e) (fits-enter δ e D S n (v || x) F)
        n (at-enter D n (v || x) e) n j c (ap ρ z ∙ c) i b.0 f l (sem_at K N off f H.1 (suc D) (enter D n (v || x) e))
        (λ ε E. norm-at h H.1 (suc D) (behind qs H.0 D S) H.5 ε (enter D n (v || x) e) E f (omega (arith, l, b.1))) in
        pick-holds (ltb D levels) (comp_of N (up_to f) m H.0 H.1 D e) (norm K (comp m qs h) δ) (lt→ltb D levels H.3)
        (nested-near view m (λ v n. clauses_of N (up_to f) (suc D) (enter D n (v || x) e) (v || x) n H.0) (λ v n. (walk K qs (v || x) (λ ε. norm K h ε) δ n).clauses)
        (λ v n. sem_at K N off f H.1 (suc D) (enter D n (v || x) e)) (λ v n. (walk K qs (v || x) (λ ε. norm K h ε) δ n).head)
        (λ v n j c. (W v n j c).0)
        (λ v u n j a c. subst (λ y. Near view (sem_at K N off f H.1 (suc D) (enter D n (v || x) e)) (walk K qs (y || x) (λ ε. norm K h ε) δ j).head) a (W v n j c).1)))
    norm-at (table k) i D S H δ e F = at-step i D e (norm K (table k) δ) (ntable k) H (λ f l. table-near view (K k) k)

    norms-at : (ts : Terms) (cs : List ℕ) (D : ℕ) (S : Slots) → HoldsL N dep ts cs D S → (δ : SemEnv) (e : Env) → Fits δ e D S → (i : ℕ) → Below i cs → (f : ℕ) → i ≤ f → NearL view (sems_of (up_to f) cs D e) (norms K ts δ)
    norms-at tnil cs D S H δ e F i b f l = rw H
    norms-at (tcons t ts) cs D S H δ e F i b f l =
        let b' : Below i (H.0 ∷ H.1) = subst (Below i) H.2 b in
        subst (λ a. NearL view (sems_of (up_to f) a D e) (norms K (tcons t ts) δ)) (sym H.2)
        (norm K t δ, norms K ts δ, norm-at t H.0 D S H.3 δ e F f (omega (arith, l, b'.0)), norms-at ts H.1 D S H.4 δ e F i b'.1 f l, refl)

    -- The qualifiers write what `walk` writes, and behind them stands what `walk` puts there. n₀ is the copy's first number.
    pub walk_at : (qs : Quals) (cs : List ℕ) (D : ℕ) (S : Slots) (g : Bool → ℕ) → HoldsQ N dep qs cs D S → PlacedQ ρ K N dep off cs g → (v : Bool) (hd : SemEnv → Sem) (δ : SemEnv) (e : Env) → Fits δ e (suc D) S
        → (n₀ : ℕ) → Open e D n₀ v → (n j : ℕ) → Close view n j → Close view (n₀ + g v) j → (i : ℕ) → Below i cs → (f : ℕ) → i ≤ f
        → (d : Sem) → ((ε : SemEnv) → Fits ε e (suc D) (behind qs cs D S) → Near view d (hd ε))
        → SameClauses view (clauses_of N (up_to f) (suc D) e v n cs) (walk K qs v hd δ j).clauses × Near view d (walk K qs v hd δ j).head
    walk_at qnil cs D S g H G v hd δ e F n₀ o n j c q i b f l d h = (ap (λ a. renumber_c ρ (clauses_of N (up_to f) (suc D) e v n a)) H, h δ F)
    walk_at (gen x t qs) cs D S g H G v hd δ e F n₀ o n j c q i b f l d h =
        let y = first_of cs in
        let G' : PlacedQ ρ K N dep off (y ∷ rest_of cs) g = subst (λ a. PlacedQ ρ K N dep off a g) H.1 G in
        let b' : Below i (y ∷ rest_of cs) = subst (Below i) H.1 b in
        let s : H.0 < y = inside y (ngen H.0) H.2 in
        let T : (a : ℕ) → H.0 < a → Near view (sem_at K N off a H.0 (suc D) e) (norm K t δ) = λ a k. norm-at t H.0 (suc D) S H.4 δ e F a k in
        let r = ranges (norm K t δ) v j in
        let a = qual_of (up_to f) (suc D) e v n (N y) in
        let p = gen-clauses f y H.0 (suc D) e v n j (norm K t δ) H.2 (T f (omega (arith, l, s, b'.0))) c in
        let k = walk_at qs (rest_of cs) D (upd x (slot y D) S) (λ u. g u + count_of K N y (dep y) u) H.5 G'.1 v hd (upd x r.head δ) e
        (fits-upd δ e D S x y r.head F (gen-bound y H.0 D e n₀ j v (norm K t δ) H.2 s o (G'.0 H.0 H.2 v n₀ ∙ q) T))
        n₀ o (n + gens_c a) (j + gens_c r.clauses) (after_c view n j a r.clauses c p) (further f y (omega (arith, l, b'.0)) (suc D) e v n₀ n j (g v) r.clauses H.3 q p) i b'.1 f l d h in
        (cons-clauses f y cs (rest_of cs) (suc D) e v n r.clauses (walk K qs v hd (upd x r.head δ) (j + gens_c r.clauses)).clauses H.1 p k.0, k.1)
    walk_at (bind x t qs) cs D S g H G v hd δ e F n₀ o n j c q i b f l d h =
        let y = first_of cs in
        let G' : PlacedQ ρ K N dep off (y ∷ rest_of cs) g = subst (λ a. PlacedQ ρ K N dep off a g) H.1 G in
        let b' : Below i (y ∷ rest_of cs) = subst (Below i) H.1 b in
        let T : (a : ℕ) → H.0 < a → Near view (sem_at K N off a H.0 (suc D) e) (norm K t δ) = λ a k. norm-at t H.0 (suc D) S H.4 δ e F a k in
        let k = walk_at qs (rest_of cs) D (upd x (slot y D) S) (λ u. g u + count_of K N y (dep y) u) H.5 G'.1 v hd (upd x (norm K t δ) δ) e
        (fits-upd δ e D S x y (norm K t δ) F (bind-bound y H.0 D e (norm K t δ) H.2 (inside y (nbind H.0) H.2) T))
        n₀ o n j c (bind-further y H.0 v n₀ j (g v) H.2 q) i b'.1 f l d h in
        (ap (renumber_c ρ) (bind-clauses f y H.0 cs (rest_of cs) (suc D) e v n H.1 H.2) ∙ k.0, k.1)
    walk_at (cond t qs) cs D S g H G v hd δ e F n₀ o n j c q i b f l d h =
        let y = first_of cs in
        let G' : PlacedQ ρ K N dep off (y ∷ rest_of cs) g = subst (λ a. PlacedQ ρ K N dep off a g) H.1 G in
        let b' : Below i (y ∷ rest_of cs) = subst (Below i) H.1 b in
        let s : H.0 < y = inside y (ncond H.0) H.2 in
        let a = qual_of (up_to f) (suc D) e v n (N y) in
        let w = condition (norm K t δ) v j in
        let p = cond-clauses f y H.0 (suc D) e v n j (norm K t δ) H.2 (norm-at t H.0 (suc D) S H.4 δ e F f (omega (arith, l, s, b'.0))) c in
        let k = walk_at qs (rest_of cs) D S (λ u. g u + count_of K N y (dep y) u) H.5 G'.1 v hd δ e F
        n₀ o (n + gens_c a) (j + gens_c w) (after_c view n j a w c p) (further f y (omega (arith, l, b'.0)) (suc D) e v n₀ n j (g v) w H.3 q p) i b'.1 f l d h in
        (cons-clauses f y cs (rest_of cs) (suc D) e v n w (walk K qs v hd δ (j + gens_c w)).clauses H.1 p k.0, k.1)

  -- The root of a table that holds a question writes its normal form, up to what is seen of generator numbers.
  pub root : (q : Question) (i : ℕ) (e : Env) → Holds N dep (as_term q) i 0 no_names → renumber ρ (quote (sem K N off i 0 e) 0) ≡ renumber ρ (as_form (normal K q))
  unfolding sem
  root q i e H =
      let t = as_term q in
      quote-near view (sem_at K N off (suc i) i 0 e) (norm K t nowhere) (norm-at t i 0 no_names H nowhere e (λ x d s. absurd (omega (arith, s))) (suc i) (omega arith)) 0 0 refl
      ∙ sym (ap (renumber ρ) (normal-is-quote K q))

-- Under any offsets it has as many generators, nodes and words.
unseen : (K : ℕ → Collection) (N : Nodes) (dep : ℕ → ℕ) (off : Offsets) (cs : List ℕ) (g : Bool → ℕ) → PlacedQ (λ n. 0) K N dep off cs g
unfolding PlacedQ
unseen K N dep off [] g = tt
unseen K N dep off (c ∷ cs) g = (λ a p v n. refl, unseen K N dep off cs (λ v. g v + count_of K N c (dep c) v))

pub root-counts : (K : ℕ → Collection) (N : Nodes) → PostOrder N → (dep : ℕ → ℕ) (off : Offsets) (q : Question) (i : ℕ) (e : Env) → Holds N dep (as_term q) i 0 no_names
    → counts (quote (sem K N off i 0 e) 0) ≡ counts (as_form (normal K q))
root-counts K N P dep off q i e H =
    let ρ : ℕ → ℕ = λ n. 0 in
    alike-counts (seen ρ (λ n j k p. refl)) (quote (sem K N off i 0 e) 0) (as_form (normal K q)) (root K N P dep off ρ (λ n j k p. refl) (λ j. unseen K N dep off (qualifiers (N j)) (λ v. 0)) q i e H)
