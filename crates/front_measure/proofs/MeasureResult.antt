-- What measuring is for: the generators are placed, the normal form that the writer will write is the question's, and its
-- size is known beforehand. Nodes behind the question's own are whatever the scratch held, so the table is cut there.
use mathlib.Core.Path.{◌≡◌, refl, sym, ap, ap₂, subst, ◌∙◌}
use mathlib.Core.List.{List, [], ◌∷◌, ◌++◌}
use mathlib.Core.Bool.{Bool, true, false}
use Prim.Native.Nat.{ℕ, zero, suc, ◌-◌, ◌<◌, ◌≤◌}
use native.Mathlib.Omega.{arith}
use lib.Dec.{ltb, leb}
use lib.ListN.{length}
use borrow.Author.Tests.{ltb-true, lt-ltb}
use Rattle.spec_calculus.specs.Lists.{pick, upd}
use Rattle.spec_calculus.specs.Syntax.{Collection, Term, Terms, Quals, num, truth, name, field, rec, bin, negate, app, comp, table, tnil, tcons, qnil, gen, bind, cond, Question, as_term}
use Rattle.spec_checks.specs.Scope.{names_hold}
use Rattle.spec_normal_form.specs.Form.{as_form}
use Rattle.spec_normal_form.specs.Normal.{quote, normal}
use Rattle.spec_normal_form.specs.Size.{nodes, size_fits}
use Rattle.front_theory.specs.NodeTable.{Node, Nodes, nnum, ntruth, nname, nfield, nrec, nbin, nnegate, napp, ncomp, ntable, ngen, nbind, ncond, nbad, Below, Inside, PostOrder, qualifiers}
use Rattle.front_theory.specs.NodeForms.{Env, Offsets, qual_of, sem}
use Rattle.front_theory.specs.QuestionNodes.{Slots, slot, no_names, first_of, rest_of, behind, Holds, HoldsL, HoldsQ, Placed}
use Rattle.front_theory.specs.CappedOffsets.{left, saturated}
use Rattle.front_theory.proofs.CappedOffsets.{written}
use Rattle.front_words.specs.NodeTree.{start_at}
use Rattle.front_sizes.specs.declared.FormSize.{FormSize}
use Rattle.front_sizes.specs.SizeWords.{place, term_count, condition_count, stored}
use Rattle.base_scratch.specs.Map.{most_nodes}
use Rattle.front_nodes.specs.NodeTable.{depth_at, nodes_of}
use Rattle.front_nodes.specs.Levels.{AllAt}
use Rattle.front_nodes.proofs.PostOrder.{by-pick, post-order}
use Rattle.front_measure.specs.Measure.{clauses_count, beside, none, term_of, qualifier_of, total, all_of, OffsetsQ}
use Rattle.front_measure.specs.MeasurableNodes.{qualifies, ends, row, Aligned, Arranged}
use Rattle.front_measure.specs.KeptSizes.{KeptSizes, MeasurePost}
use Rattle.front_measure.proofs.AnyEnvironment.{qualifier-any}
use Rattle.front_measure.proofs.NodeLocality.{node-agree, qualifier-agree}
use Rattle.front_measure.proofs.RootFits.{placed, root-fits}
use Rattle.front_measure.proofs.WeighExits.{ends_at, row-none, row_more}
use Rattle.front_measure.proofs.Frame.{table_same, depths-same, arranged-same, measured-same}

-- ---- the first n nodes of a table
abbrev pub cut : ℕ → Nodes → Nodes
cut n N i = pick (ltb i n) (N i) nbad

module _ (n : ℕ) (N : Nodes) where
  cut-same : (j : ℕ) → j < n → N j ≡ cut n N j
  unfolding pick
  cut-same j h = sym (ap (λ b. pick b (N j) nbad) (lt-ltb j n h))

  cut-order : PostOrder N → PostOrder (cut n N)
  cut-order P i = by-pick (Inside i) (ltb i n) (N i) nbad (λ t. P i) (λ t. tt)

  -- a question that the table holds is held by its first nodes; only the depths of these matter
  module _ (P : PostOrder N) (dep dep' : ℕ → ℕ) (depths : (j : ℕ) → j < n → dep' j ≡ dep j) where
    inside : (i : ℕ) (y : Node) → N i ≡ y → Inside i y
    inside i y p = subst (Inside i) p (P i)

    mutual
      unfolding Holds Below

      holds-cut : (t : Term) (i D : ℕ) (S : Slots) → i < n → Holds N dep t i D S → Holds (cut n N) dep' t i D S
      holds-cut (num z) i D S l H = sym (cut-same i l) ∙ H
      holds-cut (truth b) i D S l H = sym (cut-same i l) ∙ H
      holds-cut (name x) i D S l H = (H.0, sym (cut-same i l) ∙ H.1, H.2)
      holds-cut (field k t) i D S l H = (H.0, sym (cut-same i l) ∙ H.1, holds-cut t H.0 D S (omega (arith, l, inside i (nfield k H.0) H.1)) H.2)
      holds-cut (rec ts) i D S l H = (H.0, sym (cut-same i l) ∙ H.1, holds_l-cut ts H.0 D S i l (inside i (nrec H.0) H.1) H.2)
      holds-cut (app f ts) i D S l H = (H.0, sym (cut-same i l) ∙ H.1, holds_l-cut ts H.0 D S i l (inside i (napp f H.0) H.1) H.2)
      holds-cut (bin o s t) i D S l H =
          let b = inside i (nbin o H.0 H.1) H.2 in
          (H.0, H.1, sym (cut-same i l) ∙ H.2, holds-cut s H.0 D S (omega (arith, l, b.0)) H.3, holds-cut t H.1 D S (omega (arith, l, b.1)) H.4)
      holds-cut (negate t) i D S l H = (H.0, sym (cut-same i l) ∙ H.1, holds-cut t H.0 D S (omega (arith, l, inside i (nnegate H.0) H.1)) H.2)
      holds-cut (comp m qs h) i D S l H =
          let b = inside i (ncomp m H.0 H.1) H.2 in
          (H.0, H.1, sym (cut-same i l) ∙ H.2, H.3, holds_q-cut qs H.0 D S i l b.0 H.4, holds-cut h H.1 (suc D) (behind qs H.0 D S) (omega (arith, l, b.1)) H.5)
      holds-cut (table k) i D S l H = sym (cut-same i l) ∙ H

      holds_l-cut : (ts : Terms) (cs : List ℕ) (D : ℕ) (S : Slots) (i : ℕ) → i < n → Below i cs → HoldsL N dep ts cs D S → HoldsL (cut n N) dep' ts cs D S
      holds_l-cut tnil cs D S i l b H = H
      holds_l-cut (tcons t ts) cs D S i l b H =
          let b' : Below i (H.0 ∷ H.1) = subst (Below i) H.2 b in
          (H.0, H.1, H.2, holds-cut t H.0 D S (omega (arith, l, b'.0)) H.3, holds_l-cut ts H.1 D S i l b'.1 H.4)

      holds_q-cut : (qs : Quals) (cs : List ℕ) (D : ℕ) (S : Slots) (i : ℕ) → i < n → Below i cs → HoldsQ N dep qs cs D S → HoldsQ (cut n N) dep' qs cs D S
      holds_q-cut qnil cs D S i l b H = H
      holds_q-cut (gen x t qs) cs D S i l b H =
          let y = first_of cs in
          let b' : Below i (y ∷ rest_of cs) = subst (Below i) H.1 b in
          let k : y < n = omega (arith, l, b'.0) in
          (H.0, H.1, sym (cut-same y k) ∙ H.2, depths y k ∙ H.3, holds-cut t H.0 (suc D) S (omega (arith, k, inside y (ngen H.0) H.2)) H.4, holds_q-cut qs (rest_of cs) D (upd x (slot y D) S) i l b'.1 H.5)
      holds_q-cut (bind x t qs) cs D S i l b H =
          let y = first_of cs in
          let b' : Below i (y ∷ rest_of cs) = subst (Below i) H.1 b in
          let k : y < n = omega (arith, l, b'.0) in
          (H.0, H.1, sym (cut-same y k) ∙ H.2, depths y k ∙ H.3, holds-cut t H.0 (suc D) S (omega (arith, k, inside y (nbind H.0) H.2)) H.4, holds_q-cut qs (rest_of cs) D (upd x (slot y D) S) i l b'.1 H.5)
      holds_q-cut (cond t qs) cs D S i l b H =
          let y = first_of cs in
          let b' : Below i (y ∷ rest_of cs) = subst (Below i) H.1 b in
          let k : y < n = omega (arith, l, b'.0) in
          (H.0, H.1, sym (cut-same y k) ∙ H.2, depths y k ∙ H.3, holds-cut t H.0 (suc D) S (omega (arith, k, inside y (ncond H.0) H.2)) H.4, holds_q-cut qs (rest_of cs) D S i l b'.1 H.5)

-- ---- offsets
module _ (K : ℕ → Collection) (N : Nodes) (dep : ℕ → ℕ) (off : ℕ → Bool → ℕ) where
  offsets-last : (d c : ℕ) (cs : List ℕ) (g : Bool → FormSize) → AllAt dep d cs → OffsetsQ K N dep off cs g → ((v : Bool) → off c v ≡ (total (λ x. qualifier_of K N d x v) (g v) cs).gens) → OffsetsQ K N dep off (cs ++ (c ∷ [])) g
  unfolding AllAt OffsetsQ total
  offsets-last d c [] g a o h = (h, tt)
  offsets-last d c (x ∷ cs) g a o h = (
    o.0,
    offsets-last d c cs (λ v. beside (g v) (qualifier_of K N (dep x) x v)) a.1 o.1
        (λ v. h v ∙ ap (λ (b : ℕ). (total (λ y. qualifier_of K N d y v) (beside (g v) (qualifier_of K N b x v)) cs).gens) (sym a.0)),
  )

  -- the same over another table with the same first nodes
  offsets-agree : (M : Nodes) → PostOrder N → (n : ℕ) → ((j : ℕ) → j < n → N j ≡ M j) → (cs : List ℕ) (g h : Bool → FormSize) → Below n cs → ((v : Bool) → g v ≡ h v) → OffsetsQ K N dep off cs g → OffsetsQ K M dep off cs h
  unfolding OffsetsQ Below
  offsets-agree M P n same [] g h b e o = tt
  offsets-agree M P n same (c ∷ cs) g h b e o = (
    λ v. o.0 v ∙ ap (λ (x : FormSize). x.gens) (e v),
    offsets-agree M P n same cs (λ v. beside (g v) (qualifier_of K N (dep c) c v)) (λ v. beside (h v) (qualifier_of K M (dep c) c v)) b.1
        (λ v. ap₂ beside (e v) (qualifier-agree K N M P n same (dep c) c v b.0)) o.1,
  )

all-last : (dep : ℕ → ℕ) (d c : ℕ) (cs : List ℕ) → AllAt dep d cs → dep c ≡ d → AllAt dep d (cs ++ (c ∷ []))
unfolding AllAt
all-last dep d c [] a p = (p, tt)
all-last dep d c (x ∷ cs) a p = (a.0, all-last dep d c cs a.1 p)

ends-zero : (s : List ℕ) (d e : ℕ) → e ≡ 0 → ends s d e ≡ false
unfolding ends
ends-zero s d e p = rw p

-- every qualifier of a row has its depth
pub row_at : (s : List ℕ) (d f e : ℕ) → e ≤ f → AllAt (depth_at s) d (row s d e)
unfolding AllAt
row_at s d zero e l = subst (AllAt (depth_at s) d) (sym (row-none s d e (ends-zero s d e (omega arith)))) tt
row_at s d (suc f) e l = go (ends s d e) refl (row_at s d f (start_at s (e - 1)) (omega arith))
  where
    go : (b : Bool) → ends s d e ≡ b → AllAt (depth_at s) d (row s d (start_at s (e - 1))) → AllAt (depth_at s) d (row s d e)
    go true p a = subst (AllAt (depth_at s) d) (sym (row_more s d e p)) (all-last (depth_at s) d (e - 1) (row s d (start_at s (e - 1))) a (ends_at s d e p).depth)
    go false p a = subst (AllAt (depth_at s) d) (sym (row-none s d e p)) tt

below_more : (i n : ℕ) (cs : List ℕ) → i ≤ n → Below i cs → Below n cs
unfolding Below
below_more i n [] l b = tt
below_more i n (c ∷ cs) l b = (omega (arith, l, b.0), below_more i n cs l b.1)

quals-below : (i : ℕ) (y : Node) → Inside i y → Below i (qualifiers y)
unfolding Below
quals-below i (nnum z) p = tt
quals-below i (ntruth b) p = tt
quals-below i (nname x d) p = tt
quals-below i (nfield k c) p = tt
quals-below i (nrec cs) p = tt
quals-below i (napp f cs) p = tt
quals-below i (nbin o a b) p = tt
quals-below i (nnegate c) p = tt
quals-below i (ncomp m cs h) p = p.0
quals-below i (ntable k) p = tt
quals-below i (ngen c) p = tt
quals-below i (nbind c) p = tt
quals-below i (ncond c) p = tt
quals-below i nbad p = tt

-- ---- a scratch that keeps what is right for the n nodes of its own table
module _ (r : List ℕ) (n : ℕ) (A : Arranged r n) (kept : (K : ℕ → Collection) (i : ℕ) → i < n → KeptSizes K r r i) (K : ℕ → Collection) where
  offsets-row : (d f e : ℕ) → e ≤ f → e ≤ n → OffsetsQ K (nodes_of r) (depth_at r) (stored r) (row r d e) (λ v. none)
  unfolding OffsetsQ
  offsets-row d zero e l k = subst (λ (cs : List ℕ). OffsetsQ K (nodes_of r) (depth_at r) (stored r) cs (λ v. none)) (sym (row-none r d e (ends-zero r d e (omega arith)))) tt
  offsets-row d (suc f) e l k = go (ends r d e) refl (offsets-row d f (start_at r (e - 1)) (omega arith) (omega arith))
    where
      go : (b : Bool) → ends r d e ≡ b → OffsetsQ K (nodes_of r) (depth_at r) (stored r) (row r d (start_at r (e - 1))) (λ v. none) → OffsetsQ K (nodes_of r) (depth_at r) (stored r) (row r d e) (λ v. none)
      go true p o =
          let E = ends_at r d e p in
          let c = e - 1 in
          let Q = (kept K c (omega (arith, E.some))).qualifier E.kind in
          subst (λ (cs : List ℕ). OffsetsQ K (nodes_of r) (depth_at r) (stored r) cs (λ v. none)) (sym (row_more r d e p))
          (offsets-last K (nodes_of r) (depth_at r) (stored r) d c (row r d (start_at r c)) (λ v. none) (row_at r d (start_at r c) (start_at r c) (omega arith)) o
          (λ v. sym (Q.offset v) ∙ ap (λ (D : ℕ). (all_of K (nodes_of r) D (row r D (start_at r c)) v).gens) E.depth))
      go false p o = subst (λ (cs : List ℕ). OffsetsQ K (nodes_of r) (depth_at r) (stored r) cs (λ v. none)) (sym (row-none r d e p)) tt

  offsets-of : (i : ℕ) → i < n → (y : Node) → Inside i y → Aligned r y → OffsetsQ K (nodes_of r) (depth_at r) (stored r) (qualifiers y) (λ v. none)
  unfolding OffsetsQ
  offsets-of i l (nnum z) p a = tt
  offsets-of i l (ntruth b) p a = tt
  offsets-of i l (nname x d) p a = tt
  offsets-of i l (nfield k c) p a = tt
  offsets-of i l (nrec cs) p a = tt
  offsets-of i l (napp f cs) p a = tt
  offsets-of i l (nbin o b c) p a = tt
  offsets-of i l (nnegate c) p a = tt
  offsets-of i l (ncomp m cs h) p a =
      subst (λ (x : List ℕ). OffsetsQ K (nodes_of r) (depth_at r) (stored r) x (λ v. none)) (sym a.0) (offsets-row (depth_at r h) (start_at r h) (start_at r h) (omega arith) (omega (arith, l, p.1)))
  offsets-of i l (ntable k) p a = tt
  offsets-of i l (ngen c) p a = tt
  offsets-of i l (nbind c) p a = tt
  offsets-of i l (ncond c) p a = tt
  offsets-of i l nbad p a = tt

  -- The stored offsets place every generator.
  pub placed-cut : Placed left K (cut n (nodes_of r)) (depth_at r) (saturated (stored r))
  unfolding OffsetsQ
  placed-cut =
      let N = nodes_of r in
      let P = post-order r in
      placed K (cut n N) (depth_at r) (stored r) (λ i. by-pick (λ y. OffsetsQ K (cut n N) (depth_at r) (stored r) (qualifiers y) (λ v. none)) (ltb i n) (N i) nbad
      (λ t. let l = ltb-true i n t in
      offsets-agree K N (depth_at r) (stored r) (cut n N) P n (cut-same n N) (qualifiers (N i)) (λ v. none) (λ v. none) (below_more i n (qualifiers (N i)) (omega arith) (quals-below i (N i) (P i))) (λ v. refl)
      (offsets-of i l (N i) (P i) (A.aligned i l)))
      (λ t. tt))

-- ---- after measuring
module _ {s r : List ℕ} {n : ℕ} (M : MeasurePost s n r) (A : Arranged s n) (few : n ≤ most_nodes) (room : place n 0 ≤ length s) where
  pub still-arranged : Arranged r n
  still-arranged = arranged-same s r M.front n few A

  pub measured-kept : (K : ℕ → Collection) (i : ℕ) → i < n → KeptSizes K r r i
  measured-kept K i l = measured-same s r M.front (omega arith) (M.kept A few room K i l)

  -- What the scratch keeps is how much is written, counted to 513, in any environment, under any offsets, from any number on.
  module _ (K : ℕ → Collection) (i : ℕ) (l : i < n) (off : Offsets) (e : Env) where
    pub kept-qualifier : qualifies (nodes_of r i) ≡ true → (v : Bool) (x : ℕ) → clauses_count (qual_of (sem K (nodes_of r) off) (depth_at r i) e v x (nodes_of r i)) ≡ condition_count r i v
    kept-qualifier h v x = qualifier-any K (nodes_of r) (post-order r) off i (depth_at r i) e v x ∙ ((measured-kept K i l).qualifier h).writes v

  module _ (K : ℕ → Collection) (q : Question) (i : ℕ) (l : i < n) (H : Holds (nodes_of s) (depth_at s) (as_term q) i 0 no_names) where
    -- Whether the normal form of a question is small enough, the node that holds it tells: 27.
    pub measured-fits : depth_at s i ≡ 0 → leb (term_count r i).size 512 ≡ size_fits (normal K q)
    unfolding Holds
    measured-fits d =
        let W = (M.kept A few room K i l).term (ap qualifies H.2) in
        ap (λ (c : FormSize). leb c.size 512) (sym W.term ∙ ap (λ (D : ℕ). term_of K (nodes_of s) D i) d) ∙ root-fits K (nodes_of s) (post-order s) (depth_at s) q i H

    -- And where it is, what that node comes to under the stored offsets is written as the normal form.
    pub measured-written : (e : Env) → names_hold q ≡ true → nodes (as_form (normal K q)) ≤ 512 → quote (sem K (nodes_of r) (saturated (stored r)) i 0 e) 0 ≡ as_form (normal K q)
    measured-written e h m =
        let N = nodes_of r in
        let P = post-order r in
        let T = table_same s r M.front in
        ap (λ d. quote d 0) (node-agree K N (cut n N) P n (cut-same n N) (saturated (stored r)) i 0 e l)
        ∙ written K (cut n N) (cut-order n N P) (depth_at r) (saturated (stored r)) (placed-cut r n still-arranged measured-kept K) q i e
        (holds-cut n N P (depth_at s) (depth_at r) (λ j k. depths-same s r M.front j (omega arith)) (as_term q) i 0 no_names l (subst (λ (x : Nodes). Holds x (depth_at s) (as_term q) i 0 no_names) (sym T) H)) h m
