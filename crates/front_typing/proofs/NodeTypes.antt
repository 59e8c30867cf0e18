-- A node's type follows from those of the nodes before it; and a table that holds a question has the types of its terms.
use mathlib.Core.Path.{◌≡◌, refl, ap, ap₂, ◌∙◌}
use mathlib.Core.List.{List, [], ◌∷◌}
use mathlib.Core.Bool.{Bool, true, false}
use Prim.Native.Nat.{ℕ, zero, suc, ◌<◌}
use native.Mathlib.Omega.{arith}
use lib.Dec.{eqb}
use Rattle.spec_calculus.specs.Lists.{pick, upd}
use Rattle.spec_calculus.specs.Syntax.{Collection, Monoid, Term, Terms, Quals, num, truth, name, field, rec, bin, negate, app, comp, table, tnil, tcons, qnil, gen, bind, cond, Question, as_term}
use Rattle.spec_calculus.specs.Value.{Tables}
use Rattle.spec_checks.specs.Types.{Ty, number, record', coll, Typed, wrong, has, field_type, of_truth, bin_type, app_type, comp_type, ranges, typed_as, record'', all_typed, cons_type, Context, type_of, types_of, type_of_q}
use Rattle.front_theory.specs.NodeTable.{Node, Nodes, nnum, ntruth, nname, nfield, nrec, nbin, nnegate, napp, ncomp, ntable, ngen, nbind, ncond, nbad, Below, Inside, PostOrder}
use Rattle.front_theory.specs.QuestionNodes.{Slots, slot, no_names, first_of, rest_of, behind, Holds, HoldsL, HoldsQ}
use Rattle.front_typing.specs.NodeTypes.{StandsRule, types_by, behind_qual, behind_quals, type_by, type_up_to, node_type}

module _ (J : StandsRule) (T : Tables) (N : Nodes) (P : PostOrder N) where
  -- ---- only the nodes before a node matter
  module _ (τ τ' : ℕ → Typed) (i : ℕ) (same : (j : ℕ) → j < i → τ j ≡ τ' j) where
    types-local : (cs : List ℕ) → Below i cs → types_by τ cs ≡ types_by τ' cs
    unfolding types_by Below
    types-local [] b = refl
    types-local (c ∷ cs) b = ap₂ cons_type (same c b.0) (types-local cs b.1)

    qual-local : (m : Monoid) (c : ℕ) (y : Node) → c < i → Inside c y → (t : Typed) → behind_qual J τ m y t ≡ behind_qual J τ' m y t
    qual-local m c (ngen a) l h t = ap (λ s. ranges (λ k. J k m) s (λ u. t)) (same a (omega arith))
    qual-local m c (nbind a) l h t = ap (λ s. typed_as s (λ u. t)) (same a (omega arith))
    qual-local m c (ncond a) l h t = ap (λ s. of_truth s t) (same a (omega arith))
    qual-local m c (nnum z) l h t = refl
    qual-local m c (ntruth b) l h t = refl
    qual-local m c (nname x d) l h t = refl
    qual-local m c (nfield k a) l h t = refl
    qual-local m c (nrec cs) l h t = refl
    qual-local m c (napp f cs) l h t = refl
    qual-local m c (nbin o a b) l h t = refl
    qual-local m c (nnegate a) l h t = refl
    qual-local m c (ncomp n cs k) l h t = refl
    qual-local m c (ntable k) l h t = refl
    qual-local m c nbad l h t = refl

    quals-local : (m : Monoid) (cs : List ℕ) → Below i cs → (t : Typed) → behind_quals J N τ m cs t ≡ behind_quals J N τ' m cs t
    unfolding behind_quals Below
    quals-local m [] b t = refl
    quals-local m (c ∷ cs) b t = qual-local m c (N c) b.0 (P c) (behind_quals J N τ m cs t) ∙ ap (behind_qual J τ' m (N c)) (quals-local m cs b.1 t)

    type-local : (y : Node) → Inside i y → type_by J T N τ y ≡ type_by J T N τ' y
    type-local (nnum z) h = refl
    type-local (ntruth b) h = refl
    type-local (nname x d) h = same x h
    type-local (nfield k c) h = ap (field_type k) (same c h)
    type-local (nrec cs) h = ap record'' (types-local cs h)
    type-local (napp f cs) h = ap (λ s. all_typed s (app_type f)) (types-local cs h)
    type-local (nbin o a b) h = ap₂ (bin_type o) (same a h.0) (same b h.1)
    type-local (nnegate c) h = ap (λ s. of_truth s (has Ty.truth)) (same c h)
    type-local (ncomp m cs k) h = ap (comp_type m) (quals-local m cs h.0 (τ k) ∙ ap (behind_quals J N τ' m cs) (same k h.1))
    type-local (ntable k) h = refl
    type-local (ngen c) h = ap (λ s. ranges (λ a. true) s (λ u. has u)) (same c h)
    type-local (nbind c) h = same c h
    type-local (ncond c) h = ap (λ s. of_truth s (has Ty.truth)) (same c h)
    type-local nbad h = refl

  -- steps to spare change nothing
  enough : (f g i : ℕ) → i < f → i < g → type_up_to J T N f i ≡ type_up_to J T N g i
  unfolding type_up_to
  enough zero g i a b = absurd (omega arith)
  enough (suc f) zero i a b = absurd (omega arith)
  enough (suc f) (suc g) i a b = type-local (λ j. type_up_to J T N f j) (λ j. type_up_to J T N g j) i (λ j l. enough f g j (omega arith) (omega arith)) (N i) (P i)

  abbrev pub typed : ℕ → Typed
  typed i = node_type J T N i

  pub node-type : (i : ℕ) → typed i ≡ type_by J T N typed (N i)
  unfolding node_type type_up_to
  node-type i = type-local (λ j. type_up_to J T N i j) typed i (λ j l. enough i (suc j) j l (omega arith)) (N i) (P i)

  type-is : {i : ℕ} {y : Node} → N i ≡ y → typed i ≡ type_by J T N typed y
  type-is {i} e = node-type i ∙ ap (type_by J T N typed) e

  -- ---- a table that holds a term
  -- each name that holds has the type of the qualifier that binds it
  abbrev pub Fits : Context → Slots → Type 0
  Fits Γ S = (x d : ℕ) → (S x).level ≡ suc d → typed (S x).by ≡ Γ x

  fits-upd : (Γ : Context) (D : ℕ) (S : Slots) (x y : ℕ) (u : Typed) → Fits Γ S → typed y ≡ u → Fits (upd x u Γ) (upd x (slot y D) S)
  unfolding upd
  fits-upd Γ D S x y u F h z d = go (eqb x z) refl
    where
      go : (b : Bool) → eqb x z ≡ b → (upd x (slot y D) S z).level ≡ suc d → typed (upd x (slot y D) S z).by ≡ upd x u Γ z
      go true p = rw (p, upd) (λ s. h)
      go false p = rw (p, upd) (λ s. F z d s)

  ranges-same : (F : Collection → Bool) (t : Typed) (k k' : Ty → Typed) → ((a : Collection) (u : Ty) → t ≡ has (coll a u) → k u ≡ k' u) → ranges F t k ≡ ranges F t k'
  unfolding ranges
  ranges-same F wrong k k' h = refl
  ranges-same F (has number) k k' h = refl
  ranges-same F (has Ty.truth) k k' h = refl
  ranges-same F (has (record' ts)) k k' h = refl
  ranges-same F (has (coll a u)) k k' h = ap (λ t. pick (F a) t wrong) (h a u refl)

  typed_as-same : (t : Typed) (k k' : Ty → Typed) → ((u : Ty) → t ≡ has u → k u ≡ k' u) → typed_as t k ≡ typed_as t k'
  unfolding typed_as
  typed_as-same wrong k k' h = refl
  typed_as-same (has u) k k' h = h u refl

  gen-type : {x c : ℕ} {a : Collection} {u : Ty} → N x ≡ ngen c → typed c ≡ has (coll a u) → typed x ≡ has u
  unfolding ranges pick
  gen-type e h = type-is e ∙ ap (λ s. ranges (λ b. true) s (λ v. has v)) h

  module _ (dep : ℕ → ℕ) where
    mutual
      unfolding Holds type_of behind_quals behind types_by

      pub type_at : (t : Term) (i D : ℕ) (S : Slots) → Holds N dep t i D S → (Γ : Context) → Fits Γ S → typed i ≡ type_of J T t Γ
      type_at (num z) i D S H Γ F = type-is H
      type_at (truth b) i D S H Γ F = type-is H
      type_at (name x) i D S H Γ F = type-is H.1 ∙ F x H.0 H.2
      type_at (field k t) i D S H Γ F = type-is H.1 ∙ ap (field_type k) (type_at t H.0 D S H.2 Γ F)
      type_at (rec ts) i D S H Γ F = type-is H.1 ∙ ap record'' (types-at ts H.0 D S H.2 Γ F)
      type_at (app f ts) i D S H Γ F = type-is H.1 ∙ ap (λ s. all_typed s (app_type f)) (types-at ts H.0 D S H.2 Γ F)
      type_at (bin o s t) i D S H Γ F = type-is H.2 ∙ ap₂ (bin_type o) (type_at s H.0 D S H.3 Γ F) (type_at t H.1 D S H.4 Γ F)
      type_at (negate t) i D S H Γ F = type-is H.1 ∙ ap (λ s. of_truth s (has Ty.truth)) (type_at t H.0 D S H.2 Γ F)
      type_at (comp m qs h) i D S H Γ F =
          type-is H.2 ∙
          ap (comp_type m) (quals-at qs H.0 D S H.4 m (typed H.1) (λ Δ. type_of J T h Δ) (λ Δ G. type_at h H.1 (suc D) (behind qs H.0 D S) H.5 Δ G) Γ F)
      type_at (table k) i D S H Γ F = type-is H

      types-at : (ts : Terms) (cs : List ℕ) (D : ℕ) (S : Slots) → HoldsL N dep ts cs D S → (Γ : Context) → Fits Γ S → types_by typed cs ≡ types_of J T ts Γ
      types-at tnil cs D S H Γ F = ap (types_by typed) H
      types-at (tcons t ts) cs D S H Γ F = ap (types_by typed) H.2 ∙ ap₂ cons_type (type_at t H.0 D S H.3 Γ F) (types-at ts H.1 D S H.4 Γ F)

      -- t is the type of what stands behind the qualifiers
      quals-at : (qs : Quals) (cs : List ℕ) (D : ℕ) (S : Slots) → HoldsQ N dep qs cs D S → (m : Monoid) (t : Typed) (k : Context → Typed) →
          ((Δ : Context) → Fits Δ (behind qs cs D S) → t ≡ k Δ) → (Γ : Context) → Fits Γ S → behind_quals J N typed m cs t ≡ type_of_q J T m qs k Γ
      quals-at qnil cs D S H m t k h Γ F = ap (λ l. behind_quals J N typed m l t) H ∙ h Γ F
      quals-at (gen x s qs) cs D S H m t k h Γ F =
          let rest = behind_quals J N typed m (rest_of cs) t in
          ap (λ l. behind_quals J N typed m l t) H.1 ∙ ap (λ y. behind_qual J typed m y rest) H.2 ∙
          ranges-same (λ a. J a m) (typed H.0) (λ u. rest) (λ u. type_of_q J T m qs k (upd x (has u) Γ))
          (λ a u e. quals-at qs (rest_of cs) D (upd x (slot (first_of cs) D) S) H.5 m t k h (upd x (has u) Γ) (fits-upd Γ D S x (first_of cs) (has u) F (gen-type H.2 e))) ∙
          ap (λ v. ranges (λ a. J a m) v (λ u. type_of_q J T m qs k (upd x (has u) Γ))) (type_at s H.0 (suc D) S H.4 Γ F)
      quals-at (bind x s qs) cs D S H m t k h Γ F =
          let rest = behind_quals J N typed m (rest_of cs) t in
          ap (λ l. behind_quals J N typed m l t) H.1 ∙ ap (λ y. behind_qual J typed m y rest) H.2 ∙
          typed_as-same (typed H.0) (λ u. rest) (λ u. type_of_q J T m qs k (upd x (has u) Γ))
          (λ u e. quals-at qs (rest_of cs) D (upd x (slot (first_of cs) D) S) H.5 m t k h (upd x (has u) Γ) (fits-upd Γ D S x (first_of cs) (has u) F (type-is H.2 ∙ e))) ∙
          ap (λ v. typed_as v (λ u. type_of_q J T m qs k (upd x (has u) Γ))) (type_at s H.0 (suc D) S H.4 Γ F)
      quals-at (cond s qs) cs D S H m t k h Γ F =
          ap (λ l. behind_quals J N typed m l t) H.1 ∙ ap (λ y. behind_qual J typed m y (behind_quals J N typed m (rest_of cs) t)) H.2 ∙
          ap₂ of_truth (type_at s H.0 (suc D) S H.4 Γ F) (quals-at qs (rest_of cs) D S H.5 m t k h Γ F)

    -- the question's node has the question's type
    pub question-type : (q : Question) (i : ℕ) → Holds N dep (as_term q) i 0 no_names → typed i ≡ type_of J T (as_term q) (λ x. wrong)
    question-type q i H = type_at (as_term q) i 0 no_names H (λ x. wrong) (λ x d e. absurd (omega arith))
