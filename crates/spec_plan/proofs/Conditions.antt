-- Conditions and generators: it makes no difference where a condition stands, so long as the generators that it mentions
-- stand before it.
use mathlib.Core.Path.{◌≡◌, refl, sym, ap, ap₂, ◌∙◌, fun_ext}
use mathlib.Core.List.{List, [], ◌∷◌, append-nil}
use mathlib.Core.Bool.{Bool, true, false, ◌&&◌, ◌||◌, not, and_assoc, and-eq-true_iff}
use Prim.Native.Nat.{ℕ}
use lib.Dec.{eqb, eqb→eq}
use Rattle.spec_calculus.specs.Lists.{bind_l, guard, pick, upd}
use Rattle.spec_calculus.specs.Value.{Value, vcons, as_bool, field_of, bin_v, not_v, app_v, Tables, rows_of}
use Rattle.spec_calculus.specs.Value as Va
use Rattle.spec_calculus.specs.Monoid.{Fold}
use Rattle.spec_calculus.specs.Meaning.{Env}
use Rattle.spec_calculus.proofs.Lists.{bind-ext, bind-guard, guard-guard, All, all_any, all-zip, all-imp, upd_other}
use Rattle.spec_calculus.proofs.Truths.{or_right}
use Rattle.spec_normal_form.specs.Form.{Form, Forms, Clauses, num, truth, row, cell, rec, bin, negate, app, comp, fnil, fcons, done, gen, cond, value, values, loops}
use Rattle.spec_plan.specs.Operators.{source_rows}
use Rattle.spec_plan.specs.Planner.{free, mentions, mentions_f, mentions_c, Gen, from, from_unit, source, gens_of, conds_of, or_unit, plan_gens, sift, early, late}
use Rattle.spec_plan.proofs.StreamRows.{eqb-self}
use Rattle.spec_plan.proofs.ConditionScope.{clear, ScopedC}

unfoldable pub bind_g : Gen → Value → Env → Env
bind_g (from g k) v ρ = upd g v ρ
bind_g from_unit v ρ = ρ

-- the loops of some generators
unfoldable pub loops_g : Tables → List Gen → (Env → List Value) → Env → List Value
loops_g T [] K ρ = K ρ
loops_g T (g ∷ gs) K ρ = bind_l (source_rows T (source g)) (λ v. loops_g T gs K (bind_g g v ρ))

-- whether all of some conditions hold
unfoldable pub hold : Fold → Tables → List Form → Env → Bool
hold F T [] ρ = true
hold F T (t ∷ ts) ρ = as_bool (value F T t ρ) && hold F T ts ρ

-- the loops with each condition at its generator
unfoldable pub placed : Fold → Tables → List Gen → List Form → (Env → List Value) → Env → List Value
placed F T [] cs K ρ = K ρ
placed F T (g ∷ gs) cs K ρ = bind_l (source_rows T (source g)) (λ v. guard (hold F T (sift (clear gs) cs) (bind_g g v ρ)) (placed F T gs (sift (λ t. not (clear gs t)) cs) K (bind_g g v ρ)))

-- a test that none of the generators changes
abbrev Still : List Gen → (Env → Bool) → Type 0
Still gs p = All (λ g. (v : Value) (σ : Env) → p (bind_g g v σ) ≡ p σ) gs

-- A condition that none of the generators changes stands inside or outside their loops.
pull : (T : Tables) (gs : List Gen) (p : Env → Bool) (X : Env → List Value) (ρ : Env) → Still gs p
    → loops_g T gs (λ σ. guard (p σ) (X σ)) ρ ≡ guard (p ρ) (loops_g T gs X ρ)
unfolding loops_g
pull T [] p X ρ h = refl
pull T (g ∷ gs) p X ρ h =
    bind-ext (source_rows T (source g)) (λ v. loops_g T gs (λ σ. guard (p σ) (X σ)) (bind_g g v ρ)) (λ v. guard (p ρ) (loops_g T gs X (bind_g g v ρ)))
    (λ v. pull T gs p X (bind_g g v ρ) h.1 ∙ ap (λ b. guard b (loops_g T gs X (bind_g g v ρ))) (h.0 v ρ))
    ∙ bind-guard (p ρ) (source_rows T (source g)) (λ v. loops_g T gs X (bind_g g v ρ))

or_l : (a b : Bool) → a ≡ true → (a || b) ≡ true
or_l a b e = ap (λ x. x || b) e

and-mid : (a b c : Bool) → (a && (b && c)) ≡ (b && (a && c))
and-mid true b c = refl
and-mid false true c = refl
and-mid false false c = refl

upd-agree : (g : ℕ) (v : Value) (ρ σ : Env) (x : ℕ) → ρ x ≡ σ x → upd g v ρ x ≡ upd g v σ x
unfolding upd
upd-agree g v ρ σ x e = ap (λ w. elim (eqb g x) [ true ↦ v | false ↦ w ]) e

module _ (F : Fold) (T : Tables) where
  -- a term sees only the generators that it mentions
  mutual
    unfolding value mentions

    agree : (t : Form) (ρ σ : Env) → ((x : ℕ) → mentions x t ≡ true → ρ x ≡ σ x) → value F T t ρ ≡ value F T t σ
    agree (num z) ρ σ a = refl
    agree (truth b) ρ σ a = refl
    agree (row g) ρ σ a = a g (eqb-self g)
    agree (cell i g) ρ σ a = ap (field_of i) (a g (eqb-self g))
    agree (rec ts) ρ σ a = ap Va.rec (agree_f ts ρ σ a)
    agree (app f ts) ρ σ a = ap (app_v f) (agree_f ts ρ σ a)
    agree (bin o s t) ρ σ a = ap₂ (bin_v o) (agree s ρ σ (λ x e. a x (or_l (mentions x s) (mentions x t) e))) (agree t ρ σ (λ x e. a x (or_right (mentions x s) (mentions x t) e)))
    agree (negate t) ρ σ a = ap not_v (agree t ρ σ a)
    agree (comp m q h) ρ σ a = ap (F m) (agree_c q (λ x. mentions x h) (λ τ. value F T h τ ∷ []) (λ τ υ b. ap (λ v. v ∷ []) (agree h τ υ b)) ρ σ
        (λ x e. a x (or_l (mentions_c x q) (mentions x h) e)) (λ x e. a x (or_right (mentions_c x q) (mentions x h) e)))

    agree_f : (ts : Forms) (ρ σ : Env) → ((x : ℕ) → mentions_f x ts ≡ true → ρ x ≡ σ x) → values F T ts ρ ≡ values F T ts σ
    agree_f fnil ρ σ a = refl
    agree_f (fcons t ts) ρ σ a = ap₂ vcons (agree t ρ σ (λ x e. a x (or_l (mentions x t) (mentions_f x ts) e))) (agree_f ts ρ σ (λ x e. a x (or_right (mentions x t) (mentions_f x ts) e)))

    agree_c : (q : Clauses) (S : ℕ → Bool) (K : Env → List Value) → ((τ υ : Env) → ((x : ℕ) → S x ≡ true → τ x ≡ υ x) → K τ ≡ K υ) → (ρ σ : Env)
        → ((x : ℕ) → mentions_c x q ≡ true → ρ x ≡ σ x) → ((x : ℕ) → S x ≡ true → ρ x ≡ σ x) → loops F T q K ρ ≡ loops F T q K σ
    agree_c done S K k ρ σ a b = k ρ σ b
    agree_c (gen g n q) S K k ρ σ a b = bind-ext (rows_of T n) (λ v. loops F T q K (upd g v ρ)) (λ v. loops F T q K (upd g v σ))
        (λ v. agree_c q S K k (upd g v ρ) (upd g v σ) (λ x e. upd-agree g v ρ σ x (a x e)) (λ x e. upd-agree g v ρ σ x (b x e)))
    agree_c (cond t q) S K k ρ σ a b = ap₂ guard (ap as_bool (agree t ρ σ (λ x e. a x (or_l (mentions x t) (mentions_c x q) e))))
        (agree_c q S K k ρ σ (λ x e. a x (or_right (mentions x t) (mentions_c x q) e)) b)

  skip : (g : ℕ) (t : Form) (v : Value) (ρ : Env) → not (mentions g t) ≡ true → value F T t (upd g v ρ) ≡ value F T t ρ
  skip g t v ρ n = agree t (upd g v ρ) ρ (λ x e. go x e (eqb g x) refl)
    where
      go : (x : ℕ) → mentions x t ≡ true → (b : Bool) → eqb g x ≡ b → upd g v ρ x ≡ ρ x
      go x e true p = let h : not (mentions g t) ≡ false = ap not (ap (λ y. mentions y t) (eqb→eq g x (rw p tt)) ∙ e) in cc (h, n)
      go x e false p = upd_other g v ρ x p

  clear-still : (gs : List Gen) (t : Form) → clear gs t ≡ true → Still gs (λ σ. as_bool (value F T t σ))
  unfolding clear bind_g
  clear-still [] t e = tt
  clear-still (from g n ∷ gs) t e = let b = (and-eq-true_iff (not (mentions g t)) (clear gs t)).0 e in ((λ v σ. ap as_bool (skip g t v σ b.0)), clear-still gs t b.1)
  clear-still (from_unit ∷ gs) t e = ((λ v σ. refl), clear-still gs t e)

  all-still : (gs : List Gen) (ts : List Form) → All (λ t. clear gs t ≡ true) ts → Still gs (hold F T ts)
  unfolding hold
  all-still gs [] h = all_any (λ g. (v : Value) (σ : Env) → true ≡ true) gs (λ g v σ. refl)
  all-still gs (t ∷ ts) h = all-imp (λ g. ((v : Value) (σ : Env) → as_bool (value F T t (bind_g g v σ)) ≡ as_bool (value F T t σ)) × ((v : Value) (σ : Env) → hold F T ts (bind_g g v σ) ≡ hold F T ts σ))
      (λ g. (v : Value) (σ : Env) → (as_bool (value F T t (bind_g g v σ)) && hold F T ts (bind_g g v σ)) ≡ (as_bool (value F T t σ) && hold F T ts σ)) gs
      (all-zip (λ g. (v : Value) (σ : Env) → as_bool (value F T t (bind_g g v σ)) ≡ as_bool (value F T t σ)) (λ g. (v : Value) (σ : Env) → hold F T ts (bind_g g v σ) ≡ hold F T ts σ) gs
      (clear-still gs t h.0) (all-still gs ts h.1))
      (λ g hg v σ. ap₂ ◌&&◌ (hg.0 v σ) (hg.1 v σ))

  sift-split : (p : Form → Bool) (ts : List Form) (ρ : Env) → hold F T ts ρ ≡ (hold F T (sift p ts) ρ && hold F T (sift (λ t. not (p t)) ts) ρ)
  unfolding hold sift
  sift-split p [] ρ = refl
  sift-split p (t ∷ ts) ρ = go (p t) (sift-split p ts ρ)
    where
      go : (b : Bool) → hold F T ts ρ ≡ (hold F T (sift p ts) ρ && hold F T (sift (λ t. not (p t)) ts) ρ)
          → (as_bool (value F T t ρ) && hold F T ts ρ) ≡ (hold F T (pick b (t ∷ sift p ts) (sift p ts)) ρ && hold F T (pick (not b) (t ∷ sift (λ t. not (p t)) ts) (sift (λ t. not (p t)) ts)) ρ)
      go true e = unfold pick in (ap (λ x. as_bool (value F T t ρ) && x) e ∙ sym (and_assoc (as_bool (value F T t ρ)) (hold F T (sift p ts) ρ) (hold F T (sift (λ t. not (p t)) ts) ρ)))
      go false e = unfold pick in (ap (λ x. as_bool (value F T t ρ) && x) e ∙ and-mid (as_bool (value F T t ρ)) (hold F T (sift p ts) ρ) (hold F T (sift (λ t. not (p t)) ts) ρ))

pub sift-all : (p : Form → Bool) (ts : List Form) → All (λ t. p t ≡ true) (sift p ts)
unfolding sift
sift-all p [] = tt
sift-all p (t ∷ ts) = go (p t) refl (sift-all p ts)
  where
    go : (b : Bool) → p t ≡ b → All (λ t. p t ≡ true) (sift p ts) → All (λ t. p t ≡ true) (pick b (t ∷ sift p ts) (sift p ts))
    go true e h = unfold pick in (e, h)
    go false e h = unfold pick in h

sift-none : (ts : List Form) → sift (clear []) ts ≡ ts
unfolding sift clear pick
sift-none [] = refl
sift-none (t ∷ ts) = ap (λ l. t ∷ l) (sift-none ts)

module _ (F : Fold) (T : Tables) where
  -- all conditions innermost, or each at its generator
  spread : (g : Gen) (gs : List Gen) (cs : List Form) (K : Env → List Value) (ρ : Env) → loops_g T (g ∷ gs) (λ σ. guard (hold F T cs σ) (K σ)) ρ ≡ placed F T (g ∷ gs) cs K ρ
  unfolding loops_g placed
  spread g [] cs K ρ = bind-ext (source_rows T (source g)) (λ v. guard (hold F T cs (bind_g g v ρ)) (K (bind_g g v ρ))) (λ v. guard (hold F T (sift (clear []) cs) (bind_g g v ρ)) (K (bind_g g v ρ)))
      (λ v. ap (λ l. guard (hold F T l (bind_g g v ρ)) (K (bind_g g v ρ))) (sym (sift-none cs)))
  spread g (g₁ ∷ gs) cs K ρ =
      let here : List Form = sift (clear (g₁ ∷ gs)) cs in
      let rest : List Form = sift (λ t. not (clear (g₁ ∷ gs) t)) cs in
      bind-ext (source_rows T (source g)) (λ v. loops_g T (g₁ ∷ gs) (λ σ. guard (hold F T cs σ) (K σ)) (bind_g g v ρ)) (λ v. guard (hold F T here (bind_g g v ρ)) (placed F T (g₁ ∷ gs) rest K (bind_g g v ρ)))
      (λ v. ap (λ X. loops_g T (g₁ ∷ gs) X (bind_g g v ρ)) (fun_ext (λ σ. ap (λ b. guard b (K σ)) (sift-split F T (clear (g₁ ∷ gs)) cs σ) ∙ sym (guard-guard (hold F T here σ) (hold F T rest σ) (K σ))))
      ∙ pull T (g₁ ∷ gs) (hold F T here) (λ σ. guard (hold F T rest σ) (K σ)) (bind_g g v ρ) (all-still F T (g₁ ∷ gs) here (sift-all (clear (g₁ ∷ gs)) cs))
      ∙ ap (guard (hold F T here (bind_g g v ρ))) (spread g₁ gs rest K (bind_g g v ρ)))

  -- each condition where it is written, or all innermost
  gather : (q : Clauses) (K : Env → List Value) (ρ : Env) → ScopedC q → loops F T q K ρ ≡ loops_g T (gens_of q) (λ σ. guard (hold F T (conds_of q) σ) (K σ)) ρ
  unfolding loops loops_g gens_of conds_of hold guard source_rows source bind_g
  gather done K ρ h = refl
  gather (gen g n q) K ρ h = bind-ext (rows_of T n) (λ v. loops F T q K (upd g v ρ)) (λ v. loops_g T (gens_of q) (λ σ. guard (hold F T (conds_of q) σ) (K σ)) (upd g v ρ)) (λ v. gather q K (upd g v ρ) h)
  gather (cond t q) K ρ h = ap (guard (as_bool (value F T t ρ))) (gather q K ρ h.1.1)
      ∙ sym (pull T (gens_of q) (λ σ. as_bool (value F T t σ)) (λ σ. guard (hold F T (conds_of q) σ) (K σ)) ρ (clear-still F T (gens_of q) t h.0))
      ∙ ap (λ X. loops_g T (gens_of q) X ρ) (fun_ext (λ σ. guard-guard (as_bool (value F T t σ)) (hold F T (conds_of q) σ) (K σ)))

  over-unit : (gs : List Gen) (K : Env → List Value) (ρ : Env) → loops_g T gs K ρ ≡ loops_g T (or_unit gs) K ρ
  unfolding loops_g or_unit source_rows source bind_g bind_l
  over-unit [] K ρ = sym (append-nil (K ρ))
  over-unit (g ∷ gs) K ρ = refl

  spread-unit : (gs : List Gen) (cs : List Form) (K : Env → List Value) (ρ : Env) → loops_g T (or_unit gs) (λ σ. guard (hold F T cs σ) (K σ)) ρ ≡ placed F T (or_unit gs) cs K ρ
  unfolding or_unit
  spread-unit [] cs K ρ = spread from_unit [] cs K ρ
  spread-unit (g ∷ gs) cs K ρ = spread g gs cs K ρ

  -- The loops of a comprehension are the loops of its plan: each condition free of comprehensions at its generator, the
  -- others innermost.
  pub loops-placed : (q : Clauses) (K : Env → List Value) (ρ : Env) → ScopedC q → loops F T q K ρ ≡ placed F T (plan_gens q) (early q) (λ σ. guard (hold F T (late q) σ) (K σ)) ρ
  unfolding plan_gens early late
  loops-placed q K ρ h = gather q K ρ h ∙ over-unit (gens_of q) (λ σ. guard (hold F T (conds_of q) σ) (K σ)) ρ
      ∙ ap (λ X. loops_g T (or_unit (gens_of q)) X ρ) (fun_ext (λ σ. ap (λ b. guard b (K σ)) (sift-split F T free (conds_of q) σ) ∙ sym (guard-guard (hold F T (early q) σ) (hold F T (late q) σ) (K σ))))
      ∙ spread-unit (gens_of q) (early q) (λ σ. guard (hold F T (late q) σ) (K σ)) ρ
