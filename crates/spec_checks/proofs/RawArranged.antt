-- The value of a question is its raw value arranged, wherever 26 does not refuse.
use mathlib.Core.Path.{◌≡◌, refl, sym, ap, ap₂, subst, ◌∙◌}
use mathlib.Core.List.{List, [], ◌∷◌, map}
use mathlib.Core.Bool.{Bool, true, false}
use Prim.Native.Nat.{ℕ}
use lib.Dec.{eqb}
use Rattle.spec_calculus.specs.Lists.{bind_l, guard, upd}
use Rattle.spec_calculus.specs.Syntax.{Monoid, of, sum, max, min, some, all, Term, Terms, Quals, num, name, field, rec, bin, negate, app, comp, table, tnil, tcons, qnil, gen, bind, cond, Question, as_term}
use Rattle.spec_calculus.specs.Syntax as Sy
use Rattle.spec_calculus.specs.Value.{Value, vcons, junk, as_bool, elems, field_of, bin_v, not_v, app_v, Tables, kind_of, columns_of, rows_of}
use Rattle.spec_calculus.specs.Value as Va
use Rattle.spec_calculus.specs.Monoid.{ordered, canonical, raw}
use Rattle.spec_calculus.specs.Meaning.{Env, eval, evals, runs, meaning}
use Rattle.spec_calculus.proofs.Lists.{bind-map, map-bind, map-guard}
use Rattle.spec_calculus.proofs.Folds.{canon, Eqv, eqv-bind, eqv-guard, fold-eqv}
use Rattle.spec_checks.specs.Types.{Ty, Tys, truth, record', coll, wrong, has, cells, Context, type_of, may_stand, generators_fit}
use Rattle.spec_checks.proofs.GeneratorFits.{fit-eqv}
use Rattle.spec_checks.proofs.Judgement.{operand, Gathers, Has, HasL, HasQ, untyped, typed, question-typed}
use Rattle.spec_checks.proofs.Refold.{on_parts, refold, refolds, arrange_as, gathered, bin-refold, takes_gives, app-refold, fold-refold, field-refold, elems-refold, rows-kept}

gathers-type : (m : Monoid) (s t : Ty) → Gathers m s t → t ≡ gathered m s
unfolding gathered
gathers-type (of c) s t h = h
gathers-type sum s t h = h.1
gathers-type max s t h = h.1
gathers-type min s t h = h.1
gathers-type some s t h = h.1
gathers-type all s t h = h.1

-- each name of type t that stands for v in ρ stands for v arranged in σ
abbrev pub Arranged : Context → Env → Env → Type 0
Arranged Γ ρ σ = (x : ℕ) (t : Ty) → Γ x ≡ has t → σ x ≡ arrange_as t (ρ x)

arranged-next : (Γ : Context) (ρ σ : Env) → Arranged Γ ρ σ → (x : ℕ) (t : Ty) (v w : Value) → w ≡ arrange_as t v → Arranged (upd x (has t) Γ) (upd x v ρ) (upd x w σ)
unfolding upd
arranged-next Γ ρ σ e x t v w h y s = go (eqb x y) refl
  where
    go : (b : Bool) → eqb x y ≡ b → upd x (has t) Γ y ≡ has s → upd x w σ y ≡ arrange_as s (upd x v ρ y)
    go true p = rw (p, upd) (λ k. subst (λ u. w ≡ arrange_as u v) (cc) h)
    go false p = rw (p, upd) (e y s)

module _ (T : Tables) where
  mutual
    unfolding eval refold on_parts gathered canonical

    has-arranged : (t : Term) (Γ : Context) (τ : Ty) → Has T Γ t τ → (ρ σ : Env) → Arranged Γ ρ σ → eval canonical T t σ ≡ arrange_as τ (eval raw T t ρ)
    has-arranged (num z) Γ τ h ρ σ e = rw h refl
    has-arranged (Sy.truth b) Γ τ h ρ σ e = rw h refl
    has-arranged (name x) Γ τ h ρ σ e = e x τ h
    has-arranged (field i t) Γ τ h ρ σ e = ap (field_of i) (has-arranged t Γ (record' h.0) h.1 ρ σ e) ∙ field-refold ordered h.0 i τ h.2 (eval raw T t ρ)
    has-arranged (rec ts) Γ τ h ρ σ e = rw h.2 (ap Va.rec (hass-arranged ts Γ h.0 h.1 ρ σ e))
    has-arranged (app f ts) Γ τ h ρ σ e = rw (takes_gives f h.0 τ h.2) (
        ap (app_v f) (hass-arranged ts Γ h.0 h.1 ρ σ e) ∙ app-refold ordered f h.0 (evals raw T ts ρ))
    has-arranged (bin o s t) Γ τ h ρ σ e = rw h.2 (
        ap₂ (bin_v o) (has-arranged s Γ (operand o) h.0 ρ σ e) (has-arranged t Γ (operand o) h.1 ρ σ e)
        ∙ bin-refold ordered o (operand o) (operand o) (eval raw T s ρ) (eval raw T t ρ))
    has-arranged (negate t) Γ τ h ρ σ e = rw h.1 (ap not_v (has-arranged t Γ truth h.0 ρ σ e))
    has-arranged (comp m qs t) Γ τ h ρ σ e = rw (gathers-type m h.1 τ h.4) (
        sym (fold-eqv m _ _ (runs-arranged qs m Γ h.0 h.2 (arrange_as h.1) (λ μ. eval raw T t μ ∷ []) (λ μ. eval canonical T t μ ∷ [])
        (λ μ ν f. ap (λ v. canon m (v ∷ [])) (sym (has-arranged t h.0 h.1 h.3 μ ν f))) ρ σ e))
        ∙ fold-refold ordered m h.1 (runs raw T qs (λ μ. eval raw T t μ ∷ []) ρ))
    has-arranged (table k) Γ τ h ρ σ e = rw h.1 (
        ap (canonical (of (kind_of T k))) (sym (rows-kept ordered (columns_of T k) (rows_of T k)))
        ∙ fold-refold ordered (of (kind_of T k)) (record' (cells (columns_of T k))) (rows_of T k))

    hass-arranged : (ts : Terms) (Γ : Context) (us : Tys) → HasL T Γ ts us → (ρ σ : Env) → Arranged Γ ρ σ → evals canonical T ts σ ≡ refolds ordered us (evals raw T ts ρ)
    hass-arranged tnil Γ us h ρ σ e = rw h refl
    hass-arranged (tcons t ts) Γ us h ρ σ e = rw h.4 (ap₂ vcons (has-arranged t Γ h.0 h.2 ρ σ e) (hass-arranged ts Γ h.1 h.3 ρ σ e))

    -- f of the raw heads and the heads are not told apart
    runs-arranged : (qs : Quals) (m : Monoid) (Γ Δ : Context) → HasQ T m Γ qs Δ → (f : Value → Value) (k l : Env → List Value)
        → ((μ ν : Env) → Arranged Δ μ ν → Eqv m (map f (k μ)) (l ν)) → (ρ σ : Env) → Arranged Γ ρ σ → Eqv m (map f (runs raw T qs k ρ)) (runs canonical T qs l σ)
    runs-arranged qnil m Γ Δ h f k l g ρ σ e = g ρ σ (subst (λ G. Arranged G ρ σ) h e)
    runs-arranged (gen x t qs) m Γ Δ h f k l g ρ σ e =
        let ws = elems (eval raw T t ρ) in
        let a = arrange_as h.1 in
        let K : Value → List Value = λ w. runs canonical T qs l (upd x w σ) in
        ap (canon m) (map-bind ws (λ v. runs raw T qs k (upd x v ρ)) f)
        ∙ eqv-bind m ws _ _ (λ v. runs-arranged qs m (upd x (has h.1) Γ) Δ h.4 f k l g (upd x v ρ) (upd x (a v) σ) (arranged-next Γ ρ σ e x h.1 v (a v) refl))
        ∙ ap (canon m) (sym (bind-map ws a K))
        ∙ fit-eqv h.0 m h.3 (map a ws) K
        ∙ ap (λ us. canon m (bind_l us K)) (elems-refold ordered h.0 h.1 (eval raw T t ρ) ∙ ap elems (sym (has-arranged t Γ (coll h.0 h.1) h.2 ρ σ e)))
    runs-arranged (bind x t qs) m Γ Δ h f k l g ρ σ e =
        runs-arranged qs m (upd x (has h.0) Γ) Δ h.2 f k l g (upd x (eval raw T t ρ) ρ) (upd x (eval canonical T t σ) σ)
        (arranged-next Γ ρ σ e x h.0 (eval raw T t ρ) (eval canonical T t σ) (has-arranged t Γ h.0 h.1 ρ σ e))
    runs-arranged (cond t qs) m Γ Δ h f k l g ρ σ e =
        ap (canon m) (map-guard f (as_bool (eval raw T t ρ)) (runs raw T qs k ρ))
        ∙ eqv-guard m (as_bool (eval raw T t ρ)) _ _ (runs-arranged qs m Γ Δ h.1 f k l g ρ σ e)
        ∙ ap (λ v. canon m (guard (as_bool v) (runs canonical T qs l σ))) (sym (has-arranged t Γ truth h.0 ρ σ e))

  -- The value of a term that passes 25 and 26 is its raw value arranged, where the names stand for raw values and for those
  -- values arranged.
  pub typed-arranged : (t : Term) (Γ : Context) (τ : Ty) → type_of may_stand T t Γ ≡ has τ → (ρ σ : Env) → Arranged Γ ρ σ → eval canonical T t σ ≡ arrange_as τ (eval raw T t ρ)
  typed-arranged t Γ τ h ρ σ e = has-arranged t Γ τ (typed T t Γ τ h) ρ σ e

  -- The value of a question that passes 25 and 26 is its raw value arranged as its type says.
  pub question-arranged : (q : Question) → generators_fit T q ≡ true → (τ : Ty) × Has T (λ x. wrong) (as_term q) τ × (meaning canonical T q ≡ arrange_as τ (meaning raw T q))
  unfolding meaning
  question-arranged q h = let a = question-typed T q h in (a.0, a.1, has-arranged (as_term q) (λ x. wrong) a.0 a.1 (λ x. junk) (λ x. junk) (λ x t w. untyped w))
