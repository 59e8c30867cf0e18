-- What a question's meaning sees of the stored tables.
use mathlib.Core.Path.{◌≡◌, refl, ap, ap₂, ◌∙◌, fun_ext}
use mathlib.Core.List.{List, [], ◌∷◌}
use Prim.Native.Nat.{ℕ}
use Rattle.spec_calculus.specs.Lists.{bind_l, guard, upd}
use Rattle.spec_calculus.specs.Syntax.{of, Term, Terms, Quals, num, truth, name, field, rec, bin, negate, app, comp, table, tnil, tcons, qnil, gen, bind, cond}
use Rattle.spec_calculus.specs.Value.{Value, vcons, as_bool, elems, field_of, bin_v, not_v, app_v, Tables, kind_of, rows_of}
use Rattle.spec_calculus.specs.Value as Va
use Rattle.spec_calculus.specs.Monoid.{canonical}
use Rattle.spec_calculus.specs.Meaning.{Env, eval, evals, runs}

-- A question meets a stored table only as a value of its collection: tables that are the same values give it the same meaning.
module _ (T U : Tables) (tables : (k : ℕ) → canonical (of (kind_of T k)) (rows_of T k) ≡ canonical (of (kind_of U k)) (rows_of U k)) where
  mutual
    unfolding eval

    pub eval-same : (t : Term) (ρ : Env) → eval canonical T t ρ ≡ eval canonical U t ρ
    eval-same (num z) ρ = refl
    eval-same (truth b) ρ = refl
    eval-same (name x) ρ = refl
    eval-same (field i t) ρ = ap (field_of i) (eval-same t ρ)
    eval-same (rec ts) ρ = ap Va.rec (evals-same ts ρ)
    eval-same (app f ts) ρ = ap (app_v f) (evals-same ts ρ)
    eval-same (bin o s t) ρ = ap₂ (bin_v o) (eval-same s ρ) (eval-same t ρ)
    eval-same (negate t) ρ = ap not_v (eval-same t ρ)
    eval-same (comp m qs h) ρ = ap (canonical m) (runs_same qs (λ σ. eval canonical T h σ ∷ []) (λ σ. eval canonical U h σ ∷ []) (λ σ. ap (λ v. v ∷ []) (eval-same h σ)) ρ)
    eval-same (table k) ρ = tables k

    evals-same : (ts : Terms) (ρ : Env) → evals canonical T ts ρ ≡ evals canonical U ts ρ
    evals-same tnil ρ = refl
    evals-same (tcons t ts) ρ = ap₂ vcons (eval-same t ρ) (evals-same ts ρ)

    runs_same : (qs : Quals) (k l : Env → List Value) → ((σ : Env) → k σ ≡ l σ) → (ρ : Env) → runs canonical T qs k ρ ≡ runs canonical U qs l ρ
    runs_same qnil k l h ρ = h ρ
    runs_same (gen x t qs) k l h ρ = ap₂ bind_l (ap elems (eval-same t ρ)) (fun_ext λ v. runs_same qs k l h (upd x v ρ))
    runs_same (bind x t qs) k l h ρ = ap (λ v. runs canonical T qs k (upd x v ρ)) (eval-same t ρ) ∙ runs_same qs k l h (upd x (eval canonical U t ρ) ρ)
    runs_same (cond t qs) k l h ρ = ap₂ guard (ap as_bool (eval-same t ρ)) (runs_same qs k l h ρ)
