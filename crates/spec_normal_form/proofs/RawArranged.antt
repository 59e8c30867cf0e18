-- The value of a normal form is its raw value, each collection folded anew: loops and conditions are the same in both.
use mathlib.Core.Path.{◌≡◌, refl, sym, ap, ap₂, ◌∙◌, fun_ext}
use mathlib.Core.List.{List, [], ◌∷◌, map}
use mathlib.Core.Bool.{not}
use Rattle.spec_calculus.specs.Lists.{bind_l, guard, upd}
use Rattle.spec_calculus.specs.Value.{Value, vcons, junk, as_bool, bin_v, not_v, app_v, Tables, rows_of}
use Rattle.spec_calculus.specs.Value as Va
use Rattle.spec_calculus.specs.Monoid.{Entry, fold_by, ordered, canonical, raw}
use Rattle.spec_calculus.specs.Meaning.{Env}
use Rattle.spec_calculus.proofs.Lists.{map-bind, map-guard}
use Rattle.spec_checks.specs.Types.{Ty, Tys, number, record', ynil, ycons}
use Rattle.spec_checks.specs.Types as Types
use Rattle.spec_checks.proofs.Judgement.{result}
use Rattle.spec_checks.proofs.Refold.{on_parts, refold, refolds, arrange_as, gathered, refold-reads, bin-refold, gives, app-refold, fold-refold}
use Rattle.spec_normal_form.specs.Form.{Form, Forms, Clauses, NormalForm, as_form, num, truth, row, cell, rec, bin, negate, app, comp, fnil, fcons, done, gen, cond, value, values, loops, normal_value}

-- a normal form as its own type; a row has no collection in it, so it is left as a number is
unfoldable mutual
  pub shape : Form → Ty
  shape (num z) = number
  shape (truth b) = Types.truth
  shape (row g) = number
  shape (cell i g) = number
  shape (rec ts) = record' (shapes ts)
  shape (app f ts) = gives f (shapes ts)
  shape (bin o s t) = result o
  shape (negate t) = Types.truth
  shape (comp m q h) = gathered m (shape h)

  pub shapes : Forms → Tys
  shapes fnil = ynil
  shapes (fcons t ts) = ycons (shape t) (shapes ts)

abbrev pub arrange : Form → Value → Value
arrange f v = arrange_as (shape f) v

module _ (E : Entry) (T : Tables) where
  mutual
    unfolding value shape refold on_parts not_v

    -- The value under any entry into collections is the raw value, each collection folded anew.
    pub value-refold : (f : Form) (ρ : Env) → value (fold_by E) T f ρ ≡ refold E (shape f) (value raw T f ρ)
    value-refold (num z) ρ = refl
    value-refold (truth b) ρ = refl
    value-refold (row g) ρ = refl
    value-refold (cell i g) ρ = refl
    value-refold (rec ts) ρ = ap Va.rec (values-refold ts ρ)
    value-refold (app f ts) ρ = ap (app_v f) (values-refold ts ρ) ∙ app-refold E f (shapes ts) (values raw T ts ρ)
    value-refold (bin o s t) ρ = ap₂ (bin_v o) (value-refold s ρ) (value-refold t ρ) ∙ bin-refold E o (shape s) (shape t) (value raw T s ρ) (value raw T t ρ)
    value-refold (negate t) ρ = ap not_v (value-refold t ρ) ∙ ap (λ b. Va.truth (not b)) (refold-reads E (shape t) (value raw T t ρ)).1
    value-refold (comp m q h) ρ =
        ap (fold_by E m) (loops-refold q (refold E (shape h)) (λ σ. value raw T h σ ∷ []) (λ σ. value (fold_by E) T h σ ∷ []) (λ σ. ap (λ v. v ∷ []) (value-refold h σ)) ρ)
        ∙ fold-refold E m (shape h) (loops raw T q (λ σ. value raw T h σ ∷ []) ρ)

    values-refold : (ts : Forms) (ρ : Env) → values (fold_by E) T ts ρ ≡ refolds E (shapes ts) (values raw T ts ρ)
    values-refold fnil ρ = refl
    values-refold (fcons t ts) ρ = ap₂ vcons (value-refold t ρ) (values-refold ts ρ)

    loops-refold : (q : Clauses) (f : Value → Value) (k l : Env → List Value) → ((σ : Env) → l σ ≡ map f (k σ)) → (ρ : Env) → loops (fold_by E) T q l ρ ≡ map f (loops raw T q k ρ)
    loops-refold done f k l h ρ = h ρ
    loops-refold (gen g t q) f k l h ρ = ap (bind_l (rows_of T t)) (fun_ext λ v. loops-refold q f k l h (upd g v ρ)) ∙ sym (map-bind (rows_of T t) (λ v. loops raw T q k (upd g v ρ)) f)
    loops-refold (cond t q) f k l h ρ =
        ap₂ guard (ap as_bool (value-refold t ρ) ∙ (refold-reads E (shape t) (value raw T t ρ)).1) (loops-refold q f k l h ρ)
        ∙ sym (map-guard f (as_bool (value raw T t ρ)) (loops raw T q k ρ))

pub normal-refold : (E : Entry) (T : Tables) (f : NormalForm) → normal_value (fold_by E) T f ≡ refold E (shape (as_form f)) (normal_value raw T f)
unfolding normal_value
normal-refold E T f = value-refold E T (as_form f) (λ g. junk)

-- The value of a normal form is its raw value in canonical form: each bag sorted, each set sorted without repeats. No typing
-- is asked for.
pub canonical-arranged : (T : Tables) (f : Form) (ρ : Env) → value canonical T f ρ ≡ arrange f (value raw T f ρ)
unfolding canonical
canonical-arranged T f ρ = value-refold ordered T f ρ

pub normal-arranged : (T : Tables) (f : NormalForm) → normal_value canonical T f ≡ arrange (as_form f) (normal_value raw T f)
unfolding canonical
normal-arranged T f = normal-refold ordered T f
