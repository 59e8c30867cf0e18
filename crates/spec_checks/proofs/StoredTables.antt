-- What the typing of a question sees of the stored tables.
use mathlib.Core.Path.{◌≡◌, refl, ap, ap₂, fun_ext}
use mathlib.Core.Bool.{Bool}
use Prim.Native.Nat.{ℕ}
use lib.Dec.{leb}
use Rattle.spec_calculus.specs.Lists.{pick, upd}
use Rattle.spec_calculus.specs.Syntax.{Collection, Monoid, Term, Terms, Quals, num, truth, name, field, rec, bin, negate, app, comp, table, tnil, tcons, qnil, gen, bind, cond}
use Rattle.spec_calculus.specs.Value.{Tables, kind_of, columns_of, is_there}
use Rattle.spec_checks.specs.Types.{Typed, has, wrong, record', coll, cells, field_type, of_truth, bin_type, comp_type, ranges, typed_as, all_typed, app_type, record'', cons_type, Context, type_of, types_of, type_of_q}
use Rattle.spec_checks.specs.Types as Types

-- 25 and 26 look at the tables' collections and columns, and by these at which tables there are.
module _ (J : Collection → Monoid → Bool) (T U : Tables) (kinds : (k : ℕ) → kind_of T k ≡ kind_of U k) (columns : (k : ℕ) → columns_of T k ≡ columns_of U k) where
  mutual
    unfolding type_of is_there

    pub type-same : (t : Term) (Γ : Context) → type_of J T t Γ ≡ type_of J U t Γ
    type-same (num z) Γ = refl
    type-same (truth b) Γ = refl
    type-same (name x) Γ = refl
    type-same (field i t) Γ = ap (field_type i) (type-same t Γ)
    type-same (rec ts) Γ = ap record'' (types_same ts Γ)
    type-same (app f ts) Γ = ap (λ us. all_typed us (app_type f)) (types_same ts Γ)
    type-same (bin o s t) Γ = ap₂ (bin_type o) (type-same s Γ) (type-same t Γ)
    type-same (negate t) Γ = ap (λ x. of_truth x (has Types.truth)) (type-same t Γ)
    type-same (comp m qs h) Γ = ap (comp_type m) (type_q-same m qs (λ Δ. type_of J T h Δ) (λ Δ. type_of J U h Δ) (λ Δ. type-same h Δ) Γ)
    type-same (table k) Γ = ap₂ (λ c w. pick (leb 1 w) (has (coll c (record' (cells w)))) wrong) (kinds k) (columns k)

    types_same : (ts : Terms) (Γ : Context) → types_of J T ts Γ ≡ types_of J U ts Γ
    types_same tnil Γ = refl
    types_same (tcons t ts) Γ = ap₂ cons_type (type-same t Γ) (types_same ts Γ)

    type_q-same : (m : Monoid) (qs : Quals) (k l : Context → Typed) → ((Δ : Context) → k Δ ≡ l Δ) → (Γ : Context) → type_of_q J T m qs k Γ ≡ type_of_q J U m qs l Γ
    type_q-same m qnil k l h Γ = h Γ
    type_q-same m (gen x t qs) k l h Γ = ap₂ (ranges (λ c. J c m)) (type-same t Γ) (fun_ext λ u. type_q-same m qs k l h (upd x (has u) Γ))
    type_q-same m (bind x t qs) k l h Γ = ap₂ typed_as (type-same t Γ) (fun_ext λ u. type_q-same m qs k l h (upd x (has u) Γ))
    type_q-same m (cond t qs) k l h Γ = ap₂ of_truth (type-same t Γ) (type_q-same m qs k l h Γ)
