-- Lending calendars to a question changes nothing of its names, its types and the calendars that it names: 24, 25, 42 and 26 may be asked before or after it.
use mathlib.Core.Path.{◌≡◌, refl, ap, ap₂, fun_ext}
use mathlib.Core.Bool.{Bool, true, ◌&&◌}
use mathlib.Core.List.{List, ◌∷◌, ◌++◌}
use Prim.Native.Nat.{ℕ}
use Rattle.spec_calendar.specs.Hours.{Calendar}
use Rattle.spec_calculus.specs.Lists.{pick, upd}
use Rattle.spec_calculus.specs.Syntax.{Collection, Monoid, Fun, choice, is_open, Term, Terms, Quals, num, truth, name, field, rec, bin, negate, app, comp, table, tnil, tcons, qnil, gen, bind, cond, Question, as_term}
use Rattle.spec_calculus.specs.Lending.{lend_op, lend_t, lend_ts, lend_q, lend}
use Rattle.spec_calculus.specs.Value.{Tables}
use Rattle.spec_checks.specs.Scope.{Scope, in_scope, in_scopes, in_scope_q, binders, binders_l, binders_q, distinct, names_hold}
use Rattle.spec_checks.specs.Types.{Typed, Tys, has, wrong, field_type, of_truth, of_one, of_three, bin_type, comp_type, ranges, typed_as, all_typed, app_type, record'', cons_type, Context, type_of, types_of, type_of_q, may_stand, is_typed, types_fit, generators_fit}
use Rattle.spec_checks.specs.Types as Types
use Rattle.spec_checks.specs.Calendars.{named_lent_op, named_lent_t, named_lent_ts, named_lent_q, calendars_lent}

module _ (K : ℕ → Calendar) where
  mutual
    unfolding in_scope lend_t

    scope-lent : (t : Term) (s : Scope) → in_scope (lend_t K t) s ≡ in_scope t s
    scope-lent (num z) s = refl
    scope-lent (truth b) s = refl
    scope-lent (name x) s = refl
    scope-lent (field i t) s = scope-lent t s
    scope-lent (rec ts) s = scopes-lent ts s
    scope-lent (app f ts) s = scopes-lent ts s
    scope-lent (bin o t u) s = ap₂ ◌&&◌ (scope-lent t s) (scope-lent u s)
    scope-lent (negate t) s = scope-lent t s
    scope-lent (comp m qs h) s = scope_q-lent qs (λ r. in_scope (lend_t K h) r) (λ r. in_scope h r) (λ r. scope-lent h r) s
    scope-lent (table k) s = refl

    scopes-lent : (ts : Terms) (s : Scope) → in_scopes (lend_ts K ts) s ≡ in_scopes ts s
    scopes-lent tnil s = refl
    scopes-lent (tcons t ts) s = ap₂ ◌&&◌ (scope-lent t s) (scopes-lent ts s)

    scope_q-lent : (qs : Quals) (k l : Scope → Bool) → ((r : Scope) → k r ≡ l r) → (s : Scope) → in_scope_q (lend_q K qs) k s ≡ in_scope_q qs l s
    scope_q-lent qnil k l h s = h s
    scope_q-lent (gen x t qs) k l h s = ap₂ ◌&&◌ (scope-lent t s) (scope_q-lent qs k l h _)
    scope_q-lent (bind x t qs) k l h s = ap₂ ◌&&◌ (scope-lent t s) (scope_q-lent qs k l h _)
    scope_q-lent (cond t qs) k l h s = ap₂ ◌&&◌ (scope-lent t s) (scope_q-lent qs k l h s)

  mutual
    unfolding binders lend_t

    binders-lent : (t : Term) → binders (lend_t K t) ≡ binders t
    binders-lent (num z) = refl
    binders-lent (truth b) = refl
    binders-lent (name x) = refl
    binders-lent (field i t) = binders-lent t
    binders-lent (rec ts) = binders_l-lent ts
    binders-lent (app f ts) = binders_l-lent ts
    binders-lent (bin o t u) = ap₂ ◌++◌ (binders-lent t) (binders-lent u)
    binders-lent (negate t) = binders-lent t
    binders-lent (comp m qs h) = ap₂ ◌++◌ (binders_q-lent qs) (binders-lent h)
    binders-lent (table k) = refl

    binders_l-lent : (ts : Terms) → binders_l (lend_ts K ts) ≡ binders_l ts
    binders_l-lent tnil = refl
    binders_l-lent (tcons t ts) = ap₂ ◌++◌ (binders-lent t) (binders_l-lent ts)

    binders_q-lent : (qs : Quals) → binders_q (lend_q K qs) ≡ binders_q qs
    binders_q-lent qnil = refl
    binders_q-lent (gen x t qs) = ap₂ (λ a b. a ++ (x ∷ b)) (binders-lent t) (binders_q-lent qs)
    binders_q-lent (bind x t qs) = ap₂ (λ a b. a ++ (x ∷ b)) (binders-lent t) (binders_q-lent qs)
    binders_q-lent (cond t qs) = ap₂ ◌++◌ (binders-lent t) (binders_q-lent qs)

  pub names-lent : (q : Question) → names_hold (lend K q) ≡ names_hold q
  unfolding names_hold lend lend_t
  names-lent q = ap₂ (λ b l. b && distinct l) (scope-lent (as_term q) _) (binders-lent (as_term q))

  op-lent : (f : Fun) → app_type (lend_op K f) ≡ app_type f
  unfolding app_type lend_op
  op-lent choice = refl
  op-lent (is_open n c) = fun_ext λ us. refl

  module _ (J : Collection → Monoid → Bool) (T : Tables) where
    mutual
      unfolding type_of lend_t

      type-lent : (t : Term) (Γ : Context) → type_of J T (lend_t K t) Γ ≡ type_of J T t Γ
      type-lent (num z) Γ = refl
      type-lent (truth b) Γ = refl
      type-lent (name x) Γ = refl
      type-lent (field i t) Γ = ap (field_type i) (type-lent t Γ)
      type-lent (rec ts) Γ = ap record'' (types-lent ts Γ)
      type-lent (app f ts) Γ = ap₂ all_typed (types-lent ts Γ) (op-lent f)
      type-lent (bin o s t) Γ = ap₂ (bin_type o) (type-lent s Γ) (type-lent t Γ)
      type-lent (negate t) Γ = ap (λ x. of_truth x (has Types.truth)) (type-lent t Γ)
      type-lent (comp m qs h) Γ = ap (comp_type m) (type_q-lent m qs (λ Δ. type_of J T (lend_t K h) Δ) (λ Δ. type_of J T h Δ) (λ Δ. type-lent h Δ) Γ)
      type-lent (table k) Γ = refl

      types-lent : (ts : Terms) (Γ : Context) → types_of J T (lend_ts K ts) Γ ≡ types_of J T ts Γ
      types-lent tnil Γ = refl
      types-lent (tcons t ts) Γ = ap₂ cons_type (type-lent t Γ) (types-lent ts Γ)

      type_q-lent : (m : Monoid) (qs : Quals) (k l : Context → Typed) → ((Δ : Context) → k Δ ≡ l Δ) → (Γ : Context) → type_of_q J T m (lend_q K qs) k Γ ≡ type_of_q J T m qs l Γ
      type_q-lent m qnil k l h Γ = h Γ
      type_q-lent m (gen x t qs) k l h Γ = ap₂ (ranges (λ c. J c m)) (type-lent t Γ) (fun_ext λ u. type_q-lent m qs k l h (upd x (has u) Γ))
      type_q-lent m (bind x t qs) k l h Γ = ap₂ typed_as (type-lent t Γ) (fun_ext λ u. type_q-lent m qs k l h (upd x (has u) Γ))
      type_q-lent m (cond t qs) k l h Γ = ap₂ of_truth (type-lent t Γ) (type_q-lent m qs k l h Γ)

  pub fit-lent : (T : Tables) (q : Question) → types_fit T (lend K q) ≡ types_fit T q
  unfolding types_fit lend lend_t
  fit-lent T q = ap is_typed (type-lent (λ c m. true) T (as_term q) (λ x. wrong))

  pub generators-lent : (T : Tables) (q : Question) → generators_fit T (lend K q) ≡ generators_fit T q
  unfolding generators_fit lend lend_t
  generators-lent T q = ap is_typed (type-lent may_stand T (as_term q) (λ x. wrong))

  module _ (k : ℕ) where
    named-lent : (f : Fun) → named_lent_op k (lend_op K f) ≡ named_lent_op k f
    unfolding named_lent_op lend_op
    named-lent choice = refl
    named-lent (is_open n c) = refl

    mutual
      unfolding named_lent_t lend_t

      lent-lent : (t : Term) → named_lent_t k (lend_t K t) ≡ named_lent_t k t
      lent-lent (num z) = refl
      lent-lent (truth b) = refl
      lent-lent (name x) = refl
      lent-lent (field i t) = lent-lent t
      lent-lent (rec ts) = lents-lent ts
      lent-lent (app f ts) = ap₂ ◌&&◌ (named-lent f) (lents-lent ts)
      lent-lent (bin o t u) = ap₂ ◌&&◌ (lent-lent t) (lent-lent u)
      lent-lent (negate t) = lent-lent t
      lent-lent (comp m qs h) = ap₂ ◌&&◌ (lent_q-lent qs) (lent-lent h)
      lent-lent (table j) = refl

      lents-lent : (ts : Terms) → named_lent_ts k (lend_ts K ts) ≡ named_lent_ts k ts
      lents-lent tnil = refl
      lents-lent (tcons t ts) = ap₂ ◌&&◌ (lent-lent t) (lents-lent ts)

      lent_q-lent : (qs : Quals) → named_lent_q k (lend_q K qs) ≡ named_lent_q k qs
      lent_q-lent qnil = refl
      lent_q-lent (gen x t qs) = ap₂ ◌&&◌ (lent-lent t) (lent_q-lent qs)
      lent_q-lent (bind x t qs) = ap₂ ◌&&◌ (lent-lent t) (lent_q-lent qs)
      lent_q-lent (cond t qs) = ap₂ ◌&&◌ (lent-lent t) (lent_q-lent qs)

    pub calendars-lent : (q : Question) → calendars_lent k (lend K q) ≡ calendars_lent k q
    unfolding calendars_lent lend lend_t
    calendars-lent q = lent-lent (as_term q)
