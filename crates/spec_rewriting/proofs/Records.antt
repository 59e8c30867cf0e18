-- A term of a record's type, where every name is a table's row: rule (2) leads it to a record, or to a name.
use mathlib.Core.Path.{◌≡◌, refl, sym, subst}
use mathlib.Core.Bool.{Bool, true, false}
use mathlib.Core.Logic.{◌⊎◌, inl, inr}
use Prim.Native.Nat.{ℕ, zero, suc, ◌≤◌, ◌<◌}
use native.Mathlib.Omega.{arith}
use Rattle.spec_calculus.specs.Syntax.{Collection, Monoid, of, sum, max, min, some, all, Bin, plus, minus, times, equal, less, and, or, Fun, choice, is_open, Term, Terms, num, name, field, rec, bin, negate, app, comp, table, tnil, tcons}
use Rattle.spec_calculus.specs.Syntax as Sy
use Rattle.spec_calculus.specs.Value.{Tables}
use Rattle.spec_checks.specs.Types.{Ty, Tys, has, number, truth, record', coll, ycons, cells, type_at, Context}
use Rattle.spec_checks.proofs.Judgement.{result, Takes, Gathers, Has, HasL, untyped, same-type}
use Rattle.spec_normal_form.specs.Place.{put}
use Rattle.spec_normal_form.specs.Place as Pl
use Rattle.spec_normal_form.specs.Rules.{record_field, term_at}
use Rattle.spec_rewriting.specs.Steps.{none, onwards}
use Rattle.spec_rewriting.proofs.Places.{by, Moves, then, in_field}
use Rattle.spec_rewriting.proofs.Weights.{weigh, weigh_l, Weights}

-- every name weighs 1
abbrev pub ones : Weights
ones = λ x. 1

-- every name that has a type is a row
abbrev pub Rows : Context → Type 0
Rows Γ = (y : ℕ) (τ : Ty) → Γ y ≡ has τ → (n : ℕ) × (τ ≡ record' (cells n))

-- no type is two
pub record-number : {A : Type 0} (us : Tys) → record' us ≡ number → A
record-number us e = let o : ◌≡◌ {A = ℕ} 0 1 = cc in absurd (omega arith)

pub record-truth : {A : Type 0} (us : Tys) → record' us ≡ truth → A
record-truth us e = let o : ◌≡◌ {A = ℕ} 0 1 = cc in absurd (omega arith)

pub record-coll : {A : Type 0} (us : Tys) (c : Collection) (σ : Ty) → record' us ≡ coll c σ → A
record-coll us c σ e = let o : ◌≡◌ {A = ℕ} 0 1 = cc in absurd (omega arith)

pub coll-number : {A : Type 0} (c : Collection) (σ : Ty) → coll c σ ≡ number → A
coll-number c σ e = let o : ◌≡◌ {A = ℕ} 0 1 = cc in absurd (omega arith)

pub coll-truth : {A : Type 0} (c : Collection) (σ : Ty) → coll c σ ≡ truth → A
coll-truth c σ e = let o : ◌≡◌ {A = ℕ} 0 1 = cc in absurd (omega arith)

pub same-fields : (us vs : Tys) → record' us ≡ record' vs → us ≡ vs
same-fields us vs e = cc

-- an operator's result is a number or a truth
pub result-scalar : {A : Type 0} (τ : Ty) (o : Bin) → (τ ≡ number → A) → (τ ≡ truth → A) → τ ≡ result o → A
unfolding result
result-scalar τ plus f g e = f e
result-scalar τ minus f g e = f e
result-scalar τ times f g e = f e
result-scalar τ equal f g e = g e
result-scalar τ less f g e = g e
result-scalar τ and f g e = g e
result-scalar τ or f g e = g e

pub cells-number : (i n : ℕ) (τ : Ty) → type_at i (cells n) ≡ has τ → τ ≡ number
unfolding type_at cells
cells-number i zero τ e = untyped e
cells-number zero (suc n) τ e = same-type number τ e
cells-number (suc i) (suc n) τ e = cells-number i n τ e

-- a field of a row is a number
pub row_number : (Γ : Context) → Rows Γ → (x : ℕ) (ts : Tys) → Γ x ≡ has (record' ts) → (i : ℕ) (τ : Ty) → type_at i ts ≡ has τ → τ ≡ number
row_number Γ r x ts h i τ e = let a = r x (record' ts) h in cells-number i a.0 τ (subst (λ us. type_at i us ≡ has τ) (same-fields ts (cells a.0) a.1) e)

module _ (K : ℕ → Collection) (T : Tables) (Γ : Context) (r : Rows Γ) where
  pub has-at : (i : ℕ) (ts : Terms) (us : Tys) → HasL T Γ ts us → (τ : Ty) → type_at i us ≡ has τ → Has T Γ (term_at i ts) τ
  unfolding term_at type_at
  has-at i tnil us a τ e = untyped (subst (λ vs. type_at i vs ≡ has τ) a e)
  has-at zero (tcons t ts) us a τ e = let g : type_at 0 (ycons a.0 a.1) ≡ has τ = subst (λ vs. type_at 0 vs ≡ has τ) a.4 e in subst (λ υ. Has T Γ t υ)
      (sym (same-type a.0 τ g)) a.2
  has-at (suc i) (tcons t ts) us a τ e = has-at i ts a.1 a.3 τ (subst (λ vs. type_at (suc i) vs ≡ has τ) a.4 e)

  pub weigh-at : (i : ℕ) (ts : Terms) (us : Tys) → HasL T Γ ts us → (τ : Ty) → type_at i us ≡ has τ → (ρ : Weights) → weigh (term_at i ts) ρ ≤ weigh_l ts ρ
  unfolding term_at type_at weigh
  weigh-at i tnil us a τ e ρ = untyped (subst (λ vs. type_at i vs ≡ has τ) a e)
  weigh-at zero (tcons t ts) us a τ e ρ = omega arith
  weigh-at (suc i) (tcons t ts) us a τ e ρ = let w = weigh-at i ts a.1 a.3 τ (subst (λ vs. type_at (suc i) vs ≡ has τ) a.4 e) ρ in omega (arith, w)

  abbrev pub Exposed : Tys → Term → Type 0
  Exposed us u = ((ts : Terms) × (u ≡ rec ts) × HasL T Γ ts us) ⊎ ((x : ℕ) × (u ≡ name x) × (Γ x ≡ has (record' us)))

  abbrev pub Exposes : Tys → Term → Type 0
  Exposes us t = (u : Term) × Moves K true false t u × (weigh u ones ≤ weigh t ones) × Exposed us u

  -- (2) at the outermost place
  pub field_step : (b : Bool) (i : ℕ) (ts : Terms) → Moves K true b (field i (rec ts)) (term_at i ts)
  unfolding put
  field_step b i ts = onwards none (by Pl.hole (record_field i ts) refl tt tt tt tt)

  -- one more field
  field-exposed : (N : ℕ) → ((t : Term) (us : Tys) → weigh t ones < N → Has T Γ t (record' us) → Exposes us t) → (i : ℕ) (t : Term) (us vs : Tys)
      → type_at i vs ≡ has (record' us) → weigh t ones < N → (u : Term) → Moves K true false t u → weigh u ones ≤ weigh t ones → Exposed vs u
      → Exposes us (field i t)
  unfolding weigh
  field-exposed N f i t us vs e w u l v (inl (ts, p, a)) =
      let y = weigh-at i ts vs a (record' us) e ones in
      let z : weigh (rec ts) ones ≤ weigh t ones = subst (λ k. weigh k ones ≤ weigh t ones) p v in
      let s = f (term_at i ts) us (omega (arith, y, z, w)) (has-at i ts vs a (record' us) e) in
      let d = s.2 in
      (s.0, then (then (in_field i (subst (λ k. Moves K true false t k) p l)) (field_step false i ts)) s.1, omega (arith, d, y, z), s.3)
  field-exposed N f i t us vs e w u l v (inr (x, p, a)) = record-number us (row_number Γ r x vs a i (record' us) e)

  gathers-record : {A : Type 0} (m : Monoid) (σ : Ty) (us : Tys) → Gathers m σ (record' us) → A
  gathers-record (of c) σ us g = record-coll us c σ g
  gathers-record sum σ us g = record-number us g.1
  gathers-record max σ us g = record-number us g.1
  gathers-record min σ us g = record-number us g.1
  gathers-record some σ us g = record-truth us g.1
  gathers-record all σ us g = record-truth us g.1

  takes-record : {A : Type 0} (f : Fun) (vs us : Tys) → Takes f vs (record' us) → A
  takes-record choice vs us g = absurd g.0
  takes-record (is_open n c) vs us g = record-truth us g.0

  expose-step : (N : ℕ) → ((t : Term) (us : Tys) → weigh t ones < N → Has T Γ t (record' us) → Exposes us t) → (t : Term) (us : Tys) → weigh t ones < suc N
      → Has T Γ t (record' us) → Exposes us t
  unfolding weigh
  expose-step N f (num z) us w a = record-number us a
  expose-step N f (Sy.truth b) us w a = record-truth us a
  expose-step N f (name x) us w a = (name x, none, omega arith, inr (x, refl, a))
  expose-step N f (field i t) us w a = let s = f t a.0 (omega (arith, w)) a.1 in field-exposed N f i t us a.0 a.2 (omega (arith, w)) s.0 s.1
      s.2 s.3
  expose-step N f (rec ts) us w a = (rec ts, none, omega arith, inl (ts, refl, subst (λ vs. HasL T Γ ts vs) (sym (same-fields us a.0 a.2)) a.1))
  expose-step N f (app g ts) us w a = takes-record g a.0 us a.2
  expose-step N f (bin o s t) us w a = result-scalar (record' us) o (λ e. record-number us e) (λ e. record-truth us e) a.2
  expose-step N f (negate t) us w a = record-truth us a.1
  expose-step N f (comp m q h) us w a = gathers-record m a.1 us a.4
  expose-step N f (table k) us w a = record-coll us _ _ a.1

  pub expose : (N : ℕ) (t : Term) (us : Tys) → weigh t ones < N → Has T Γ t (record' us) → Exposes us t
  expose zero t us w a = absurd (omega (arith, w))
  expose (suc N) t us w a = expose-step N (λ s vs v b. expose N s vs v b) t us w a
