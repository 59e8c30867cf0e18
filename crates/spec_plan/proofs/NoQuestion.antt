-- "A plan holds no question inside a question where no condition or head in it has a comprehension, a name or a table."
-- Plan terms have no way to write one. So that this can be held against the questions themselves, each plan term is read as
-- a term of the calculus, of the same value, and counted there.
use mathlib.Core.Path.{◌≡◌, refl, ap, ap₂}
use mathlib.Core.List.{List, [], ◌∷◌, ◌++◌}
use Prim.Native.Nat.{ℕ, suc, ◌+◌}
use Rattle.spec_calculus.specs.Lists.{bind_l}
use Rattle.spec_calculus.specs.Syntax.{sum, equal, Term, Terms, Quals, num, truth, name, field, rec, bin, negate, app, comp, table, tnil, tcons, qnil, gen, bind, cond}
use Rattle.spec_calculus.specs.Value.{vcons, field_of, bin_v, not_v, app_v, Tables}
use Rattle.spec_calculus.specs.Value as Va
use Rattle.spec_calculus.specs.Monoid.{Fold}
use Rattle.spec_calculus.specs.Meaning.{Env, eval, evals}
use Rattle.spec_calculus.proofs.Lists.{All, all_any}
use Rattle.spec_normal_form.specs.Form.{NormalForm}
use Rattle.spec_plan.specs.Plan.{PTerm, PTerms, pnum, ptruth, place, pfield, prec, pbin, pnegate, papp, pnil, pcons, Op, join, outer, nest, Plan, plan}
use Rattle.spec_plan.specs.Operators.{Row, value_of, at, eval_p, eval_ps}
use Rattle.spec_plan.specs.Planner.{plan_of}

-- the comprehensions, names and tables written in a term
unfoldable mutual
  pub questions : Term → ℕ
  questions (num z) = 0
  questions (truth b) = 0
  questions (name x) = 1
  questions (field i t) = questions t
  questions (rec ts) = questions_t ts
  questions (app f ts) = questions_t ts
  questions (bin o s t) = questions s + questions t
  questions (negate t) = questions t
  questions (comp m qs h) = suc (questions_q qs + questions h)
  questions (table k) = 1

  pub questions_t : Terms → ℕ
  questions_t tnil = 0
  questions_t (tcons t ts) = questions t + questions_t ts

  pub questions_q : Quals → ℕ
  questions_q qnil = 0
  questions_q (gen x t qs) = suc (questions t + questions_q qs)
  questions_q (bind x t qs) = suc (questions t + questions_q qs)
  questions_q (cond t qs) = questions t + questions_q qs

-- .. so a question inside a question is seen: the sum over the bollards l of a berth b, with one comprehension, one table and
-- four times a name
seen : (b l : ℕ) → questions (comp sum (gen l (table 1) (cond (bin equal (field 0 (name l)) (field 0 (name b))) qnil)) (field 1 (name l))) ≡ 6
unfolding questions
seen b l = refl

-- a plan term as a term of the calculus, σ being what stands for each place
unfoldable mutual
  pub reading : (ℕ → Term) → PTerm → Term
  reading σ (pnum z) = num z
  reading σ (ptruth b) = truth b
  reading σ (place n) = σ n
  reading σ (pfield i t) = field i (reading σ t)
  reading σ (prec ts) = rec (readings σ ts)
  reading σ (papp f ts) = app f (readings σ ts)
  reading σ (pbin o s t) = bin o (reading σ s) (reading σ t)
  reading σ (pnegate t) = negate (reading σ t)

  pub readings : (ℕ → Term) → PTerms → Terms
  readings σ pnil = tnil
  readings σ (pcons t ts) = tcons (reading σ t) (readings σ ts)

-- The reading has the plan term's value, whatever the tables and the names: a condition or head sees its row and nothing
-- else.
module _ (F : Fold) (T : Tables) (ρ : Env) (σ : ℕ → Term) (r : Row) (h : (n : ℕ) → eval F T (σ n) ρ ≡ value_of (at n r)) where
  mutual
    unfolding reading eval eval_p

    pub reading-ok : (t : PTerm) → eval F T (reading σ t) ρ ≡ eval_p t r
    reading-ok (pnum z) = refl
    reading-ok (ptruth b) = refl
    reading-ok (place n) = h n
    reading-ok (pfield i t) = ap (field_of i) (reading-ok t)
    reading-ok (prec ts) = ap Va.rec (readings-ok ts)
    reading-ok (papp f ts) = ap (app_v f) (readings-ok ts)
    reading-ok (pbin o s t) = ap₂ (bin_v o) (reading-ok s) (reading-ok t)
    reading-ok (pnegate t) = ap not_v (reading-ok t)

    readings-ok : (ts : PTerms) → evals F T (readings σ ts) ρ ≡ eval_ps ts r
    readings-ok pnil = refl
    readings-ok (pcons t ts) = ap₂ vcons (reading-ok t) (readings-ok ts)

-- every condition and every head of a plan
unfoldable pub op_terms : Op → List PTerm
op_terms (join s c) = c ∷ []
op_terms (outer s c) = c ∷ []
op_terms (nest k m h c) = h ∷ c ∷ []

unfoldable pub plan_terms : Plan → List PTerm
plan_terms (plan os m h c) = bind_l os op_terms ++ (h ∷ c ∷ [])

module _ (σ : ℕ → Term) (e : (n : ℕ) → questions (σ n) ≡ 0) where
  mutual
    unfolding reading questions

    none : (t : PTerm) → questions (reading σ t) ≡ 0
    none (pnum z) = refl
    none (ptruth b) = refl
    none (place n) = e n
    none (pfield i t) = none t
    none (prec ts) = nones ts
    none (papp f ts) = nones ts
    none (pbin o s t) = ap₂ ◌+◌ (none s) (none t)
    none (pnegate t) = none t

    nones : (ts : PTerms) → questions_t (readings σ ts) ≡ 0
    nones pnil = refl
    nones (pcons t ts) = ap₂ ◌+◌ (none t) (nones ts)

  -- The plan of a question holds no question inside a question: with a constant for each place, none of its conditions and
  -- heads has a comprehension, a name or a table.
  pub no-question : (f : NormalForm) → All (λ t. questions (reading σ t) ≡ 0) (plan_terms (plan_of f))
  no-question f = all_any (λ t. questions (reading σ t) ≡ 0) (plan_terms (plan_of f)) none
