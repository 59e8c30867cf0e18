-- Document 01's rules lead from a question to its normal form.
use mathlib.Core.Path.{◌≡◌, refl, sym, ap, subst, ◌∙◌}
use mathlib.Core.Bool.{Bool, true, false, ◌||◌}
use mathlib.Core.List.{◌++◌}
use Prim.Native.Nat.{ℕ, suc, ◌+◌}
use native.Mathlib.Omega.{arith}
use Rattle.spec_calculus.specs.Lists.{upd}
use Rattle.spec_calculus.specs.Syntax.{Collection, Term, Quals, name, qnil, gen, bind, cond, Question, as_term}
use Rattle.spec_calculus.specs.Value.{Tables, kind_of}
use Rattle.spec_calculus.proofs.Lists.{upd-hit}
use Rattle.spec_checks.specs.Scope.{Scope, in_scope, binders, binders_q}
use Rattle.spec_checks.specs.Types.{wrong, generators_fit}
use Rattle.spec_checks.proofs.Judgement.{untyped, question-typed}
use Rattle.spec_normal_form.specs.Form.{NormalForm, as_form}
use Rattle.spec_normal_form.specs.Form as Nf
use Rattle.spec_normal_form.specs.Normal.{Sem, idempotent, condition, ranges, before, quote, SemEnv, norm, walk, nowhere, normal}
use Rattle.spec_normal_form.specs.Rules.{◌⊞◌, Fresh, ReadsOnly, only, sub, sub_q}
use Rattle.spec_normal_form.specs.NoRule.{term_of, question_of, NoRule, Ordered}
use Rattle.spec_normal_form.proofs.WriteOut.{normal-is-quote}
use Rattle.spec_normal_form.proofs.Locality.{agree-upd, agree-out, comp-cong, norm-agree, walk-agree}
use Rattle.spec_normal_form.proofs.Substitution.{fresh-split, sub-ok, walk-sub}
use Rattle.spec_normal_form.proofs.Rules.{rule-keeps}
use Rattle.spec_normal_form.proofs.Context.{place-keeps, same-form}
use Rattle.spec_normal_form.proofs.FixedPoint.{normal-fixed}
use Rattle.spec_rewriting.specs.Steps.{Change, by_rule, rename_binding, Step, at, LeftToRight, Leads, none, onwards}
use Rattle.spec_rewriting.proofs.Places.{strategy-steps, strategic}
use Rattle.spec_rewriting.proofs.Weights.{weigh, weigh_q}
use Rattle.spec_rewriting.proofs.Names.{only-first, only-second}
use Rattle.spec_rewriting.proofs.Records.{ones}
use Rattle.spec_rewriting.proofs.Strategy.{reach}

module _ (K : ℕ → Collection) where
  -- in any place of a comprehension's qualifiers
  walk-prefix : (q a c : Quals) (b : Bool) (h g : SemEnv → Sem) → ((δ : SemEnv) (n : ℕ) → walk K a b h δ n ≡ walk K c b g δ n) → (δ : SemEnv) (n : ℕ)
      → walk K (q ⊞ a) b h δ n ≡ walk K (q ⊞ c) b g δ n
  unfolding norm ◌⊞◌ before
  walk-prefix qnil a c b h g e δ n = e δ n
  walk-prefix (gen x t q) a c b h g e δ n = let r = ranges (norm K t δ) b n in ap (λ s. before r.clauses n (λ j. s))
      (walk-prefix q a c b h g e (upd x r.head δ) (n + Nf.gens_c r.clauses))
  walk-prefix (bind x t q) a c b h g e δ n = walk-prefix q a c b h g e (upd x (norm K t δ) δ) n
  walk-prefix (cond t q) a c b h g e δ n = let w = condition (norm K t δ) b n in ap (λ s. before w n (λ j. s)) (walk-prefix q a c b h g e δ (n + Nf.gens_c w))

  -- a binding's name is any other
  binding-walk : (S : Scope) (x y : ℕ) (t : Term) (q : Quals) (h : Term) → S y ≡ false → ReadsOnly q h (upd x true S)
      → Fresh (only x y) (binders_q q ++ binders h) → (b : Bool) (δ : SemEnv) (n : ℕ)
      → walk K (bind x t q) b (λ ε. norm K h ε) δ n ≡ walk K (bind y t (sub_q x (name y) q)) b (λ ε. norm K (sub x (name y) h) ε) δ n
  unfolding norm in_scope
  binding-walk S x y t q h o u a b δ n =
      let d = norm K t δ in
      let f = fresh-split (only x y) (binders_q q) (binders h) a in
      let H : SemEnv → Sem = λ ε. norm K h ε in
      sym (walk-sub K (only x y) x (only-first x y) (name y) (only-second x y) d q f.0 b (λ ε. norm K (sub x (name y) h) ε) H
      (λ μ g. sub-ok K (only x y) x (only-first x y) (name y) (only-second x y) d h f.1 μ g) (upd y d δ) n (upd-hit y d δ)
      ∙ walk-agree K q (λ R. in_scope h R) (upd x true S) u b H H (λ R v μ ν g. norm-agree K h R v μ ν g) (upd x d (upd y d δ)) (upd x d δ) n
      (agree-upd S x d (upd y d δ) δ (agree-out S y d δ δ o (λ z g. refl))))

  change-keeps : {s t : Term} → Change K s t → (δ : SemEnv) → norm K s δ ≡ norm K t δ
  unfolding norm
  change-keeps (by_rule a) δ = rule-keeps K a δ
  change-keeps (rename_binding S m q₁ x y t q₃ h o u a) δ =
      let r = sub_q x (name y) q₃ in
      let k = sub x (name y) h in
      comp-cong K m (q₁ ⊞ bind x t q₃) (q₁ ⊞ bind y t r) (λ ε. norm K h ε) (λ ε. norm K k ε) δ δ
      (λ b n. walk-prefix q₁ (bind x t q₃) (bind y t r) (b || idempotent m) (λ ε. norm K h ε) (λ ε. norm K k ε)
      (λ ε j. binding-walk S x y t q₃ h o u a (b || idempotent m) ε j) δ n)

  step_keeps : (t u : Term) → Step K t u → (δ : SemEnv) → norm K t δ ≡ norm K u δ
  step_keeps t u (at {r} {s} p a w) δ = place-keeps K r s (λ ε. change-keeps a ε) p δ

  steps-keep : (t u : Term) → Leads (Step K) t u → (δ : SemEnv) → norm K t δ ≡ norm K u δ
  steps-keep t u none δ = refl
  steps-keep t u (onwards {r} l a) δ = steps-keep t r l δ ∙ step_keeps r u a δ

  -- no step changes the normal form
  pub leads_keeps : (q r : Question) → Leads (Step K) (as_term q) (as_term r) → normal K q ≡ normal K r
  leads_keeps q r l = same-form (normal K q) (normal K r)
      (normal-is-quote K q ∙ ap (λ d. quote d 0) (steps-keep (as_term q) (as_term r) l nowhere) ∙ sym (normal-is-quote K r))

-- Whatever steps a question takes: where no rule applies and generators are numbered from 0 in written order, it is the normal form.
pub steps-end-there : (K : ℕ → Collection) (q : Question) (f : NormalForm) → Leads (Step K) (as_term q) (as_term (question_of f)) → NoRule (as_term (question_of f))
    → Ordered (as_form f) (λ g. true) 0 → f ≡ normal K q
steps-end-there K q f l p o = sym (leads_keeps K q (question_of f) l ∙ normal-fixed K f p o)

-- Document 01, "Normal form": from every question that passes 25 and 26 the rules and new names, each at one place, from left to right, lead to it. That they
-- have ended there is `normal-no-rule` and `normal-ordered` (spec_normal_form).
pub reached : (T : Tables) (q : Question) → generators_fit T q ≡ true → Leads (LeftToRight (kind_of T)) (as_term q) (as_term (question_of (normal (kind_of T) q)))
unfolding ◌⊞◌ NoRule Ordered term_of
reached T q e =
    let K = kind_of T in
    let a = (question-typed T q e).1 in
    let N = suc (weigh_q q.quals (λ μ. weigh q.head μ) ones) in
    let x = (reach K T N).1 q.monoid q.quals q.head 0 (λ y. wrong) a.1 (omega arith) (a.0, a.2, a.3) (λ y τ h. untyped h) (λ y τ h. untyped h) in
    let f : NormalForm = record { monoid = q.monoid; clauses = x.0; head = x.1 } in
    let l : Leads (LeftToRight K) (as_term q) (as_term (question_of f)) = strategic (x.2 qnil tt) in
    let o = x.5 (λ g. true) (λ g. refl) in
    subst (λ g. Leads (LeftToRight K) (as_term q) (as_term (question_of g)))
    (sym (leads_keeps K q (question_of f) (strategy-steps l) ∙ normal-fixed K f (x.3, x.4) o)) l

-- So the rules lead there, each at one place.
pub rules-lead : (T : Tables) (q : Question) → generators_fit T q ≡ true → Leads (Step (kind_of T)) (as_term q) (as_term (question_of (normal (kind_of T) q)))
rules-lead T q e = strategy-steps (reached T q e)
