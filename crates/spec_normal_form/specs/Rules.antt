-- The rules of "Normal form", one constructor for each, and what is made by them: "applied until none applies".
use Rattle.std.specs.Prelude.{◌≡◌, true, false, List, [], ◌∷◌, ◌++◌, ℕ, zero, suc, eqb, pos}
use Rattle.spec_calculus.specs.Lists.{pick, upd}
use Rattle.spec_calculus.specs.Syntax.{Collection, Monoid, of, some, and, Term, Terms, Quals, num, truth, name, field, rec, bin, negate, app, comp, table, tnil, tcons, qnil, gen, bind, cond}
use Rattle.spec_checks.specs.Scope.{Scope, in_scope, in_scope_q, binders, binders_q}
use Rattle.spec_checks.specs.Types.{may_stand}
use Rattle.spec_normal_form.specs.Normal.{idempotent}
use Rattle.spec_normal_form.specs.Place.{Place, put}

-- s for each x
unfoldable mutual
  pub sub : ℕ → Term → Term → Term
  sub x s (num z) = num z
  sub x s (truth b) = truth b
  sub x s (name y) = pick (eqb x y) s (name y)
  sub x s (field i t) = field i (sub x s t)
  sub x s (rec ts) = rec (sub_l x s ts)
  sub x s (app f ts) = app f (sub_l x s ts)
  sub x s (bin o t u) = bin o (sub x s t) (sub x s u)
  sub x s (negate t) = negate (sub x s t)
  sub x s (comp m qs h) = comp m (sub_q x s qs) (sub x s h)
  sub x s (table k) = table k

  pub sub_l : ℕ → Term → Terms → Terms
  sub_l x s tnil = tnil
  sub_l x s (tcons t ts) = tcons (sub x s t) (sub_l x s ts)

  pub sub_q : ℕ → Term → Quals → Quals
  sub_q x s qnil = qnil
  sub_q x s (gen y t qs) = gen y (sub x s t) (sub_q x s qs)
  sub_q x s (bind y t qs) = bind y (sub x s t) (sub_q x s qs)
  sub_q x s (cond t qs) = cond (sub x s t) (sub_q x s qs)

-- none of these names is in S
abbrev pub Fresh : Scope → List ℕ → Type 0
Fresh S [] = Unit {0}
Fresh S (y ∷ l) = (S y ≡ false) × Fresh S l

infixr 60 ◌⊞◌
unfoldable pub ◌⊞◌ : Quals → Quals → Quals
qnil ⊞ r = r
gen x t q ⊞ r = gen x t (q ⊞ r)
bind x t q ⊞ r = bind x t (q ⊞ r)
cond t q ⊞ r = cond t (q ⊞ r)

-- the names that qualifiers bind for what stands behind them
unfoldable pub own_names : Quals → List ℕ
own_names qnil = []
own_names (gen x t q) = x ∷ own_names q
own_names (bind x t q) = x ∷ own_names q
own_names (cond t q) = own_names q

unfoldable pub term_at : ℕ → Terms → Term
term_at i tnil = num (pos 0)
term_at zero (tcons t ts) = t
term_at (suc i) (tcons t ts) = term_at i ts

-- every name that these qualifiers and this head read holds in S, or is bound on the way
abbrev pub ReadsOnly : Quals → Term → Scope → Type 0
ReadsOnly q h S = in_scope_q q (λ R. in_scope h R) S ≡ true

-- the names x and y alone
abbrev pub only : ℕ → ℕ → Scope
only x y = upd x true (upd y true (λ z. false))

-- One rule, applied to a term: Rule K s t says that s becomes t. Each rule may look at any place of a comprehension's
-- qualifiers: q₁ are those before, q₃ those behind. The premises on S say only that no name is captured by a copy; where one
-- would be, `rename` comes first.
pub data Rule (K : ℕ → Collection) : Term → Term → Type 0 where
  -- (1) "a bound name is replaced by its term"
  bound_name : (S : Scope) (m : Monoid) (q₁ : Quals) (x : ℕ) (s : Term) (q₃ : Quals) (h : Term) → S x ≡ true → in_scope s S ≡ true → Fresh S (binders_q q₃ ++ binders h) → Rule K (comp m (q₁ ⊞ bind x s q₃) h) (comp m (q₁ ⊞ sub_q x s q₃) (sub x s h))
  -- (2) "a field of a record becomes that term"
  record_field : (i : ℕ) (ts : Terms) → Rule K (field i (rec ts)) (term_at i ts)
  -- (3) "a table .. becomes the comprehension of its own collection whose one generator ranges over it and whose head is
  --     that generator's name"
  bare_table : (k x : ℕ) → Rule K (table k) (comp (of (K k)) (gen x (table k) qnil) (name x))
  -- (4) "an "and" condition becomes two"
  and_condition : (m : Monoid) (q₁ : Quals) (s t : Term) (q₃ : Quals) (h : Term) → Rule K (comp m (q₁ ⊞ cond (bin and s t) q₃) h) (comp m (q₁ ⊞ cond s (cond t q₃)) h)
  -- (5) "a generator over a comprehension gives way to that comprehension's qualifiers, its name standing for the head";
  --     26 says which generators may stand here
  flat_generator : (S : Scope) (m : Monoid) (q₁ : Quals) (x : ℕ) (c : Collection) (q₂ : Quals) (t : Term) (q₃ : Quals) (h : Term) → may_stand c m ≡ true → Fresh S (own_names q₂) → ReadsOnly q₃ h (upd x true S) → Rule K (comp m (q₁ ⊞ gen x (comp (of c) q₂ t) q₃) h) (comp m (q₁ ⊞ (q₂ ⊞ bind x t q₃)) h)
  -- (6) "a condition that is a "some" comprehension, directly in set, max, some or all, gives way to its qualifiers and
  --     then its head as a condition"; in min too (document 02, E1)
  some_condition : (S : Scope) (m : Monoid) (q₁ q₂ : Quals) (t : Term) (q₃ : Quals) (h : Term) → idempotent m ≡ true → Fresh S (own_names q₂) → ReadsOnly q₃ h S → Rule K (comp m (q₁ ⊞ cond (comp some q₂ t) q₃) h) (comp m (q₁ ⊞ (q₂ ⊞ cond t q₃)) h)
  -- "Generators are renumbered": a generator's name x becomes y, which is not read behind it and, like x, not bound there
  rename : (S : Scope) (m : Monoid) (q₁ : Quals) (x y : ℕ) (t : Term) (q₃ : Quals) (h : Term) → S y ≡ false → ReadsOnly q₃ h (upd x true S) → Fresh (only x y) (binders_q q₃ ++ binders h) → Rule K (comp m (q₁ ⊞ gen x t q₃) h) (comp m (q₁ ⊞ gen y t (sub_q x (name y) q₃)) (sub x (name y) h))

-- what is made of a term by rules in any places, one after another
pub data Rewrites (K : ℕ → Collection) (t : Term) : Term → Type 0 where
  none : Rewrites K t t
  onwards : {r s : Term} (p : Place) → Rewrites K t (put p r) → Rule K r s → Rewrites K t (put p s)
