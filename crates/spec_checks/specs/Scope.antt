-- "24: a name out of scope or bound twice." "A name holds from the end of its qualifier to the end of its
-- comprehension. Each name is bound at most once in a question."
use Rattle.std.specs.Prelude.{List, [], ◌∷◌, ◌++◌, Bool, true, false, ◌&&◌, ◌||◌, not, ℕ, eqb}
use Rattle.spec_calculus.specs.Lists.{upd}
use Rattle.spec_calculus.specs.Syntax.{Term, Terms, Quals, num, truth, name, field, rec, bin, negate, app, comp, table, tnil, tcons, qnil, gen, bind, cond, Question, as_term}

-- which names hold here
abbrev pub Scope : Type 0
Scope = ℕ → Bool

-- no name out of scope
unfoldable mutual
  pub in_scope : Term → Scope → Bool
  in_scope (num z) s = true
  in_scope (truth b) s = true
  in_scope (name x) s = s x
  in_scope (field i t) s = in_scope t s
  in_scope (rec ts) s = in_scopes ts s
  in_scope (app f ts) s = in_scopes ts s
  in_scope (bin o t u) s = in_scope t s && in_scope u s
  in_scope (negate t) s = in_scope t s
  in_scope (comp m qs h) s = in_scope_q qs (λ r. in_scope h r) s
  in_scope (table k) s = true

  pub in_scopes : Terms → Scope → Bool
  in_scopes tnil s = true
  in_scopes (tcons t ts) s = in_scope t s && in_scopes ts s

  pub in_scope_q : Quals → (Scope → Bool) → Scope → Bool
  in_scope_q qnil k s = k s
  in_scope_q (gen x t qs) k s = in_scope t s && in_scope_q qs k (upd x true s)
  in_scope_q (bind x t qs) k s = in_scope t s && in_scope_q qs k (upd x true s)
  in_scope_q (cond t qs) k s = in_scope t s && in_scope_q qs k s

-- the names that are bound, in written order
unfoldable mutual
  pub binders : Term → List ℕ
  binders (num z) = []
  binders (truth b) = []
  binders (name x) = []
  binders (field i t) = binders t
  binders (rec ts) = binders_l ts
  binders (app f ts) = binders_l ts
  binders (bin o t u) = binders t ++ binders u
  binders (negate t) = binders t
  binders (comp m qs h) = binders_q qs ++ binders h
  binders (table k) = []

  pub binders_l : Terms → List ℕ
  binders_l tnil = []
  binders_l (tcons t ts) = binders t ++ binders_l ts

  pub binders_q : Quals → List ℕ
  binders_q qnil = []
  binders_q (gen x t qs) = binders t ++ (x ∷ binders_q qs)
  binders_q (bind x t qs) = binders t ++ (x ∷ binders_q qs)
  binders_q (cond t qs) = binders t ++ binders_q qs

unfoldable pub member : ℕ → List ℕ → Bool
member x [] = false
member x (y ∷ l) = eqb x y || member x l

unfoldable pub distinct : List ℕ → Bool
distinct [] = true
distinct (x ∷ l) = not (member x l) && distinct l

unfoldable pub names_hold : Question → Bool
names_hold q = in_scope (as_term q) (λ x. false) && distinct (binders (as_term q))
