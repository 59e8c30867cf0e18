-- The meaning of a question: the monoid comprehension calculus as document 01 fixes it. The fold is a parameter:
-- `canonical` gives the value, `raw` leaves every collection as the loops meet it, repeats of sets included.
use Rattle.std.specs.Prelude.{List, [], ◌∷◌, ℕ}
use Rattle.spec_calculus.specs.Lists.{bind_l, guard, upd}
use Rattle.spec_calculus.specs.Syntax.{Term, Terms, Quals, num, truth, name, field, rec, bin, negate, app, comp, table, tnil, tcons, qnil, gen, bind, cond, of, Question, as_term}
use Rattle.spec_calculus.specs.Value.{Value, Values, vnil, vcons, junk, as_bool, elems, field_of, bin_v, not_v, app_v, Tables, kind_of, rows_of}
use Rattle.spec_calculus.specs.Value as Va
use Rattle.spec_calculus.specs.Monoid.{Fold}

-- what each name stands for
abbrev pub Env : Type 0
Env = ℕ → Value

unfoldable mutual
  pub eval : Fold → Tables → Term → Env → Value
  eval F T (num z) ρ = Va.num z
  eval F T (truth b) ρ = Va.truth b
  eval F T (name x) ρ = ρ x
  eval F T (field i t) ρ = field_of i (eval F T t ρ)
  eval F T (rec ts) ρ = Va.rec (evals F T ts ρ)
  eval F T (app f ts) ρ = app_v f (evals F T ts ρ)
  eval F T (bin o s t) ρ = bin_v o (eval F T s ρ) (eval F T t ρ)
  eval F T (negate t) ρ = not_v (eval F T t ρ)
  eval F T (comp m qs h) ρ = F m (runs F T qs (λ σ. eval F T h σ ∷ []) ρ)
  eval F T (table k) ρ = F (of (kind_of T k)) (rows_of T k)

  pub evals : Fold → Tables → Terms → Env → Values
  evals F T tnil ρ = vnil
  evals F T (tcons t ts) ρ = vcons (eval F T t ρ) (evals F T ts ρ)

  -- "Generators run left to right, the leftmost slowest, rows in stored order": the list that the qualifiers make,
  -- k being what is done in their middle. "A name holds from the end of its qualifier to the end of its comprehension."
  -- (A bag or set is run through in its canonical order. A monoid that could tell this from stored order, or see a set's
  -- repeats, is refused by 26.)
  pub runs : Fold → Tables → Quals → (Env → List Value) → Env → List Value
  runs F T qnil k ρ = k ρ
  runs F T (gen x t qs) k ρ = bind_l (elems (eval F T t ρ)) (λ v. runs F T qs k (upd x v ρ))
  runs F T (bind x t qs) k ρ = runs F T qs k (upd x (eval F T t ρ) ρ)
  runs F T (cond t qs) k ρ = guard (as_bool (eval F T t ρ)) (runs F T qs k ρ)

-- the value of a question as typed
unfoldable pub meaning : Fold → Tables → Question → Value
meaning F T q = eval F T (as_term q) (λ x. junk)
