-- Normal forms. "Every generator left ranges over a table": a generator is its number and its table. A binding, a field
-- of a record, a table that is not a generator's, and a generator over a comprehension cannot be written here.
use Rattle.std.specs.Prelude.{List, [], ◌∷◌, Bool, ℕ, suc, ◌+◌, ℤ}
use Rattle.spec_calculus.specs.Lists.{bind_l, guard, upd}
use Rattle.spec_calculus.specs.Syntax.{Monoid, Bin, Fun}
use Rattle.spec_calculus.specs.Value.{Value, Values, vnil, vcons, junk, as_bool, field_of, bin_v, not_v, app_v, Tables, rows_of}
use Rattle.spec_calculus.specs.Value as Va
use Rattle.spec_calculus.specs.Monoid.{Fold}
use Rattle.spec_calculus.specs.Meaning.{Env}

mutual
  pub data Form : Type 0 where
    num : ℤ → Form
    truth : Bool → Form
    row : ℕ → Form  -- the name of generator g
    cell : ℕ → ℕ → Form  -- field i of the name of generator g
    rec : Forms → Form
    bin : Bin → Form → Form → Form
    negate : Form → Form
    app : Fun → Forms → Form
    comp : Monoid → Clauses → Form → Form

  pub data Forms : Type 0 where
    fnil : Forms
    fcons : Form → Forms → Forms

  -- the qualifiers that are left
  pub data Clauses : Type 0 where
    done : Clauses
    gen : ℕ → ℕ → Clauses → Clauses  -- generator g over table k
    cond : Form → Clauses → Clauses

-- the outermost comprehension
pub record NormalForm : Type 0 where
  pub monoid : Monoid
  pub clauses : Clauses
  pub head : Form

abbrev pub as_form : NormalForm → Form
as_form f = comp f.monoid f.clauses f.head

infixr 60 ◌⊕◌
unfoldable pub ◌⊕◌ : Clauses → Clauses → Clauses
done ⊕ r = r
gen g k q ⊕ r = gen g k (q ⊕ r)
cond t q ⊕ r = cond t (q ⊕ r)

-- how many generators are written in it
unfoldable mutual
  pub gens : Form → ℕ
  gens (num z) = 0
  gens (truth b) = 0
  gens (row g) = 0
  gens (cell i g) = 0
  gens (rec ts) = gens_f ts
  gens (app f ts) = gens_f ts
  gens (bin o s t) = gens s + gens t
  gens (negate t) = gens t
  gens (comp m q h) = gens_c q + gens h

  pub gens_f : Forms → ℕ
  gens_f fnil = 0
  gens_f (fcons t ts) = gens t + gens_f ts

  pub gens_c : Clauses → ℕ
  gens_c done = 0
  gens_c (gen g k q) = suc (gens_c q)
  gens_c (cond t q) = gens t + gens_c q

-- its value, where each generator number stands for a row: the meaning of a question, clause by clause
unfoldable mutual
  pub value : Fold → Tables → Form → Env → Value
  value F T (num z) ρ = Va.num z
  value F T (truth b) ρ = Va.truth b
  value F T (row g) ρ = ρ g
  value F T (cell i g) ρ = field_of i (ρ g)
  value F T (rec ts) ρ = Va.rec (values F T ts ρ)
  value F T (app f ts) ρ = app_v f (values F T ts ρ)
  value F T (bin o s t) ρ = bin_v o (value F T s ρ) (value F T t ρ)
  value F T (negate t) ρ = not_v (value F T t ρ)
  value F T (comp m q h) ρ = F m (loops F T q (λ σ. value F T h σ ∷ []) ρ)

  pub values : Fold → Tables → Forms → Env → Values
  values F T fnil ρ = vnil
  values F T (fcons t ts) ρ = vcons (value F T t ρ) (values F T ts ρ)

  pub loops : Fold → Tables → Clauses → (Env → List Value) → Env → List Value
  loops F T done k ρ = k ρ
  loops F T (gen g t q) k ρ = bind_l (rows_of T t) (λ v. loops F T q k (upd g v ρ))
  loops F T (cond t q) k ρ = guard (as_bool (value F T t ρ)) (loops F T q k ρ)

-- the value of a question's normal form
unfoldable pub normal_value : Fold → Tables → NormalForm → Value
normal_value F T f = value F T (as_form f) (λ g. junk)
