-- The normal form read as a question again, and what it is for document 01's rules to have ended there: none applies, and the
-- generators are numbered in written order.
use Rattle.std.specs.Prelude.{◌≡◌, Bool, true, false, ℕ, suc, ◌+◌}
use Rattle.spec_calculus.specs.Lists.{upd}
use Rattle.spec_calculus.specs.Syntax.{Bin, plus, minus, times, equal, less, and, or, Term, Terms, Quals, num, truth, name, field, rec, bin, negate, app, comp, table, tnil, tcons, qnil, gen, bind, cond, Question}
use Rattle.spec_checks.specs.Scope.{Scope}
use Rattle.spec_normal_form.specs.Form.{Form, Forms, Clauses, NormalForm, fnil, fcons, done, gens, gens_c}
use Rattle.spec_normal_form.specs.Form as Nf
use Rattle.spec_normal_form.specs.Normal.{idempotent, gives_way}

-- a generator's name is its number
unfoldable mutual
  pub term_of : Form → Term
  term_of (Nf.num z) = num z
  term_of (Nf.truth b) = truth b
  term_of (Nf.row g) = name g
  term_of (Nf.cell i g) = field i (name g)
  term_of (Nf.rec ts) = rec (terms_of ts)
  term_of (Nf.app f ts) = app f (terms_of ts)
  term_of (Nf.bin o s t) = bin o (term_of s) (term_of t)
  term_of (Nf.negate t) = negate (term_of t)
  term_of (Nf.comp m q h) = comp m (quals_of q) (term_of h)

  pub terms_of : Forms → Terms
  terms_of fnil = tnil
  terms_of (fcons t ts) = tcons (term_of t) (terms_of ts)

  pub quals_of : Clauses → Quals
  quals_of done = qnil
  quals_of (Nf.gen g k q) = gen g (table k) (quals_of q)
  quals_of (Nf.cond t q) = cond (term_of t) (quals_of q)

abbrev pub question_of : NormalForm → Question
question_of f = record { monoid = f.monoid; quals = quals_of f.clauses; head = term_of f.head }

abbrev pub NotRecord : Term → Type 0
NotRecord (num z) = Unit {0}
NotRecord (truth b) = Unit {0}
NotRecord (name x) = Unit {0}
NotRecord (field i t) = Unit {0}
NotRecord (rec ts) = ⊥
NotRecord (app f ts) = Unit {0}
NotRecord (bin o s t) = Unit {0}
NotRecord (negate t) = Unit {0}
NotRecord (comp m q h) = Unit {0}
NotRecord (table k) = Unit {0}

abbrev pub IsTable : Term → Type 0
IsTable (num z) = ⊥
IsTable (truth b) = ⊥
IsTable (name x) = ⊥
IsTable (field i t) = ⊥
IsTable (rec ts) = ⊥
IsTable (app f ts) = ⊥
IsTable (bin o s t) = ⊥
IsTable (negate t) = ⊥
IsTable (comp m q h) = ⊥
IsTable (table k) = Unit {0}

abbrev pub NotAnd : Bin → Type 0
NotAnd plus = Unit {0}
NotAnd minus = Unit {0}
NotAnd times = Unit {0}
NotAnd equal = Unit {0}
NotAnd less = Unit {0}
NotAnd and = ⊥
NotAnd or = Unit {0}

-- a condition that is no "and", and no "some" where b says that it gives way
abbrev pub Stays : Bool → Term → Type 0
Stays b (num z) = Unit {0}
Stays b (truth x) = Unit {0}
Stays b (name x) = Unit {0}
Stays b (field i t) = Unit {0}
Stays b (rec ts) = Unit {0}
Stays b (app f ts) = Unit {0}
Stays b (bin o s t) = NotAnd o
Stays b (negate t) = Unit {0}
Stays b (comp m q h) = gives_way m b ≡ false
Stays b (table k) = Unit {0}

-- None of the six rules applies anywhere in a term. In document 01's words and order: (1) no name is bound to a term;
-- (2) no field of a record; (3) no table that is not a generator's term; (4) no "and" condition; (5) no generator over a
-- comprehension, and "every generator left ranges over a table"; (6) no "some" condition directly in set, max, min, some or all.
unfoldable mutual
  pub NoRule : Term → Type 0
  NoRule (num z) = Unit {0}
  NoRule (truth b) = Unit {0}
  NoRule (name x) = Unit {0}
  NoRule (field i t) = NotRecord t × NoRule t  -- (2)
  NoRule (rec ts) = NoRuleL ts
  NoRule (app f ts) = NoRuleL ts
  NoRule (bin o s t) = NoRule s × NoRule t
  NoRule (negate t) = NoRule t
  NoRule (comp m q h) = NoRuleQ q (idempotent m) × NoRule h
  NoRule (table k) = ⊥  -- (3)

  pub NoRuleL : Terms → Type 0
  NoRuleL tnil = Unit {0}
  NoRuleL (tcons t ts) = NoRule t × NoRuleL ts

  -- b: directly in set, max, min, some or all
  pub NoRuleQ : Quals → Bool → Type 0
  NoRuleQ qnil b = Unit {0}
  NoRuleQ (gen x t q) b = IsTable t × NoRuleQ q b  -- (5)
  NoRuleQ (bind x t q) b = ⊥  -- (1)
  NoRuleQ (cond t q) b = Stays b t × NoRule t × NoRuleQ q b  -- (4), (6)

-- the names that hold behind clauses
unfoldable pub behind : Clauses → Scope → Scope
behind done S = S
behind (Nf.gen g k q) S = behind q (upd g true S)
behind (Nf.cond t q) S = behind q S

-- "Generators are renumbered from 0 in written order": numbered i, i + 1, i + 2 .. from i on; and each name is one that holds in S or that of a
-- generator in whose scope it stands.
unfoldable mutual
  pub Ordered : Form → Scope → ℕ → Type 0
  Ordered (Nf.num z) S i = Unit {0}
  Ordered (Nf.truth b) S i = Unit {0}
  Ordered (Nf.row g) S i = S g ≡ true
  Ordered (Nf.cell f g) S i = S g ≡ true
  Ordered (Nf.rec ts) S i = OrderedF ts S i
  Ordered (Nf.app f ts) S i = OrderedF ts S i
  Ordered (Nf.bin o s t) S i = Ordered s S i × Ordered t S (i + gens s)
  Ordered (Nf.negate t) S i = Ordered t S i
  Ordered (Nf.comp m q h) S i = OrderedC q S i × Ordered h (behind q S) (i + gens_c q)

  pub OrderedF : Forms → Scope → ℕ → Type 0
  OrderedF fnil S i = Unit {0}
  OrderedF (fcons t ts) S i = Ordered t S i × OrderedF ts S (i + gens t)

  pub OrderedC : Clauses → Scope → ℕ → Type 0
  OrderedC done S i = Unit {0}
  OrderedC (Nf.gen g k q) S i = (g ≡ i) × OrderedC q (upd g true S) (suc i)
  OrderedC (Nf.cond t q) S i = Ordered t S i × OrderedC q S (i + gens t)
