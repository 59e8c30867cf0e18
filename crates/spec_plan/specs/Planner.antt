-- "This is the question's plan, and the only one the engine makes or prints for it."
use Rattle.std.specs.Prelude.{List, [], ◌∷◌, ◌++◌, Bool, true, false, ◌&&◌, ◌||◌, not, ℕ, suc, eqb, pos}
use Rattle.spec_calculus.specs.Lists.{pick, upd}
use Rattle.spec_calculus.specs.Syntax.{and}
use Rattle.spec_normal_form.specs.Form.{Form, Forms, Clauses, NormalForm, num, truth, row, cell, rec, bin, negate, app, comp, fnil, fcons, done, gen, cond}
use Rattle.spec_plan.specs.Plan.{PTerm, PTerms, pnum, ptruth, place, pfield, prec, pbin, pnegate, papp, pnil, pcons, Source, table, unit, Op, join, outer, nest, Plan, plan}

-- "free of comprehensions"
unfoldable mutual
  pub free : Form → Bool
  free (num z) = true
  free (truth b) = true
  free (row g) = true
  free (cell i g) = true
  free (rec ts) = frees ts
  free (app f ts) = frees ts
  free (bin o s t) = free s && free t
  free (negate t) = free t
  free (comp m q h) = false

  pub frees : Forms → Bool
  frees fnil = true
  frees (fcons t ts) = free t && frees ts

-- whether a term mentions generator x
unfoldable mutual
  pub mentions : ℕ → Form → Bool
  mentions x (num z) = false
  mentions x (truth b) = false
  mentions x (row g) = eqb x g
  mentions x (cell i g) = eqb x g
  mentions x (rec ts) = mentions_f x ts
  mentions x (app f ts) = mentions_f x ts
  mentions x (bin o s t) = mentions x s || mentions x t
  mentions x (negate t) = mentions x t
  mentions x (comp m q h) = mentions_c x q || mentions x h

  pub mentions_f : ℕ → Forms → Bool
  mentions_f x fnil = false
  mentions_f x (fcons t ts) = mentions x t || mentions_f x ts

  pub mentions_c : ℕ → Clauses → Bool
  mentions_c x done = false
  mentions_c x (gen g k q) = mentions_c x q
  mentions_c x (cond t q) = mentions x t || mentions_c x q

-- what stands in a plan for the row of each generator
abbrev pub Slots : Type 0
Slots = ℕ → PTerm

-- the stream's width behind the inner comprehensions of a term: one place each
unfoldable mutual
  pub next : Form → ℕ → ℕ
  next (num z) k = k
  next (truth b) k = k
  next (row g) k = k
  next (cell i g) k = k
  next (rec ts) k = nexts ts k
  next (app f ts) k = nexts ts k
  next (bin o s t) k = next t (next s k)
  next (negate t) k = next t k
  next (comp m q h) k = suc k

  pub nexts : Forms → ℕ → ℕ
  nexts fnil k = k
  nexts (fcons t ts) k = nexts ts (next t k)

-- the term over places, its inner comprehensions' places beginning at k: "Its value takes its place in the term."
unfoldable mutual
  pub term : Form → Slots → ℕ → PTerm
  term (num z) c k = pnum z
  term (truth b) c k = ptruth b
  term (row g) c k = c g
  term (cell i g) c k = pfield i (c g)
  term (rec ts) c k = prec (terms ts c k)
  term (app f ts) c k = papp f (terms ts c k)
  term (bin o s t) c k = pbin o (term s c k) (term t c (next s k))
  term (negate t) c k = pnegate (term t c k)
  term (comp m q h) c k = place k

  pub terms : Forms → Slots → ℕ → PTerms
  terms fnil c k = pnil
  terms (fcons t ts) c k = pcons (term t c k) (terms ts c (next t k))

-- several conditions, one after another
unfoldable pub next_l : List Form → ℕ → ℕ
next_l [] k = k
next_l (t ∷ ts) k = next_l ts (next t k)

unfoldable pub term_l : List Form → Slots → ℕ → List PTerm
term_l [] c k = []
term_l (t ∷ ts) c k = term t c k ∷ term_l ts c (next t k)

-- "several are joined by "and", leftmost innermost"
unfoldable pub joined : PTerm → List PTerm → PTerm
joined a [] = a
joined a (b ∷ l) = joined (pbin and a b) l

-- "no condition is true"
unfoldable pub conj : List PTerm → PTerm
conj [] = ptruth true
conj (a ∷ l) = joined a l

-- a comprehension's generators
pub data Gen : Type 0 where
  from : ℕ → ℕ → Gen  -- generator g over table k
  from_unit : Gen

unfoldable pub source : Gen → Source
source (from g k) = table k
source from_unit = unit

unfoldable pub gens_of : Clauses → List Gen
gens_of done = []
gens_of (gen g k q) = from g k ∷ gens_of q
gens_of (cond t q) = gens_of q

unfoldable pub conds_of : Clauses → List Form
conds_of done = []
conds_of (gen g k q) = conds_of q
conds_of (cond t q) = t ∷ conds_of q

-- "A comprehension without generators is planned as if it had one, over "unit""
unfoldable pub or_unit : List Gen → List Gen
or_unit [] = from_unit ∷ []
or_unit (g ∷ gs) = g ∷ gs

unfoldable pub plan_gens : Clauses → List Gen
plan_gens q = or_unit (gens_of q)

unfoldable pub sift : (Form → Bool) → List Form → List Form
sift p [] = []
sift p (t ∷ ts) = pick (p t) (t ∷ sift p ts) (sift p ts)

-- "A condition free of comprehensions", and "Conditions that held a comprehension"
unfoldable pub early : Clauses → List Form
early q = sift free (conds_of q)

unfoldable pub late : Clauses → List Form
late q = sift (λ t. not (free t)) (conds_of q)

-- each generator takes the next place
unfoldable pub slot : Gen → ℕ → Slots → Slots
slot (from g k) n c = upd g (place n) c
slot from_unit n c = c

unfoldable pub slots : List Gen → ℕ → Slots → Slots
slots [] n c = c
slots (g ∷ gs) n c = slots gs (suc n) (slot g n c)

unfoldable pub after : List Gen → ℕ → ℕ
after [] n = n
after (g ∷ gs) n = after gs (suc n)

unfoldable pub mentioned : Gen → Form → Bool
mentioned (from g k) t = mentions g t
mentioned from_unit t = false

-- "goes to the last generator of its comprehension that it mentions, else the first": i is the next position, b the last
-- found so far
unfoldable pub last_of : List Gen → Form → ℕ → ℕ → ℕ
last_of [] t i b = b
last_of (g ∷ gs) t i b = last_of gs t (suc i) (pick (mentioned g t) i b)

unfoldable pub home : List Gen → Form → ℕ
home gs t = last_of gs t 0 0

-- an operator for each generator, in order, with the conditions that go to its position
unfoldable pub grows_at : (Source → PTerm → Op) → List Gen → (ℕ → List Form) → ℕ → Slots → List Op
grows_at o [] at n c = []
grows_at o (g ∷ gs) at n c = o (source g) (conj (term_l (at 0) (slot g n c) (suc n))) ∷ grows_at o gs (λ j. at (suc j)) (suc n) (slot g n c)

unfoldable pub grows : (Source → PTerm → Op) → List Gen → List Form → ℕ → Slots → List Op
grows o gs cs n c = grows_at o gs (λ j. sift (λ t. eqb (home gs t) j) cs) n c

-- "Then each inner comprehension, those in conditions before those in the head, left to right, is planned on the stream:
-- outer for each generator, its own inner ones, nest." "Conditions that held a comprehension go to the nest or reduce."
-- n is the stream's width where the term is planned.
unfoldable mutual
  pub ops : Form → ℕ → Slots → List Op
  ops (num z) n c = []
  ops (truth b) n c = []
  ops (row g) n c = []
  ops (cell i g) n c = []
  ops (rec ts) n c = ops_f ts n c
  ops (app f ts) n c = ops_f ts n c  -- "Comprehensions inside it are planned in written order" (document 02, E2)
  ops (bin o s t) n c = ops s n c ++ ops t (next s n) c
  ops (negate t) n c = ops t n c
  ops (comp m q h) n c =
      let c₁ = slots (plan_gens q) n c in
      let n₁ = after (plan_gens q) n in
      let n₂ = next_l (late q) n₁ in
      grows outer (plan_gens q) (early q) n c ++ (ops_c q n₁ c₁ ++ (ops h n₂ c₁ ++ (nest n m (term h c₁ n₂) (conj (term_l (late q) c₁ n₁)) ∷ [])))

  pub ops_f : Forms → ℕ → Slots → List Op
  ops_f fnil n c = []
  ops_f (fcons t ts) n c = ops t n c ++ ops_f ts (next t n) c

  -- those in conditions
  pub ops_c : Clauses → ℕ → Slots → List Op
  ops_c done n c = []
  ops_c (gen g k q) n c = ops_c q n c
  ops_c (cond t q) n c = pick (free t) (ops_c q n c) (ops t n c ++ ops_c q (next t n) c)

abbrev pub no_slots : Slots
no_slots = λ g. pnum (pos 0)

-- "A plan starts with one. Each generator of the outermost comprehension is a join."
unfoldable pub plan_of : NormalForm → Plan
plan_of f =
    let q = f.clauses in
    let c₁ = slots (plan_gens q) 0 no_slots in
    let n₁ = after (plan_gens q) 0 in
    let n₂ = next_l (late q) n₁ in
    plan (grows join (plan_gens q) (early q) 0 no_slots ++ (ops_c q n₁ c₁ ++ ops f.head n₂ c₁)) f.monoid (term f.head c₁ n₂) (conj (term_l (late q) c₁ n₁))
