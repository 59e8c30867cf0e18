-- A place: what a node comes to at its head, and the copies of the comprehensions around it in which we stand. An entry of
-- the environment is a word, twice the copy's first number plus its flag.
use Rattle.std.specs.Prelude.{◌≡◌, Bool, true, false, List, ℕ, suc, ◌/◌, ◌%◌, ◌^◌, ◌<◌, ◌≤◌, eqb, ltb, length, get_or}
use Rattle.std.specs.Int.Signed.{mag}
use Rattle.spec_calculus.specs.Lists.{pick}
use Rattle.spec_calculus.specs.Syntax.{Collection, of}
use Rattle.spec_normal_form.specs.Form as Nf
use Rattle.spec_normal_form.specs.Normal.{Sem, row, fields, nested, plain, nothing, quote, ranges, part, binary, applied}
use Rattle.front_theory.specs.NodeTable.{nnum, ntruth, nrec, nbin, nnegate, napp, ncomp, ntable}
use Rattle.front_theory.specs.NodeForms.{Env, Offsets, bound_of, sems_of, comp_of, levels, sem}
use Rattle.front_theory.specs.CappedOffsets.{limit, saturated}
use Rattle.base_syntax.specs.MonoidWord.{monoid_of}
use Rattle.front_sizes.specs.SizeWords.{stored}
use Rattle.front_nodes.specs.NodeTable.{depth_at, children_of, qualifiers_of, nodes_of}
use Rattle.front_nodes.specs.Levels.{Levelled}
use Rattle.front_nodes.specs.declared.QueryNode.{QueryNode}
use Rattle.front_nodes.specs.declared.QueryNode.TheVariants as No
use Rattle.front_resolve.specs.declared.Form.{Form}
use Rattle.front_resolve.specs.declared.Form.TheVariants.{Number, Truth, Row, Cell, Record, Two, Not, Comp, Table, Operator, Bad}
use Rattle.front_resolve.specs.declared.Head.{Head}
use Rattle.front_resolve.specs.declared.Next.{Next}
use Rattle.front_resolve.specs.declared.Next.TheVariants.{On, At}
use Rattle.base_syntax.specs.Numbers.{bin_of, fun_of}

pub record Resolved : Type 0 where
  pub form : Form
  pub node : ℕ
  pub depth : ℕ
  pub env : List ℕ

-- a head in an environment
abbrev pub under : List ℕ → Head → Resolved
under l h = record { form = h.form; node = h.node; depth = h.depth; env = l }

abbrev pub odd : ℕ → Bool
odd w = eqb (w % 2) 1

abbrev pub bit : Bool → ℕ
bit true = 1
bit false = 0

unfoldable pub env_of : List ℕ → Env
env_of l = λ d. record { base = get_or l d 0 / 2; flag = odd (get_or l d 0) }

-- the offsets that the scratch holds
abbrev pub offsets : List ℕ → Offsets
offsets s = saturated (stored s)

-- what a node comes to; K is each table's collection
abbrev pub sem_n : (ℕ → Collection) → List ℕ → ℕ → ℕ → Env → Sem
sem_n K s = sem K (nodes_of s) (offsets s)

-- what a form at node i comes to
abbrev pub form_sem : (ℕ → Collection) → List ℕ → ℕ → ℕ → Env → Form → Sem
form_sem K s i D e (Number z) = plain (λ n. Nf.num z)
form_sem K s i D e (Truth b) = plain (λ n. Nf.truth b)
form_sem K s i D e (Row g) = row g
form_sem K s i D e (Cell k g) = plain (λ n. Nf.cell k g)
form_sem K s i D e Record = fields (sems_of (sem_n K s) (children_of s i) D e)
form_sem K s i D e (Two o a b) = binary (bin_of o) (sem_n K s a D e) (sem_n K s b D e)
form_sem K s i D e (Not c) = plain (λ n. Nf.negate (quote (sem_n K s c D e) n))
form_sem K s i D e (Comp m h) = comp_of (nodes_of s) (sem_n K s) (monoid_of m) (qualifiers_of s i) h D e
form_sem K s i D e (Table k) = nested (of (K k)) (λ b n. Nf.gen n k Nf.done) (λ b n. row n)
form_sem K s i D e (Operator f) = applied (fun_of f) (sems_of (sem_n K s) (children_of s i) D e)
form_sem K s i D e Bad = nothing

abbrev pub place_sem : (ℕ → Collection) → List ℕ → Resolved → Sem
place_sem K s r = form_sem K s r.node r.depth (env_of r.env) r.form

-- A form at node i is that node's own, or a row or a cell, or nothing. `nothing` is the number 0, so `Bad` says as much of
-- what a node comes to as that number would.
abbrev pub FormAt : List ℕ → ℕ → ℕ → Form → Type 0
FormAt s i D (Number z) = (nodes_of s i ≡ nnum z) × (mag z < 2 ^ 33)
FormAt s i D (Truth b) = nodes_of s i ≡ ntruth b
FormAt s i D (Row g) = g ≤ limit
FormAt s i D (Cell k g) = (k < 2 ^ 33) × (g ≤ limit)
FormAt s i D Record = nodes_of s i ≡ nrec (children_of s i)
FormAt s i D (Two o a b) = nodes_of s i ≡ nbin (bin_of o) a b
FormAt s i D (Not c) = nodes_of s i ≡ nnegate c
FormAt s i D (Comp m h) = (nodes_of s i ≡ ncomp (monoid_of m) (qualifiers_of s i) h) × (D < levels)
FormAt s i D (Table k) = (nodes_of s i ≡ ntable k) × (k < 2 ^ 33)
FormAt s i D (Operator f) = nodes_of s i ≡ napp (fun_of f) (children_of s i)
FormAt s i D Bad = Unit {0}

pub record Fine (s : List ℕ) (r : Resolved) : Type 0 where
  pub form : FormAt s r.node r.depth r.form
  pub long : length r.env ≡ levels

-- A place that came of node j: it stands there or before, and at its node's depth where the depths of the table agree.
pub record From (s : List ℕ) (j D : ℕ) (r : Resolved) : Type 0 where
  pub below : r.node ≤ j
  pub level : (n : ℕ) → Levelled (nodes_of s) (depth_at s) n → j < n → depth_at s j ≡ D → depth_at s r.node ≡ r.depth
  pub fine : Fine s r

-- The place that node i comes to has what the node comes to.
pub record Heads (s : List ℕ) (i D : ℕ) (l : List ℕ) (r : Resolved) : Type 0 where
  pub is : (K : ℕ → Collection) → place_sem K s r ≡ sem_n K s i D (env_of l)
  pub from : From s i D r

-- the place of the name that node x binds, in a comprehension at depth d
pub record FollowPost (s : List ℕ) (x d : ℕ) (l : List ℕ) (r : Resolved) : Type 0 where
  pub is : (K : ℕ → Collection) → place_sem K s r ≡ bound_of (offsets s) (sem_n K s) x d (env_of l) (nodes_of s x)
  pub from : From s x (suc d) r

-- the place of what a generator over h ranges through, from number n on
pub record SplicePost (s : List ℕ) (h : Resolved) (v : Bool) (n : ℕ) (r : Resolved) : Type 0 where
  pub is : (K : ℕ → Collection) → place_sem K s r ≡ (ranges (place_sem K s h) v n).head
  pub from : From s h.node h.depth r

-- the place of field k of h
pub record Projected (s : List ℕ) (k : ℕ) (h : Resolved) (r : Resolved) : Type 0 where
  pub is : (K : ℕ → Collection) → place_sem K s r ≡ part k (place_sem K s h)
  pub from : From s h.node h.depth r

-- A step to a place of which P holds, behind which the environment is l: the place, or a node before j that comes to it.
abbrev pub Steps : List ℕ → ℕ → List ℕ → (Resolved → Type 0) → Next → Type 0
Steps s j l P (On k D) = (k < j) × ((r : Resolved) → Heads s k D l r → P r)
Steps s j l P (At h) = P (under l h)

pub record Stepped (s : List ℕ) (j : ℕ) (l : List ℕ) (P : Resolved → Type 0) (r : Next) : Type 0 where
  pub is : Steps s j l P r
  pub long : length l ≡ levels

-- a step to field k of h, which does not look at the environment
pub record ProjectPost (s : List ℕ) (k : ℕ) (h : Head) (r : Next) : Type 0 where
  pub is : (l : List ℕ) → length l ≡ levels → Stepped s h.node l (Projected s k (under l h)) r

-- a node's form, where it is neither a name nor a field
abbrev pub form_for : ℕ → QueryNode → Form
form_for D (No.Number z) = Number z
form_for D (No.Truth b) = Truth b
form_for D (No.Name x d) = Bad
form_for D (No.Field k c) = Bad
form_for D No.Record = Record
form_for D (No.Two o a b) = Two o a b
form_for D (No.Not c) = Not c
form_for D (No.Comp m h) = pick (ltb D levels) (Comp m h) Bad
form_for D (No.Table k) = Table k
form_for D (No.Gen c) = Bad
form_for D (No.Bind c) = Bad
form_for D (No.Cond c) = Bad
form_for D (No.Operator f) = Operator f
form_for D No.Bad = Bad
