-- Which operator fills each place of a row, and that the marks of terms name them: a row or a cell the loop of its generator, an
-- inner comprehension its own nest.
use Rattle.std.specs.Prelude.{◌≡◌, List, [], ◌∷◌, ◌++◌, true, ℕ, suc, ◌+◌, ◌≤◌, ◌<◌, length, get_or}
use Rattle.spec_calculus.specs.Syntax.{Monoid}
use Rattle.spec_normal_form.specs.Form.{Form, Forms, Clauses, num, truth, row, cell, rec, bin, negate, app, comp, fnil, fcons, done, gen, cond}
use Rattle.form_words.specs.declared.FormNode.TheVariants.{Generator}
use Rattle.base_scratch.specs.Map.{form_words}
use Rattle.form_words.specs.NodeWord.{next, node_at}
use Rattle.form_words.specs.FormWords.{size, size_c}
use Rattle.plan_marks.specs.Marks.{mark_at}
use Rattle.plan_marks.specs.PlanIn.{term_in}
use Rattle.plan_marks.proofs.FormInWords.{Lies}
use Rattle.plan_machine.specs.MachineWords.{Path, start, loop_p, in_p, past_p}
use Rattle.plan_machine.specs.AnswerText.{parts, among, collects}
use Rattle.plan_machine.proofs.CollectionsInHeads.{Scalar, ScalarC, Either, Fitting}
use Rattle.plan_links.specs.Spots.{Spots, end, loop, inner, comp_of}
use Rattle.plan_links.specs.SpotWords.{fuel}
use Rattle.exec_terms.proofs.PartsBefore.{PartAt}
use Rattle.exec_simulation.specs.PathPlaces.{inside, loop_node, spots_at}
use Rattle.exec_simulation.specs.WiredProgram.{Id, loop_i, end_i}

-- the operator that fills each place of the row at a path, from the first place on
unfoldable pub fillers : Spots → Path → List Id
fillers p start = []
fillers p (loop_p π s c x) = fillers p π ++ loop_i (loop_node (spots_at p π)) ∷ []
fillers p (in_p π i x) = fillers p π
fillers p (past_p π i x) = fillers p π ++ end_i (comp_of (inside (spots_at p π))) ∷ []

abbrev pub filler_at : List Id → ℕ → Id
filler_at F n = get_or F n (end_i 0)

-- mark m is that of a place that the loop of generator g fills
pub record NamesRow (s : List ℕ) (F : List Id) (m g : ℕ) : Type 0 where
  pub place : ℕ
  pub mark : m ≡ suc place
  pub low : place < length F
  pub loop : ℕ
  pub is : filler_at F place ≡ loop_i loop
  pub table : ℕ
  pub node : node_at s loop ≡ Generator g table

-- that the nest of the comprehension at c fills
pub record NamesEnd (F : List Id) (m c : ℕ) : Type 0 where
  pub place : ℕ
  pub mark : m ≡ suc place
  pub low : place < length F
  pub is : filler_at F place ≡ end_i c

-- ---- terms at a place
abbrev mutual
  pub Named : List ℕ → List Id → ℕ → Form → Type 0
  Named s F i (num z) = Unit {0}
  Named s F i (truth b) = Unit {0}
  Named s F i (row g) = NamesRow s F (mark_at s i) g
  Named s F i (cell c g) = NamesRow s F (mark_at s i) g
  Named s F i (rec ts) = NamedF s F (i + 1) ts
  Named s F i (app f ts) = NamedF s F (i + 1) ts
  Named s F i (bin o t u) = Named s F (i + 1) t × Named s F (i + 1 + size t) u
  Named s F i (negate t) = Named s F (i + 1) t
  Named s F i (comp m q h) = NamesEnd F (mark_at s i) i

  pub NamedF : List ℕ → List Id → ℕ → Forms → Type 0
  NamedF s F i fnil = Unit {0}
  NamedF s F i (fcons t ts) = Named s F i t × NamedF s F (i + size t) ts

-- the conditions with mark m
abbrev pub NamedC : List ℕ → List Id → ℕ → ℕ → Clauses → Type 0
NamedC s F m i done = Unit {0}
NamedC s F m i (gen g k q) = NamedC s F m (i + 1) q
NamedC s F m i (cond t q) = (mark_at s i ≡ m → Named s F (i + 1) t) × NamedC s F m (i + 1 + size t) q

-- the parts of a head that stand before node b
abbrev mutual
  pub NamedUpto : List ℕ → List Id → ℕ → ℕ → Form → Type 0
  NamedUpto s F b i (num z) = Unit {0}
  NamedUpto s F b i (truth z) = Unit {0}
  NamedUpto s F b i (row g) = i < b → Named s F i (row g)
  NamedUpto s F b i (cell c g) = i < b → Named s F i (cell c g)
  NamedUpto s F b i (rec ts) = NamedUptoF s F b (i + 1) ts
  NamedUpto s F b i (app f ts) = i < b → Named s F i (app f ts)
  NamedUpto s F b i (bin o t u) = i < b → Named s F i (bin o t u)
  NamedUpto s F b i (negate t) = i < b → Named s F i (negate t)
  NamedUpto s F b i (comp m q h) = i < b → Named s F i (comp m q h)

  pub NamedUptoF : List ℕ → List Id → ℕ → ℕ → Forms → Type 0
  NamedUptoF s F b i fnil = Unit {0}
  NamedUptoF s F b i (fcons t ts) = NamedUpto s F b i t × NamedUptoF s F b (i + size t) ts

-- ---- operators
-- the comprehension at c, which has records and collections only where a head may have them
pub record CompAt (s : List ℕ) (c : ℕ) : Type 0 where
  pub monoid : Monoid
  pub clauses : Clauses
  pub head : Form
  pub lies : Lies s c (comp monoid clauses head)
  pub few : c + size (comp monoid clauses head) ≤ form_words
  pub past : next s c ≡ c + size (comp monoid clauses head)
  pub past_head : next s (c + 1 + size_c clauses) ≡ c + 1 + size_c clauses + size head
  pub scalars : ScalarC clauses
  pub fitting : Either (collects monoid) (Fitting head) (Scalar head)

-- where its head stands
abbrev pub head_of : {s : List ℕ} {c : ℕ} → CompAt s c → ℕ
head_of {s} {c} A = c + 1 + size_c A.clauses

-- its loop at i, behind which the places of a row are filled so
pub record LoopFilled (s : List ℕ) (F : List Id) (c i : ℕ) : Type 0 where
  pub comp : CompAt s c
  pub conditions : NamedC s F (mark_at s i) (c + 1) comp.clauses

-- its nest or reduce
pub record EndFilled (s : List ℕ) (F : List Id) (c : ℕ) : Type 0 where
  pub comp : CompAt s c
  pub conditions : NamedC s F 0 (c + 1) comp.clauses
  pub head : Named s F (head_of comp) comp.head

-- a comprehension at b inside it: the next place is its, and where that place is a part of the head, so is the comprehension
pub record InnerFilled (s : List ℕ) (F : List Id) (c b : ℕ) : Type 0 where
  pub comp : CompAt s c
  pub mark : mark_at s b ≡ suc (length F)
  pub part : among (length F) (parts (term_in fuel s (head_of comp))) ≡ true → PartAt (head_of comp) comp.head b
  pub before : PartAt (head_of comp) comp.head b → NamedUpto s F b (head_of comp) comp.head

-- all operators, where the places before the first are filled so
abbrev pub Fills : List ℕ → List Id → Spots → Type 0
Fills s F (end c) = EndFilled s F c
Fills s F (loop i p) = LoopFilled s (F ++ loop_i i ∷ []) (comp_of p) i × Fills s (F ++ loop_i i ∷ []) p
Fills s F (inner a p) = InnerFilled s F (comp_of p) (comp_of a) × (Fills s F a × Fills s (F ++ end_i (comp_of a) ∷ []) p)
