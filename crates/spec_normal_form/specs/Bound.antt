-- "28: a number in the normal form with bound over 2^62."
use Rattle.std.specs.Prelude.{List, [], ◌∷◌, ◌++◌, Bool, true, ◌&&◌, ℕ, ◌+◌, ◌*◌, ◌^◌, leb, nat_abs, get_or}
use Rattle.spec_calculus.specs.Lists.{pick}
use Rattle.spec_calculus.specs.Syntax.{Monoid, of, sum, max, min, some, all, Bin, plus, minus, times, equal, less, and, or, Fun, choice, is_open}
use Rattle.spec_normal_form.specs.Form.{Form, Forms, Clauses, NormalForm, as_form, num, truth, row, cell, rec, bin, negate, app, comp, fnil, fcons, done, gen, cond}

-- a comprehension's own generators
unfoldable pub own_gens : Clauses → ℕ
own_gens done = 0
own_gens (gen g k q) = 1 + own_gens q
own_gens (cond t q) = own_gens q

-- "plus and minus the sum; times the product"
unfoldable pub bin_bound : Bin → ℕ → ℕ → ℕ
bin_bound plus a b = a + b
bin_bound minus a b = a + b
bin_bound times a b = a * b
bin_bound equal a b = 0
bin_bound less a b = 0
bin_bound and a b = 0
bin_bound or a b = 0

-- "Its bound is the larger one." (document 02, E2)
unfoldable pub larger : ℕ → ℕ → ℕ
larger a b = pick (leb a b) b a

-- of an operator, by the bounds of its terms, in their order; an open minute is a truth and has none (document 02, E4)
unfoldable pub app_bound : Fun → List ℕ → ℕ
app_bound choice bs = larger (get_or bs 1 0) (get_or bs 2 0)
app_bound (is_open n c) bs = 0

-- "max its head's; sum its head's times 1,024 for each generator"; "The bound of a max is still its head's." "monoid 8, min, with .. max's
-- bound" (document 02, E1)
unfoldable pub comp_bound : Monoid → ℕ → ℕ → ℕ
comp_bound (of c) g a = 0
comp_bound sum g a = a * 1024 ^ g
comp_bound max g a = a
comp_bound min g a = a
comp_bound some g a = 0
comp_bound all g a = 0

-- what the columns of each generator's table declare: the bound of column i of generator g's is C g i
abbrev pub Declared : Type 0
Declared = ℕ → ℕ → ℕ

-- "Bound of a number: a cell 2^31; a constant its magnitude; .." What is no number has bound 0. "Reading a cell promises that bound; the bound rule .. use[s]
-- it for 2^31." (document 02, E5)
unfoldable mutual
  pub bound : Declared → Form → ℕ
  bound C (num z) = nat_abs z
  bound C (truth b) = 0
  bound C (row g) = 0
  bound C (cell i g) = C g i
  bound C (rec ts) = 0
  bound C (app f ts) = app_bound f (bounds C ts)
  bound C (bin o s t) = bin_bound o (bound C s) (bound C t)
  bound C (negate t) = 0
  bound C (comp m q h) = comp_bound m (own_gens q) (bound C h)

  pub bounds : Declared → Forms → List ℕ
  bounds C fnil = []
  bounds C (fcons t ts) = bound C t ∷ bounds C ts

abbrev pub small : Declared → Form → Bool
small C t = leb (bound C t) (2 ^ 62)

-- every number in it
unfoldable mutual
  pub within : Declared → Form → Bool
  within C (num z) = small C (num z)
  within C (truth b) = true
  within C (row g) = true
  within C (cell i g) = small C (cell i g)
  within C (rec ts) = within_f C ts
  within C (app f ts) = small C (app f ts) && within_f C ts
  within C (bin o s t) = small C (bin o s t) && (within C s && within C t)
  within C (negate t) = within C t
  within C (comp m q h) = small C (comp m q h) && (within_c C q && within C h)

  pub within_f : Declared → Forms → Bool
  within_f C fnil = true
  within_f C (fcons t ts) = within C t && within_f C ts

  pub within_c : Declared → Clauses → Bool
  within_c C done = true
  within_c C (gen g k q) = within_c C q
  within_c C (cond t q) = within C t && within_c C q

-- the tables of a form's generators. "Generators are renumbered from 0 in written order": that of generator g stands at position g
unfoldable mutual
  pub tables_of : Form → List ℕ
  tables_of (num z) = []
  tables_of (truth b) = []
  tables_of (row g) = []
  tables_of (cell i g) = []
  tables_of (rec ts) = tables_of_f ts
  tables_of (app f ts) = tables_of_f ts
  tables_of (bin o s t) = tables_of s ++ tables_of t
  tables_of (negate t) = tables_of t
  tables_of (comp m q h) = tables_of_c q ++ tables_of h

  pub tables_of_f : Forms → List ℕ
  tables_of_f fnil = []
  tables_of_f (fcons t ts) = tables_of t ++ tables_of_f ts

  pub tables_of_c : Clauses → List ℕ
  tables_of_c done = []
  tables_of_c (gen g k q) = k ∷ tables_of_c q
  tables_of_c (cond t q) = tables_of t ++ tables_of_c q

-- B k i is the bound of column i of table k
unfoldable pub declared : (ℕ → ℕ → ℕ) → Form → Declared
declared B t g = B (get_or (tables_of t) g 0)

unfoldable pub numbers_fit : (ℕ → ℕ → ℕ) → NormalForm → Bool
numbers_fit B f = within (declared B (as_form f)) (as_form f)
