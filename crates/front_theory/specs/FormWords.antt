-- A normal form as words in written order: one for each term, comprehension and qualifier that is left, each with the number
-- of words below it. A cell is one word, and so is a generator with its table.
use Rattle.std.specs.Prelude.{List, [], ◌∷◌, ◌++◌, Bool, ℕ, suc, ◌+◌, ℤ}
use Rattle.spec_calculus.specs.Syntax.{Monoid, Bin, Fun}
use Rattle.spec_normal_form.specs.Form.{Form, Forms, Clauses, num, truth, row, cell, rec, bin, negate, app, comp, fnil, fcons, done, gen, cond}

-- what a word stands for
pub data Label : Type 0 where
  wnum : ℤ → Label
  wtruth : Bool → Label
  wrow : ℕ → Label
  wcell : ℕ → ℕ → Label
  wrec wnegate wcond : Label
  wbin : Bin → Label
  wapp : Fun → Label
  wcomp : Monoid → Label
  wgen : ℕ → ℕ → Label  -- generator g over table k

pub record Word : Type 0 where
  pub label : Label
  pub below : ℕ

abbrev pub word : Label → ℕ → Word
word a n = record { label = a; below = n }

-- how many words it has
unfoldable mutual
  pub words : Form → ℕ
  words (num z) = 1
  words (truth b) = 1
  words (row g) = 1
  words (cell i g) = 1
  words (rec ts) = suc (words_f ts)
  words (app f ts) = suc (words_f ts)
  words (bin o s t) = suc (words s + words t)
  words (negate t) = suc (words t)
  words (comp m q h) = suc (words_c q + words h)

  pub words_f : Forms → ℕ
  words_f fnil = 0
  words_f (fcons t ts) = words t + words_f ts

  pub words_c : Clauses → ℕ
  words_c done = 0
  words_c (gen g k q) = suc (words_c q)
  words_c (cond t q) = suc (words t + words_c q)

-- its words
unfoldable mutual
  pub flat : Form → List Word
  flat (num z) = word (wnum z) 0 ∷ []
  flat (truth b) = word (wtruth b) 0 ∷ []
  flat (row g) = word (wrow g) 0 ∷ []
  flat (cell i g) = word (wcell i g) 0 ∷ []
  flat (rec ts) = word wrec (words_f ts) ∷ flat_f ts
  flat (app f ts) = word (wapp f) (words_f ts) ∷ flat_f ts
  flat (bin o s t) = word (wbin o) (words s + words t) ∷ (flat s ++ flat t)
  flat (negate t) = word wnegate (words t) ∷ flat t
  flat (comp m q h) = word (wcomp m) (words_c q + words h) ∷ (flat_c q ++ flat h)

  pub flat_f : Forms → List Word
  flat_f fnil = []
  flat_f (fcons t ts) = flat t ++ flat_f ts

  pub flat_c : Clauses → List Word
  flat_c done = []
  flat_c (gen g k q) = word (wgen g k) 0 ∷ flat_c q
  flat_c (cond t q) = word wcond (words t) ∷ (flat t ++ flat_c q)
