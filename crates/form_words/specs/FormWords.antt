-- The words of a form, one for each form, generator and condition in it, in pre-order; what fits into them; and that
-- scratch holds words from a place on.
use Rattle.std.specs.Prelude.{◌≡◌, List, [], ◌∷◌, ◌++◌, ℕ, suc, ◌+◌, ◌-◌, ◌*◌, ◌^◌, ◌<◌, ℤ, pos, negsuc}
use Rattle.std.specs.Int.Signed.{mag}
use Rattle.spec_calendar.specs.Hours.{Calendar}
use Rattle.spec_calculus.specs.Lists.{pick}
use Rattle.spec_normal_form.specs.Form.{Form, Forms, Clauses, num, truth, row, cell, rec, bin, negate, app, comp, fnil, fcons, done, gen, cond}
use Rattle.base_syntax.specs.Numbers.{op_arg, fun_arg, FitsOp, LentOp, monoid_arg}
use Rattle.form_words.specs.NodeWord.{word_at, pack}
use Rattle.form_words.specs.Kinds.{number_kind, truth_kind, row_kind, cell_kind, record_kind, binary_kind, negation_kind, comprehension_kind, generator_kind, condition_kind, operator_kind, pair_span}

-- how many words it has
unfoldable mutual
  pub size : Form → ℕ
  size (num z) = 1
  size (truth b) = 1
  size (row g) = 1
  size (cell c g) = 1
  size (rec ts) = suc (size_f ts)
  size (bin o s t) = suc (size s + size t)
  size (negate t) = suc (size t)
  size (app f ts) = suc (size_f ts)
  size (comp m q h) = suc (size_c q + size h)

  pub size_f : Forms → ℕ
  size_f fnil = 0
  size_f (fcons t ts) = size t + size_f ts

  pub size_c : Clauses → ℕ
  size_c done = 0
  size_c (gen g k q) = suc (size_c q)
  size_c (cond t q) = suc (size t + size_c q)

-- a number's argument is its distance from -2^31
abbrev pub number_arg : ℤ → ℕ
number_arg (pos n) = 0x80000000 + n
number_arg (negsuc n) = 0x7fffffff - n

unfoldable mutual
  pub flat : Form → List ℕ
  flat (num z) = pack number_kind 0 (number_arg z) ∷ []
  flat (truth b) = pack truth_kind 0 (pick b 1 0) ∷ []
  flat (row g) = pack row_kind 0 g ∷ []
  flat (cell c g) = pack cell_kind 0 (pair_span * c + g) ∷ []
  flat (rec ts) = pack record_kind (size_f ts) 0 ∷ flat_f ts
  flat (bin o s t) = pack binary_kind (size s + size t) (op_arg o) ∷ (flat s ++ flat t)
  flat (negate t) = pack negation_kind (size t) 0 ∷ flat t
  flat (app f ts) = pack operator_kind (size_f ts) (fun_arg f) ∷ flat_f ts
  flat (comp m q h) = pack comprehension_kind (size_c q + size h) (monoid_arg m) ∷ (flat_c q ++ flat h)

  pub flat_f : Forms → List ℕ
  flat_f fnil = []
  flat_f (fcons t ts) = flat t ++ flat_f ts

  -- below a generator is nothing, below a condition its form
  pub flat_c : Clauses → List ℕ
  flat_c done = []
  flat_c (gen g k q) = pack generator_kind 0 (pair_span * g + k) ∷ flat_c q
  flat_c (cond t q) = pack condition_kind (size t) 0 ∷ (flat t ++ flat_c q)

-- constants within 32 bits signed; generators, columns and tables below 1,024; calendars' numbers below 256
abbrev mutual
  pub Fits : Form → Type 0
  Fits (num z) = mag z < 2 ^ 31
  Fits (truth b) = Unit {0}
  Fits (row g) = g < 1024
  Fits (cell c g) = (c < 1024) × (g < 1024)
  Fits (rec ts) = FitsF ts
  Fits (bin o s t) = Fits s × Fits t
  Fits (negate t) = Fits t
  Fits (app f ts) = FitsOp f × FitsF ts
  Fits (comp m q h) = FitsC q × Fits h

  pub FitsF : Forms → Type 0
  FitsF fnil = Unit {0}
  FitsF (fcons t ts) = Fits t × FitsF ts

  pub FitsC : Clauses → Type 0
  FitsC done = Unit {0}
  FitsC (gen g k q) = (g < 1024) × (k < 1024) × FitsC q
  FitsC (cond t q) = Fits t × FitsC q

-- each calendar is that of its number
abbrev mutual
  pub CalendarsIn : (ℕ → Calendar) → Form → Type 0
  CalendarsIn K (num z) = Unit {0}
  CalendarsIn K (truth b) = Unit {0}
  CalendarsIn K (row g) = Unit {0}
  CalendarsIn K (cell c g) = Unit {0}
  CalendarsIn K (rec ts) = CalendarsInAll K ts
  CalendarsIn K (bin o s t) = CalendarsIn K s × CalendarsIn K t
  CalendarsIn K (negate t) = CalendarsIn K t
  CalendarsIn K (app f ts) = LentOp K f × CalendarsInAll K ts
  CalendarsIn K (comp m q h) = CalendarsInClauses K q × CalendarsIn K h

  pub CalendarsInAll : (ℕ → Calendar) → Forms → Type 0
  CalendarsInAll K fnil = Unit {0}
  CalendarsInAll K (fcons t ts) = CalendarsIn K t × CalendarsInAll K ts

  pub CalendarsInClauses : (ℕ → Calendar) → Clauses → Type 0
  CalendarsInClauses K done = Unit {0}
  CalendarsInClauses K (gen g k q) = CalendarsInClauses K q
  CalendarsInClauses K (cond t q) = CalendarsIn K t × CalendarsInClauses K q

abbrev pub Holds : List ℕ → ℕ → List ℕ → Type 0
Holds s i [] = Unit {0}
Holds s i (w ∷ l) = (word_at s i ≡ w) × Holds s (i + 1) l
