-- Bounds cut at 2^62 + 1: the same as the bounds where it matters, whether they are over 2^62.
use Rattle.std.specs.Prelude.{◌≡◌, Bool, true, ◌&&◌, List, ℕ, zero, suc, ◌+◌, ◌*◌, ◌^◌, ◌<◌, min, leb}
use Rattle.spec_calculus.specs.Syntax.{of, sum, max, some, all}
use Rattle.spec_calculus.specs.Syntax as Sy
use Rattle.spec_normal_form.specs.Form.{Form, Forms, Clauses, app, fnil, fcons}
use Rattle.spec_normal_form.specs.Bound.{own_gens, comp_bound, Declared, bound, within, within_f, within_c}
use Rattle.base_syntax.specs.declared.Fun.{Fun}
use Rattle.base_syntax.specs.declared.Monoid.{Monoid}
use Rattle.base_syntax.specs.MonoidWord.{monoid_of}
use Rattle.form_words.specs.FormTree.{op_in, form_tree, forms_tree, clauses_tree, head_tree, left}
use Rattle.front_bounds.specs.declared.Size.{Size}

abbrev pub cut : ℕ → ℕ
cut n = min n (2 ^ 62 + 1)

-- A comprehension's bound of its head's: with no generator, and with one more than where it is a.
unfoldable pub per_head : Sy.Monoid → ℕ → ℕ
per_head (of c) a = 0
per_head sum a = a
per_head max a = a
per_head Sy.min a = a
per_head some a = 0
per_head all a = 0

unfoldable pub per_generator : Sy.Monoid → ℕ → ℕ
per_generator (of c) a = a
per_generator sum a = cut (a * 1024)
per_generator max a = a
per_generator Sy.min a = a
per_generator some a = a
per_generator all a = a

-- with n generators more
unfoldable pub per_generators : Sy.Monoid → ℕ → ℕ → ℕ
per_generators m zero a = a
per_generators m (suc n) a = per_generators m n (per_generator m a)

-- a number with bound b, where t says whether the numbers in it fit
pub record CheckedPost (b : ℕ) (t : Bool) (r : Size) : Type 0 where
  pub bound_is : r.bound ≡ b
  pub fits_is : r.fits ≡ (leb b (2 ^ 62) && t)

-- what is no number, likewise
pub record UnboundedPost (t : Bool) (r : Size) : Type 0 where
  pub bound_is : r.bound ≡ 0
  pub fits_is : r.fits ≡ t

-- the size of a form, where D is what the generators' columns declare; of clauses and the head behind them, in a comprehension of m
pub record SizeOf (D : Declared) (t : Form) (r : Size) : Type 0 where
  pub bound_is : r.bound ≡ cut (bound D t)
  pub fits_is : r.fits ≡ within D t

pub record SizeOfC (D : Declared) (m : Sy.Monoid) (q : Clauses) (h : Form) (r : Size) : Type 0 where
  pub bound_is : r.bound ≡ cut (comp_bound m (own_gens q) (bound D h))
  pub fits_is : r.fits ≡ (within_c D q && within D h)

-- of the first of some forms; where there is none, as what is no number
abbrev pub FirstOf : Declared → Forms → Size → Type 0
FirstOf D fnil r = (r.bound ≡ 0) × (r.fits ≡ true)
FirstOf D (fcons t ts) r = SizeOf D t r

-- at every fuel that is enough
pub record FormSizePost (D : Declared) (s : List ℕ) (i : ℕ) (r : Size) : Type 0 where
  pub is : (f : ℕ) → left i < f → SizeOf D (form_tree f s i) r

pub record ClausesSizePost (D : Declared) (s : List ℕ) (i : ℕ) (m : Monoid) (r : Size) : Type 0 where
  pub is : (f : ℕ) → left i + 1 < f → SizeOfC D (monoid_of m) (clauses_tree f s i) (head_tree f s i) r

pub record RecordFitsPost (D : Declared) (s : List ℕ) (i e : ℕ) (r : Bool) : Type 0 where
  pub is : (f : ℕ) → left i + 1 < f → r ≡ within_f D (forms_tree f s i e)

pub record TermSizePost (D : Declared) (s : List ℕ) (i e : ℕ) (r : Size) : Type 0 where
  pub is : (f : ℕ) → left i + 1 < f → FirstOf D (forms_tree f s i e) r

pub record OperatorSizePost (D : Declared) (s : List ℕ) (i e : ℕ) (o : Fun) (r : Size) : Type 0 where
  pub is : (f : ℕ) → left i + 2 < f → SizeOf D (app (op_in s o) (forms_tree f s i e)) r

-- whether 28 does not refuse the form at place 0
pub record BoundFitsPost (D : Declared) (s : List ℕ) (r : Bool) : Type 0 where
  pub is : (f : ℕ) → left 0 < f → r ≡ within D (form_tree f s 0)
