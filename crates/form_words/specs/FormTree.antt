-- The form that the words hold; `left` says how much fuel is enough.
use Rattle.std.specs.Prelude.{List, ℕ, zero, suc, ◌+◌, ◌-◌, ◌*◌, leb, pos}
use Rattle.spec_calendar.specs.Hours.{Calendar}
use Rattle.spec_calculus.specs.Lists.{pick}
use Rattle.spec_calculus.specs.Syntax as Sy
use Rattle.spec_normal_form.specs.Form.{Form, Forms, Clauses, num, truth, row, cell, rec, bin, negate, app, comp, fnil, fcons, done, gen, cond}
use Rattle.base_syntax.specs.declared.Fun.{Fun}
use Rattle.base_syntax.specs.MonoidWord.{monoid_of}
use Rattle.base_syntax.specs.Numbers.{bin_of, lent_of}
use Rattle.base_windows.specs.KeptCalendars.{calendar_in}
use Rattle.form_words.specs.declared.FormNode.{FormNode}
use Rattle.form_words.specs.declared.FormNode.TheVariants.{Number, Truth, Row, Cell, Record, Binary, Negation, Operator, Comprehension, Generator, Condition, Nothing}
use Rattle.form_words.specs.declared.Clause.{Clause}
use Rattle.form_words.specs.declared.Clause.TheVariants as Cl
use Rattle.base_scratch.specs.Map.{form_words}
use Rattle.form_words.specs.NodeWord.{next, node_at}

-- a form by its node: K is the calendar of each number, X reads the form at a place, L the forms between two places, Q the clauses from a place on, H the head
-- behind the clauses from a place on
abbrev pub form_by : (ℕ → Calendar) → (ℕ → Form) → (ℕ → ℕ → Forms) → (ℕ → Clauses) → (ℕ → Form) → ℕ → FormNode → Form
form_by K X L Q H i (Number z) = num z
form_by K X L Q H i (Truth b) = truth b
form_by K X L Q H i (Row g) = row g
form_by K X L Q H i (Cell c g) = cell c g
form_by K X L Q H i (Record e) = rec (L (i + 1) e)
form_by K X L Q H i (Binary o j) = bin (bin_of o) (X (i + 1)) (X j)
form_by K X L Q H i Negation = negate (X (i + 1))
form_by K X L Q H i (Operator f e) = app (lent_of K f) (L (i + 1) e)
form_by K X L Q H i (Comprehension m) = comp (monoid_of m) (Q (i + 1)) (H (i + 1))
form_by K X L Q H i (Generator g k) = num (pos 0)
form_by K X L Q H i (Condition j) = num (pos 0)
form_by K X L Q H i Nothing = num (pos 0)

-- the clauses from a place on end at the first node that is neither generator nor condition: the head
abbrev pub clause_of : FormNode → Clause
clause_of (Number z) = Cl.Head
clause_of (Truth b) = Cl.Head
clause_of (Row g) = Cl.Head
clause_of (Cell c g) = Cl.Head
clause_of (Record e) = Cl.Head
clause_of (Binary o j) = Cl.Head
clause_of Negation = Cl.Head
clause_of (Operator f e) = Cl.Head
clause_of (Comprehension m) = Cl.Head
clause_of (Generator g k) = Cl.Generator g k
clause_of (Condition j) = Cl.Condition j
clause_of Nothing = Cl.Head

abbrev pub clauses_by : (ℕ → Form) → (ℕ → Clauses) → ℕ → Clause → Clauses
clauses_by X Q i (Cl.Generator g k) = gen g k (Q (i + 1))
clauses_by X Q i (Cl.Condition j) = cond (X (i + 1)) (Q j)
clauses_by X Q i Cl.Head = done

abbrev pub head_by : (ℕ → Form) → (ℕ → Form) → ℕ → Clause → Form
head_by X H i (Cl.Generator g k) = H (i + 1)
head_by X H i (Cl.Condition j) = H j
head_by X H i Cl.Head = X i

-- the operator of a node, with the calendars that stand in scratch
abbrev pub op_in : List ℕ → Fun → Sy.Fun
op_in s f = lent_of (calendar_in s) f

unfoldable mutual
  pub form_tree : ℕ → List ℕ → ℕ → Form
  form_tree zero s i = num (pos 0)
  form_tree (suc f) s i = form_by (calendar_in s) (λ j. form_tree f s j) (λ j e. forms_tree f s j e) (λ j. clauses_tree f s j) (λ j. head_tree f s j) i (node_at s i)

  pub forms_tree : ℕ → List ℕ → ℕ → ℕ → Forms
  forms_tree zero s i e = fnil
  forms_tree (suc f) s i e = pick (leb e i) fnil (fcons (form_tree f s i) (forms_tree f s (next s i) e))

  pub clauses_tree : ℕ → List ℕ → ℕ → Clauses
  clauses_tree zero s i = done
  clauses_tree (suc f) s i = clauses_by (λ j. form_tree f s j) (λ j. clauses_tree f s j) i (clause_of (node_at s i))

  pub head_tree : ℕ → List ℕ → ℕ → Form
  head_tree zero s i = num (pos 0)
  head_tree (suc f) s i = head_by (λ j. form_tree f s j) (λ j. head_tree f s j) i (clause_of (node_at s i))

-- A form at i takes more fuel than this, and what begins with a form at i (forms, clauses, a head) more than one more.
-- It also falls at every child, so it is what recursion over places goes down by.
abbrev pub left : ℕ → ℕ
left i = 3 * (form_words - i)
