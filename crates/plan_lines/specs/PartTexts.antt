-- The text of each part of a plan, as the parts are written.
use Rattle.std.specs.Prelude.{◌≡◌, List, [], ◌∷◌, ◌++◌, Bool, true, false, ℕ, pred, ◌+◌, ◌<◌}
use Rattle.spec_calculus.specs.Lists.{pick}
use Rattle.base_syntax.specs.declared.Monoid.{Monoid}
use Rattle.base_syntax.specs.MonoidWord.{monoid_of}
use Rattle.base_syntax.specs.declared.BinOp.{BinOp}
use Rattle.base_syntax.specs.declared.Fun.{Fun}
use Rattle.base_syntax.specs.Numbers.{bin_of, fun_of}
use Rattle.form_words.specs.NodeWord.{node_at}
use Rattle.form_words.specs.FormTree.{left}
use Rattle.spec_plan.specs.Plan.{PTerm, pfield, Source, join, outer, nest}
use Rattle.spec_plan.specs.Plan as Pl
use Rattle.spec_plan.specs.Planner.{conj}
use Rattle.spec_plan.specs.Lines.{ascii, monoid_name, bin_name, fun_name, show_term, show_op, show_ops}
use Rattle.plan_marks.specs.Marks.{mark_at, slot_by}
use Rattle.base_text.specs.LaidText.{Lays}
use Rattle.plan_marks.specs.PlanIn.{head_in, conds_in, grows_in, op_in, or_else, monoid_by}

-- a place, and a field of one
abbrev pub slot_text : ℕ → List ℕ
slot_text m = show_term (slot_by m)

abbrev pub cell_text : ℕ → ℕ → List ℕ
cell_text c m = show_term (pfield c (slot_by m))

-- up to the first operand
abbrev pub open_text : BinOp → List ℕ
open_text o = ascii "(" ++ (ascii (bin_name (bin_of o)) ++ ascii " ")

abbrev pub operator_text : Fun → List ℕ
operator_text f = ascii "(" ++ fun_name (fun_of f)

abbrev pub monoid_text : Monoid → List ℕ
monoid_text m = ascii (monoid_name (monoid_of m)) ++ ascii " "

-- join or outer
abbrev pub grower : Bool → Source → PTerm → Pl.Op
grower true = outer
grower false = join

abbrev pub grower_text : Bool → List ℕ
grower_text true = ascii "outer "
grower_text false = ascii "join "

-- one condition
abbrev pub condition_text : Bool → PTerm → List ℕ
condition_text true t = ascii " " ++ (show_term t ++ ascii ")")
condition_text false t = show_term t

-- Several conditions "are joined by "and", leftmost innermost": an opening for each but the first, then the terms, each but the
-- first closed. b: there was one before.
unfoldable pub opens : Bool → List PTerm → List ℕ
opens b [] = []
opens true (t ∷ l) = ascii "(and " ++ opens true l
opens false (t ∷ l) = opens true l

unfoldable pub closes : Bool → List PTerm → List ℕ
closes true [] = []
closes false [] = ascii "true"
closes b (t ∷ l) = condition_text b t ++ closes true l

-- the rest of an operator's line
abbrev pub rest_text : PTerm → List ℕ
rest_text c = ascii " " ++ (show_term c ++ ascii "\n")

-- whether there are generators from place i on
pub record GrowsPost (s : List ℕ) (i : ℕ) (r : Bool) : Type 0 where
  pub is : (f : ℕ) → left i + 1 < f → (O : Source → ℕ → Pl.Op) (u : Pl.Op) → or_else u (grows_in f O s i) ≡ pick r (grows_in f O s i) (u ∷ [])

-- the nest of the comprehension at i
abbrev pub nest_text : ℕ → List ℕ → ℕ → Monoid → List ℕ
nest_text f s i m = show_op (nest (pred (mark_at s i)) (monoid_of m) (head_in f s (i + 1)) (conj (conds_in f s 0 (i + 1))))

-- a line for each generator from i on, of a comprehension whose clauses begin at c
pub record GrowersPost (s : List ℕ) (c i : ℕ) (b : Bool) (lim : ℕ) (o : List ℕ) (p : ℕ) (o' : List ℕ) (r : ℕ) : Type 0 where
  pub is : (f : ℕ) → left i + 1 < f → (h : ℕ) → left c + 1 < h → Lays lim (show_ops (grows_in f (op_in h (grower b) s c) s i)) o p o' r

-- the monoid of the outermost comprehension
pub record OutermostPost (s : List ℕ) (r : Monoid) : Type 0 where
  pub is : monoid_of r ≡ monoid_by (node_at s 0)
