-- `plan_lines::outermost` meets its contract.
use mathlib.Core.Path.{sym, ap, ◌∙◌}
use Rattle.plan_marks.specs.PlanIn.{monoid_by}
use borrow.Author.Rules.{rules}
use Rattle.plan_lines.proofs.outermost.Goals as goal

pub returns-in-Number : goal.returns-in-Number
returns-in-Number c = record { is = sym (ap monoid_by (sym c.look.ensures.is ∙ c.in-Number.is)) }

pub returns-in-Truth : goal.returns-in-Truth
returns-in-Truth c = record { is = sym (ap monoid_by (sym c.look.ensures.is ∙ c.in-Truth.is)) }

pub returns-in-Row : goal.returns-in-Row
returns-in-Row c = record { is = sym (ap monoid_by (sym c.look.ensures.is ∙ c.in-Row.is)) }

pub returns-in-Cell : goal.returns-in-Cell
returns-in-Cell c = record { is = sym (ap monoid_by (sym c.look.ensures.is ∙ c.in-Cell.is)) }

pub returns-in-Record : goal.returns-in-Record
returns-in-Record c = record { is = sym (ap monoid_by (sym c.look.ensures.is ∙ c.in-Record.is)) }

pub returns-in-Binary : goal.returns-in-Binary
returns-in-Binary c = record { is = sym (ap monoid_by (sym c.look.ensures.is ∙ c.in-Binary.is)) }

pub returns-in-Negation : goal.returns-in-Negation
returns-in-Negation c = record { is = sym (ap monoid_by (sym c.look.ensures.is ∙ c.in-Negation.is)) }

pub returns-in-Operator : goal.returns-in-Operator
returns-in-Operator c = record { is = sym (ap monoid_by (sym c.look.ensures.is ∙ c.in-Operator.is)) }

pub returns-in-Comprehension : goal.returns-in-Comprehension
returns-in-Comprehension c = record { is = sym (ap monoid_by (sym c.look.ensures.is ∙ c.in-Comprehension.is)) }

pub returns-in-Generator : goal.returns-in-Generator
returns-in-Generator c = record { is = sym (ap monoid_by (sym c.look.ensures.is ∙ c.in-Generator.is)) }

pub returns-in-Condition : goal.returns-in-Condition
returns-in-Condition c = record { is = sym (ap monoid_by (sym c.look.ensures.is ∙ c.in-Condition.is)) }

pub returns-in-Nothing : goal.returns-in-Nothing
returns-in-Nothing c = record { is = sym (ap monoid_by (sym c.look.ensures.is ∙ c.in-Nothing.is)) }
