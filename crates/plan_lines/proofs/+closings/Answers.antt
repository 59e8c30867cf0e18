-- `plan_lines::closings` meets its contract, by Exits, form_words/NodeWords.
use native.Mathlib.Omega.{arith}
use Rattle.form_words.specs.FormTree.{left}
use Rattle.form_words.proofs.NodeWords.{recast_c}
use Rattle.spec_plan.specs.Lines.{ascii}
use Rattle.plan_lines.specs.PartTexts.{closes}
use Rattle.plan_lines.proofs.Exits.{conds-generator, conds-skip, closings-condition, closings-later, closings-none}
use borrow.Author.Rules.{rules}
use Prim.Native.Nat.{ℕ, ◌<◌}
use Rattle.plan_lines.proofs.+closings.Goals as goal

pub overflow_add-i : goal.overflow_add-i
unfolding ascii
overflow_add-i t c = let p = (recast_c c.look_clause.ensures c.in-Generator.is).inside in omega (arith, p.0)

pub closings-requires : goal.closings-requires
unfolding ascii
closings-requires t c = let p = (recast_c c.look_clause.ensures c.in-Generator.is).inside in (omega (arith, p.0, c.decreases), tt)

pub closings-requires-then-mark-m : goal.closings-requires-then-mark-m
unfolding ascii
closings-requires-then-mark-m t c = let p = (recast_c c.look_clause.ensures c.in-Condition.is).inside in (omega (arith, p.0, p.1, c.decreases), tt)

pub returns-then-mark-m : goal.returns-then-mark-m
unfolding ascii
returns-then-mark-m t c = conds-skip (closes c.args.later) c.args.m (recast_c c.look_clause.ensures c.in-Condition.is) c.mark.ensures c.if-mark-m.true c.closings-then-mark-m.ensures

pub overflow_add-i-in-Condition : goal.overflow_add-i-in-Condition
unfolding ascii
overflow_add-i-in-Condition t c = let p = (recast_c c.look_clause.ensures c.in-Condition.is).inside in omega (arith, p.0, p.1)

pub closings-requires-in-Condition : goal.closings-requires-in-Condition
unfolding ascii
closings-requires-in-Condition t c = let p = (recast_c c.look_clause.ensures c.in-Condition.is).inside in (omega (arith, p.0, p.1, c.decreases), tt)

pub returns-then-later : goal.returns-then-later
unfolding ascii
returns-then-later t c = closings-later c.args.m (recast_c c.look_clause.ensures c.in-Head.is) c.if-later.true

pub returns-in-Generator : goal.returns-in-Generator
unfolding ascii
returns-in-Generator t c = conds-generator (closes c.args.later) c.args.m (recast_c c.look_clause.ensures c.in-Generator.is) c.closings.ensures

pub returns-else-mark-m : goal.returns-else-mark-m
unfolding ascii
returns-else-mark-m t c = closings-condition c.args.later (recast_c c.look_clause.ensures c.in-Condition.is) c.mark.ensures c.if-mark-m.false c.condition-q.ensures c.closings-in-Condition.ensures

pub returns-else-later : goal.returns-else-later
unfolding ascii
returns-else-later t c = closings-none c.args.m (recast_c c.look_clause.ensures c.in-Head.is) c.if-later.false c.say.ensures
