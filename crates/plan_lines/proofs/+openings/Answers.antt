-- `plan_lines::openings` meets its contract, by Exits, form_words/NodeWords.
use native.Mathlib.Omega.{arith}
use Rattle.form_words.specs.FormTree.{left}
use Rattle.form_words.proofs.NodeWords.{recast_c}
use Rattle.spec_plan.specs.Lines.{ascii}
use Rattle.plan_lines.specs.PartTexts.{opens}
use Rattle.plan_lines.proofs.Exits.{conds-generator, conds-skip, openings-later, openings-first, openings-head}
use borrow.Author.Rules.{rules}
use Prim.Native.Nat.{ℕ, ◌<◌}
use Rattle.plan_lines.proofs.+openings.Goals as goal

pub overflow_add-i : goal.overflow_add-i
unfolding ascii
overflow_add-i t c = let p = (recast_c c.look_clause.ensures c.in-Generator.is).inside in omega (arith, p.0)

pub openings-requires : goal.openings-requires
unfolding ascii
openings-requires t c = let p = (recast_c c.look_clause.ensures c.in-Generator.is).inside in (omega (arith, p.0, c.decreases), tt)

pub openings-requires-then-mark-m : goal.openings-requires-then-mark-m
unfolding ascii
openings-requires-then-mark-m t c = let p = (recast_c c.look_clause.ensures c.in-Condition.is).inside in (omega (arith, p.0, p.1, c.decreases), tt)

pub returns-then-mark-m : goal.returns-then-mark-m
unfolding ascii
returns-then-mark-m t c = conds-skip (opens c.args.later) c.args.m (recast_c c.look_clause.ensures c.in-Condition.is) c.mark.ensures c.if-mark-m.true c.openings-then-mark-m.ensures

pub openings-requires-then-later : goal.openings-requires-then-later
unfolding ascii
openings-requires-then-later t c = let p = (recast_c c.look_clause.ensures c.in-Condition.is).inside in (omega (arith, p.0, p.1, c.decreases), tt)

pub returns-then-later : goal.returns-then-later
unfolding ascii
returns-then-later t c = openings-later (recast_c c.look_clause.ensures c.in-Condition.is) c.mark.ensures c.if-mark-m.false c.if-later.true c.say-q.ensures c.openings-then-later.ensures

pub openings-requires-in-Condition : goal.openings-requires-in-Condition
unfolding ascii
openings-requires-in-Condition t c = let p = (recast_c c.look_clause.ensures c.in-Condition.is).inside in (omega (arith, p.0, p.1, c.decreases), tt)

pub returns-in-Generator : goal.returns-in-Generator
unfolding ascii
returns-in-Generator t c = conds-generator (opens c.args.later) c.args.m (recast_c c.look_clause.ensures c.in-Generator.is) c.openings.ensures

pub returns-else-later : goal.returns-else-later
unfolding ascii
returns-else-later t c = openings-first (recast_c c.look_clause.ensures c.in-Condition.is) c.mark.ensures c.if-mark-m.false c.if-later.false c.openings-in-Condition.ensures

pub returns-in-Head : goal.returns-in-Head
unfolding ascii
returns-in-Head t c = openings-head c.args.m c.args.later (recast_c c.look_clause.ensures c.in-Head.is)
