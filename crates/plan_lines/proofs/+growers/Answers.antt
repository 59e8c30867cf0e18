-- `plan_lines::growers` meets its contract, by Exits, form_words/NodeWords.
use native.Mathlib.Omega.{arith}
use Rattle.form_words.specs.FormTree.{left}
use Rattle.form_words.proofs.NodeWords.{recast_c}
use Rattle.plan_lines.proofs.Exits.{growers-generator, growers-condition, growers-head}
use borrow.Author.Rules.{rules}
use Prim.Native.Nat.{ℕ, ◌<◌}
use Rattle.plan_lines.proofs.+growers.Goals as goal

pub overflow_add-i : goal.overflow_add-i
overflow_add-i t c = let p = (recast_c c.look_clause.ensures c.in-Generator.is).inside in omega (arith, p.0)

pub growers-requires : goal.growers-requires
growers-requires t c = let p = (recast_c c.look_clause.ensures c.in-Generator.is).inside in (omega (arith, p.0, c.decreases), tt)

pub growers-requires-in-Condition : goal.growers-requires-in-Condition
growers-requires-in-Condition t c = let p = (recast_c c.look_clause.ensures c.in-Condition.is).inside in (omega (arith, p.0, p.1, c.decreases), tt)

pub returns-in-Generator : goal.returns-in-Generator
returns-in-Generator t c = growers-generator (recast_c c.look_clause.ensures c.in-Generator.is) c.mark.ensures c.grow-q.ensures c.growers.ensures

pub returns-in-Condition : goal.returns-in-Condition
returns-in-Condition t c = growers-condition (recast_c c.look_clause.ensures c.in-Condition.is) c.growers-in-Condition.ensures

pub returns-in-Head : goal.returns-in-Head
returns-in-Head t c = growers-head (recast_c c.look_clause.ensures c.in-Head.is)
