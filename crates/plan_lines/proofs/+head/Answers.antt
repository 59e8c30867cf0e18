-- `plan_lines::head` meets its contract, by Exits, form_words/NodeWords.
use native.Mathlib.Omega.{arith}
use Rattle.form_words.specs.FormTree.{left}
use Rattle.form_words.proofs.NodeWords.{recast_c}
use Rattle.plan_lines.proofs.Exits.{head-generator, head-condition, head-head}
use borrow.Author.Rules.{rules}
use Prim.Native.Nat.{ℕ, ◌<◌}
use Rattle.plan_lines.proofs.+head.Goals as goal

pub overflow_add-i : goal.overflow_add-i
overflow_add-i t c = let p = (recast_c c.look_clause.ensures c.in-Generator.is).inside in omega (arith, p.0)

pub head-requires : goal.head-requires
head-requires t c = let p = (recast_c c.look_clause.ensures c.in-Generator.is).inside in (omega (arith, p.0, c.decreases), tt)

pub head-requires-in-Condition : goal.head-requires-in-Condition
head-requires-in-Condition t c = let p = (recast_c c.look_clause.ensures c.in-Condition.is).inside in (omega (arith, p.0, p.1, c.decreases), tt)

pub returns-in-Generator : goal.returns-in-Generator
returns-in-Generator t c = head-generator (recast_c c.look_clause.ensures c.in-Generator.is) c.head.ensures

pub returns-in-Condition : goal.returns-in-Condition
returns-in-Condition t c = head-condition (recast_c c.look_clause.ensures c.in-Condition.is) c.head-in-Condition.ensures

pub returns-in-Head : goal.returns-in-Head
returns-in-Head t c = head-head (recast_c c.look_clause.ensures c.in-Head.is) c.term.ensures
