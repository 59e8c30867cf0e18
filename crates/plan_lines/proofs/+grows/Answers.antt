-- `plan_lines::grows` meets its contract, by Exits, form_words/NodeWords.
use native.Mathlib.Omega.{arith}
use Rattle.form_words.specs.FormTree.{left}
use Rattle.form_words.proofs.NodeWords.{recast_c}
use Rattle.plan_lines.proofs.Exits.{grows-generator, grows-condition, grows-head}
use borrow.Author.Rules.{rules}
use Prim.Native.Nat.{ℕ, ◌<◌}
use Rattle.plan_lines.proofs.+grows.Goals as goal

pub grows-requires : goal.grows-requires
grows-requires t c = let p = (recast_c c.look_clause.ensures c.in-Condition.is).inside in (omega (arith, p.0, p.1, c.decreases), tt)

pub returns-in-Generator : goal.returns-in-Generator
returns-in-Generator t c = grows-generator (recast_c c.look_clause.ensures c.in-Generator.is)

pub returns-in-Condition : goal.returns-in-Condition
returns-in-Condition t c = grows-condition (recast_c c.look_clause.ensures c.in-Condition.is) c.grows.ensures

pub returns-in-Head : goal.returns-in-Head
returns-in-Head t c = grows-head (recast_c c.look_clause.ensures c.in-Head.is)
