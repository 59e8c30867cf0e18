-- `plan_lines`: `inside`, `ops` and `ops_upto` meet their contracts together, by Exits, form_words/NodeWords.
use native.Mathlib.Omega.{arith}
use mathlib.Core.Path.{refl}
use Prim.Native.Nat.{◌+◌}
use Rattle.form_words.specs.FormTree.{left}
use Rattle.form_words.proofs.NodeWords.{recast, recast_c, next_past}
use Rattle.plan_lines.proofs.Exits.{ops-none, ops-record, ops-binary, ops-negation, ops-operator, ops-comprehension, upto-end, upto-more, inside-generator, inside-condition, inside-head}
use borrow.Author.Rules.{rules}
use Prim.Native.Nat.{ℕ, ◌<◌}
use Rattle.plan_lines.proofs.+inside_ops_ops_upto.Goals as goal

pub inside-overflow_add-i : goal.inside-overflow_add-i
inside-overflow_add-i t c = let p = (recast_c c.look_clause.ensures c.in-Generator.is).inside in omega (arith, p.0)

pub inside-inside-requires : goal.inside-inside-requires
inside-inside-requires t c = let p = (recast_c c.look_clause.ensures c.in-Generator.is).inside in (omega (arith, p.0, c.decreases), tt)

pub inside-overflow_add-i-in-Condition : goal.inside-overflow_add-i-in-Condition
inside-overflow_add-i-in-Condition t c = let p = (recast_c c.look_clause.ensures c.in-Condition.is).inside in omega (arith, p.0, p.1)

pub inside-ops-q-requires : goal.inside-ops-q-requires
inside-ops-q-requires t c = let p = (recast_c c.look_clause.ensures c.in-Condition.is).inside in (omega (arith, p.0, p.1, c.decreases), tt)

pub inside-inside-requires-in-Condition : goal.inside-inside-requires-in-Condition
inside-inside-requires-in-Condition t c = let p = (recast_c c.look_clause.ensures c.in-Condition.is).inside in (omega (arith, p.0, p.1, c.decreases), tt)

pub inside-ops-requires : goal.inside-ops-requires
inside-ops-requires t c = (omega (arith, c.decreases), tt)

pub inside-returns-in-Generator : goal.inside-returns-in-Generator
inside-returns-in-Generator t c = inside-generator (recast_c c.look_clause.ensures c.in-Generator.is) c.inside.ensures

pub inside-returns-in-Condition : goal.inside-returns-in-Condition
inside-returns-in-Condition t c = inside-condition (recast_c c.look_clause.ensures c.in-Condition.is) c.ops-q.ensures c.inside-in-Condition.ensures

pub inside-returns-in-Head : goal.inside-returns-in-Head
inside-returns-in-Head t c = inside-head (recast_c c.look_clause.ensures c.in-Head.is) c.ops.ensures

pub ops-overflow_add-i : goal.ops-overflow_add-i
ops-overflow_add-i t c = let p = (recast c.look.ensures c.in-Record.is).inside in omega (arith, p.0, p.1)

pub ops-ops_upto-requires : goal.ops-ops_upto-requires
ops-ops_upto-requires t c = let p = (recast c.look.ensures c.in-Record.is).inside in (omega (arith, p.0, p.1, c.decreases), p.1)

pub ops-overflow_add-i-in-Binary : goal.ops-overflow_add-i-in-Binary
ops-overflow_add-i-in-Binary t c = let p = (recast c.look.ensures c.in-Binary.is).inside in omega (arith, p.0, p.1)

pub ops-ops-q-requires : goal.ops-ops-q-requires
ops-ops-q-requires t c = let p = (recast c.look.ensures c.in-Binary.is).inside in (omega (arith, p.0, p.1, c.decreases), tt)

pub ops-ops-requires : goal.ops-ops-requires
ops-ops-requires t c = let p = (recast c.look.ensures c.in-Binary.is).inside in (omega (arith, p.0, p.1, c.decreases), tt)

pub ops-overflow_add-i-in-Negation : goal.ops-overflow_add-i-in-Negation
ops-overflow_add-i-in-Negation t c = let p = (recast c.look.ensures c.in-Negation.is).inside in omega (arith, p)

pub ops-ops-requires-in-Negation : goal.ops-ops-requires-in-Negation
ops-ops-requires-in-Negation t c = let p = (recast c.look.ensures c.in-Negation.is).inside in (omega (arith, p, c.decreases), tt)

pub ops-overflow_add-i-in-Operator : goal.ops-overflow_add-i-in-Operator
ops-overflow_add-i-in-Operator t c = let p = (recast c.look.ensures c.in-Operator.is).inside in omega (arith, p.0, p.1)

pub ops-ops_upto-requires-in-Operator : goal.ops-ops_upto-requires-in-Operator
ops-ops_upto-requires-in-Operator t c = let p = (recast c.look.ensures c.in-Operator.is).inside in (omega (arith, p.0, p.1, c.decreases), p.1)

pub ops-own-q-requires : goal.ops-own-q-requires
ops-own-q-requires t c = (recast c.look.ensures c.in-Comprehension.is).inside

pub ops-overflow_add-i-in-Comprehension : goal.ops-overflow_add-i-in-Comprehension
ops-overflow_add-i-in-Comprehension t c = let p = (recast c.look.ensures c.in-Comprehension.is).inside in omega (arith, p)

pub ops-inside-r-requires : goal.ops-inside-r-requires
ops-inside-r-requires t c = let p = (recast c.look.ensures c.in-Comprehension.is).inside in (omega (arith, p, c.decreases), tt)

pub ops-nest-requires : goal.ops-nest-requires
ops-nest-requires t c = (recast c.look.ensures c.in-Comprehension.is).inside

pub ops-returns-in-Number : goal.ops-returns-in-Number
ops-returns-in-Number t c = ops-none (recast c.look.ensures c.in-Number.is) (λ f. refl)

pub ops-returns-in-Truth : goal.ops-returns-in-Truth
ops-returns-in-Truth t c = ops-none (recast c.look.ensures c.in-Truth.is) (λ f. refl)

pub ops-returns-in-Row : goal.ops-returns-in-Row
ops-returns-in-Row t c = ops-none (recast c.look.ensures c.in-Row.is) (λ f. refl)

pub ops-returns-in-Cell : goal.ops-returns-in-Cell
ops-returns-in-Cell t c = ops-none (recast c.look.ensures c.in-Cell.is) (λ f. refl)

pub ops-returns-in-Record : goal.ops-returns-in-Record
ops-returns-in-Record t c = ops-record (recast c.look.ensures c.in-Record.is) c.ops_upto.ensures

pub ops-returns-in-Binary : goal.ops-returns-in-Binary
ops-returns-in-Binary t c = ops-binary (recast c.look.ensures c.in-Binary.is) c.ops-q.ensures c.ops.ensures

pub ops-returns-in-Negation : goal.ops-returns-in-Negation
ops-returns-in-Negation t c = ops-negation (recast c.look.ensures c.in-Negation.is) c.ops-in-Negation.ensures

pub ops-returns-in-Operator : goal.ops-returns-in-Operator
ops-returns-in-Operator t c = ops-operator (recast c.look.ensures c.in-Operator.is) c.ops_upto-in-Operator.ensures

pub ops-returns-in-Comprehension : goal.ops-returns-in-Comprehension
ops-returns-in-Comprehension t c = ops-comprehension (recast c.look.ensures c.in-Comprehension.is) c.own-q.ensures c.inside-r.ensures c.nest.ensures

pub ops-returns-in-Generator : goal.ops-returns-in-Generator
ops-returns-in-Generator t c = ops-none (recast c.look.ensures c.in-Generator.is) (λ f. refl)

pub ops-returns-in-Condition : goal.ops-returns-in-Condition
ops-returns-in-Condition t c = ops-none (recast c.look.ensures c.in-Condition.is) (λ f. refl)

pub ops-returns-in-Nothing : goal.ops-returns-in-Nothing
ops-returns-in-Nothing t c = ops-none (recast c.look.ensures c.in-Nothing.is) (λ f. refl)

pub ops_upto-returns-then-e-i : goal.ops_upto-returns-then-e-i
ops_upto-returns-then-e-i t c = upto-end c.args.s.now c.args.i c.args.e c.if-e-i.true

pub ops_upto-ops-q-requires : goal.ops_upto-ops-q-requires
ops_upto-ops-q-requires t c = (omega (arith, c.decreases), tt)

pub ops_upto-ops_upto-requires : goal.ops_upto-ops_upto-requires
ops_upto-ops_upto-requires t c = (omega (arith, c.decreases, c.requires, c.if-e-i.false, c.next.ensures, next_past c.args.s.now c.args.i (omega (arith, c.requires, c.if-e-i.false))), c.requires)

pub ops_upto-returns : goal.ops_upto-returns
ops_upto-returns t c = upto-more c.args.s.now c.args.i c.args.e c.if-e-i.false c.requires c.ops-q.ensures c.next.ensures c.ops_upto.ensures
