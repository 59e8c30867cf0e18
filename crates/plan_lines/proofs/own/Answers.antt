-- `plan_lines::own` meets its contract, by Exits.
use native.Mathlib.Omega.{arith}
use Rattle.plan_lines.proofs.Exits.{own-some, own-unit}
use borrow.Author.Rules.{rules}
use Rattle.plan_lines.proofs.own.Goals as goal

pub overflow_add-i : goal.overflow_add-i
overflow_add-i c = omega (arith, c.requires)

pub overflow_add-i-then-grows : goal.overflow_add-i-then-grows
overflow_add-i-then-grows c = omega (arith, c.requires)

pub overflow_add-i-then-grows-2 : goal.overflow_add-i-then-grows-2
overflow_add-i-then-grows-2 c = omega (arith, c.requires)

pub returns-then-grows : goal.returns-then-grows
returns-then-grows c = own-some c.args.inner c.requires c.grows.ensures c.if-grows.true c.growers.ensures

pub overflow_add-i-2 : goal.overflow_add-i-2
overflow_add-i-2 c = omega (arith, c.requires)

pub returns : goal.returns
returns c = own-unit c.args.inner c.requires c.grows.ensures c.if-grows.false c.mark.ensures c.grow_unit.ensures
