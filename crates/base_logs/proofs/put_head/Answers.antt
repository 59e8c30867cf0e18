-- `base_logs::put_head`: length and kind, number, collection, columns, rows, bounds. Assumes nothing.
use native.Mathlib.Omega.{arith}
use Rattle.base_logs.proofs.Laying.{head_few, head-is}
use Rattle.base_logs.proofs.put_head.Goals as goal

pub overflow_mul-wide-2 : goal.overflow_mul-wide-2
overflow_mul-wide-2 c = omega (arith, head_few c.requires)

pub overflow_mul-wide-3 : goal.overflow_mul-wide-3
overflow_mul-wide-3 c = omega (arith, head_few c.requires)

pub overflow_add-wide-2 : goal.overflow_add-wide-2
overflow_add-wide-2 c = omega (arith, head_few c.requires, c.requires.narrow)

pub overflow_cast-wide-2 : goal.overflow_cast-wide-2
overflow_cast-wide-2 c = omega (arith, head_few c.requires, c.requires.narrow)

pub returns : goal.returns
returns c = head-is c.args.d.now c.args.p c.args.number c.args.w c.args.n c.put_two.ensures c.put_two-2.ensures c.put_two-3.ensures c.put_bounds.ensures
