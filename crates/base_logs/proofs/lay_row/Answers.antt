-- `base_logs::lay_row`: a pair's or a single's bytes at its table's place. Assumes nothing.
use native.Mathlib.Omega.{arith}
use Rattle.base_logs.proofs.Laying.{laid-pair, laid-first, laid-second, room-pair, room-first, room-second}
use Rattle.base_logs.proofs.lay_row.Goals as goal

pub put-requires : goal.put-requires
put-requires c = omega (arith, room-pair c.requires c.in-Pair.is)

pub overflow_add-p : goal.overflow_add-p
overflow_add-p c = omega (arith, room-pair c.requires c.in-Pair.is)

pub put-requires-in-Pair : goal.put-requires-in-Pair
put-requires-in-Pair c = omega (arith, room-pair c.requires c.in-Pair.is, c.put.auto.d)

pub overflow_add-result : goal.overflow_add-result
overflow_add-result c = omega (arith, room-pair c.requires c.in-Pair.is)

pub put-requires-in-First : goal.put-requires-in-First
put-requires-in-First c = omega (arith, room-first c.requires c.in-First.is)

pub overflow_add-result-in-First : goal.overflow_add-result-in-First
overflow_add-result-in-First c = omega (arith, room-first c.requires c.in-First.is)

pub put-requires-in-Second : goal.put-requires-in-Second
put-requires-in-Second c = omega (arith, room-second c.requires c.in-Second.is)

pub overflow_add-result-in-Second : goal.overflow_add-result-in-Second
overflow_add-result-in-Second c = omega (arith, room-second c.requires c.in-Second.is)

pub returns-in-Pair : goal.returns-in-Pair
returns-in-Pair c = laid-pair c.args.d.now c.args.p c.args.i c.args.j c.in-Pair.is c.put.ensures c.put-in-Pair.ensures

pub returns-in-First : goal.returns-in-First
returns-in-First c = laid-first c.args.d.now c.args.p c.args.i c.args.j c.in-First.is c.put-in-First.ensures

pub returns-in-Second : goal.returns-in-Second
returns-in-Second c = laid-second c.args.d.now c.args.p c.args.i c.args.j c.in-Second.is c.put-in-Second.ensures
