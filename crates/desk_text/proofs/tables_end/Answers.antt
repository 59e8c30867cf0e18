-- `tables_end_lem`: a record more at each turn, until one is no table. Assumes nothing.
use Prim.Native.Nat.{◌-◌}
use native.Mathlib.Omega.{arith}
use lib.ListN.{length}
use Rattle.desk_text.proofs.TablesEnd.{Past, past-none, past_all, past-bad, past_more, record-room}
use borrow.Author.Rules.{rules}
use Rattle.desk_text.proofs.tables_end.Goals as goal

pub loop-p-init : goal.loop-p-init
loop-p-init c = past-none c.args.input.now

pub returns-in_default : goal.returns-in_default
returns-in_default c = past-bad c.args.input.now c.loop-p.p c.loop-p.invariant c.read_header.ensures c.in_default.is

pub overflow_add-p : goal.overflow_add-p
overflow_add-p c = record { fits = omega (arith, record-room c.args.input.now c.loop-p.p c.loop-p.invariant c.read_header.ensures c.in-Some.is) }

pub overflow_add-p-in-loop-p : goal.overflow_add-p-in-loop-p
overflow_add-p-in-loop-p c = record { fits = omega (arith, record-room c.args.input.now c.loop-p.p c.loop-p.invariant c.read_header.ensures c.in-Some.is) }

pub loop-p-smaller : goal.loop-p-smaller
loop-p-smaller c = omega (arith, record-room c.args.input.now c.loop-p.p c.loop-p.invariant c.read_header.ensures c.in-Some.is)

pub loop-p-preserved : goal.loop-p-preserved
loop-p-preserved c = past_more c.args.input.now c.loop-p.p c.loop-p.invariant c.read_header.ensures c.in-Some.is

pub returns : goal.returns
returns c = past_all c.args.input.now c.loop-p.p c.loop-p.invariant c.loop-p-test.false
