-- `test_offers::count` meets its contract, by CountExits.
use borrow.Author.Rules.{rules}
use native.Mathlib.Omega.{arith}
use Prim.Native.Nat.{◌-◌}
use Rattle.test_offers.specs.OfferedRows.{longest}
use Rattle.test_offers.proofs.CountExits.{Counting, count-begins, count-over, count-spent, count-again}
use Rattle.test_offers.proofs.count.Goals as goal

pub loop-n-init : goal.loop-n-init
loop-n-init c = count-begins c.args.data.now c.args.s.now c.args.out.now c.args.code

pub shape_of-s-then-at-eq1 : goal.shape_of-s-then-at-eq1
shape_of-s-then-at-eq1 c = c.loop-n.invariant.long

pub shape_of-out-then-at-eq1 : goal.shape_of-out-then-at-eq1
shape_of-out-then-at-eq1 c = c.loop-n.invariant.wide

pub returns-then-at-eq1 : goal.returns-then-at-eq1
returns-then-at-eq1 c = count-over c.loop-n.invariant c.requires c.if-at-eq1.true

pub loop-n-preserved : goal.loop-n-preserved
loop-n-preserved c = count-again c.loop-n.invariant c.if-at-eq1.false c.loop-n-test.true c.portion-at.ensures c.portion-at.auto.s c.portion-at.auto.out

pub shape_of-s : goal.shape_of-s
shape_of-s c = c.loop-n.invariant.long

pub shape_of-out : goal.shape_of-out
shape_of-out c = c.loop-n.invariant.wide

pub returns : goal.returns
returns c = count-spent c.loop-n.invariant c.requires (omega (arith, c.loop-n-test.false))
