use borrow.Author.Rules.{rules}
use native.Mathlib.Omega.{arith}
use Prim.Native.Nat.{◌-◌}
use Rattle.test_offers.specs.OfferedRows.{longest}
use Rattle.test_offers.proofs.CountExits.{Counting, count-begins, count-over, count-spent, count-again}
use Rattle.test_offers.proofs.count.Given as goal

abbrev pub invariant-loop-n : goal.invariant-loop-n
invariant-loop-n l = Counting l.«data» l.initial.s l.initial.out l.code l.s l.out l.at l.n
