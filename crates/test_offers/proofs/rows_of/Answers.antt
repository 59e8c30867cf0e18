-- `test_offers::rows_of` meets its contract, by OfferedRows.
use native.Mathlib.Omega.{arith}
use borrow.Author.Rules.{rules}
use Rattle.test_offers.proofs.OfferedRows.{waiting-now, tells}
use Rattle.test_offers.proofs.rows_of.Goals as goal

pub count-requires : goal.count-requires
count-requires c = waiting-now c.requires c.make_plan.ensures c.link-first.ensures _ (omega arith) c.start-code.ensures

pub returns : goal.returns
returns c = tells c.requires c.make_plan.ensures c.link-first.ensures _ (omega arith) c.start-code.ensures c.count.ensures
