-- `test_comparisons::count` meets its contract, by CountedAnswer, loop_answer/ByLoopsOutcome.
use mathlib.Core.Path.{refl}
use native.Mathlib.Omega.{arith}
use Rattle.loop_answer.proofs.ByLoopsOutcome.{asked-ready}
use Rattle.test_comparisons.proofs.CountedAnswer.{count-short, count-full}
use borrow.Author.Rules.{rules}
use Rattle.test_comparisons.proofs.count.Goals as goal

pub raw_answer-g-requires : goal.raw_answer-g-requires
raw_answer-g-requires c = (asked-ready c.requires, omega (arith, c.well_formed.1.1.0.1))

pub returns-then-out-g : goal.returns-then-out-g
returns-then-out-g c = count-short c.raw_answer-g.ensures c.raw_answer-g.auto.out c.if-out-g.true

pub returns : goal.returns
returns c = count-full c.raw_answer-g.ensures c.raw_answer-g.auto.out (omega (arith, c.well_formed.1.1.0.1)) c.if-out-g.false c.finish-r.ensures.finish_post c.finish-r.ensures.finish_count
