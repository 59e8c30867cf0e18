-- `loop_outages::count`: 55, 56 and 32 in this order, else the two counts. Assumes nothing.
use native.Mathlib.Omega.{arith}
use mathlib.Core.Path.{ap}
use mathlib.Core.Bool.{not}
use borrow.Author.Tests.{not-true, not-false}
use Rattle.base_signed.proofs.SignedWords.{up}
use Rattle.loop_outages.proofs.Exits.{count-monoid, count-table, count_room, subsets-ready, truths-ready, count-written}
use Rattle.loop_outages.proofs.count.Goals as goal

pub returns-then-not-asks_truth : goal.returns-then-not-asks_truth
returns-then-not-asks_truth c = count-monoid c.args.«data».now c.args.s.now c.args.k c.args.out.now c.asks_truth.ensures (not-true c.asks_truth.result (ap not c.if-not-asks_truth.true))

pub returns-then-not-countable : goal.returns-then-not-countable
returns-then-not-countable c = count-table c.args.«data».now c.args.s.now c.args.k c.args.out.now c.asks_truth.ensures (not-false c.asks_truth.result (ap not c.if-not-asks_truth.false)) c.countable.ensures (not-true c.countable.result (ap not c.if-not-countable.true))

pub returns-then-out-lt-ANSWER_WORDS : goal.returns-then-out-lt-ANSWER_WORDS
returns-then-out-lt-ANSWER_WORDS c = count_room c.args.«data».now c.args.s.now c.args.k c.args.out.now c.asks_truth.ensures (not-false c.asks_truth.result (ap not c.if-not-asks_truth.false)) c.countable.ensures (not-false c.countable.result (ap not c.if-not-countable.false)) c.if-out-lt-ANSWER_WORDS.true

pub subsets-n-requires : goal.subsets-n-requires
subsets-n-requires c = subsets-ready c.args.«data».now c.args.s.now c.args.k c.args.out.now c.asks_truth.ensures (not-false c.asks_truth.result (ap not c.if-not-asks_truth.false)) c.countable.ensures (not-false c.countable.result (ap not c.if-not-countable.false)) c.table.ensures c.rows.ensures

pub truths-t-requires : goal.truths-t-requires
truths-t-requires c = truths-ready c.args.«data».now c.args.s.now c.args.k c.args.out.now c.asks_truth.ensures (not-false c.asks_truth.result (ap not c.if-not-asks_truth.false)) c.countable.ensures (not-false c.countable.result (ap not c.if-not-countable.false)) c.table.ensures c.rows.ensures c.subsets-n.ensures c.requires

pub returns : goal.returns
returns c = let t = c.truths-t.ensures.most in
    let n = c.subsets-n.ensures.1 in
    count-written c.args.«data».now c.args.s.now c.args.k c.args.out.now c.asks_truth.ensures (not-false c.asks_truth.result (ap not c.if-not-asks_truth.false)) c.countable.ensures (not-false c.countable.result (ap not c.if-not-countable.false)) c.table.ensures c.rows.ensures c.subsets-n.ensures (omega (arith, c.if-out-lt-ANSWER_WORDS.false)) c.truths-t.ensures (up (omega (arith, t, n))) (up (omega (arith, n)))
