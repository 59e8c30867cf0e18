-- `front_typing::all_typed` meets its contract, by Exits.
use Rattle.front_typing.proofs.Exits.{no-parts, parts-begin, parts-on, parts-off, parts-end}
use borrow.Author.Tests.{not-true, not-false}
use native.Mathlib.Omega.{arith}
use mathlib.Core.Path.{ap}
use mathlib.Core.Bool.{not}
use Rattle.front_typing.proofs.all_typed.Goals as goal

pub returns-then-i-eq0 : goal.returns-then-i-eq0
returns-then-i-eq0 c = no-parts c.args.s.now c.args.i c.if-i-eq0.true

pub loop-init : goal.loop-init
loop-init c = parts-begin c.if-i-eq0.false c.node_word.ensures c.term_count-end.ensures (omega arith)

pub returns-then-not-is_typed : goal.returns-then-not-is_typed
returns-then-not-is_typed c = parts-off c.loop.invariant (omega arith) c.prior-c.ensures c.shape_at.ensures c.is_typed.ensures (not-true c.is_typed.result (ap not c.if-not-is_typed.true))

pub loop-preserved : goal.loop-preserved
loop-preserved c = parts-on c.loop.invariant (omega arith) c.prior-c.ensures c.shape_at.ensures c.is_typed.ensures (not-false c.is_typed.result (ap not c.if-not-is_typed.false)) c.start_at-e.ensures.0 (omega arith)

pub returns : goal.returns
returns c = parts-end c.loop.invariant (omega arith)
