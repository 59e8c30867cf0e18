-- `base_logs::refusal`: 53, 54, 52, or none. Assumes nothing.
use borrow.Author.Tests.{not-true, not-false}
use Rattle.base_logs.proofs.OwnRefusals.{no-first, no_second, tolerance-beyond, target-short, target-long}
use mathlib.Core.Path.{ap}
use mathlib.Core.Bool.{not}
use Rattle.base_logs.proofs.refusal.Goals as goal

pub returns-then-not-is_log : goal.returns-then-not-is_log
returns-then-not-is_log c = no-first c.args.data.now c.args.a c.args.b c.args.t c.args.room c.is_log.ensures (not-true c.is_log.result (ap not c.if-not-is_log.true))

pub returns-then-not-is_log-2 : goal.returns-then-not-is_log-2
returns-then-not-is_log-2 c = no_second c.args.data.now c.args.a c.args.b c.args.t c.args.room c.is_log.ensures (not-false c.is_log.result (ap not c.if-not-is_log.false)) c.is_log-2.ensures (not-true c.is_log-2.result (ap not c.if-not-is_log-2.true))

pub returns-then-t-gt-MOST_TOLERANCE : goal.returns-then-t-gt-MOST_TOLERANCE
returns-then-t-gt-MOST_TOLERANCE c = tolerance-beyond c.args.data.now c.args.a c.args.b c.args.t c.args.room c.is_log.ensures (not-false c.is_log.result (ap not c.if-not-is_log.false)) c.is_log-2.ensures (not-false c.is_log-2.result (ap not c.if-not-is_log-2.false)) c.if-t-gt-MOST_TOLERANCE.true

pub returns-then-room-records_length : goal.returns-then-room-records_length
returns-then-room-records_length c = target-short c.args.data.now c.args.a c.args.b c.args.t c.args.room c.is_log.ensures (not-false c.is_log.result (ap not c.if-not-is_log.false)) c.is_log-2.ensures (not-false c.is_log-2.result (ap not c.if-not-is_log-2.false)) c.if-t-gt-MOST_TOLERANCE.false c.records_length.ensures c.if-room-records_length.true

pub returns : goal.returns
returns c = target-long c.args.data.now c.args.a c.args.b c.args.t c.args.room c.is_log.ensures (not-false c.is_log.result (ap not c.if-not-is_log.false)) c.is_log-2.ensures (not-false c.is_log-2.result (ap not c.if-not-is_log-2.false)) c.if-t-gt-MOST_TOLERANCE.false c.records_length.ensures c.if-room-records_length.false
