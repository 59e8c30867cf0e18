-- `base_tables::read_data`. The loop's invariant is `ReadLoop`; the measure, the bytes that are left. Assumes nothing.
use Rattle.std.proofs.Common.{sym, ◌∙◌, arith}
use Rattle.std.proofs.lemmas.Result.{err_from_is_err_and}
use Rattle.base_tables.proofs.ReadLoop.{going-first, from-lent, going-ninth, going-refused, going-falls, going-number, going_next, going-ended}
use Rattle.base_tables.proofs.read_data.Goals as goal

pub loop-p-init : goal.loop-p-init
loop-p-init c = going-first c.args.«data».now c.wipe.ensures c.requires

pub returns-then-n-eq-MOST_TABLES : goal.returns-then-n-eq-MOST_TABLES
returns-then-n-eq-MOST_TABLES c = from-lent c.args.«data».now c.wipe.ensures (going-ninth c.loop-p.invariant c.loop-p-test.true c.if-n-eq-MOST_TABLES.true)

pub returns-in_err-k : goal.returns-in_err-k
returns-in_err-k c = let p = err_from_is_err_and c.from_residual.result c.from_residual.ensures.1 in rw (p.1, p.2) (from-lent c.args.«data».now c.wipe.ensures
    (going-refused c.loop-p.invariant c.loop-p-test.true c.if-n-eq-MOST_TABLES.false (sym c.table_at.ensures ∙ c.in_err-k.was)))

pub overflow_add-k : goal.overflow_add-k
overflow_add-k c = let k = going-number c.loop-p.invariant c.loop-p-test.true (sym c.table_at.ensures ∙ c.in_ok-k.was) in
    record { fits = omega (arith, k) }

pub loop-p-smaller : goal.loop-p-smaller
loop-p-smaller c = going-falls c.loop-p.invariant c.loop-p-test.true (sym c.table_at.ensures ∙ c.in_ok-k.was)

pub loop-p-preserved : goal.loop-p-preserved
loop-p-preserved c = going_next c.loop-p.invariant c.loop-p-test.true c.if-n-eq-MOST_TABLES.false
    (sym c.table_at.ensures ∙ c.in_ok-k.was) c.store.ensures

pub returns : goal.returns
returns c = from-lent c.args.«data».now c.wipe.ensures (going-ended c.loop-p.invariant c.loop-p-test.false)
