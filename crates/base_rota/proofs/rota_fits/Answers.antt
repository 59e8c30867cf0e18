-- `base_rota::rota_fits`: the quotas from the loop's place on decide.
use Rattle.base_rota.proofs.Laws.{rota-empty, rota-long, rota-quotas, rota-stops, rota-goes, rota-ends}
use Rattle.base_rota.proofs.rota_fits.Goals as goal

pub returns-then-n-eq0 : goal.returns-then-n-eq0
returns-then-n-eq0 c = rota-empty c.args.quotas.now c.if-n-eq0.true

pub returns-then-n-gt4 : goal.returns-then-n-gt4
returns-then-n-gt4 c = rota-long c.args.quotas.now c.if-n-gt4.true

pub loop-q-init : goal.loop-q-init
loop-q-init c = rota-quotas c.args.quotas.now c.if-n-eq0.false c.if-n-gt4.false

pub returns-then-not-quota_fits : goal.returns-then-not-quota_fits
returns-then-not-quota_fits c = rota-stops c.args.quotas.now c.loop-q.q-index c.loop-q.invariant c.loop-q-test.true c.quota_fits.ensures c.if-not-quota_fits.true

pub loop-q-preserved : goal.loop-q-preserved
loop-q-preserved c = rota-goes c.args.quotas.now c.loop-q.q-index c.loop-q.invariant c.loop-q-test.true c.quota_fits.ensures c.if-not-quota_fits.false

pub returns : goal.returns
returns c = rota-ends c.args.quotas.now c.loop-q.q-index c.loop-q.invariant c.loop-q-test.false
