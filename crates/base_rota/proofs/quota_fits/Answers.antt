-- `base_rota::quota_fits`: 0 does not fit, and else 1,000 decides.
use mathlib.Core.Path.{refl}
use Rattle.base_rota.proofs.Laws.{quota-none, quota-some}
use Rattle.base_rota.proofs.quota_fits.Goals as goal

pub returns-then-q-eq0 : goal.returns-then-q-eq0
returns-then-q-eq0 c = quota-none c.if-q-eq0.true

pub returns : goal.returns
returns c = quota-some c.if-q-eq0.false refl
