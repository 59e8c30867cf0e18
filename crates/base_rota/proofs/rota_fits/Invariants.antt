use mathlib.Core.Path.{◌≡◌}
use lib.ListN.{drop}
use Rattle.spec_outcome.specs.Rota.{quotas_fit, rota_fits}
use Rattle.base_rota.proofs.rota_fits.Given as goal

abbrev pub invariant-loop-q : goal.invariant-loop-q
invariant-loop-q l = rota_fits l.quotas ≡ quotas_fit (drop l.q-index l.quotas)
