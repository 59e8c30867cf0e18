use mathlib.Core.Path.{◌≡◌}
use Rattle.spec_tariff.specs.TariffBytes.{steps_from, rates_fit}
use Rattle.base_tariff.proofs.Laws.{rest}
use Rattle.base_tariff.proofs.rates_fit.Given as goal

abbrev pub invariant-loop-k : goal.invariant-loop-k
invariant-loop-k l = rates_fit (steps_from l.c 1 l.n) ≡ rates_fit (rest l.c l.n l.k)
