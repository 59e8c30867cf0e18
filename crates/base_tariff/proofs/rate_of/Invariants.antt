use mathlib.Core.Path.{◌≡◌}
use Rattle.spec_tariff.specs.Tariff.{rate_of}
use Rattle.spec_tariff.specs.TariffBytes.{steps_from}
use Rattle.base_tariff.proofs.Laws.{rest}
use Rattle.base_tariff.proofs.rate_of.Given as goal

abbrev pub invariant-loop-k : goal.invariant-loop-k
invariant-loop-k l = rate_of (steps_from l.c 1 l.n) l.h ≡ rate_of (rest l.c l.n l.k) l.h
