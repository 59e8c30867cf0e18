use mathlib.Core.Path.{◌≡◌}
use Prim.Native.Nat.{◌-◌}
use Rattle.spec_tariff.specs.TariffBytes.{steps_from, rising}
use Rattle.base_tariff.proofs.Laws.{rest}
use Rattle.base_tariff.proofs.uppers_rise.Given as goal

abbrev pub invariant-loop-k : goal.invariant-loop-k
invariant-loop-k l = rising (steps_from l.c 1 l.n) ≡ rising (rest l.c l.n (l.k - 1))
