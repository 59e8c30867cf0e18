use native.Mathlib.Omega.{arith}
use mathlib.Core.Path.{◌≡◌, refl, ◌∙◌}
use Prim.Native.Nat.{◌+◌, ◌-◌, ◌*◌, ◌≤◌}
use lib.ListN.{length}
use Rattle.base_tariff.specs.Contract.{tariff_in}
use Rattle.answer_dues.specs.Contract.{charged_from}
use Rattle.answer_dues.proofs.Laws.{all_first, all-again, all-last}
use borrow.Author.Rules.{rules}
use Rattle.answer_dues.proofs.charge_all.Given as goal

abbrev pub invariant-loop-k : goal.invariant-loop-k
invariant-loop-k l = (l.k ≤ l.n) × (length l.o ≡ length l.initial.o) × (charged_from (tariff_in l.t) 2 l.n l.initial.o ≡ charged_from (tariff_in l.t) (2 + 2 * l.k) (l.n - l.k) l.o)
