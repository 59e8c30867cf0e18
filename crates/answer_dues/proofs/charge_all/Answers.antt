-- `answer_dues::charge_all`: the draughts from the loop's on decide.
use native.Mathlib.Omega.{arith}
use mathlib.Core.Path.{◌≡◌, refl, ◌∙◌}
use Prim.Native.Nat.{◌+◌, ◌-◌, ◌*◌, ◌≤◌}
use lib.ListN.{length}
use Rattle.base_tariff.specs.Contract.{tariff_in}
use Rattle.answer_dues.specs.Contract.{charged_from}
use Rattle.answer_dues.proofs.Laws.{all_first, all-again, all-last}
use borrow.Author.Rules.{rules}
use Rattle.answer_dues.proofs.charge_all.Goals as goal

pub loop-k-init : goal.loop-k-init
loop-k-init c = (omega arith, refl, all_first (tariff_in c.args.t.now) c.args.n c.args.o.now)

pub charge_at-requires : goal.charge_at-requires
charge_at-requires c = c.requires.tariff

pub loop-k-preserved : goal.loop-k-preserved
loop-k-preserved c = (omega (arith, c.loop-k-test.true), c.charge_at.auto.o ∙ c.loop-k.invariant.1, all-again (tariff_in c.args.t.now) c.args.n c.args.o.now c.loop-k.k c.loop-k.o c.loop-k.invariant.2 c.loop-k-test.true c.charge_at.ensures)

pub returns : goal.returns
returns c = all-last (tariff_in c.args.t.now) c.args.n c.args.o.now c.loop-k.k c.loop-k.o c.loop-k.invariant.2 c.loop-k-test.false
