-- `loop_dues::answer` meets its contract, by DuesOutcome.
use native.Mathlib.Omega.{arith}
use mathlib.Core.Path.{refl}
use borrow.Author.Tests.{not-true, not-false}
use Rattle.base_tariff.specs.Contract.{tariff_in}
use Rattle.loop_dues.proofs.DuesOutcome.{ready-judge, few, ready-write, answers-unfit, answers-short, answers-beyond, answers-dues}
use mathlib.Core.Path.{ap}
use mathlib.Core.Bool.{not}
use Rattle.loop_dues.proofs.answer.Goals as goal

pub returns-then-not-fits : goal.returns-then-not-fits
returns-then-not-fits c = answers-unfit (tariff_in c.args.tariff.now) c.args.out.now c.gives_ships-fits.ensures (not-true c.gives_ships-fits.result (ap not c.if-not-fits.true))

pub judge-e-requires : goal.judge-e-requires
judge-e-requires c = ready-judge c.requires.0 c.gives_ships-fits.ensures (not-false c.gives_ships-fits.result (ap not c.if-not-fits.false))

pub overflow_mul-g : goal.overflow_mul-g
overflow_mul-g c = omega
    (arith, few c.requires.0 c.gives_ships-fits.ensures (not-false c.gives_ships-fits.result (ap not c.if-not-fits.false)) c.no_elements.ensures c.judge-e.ensures)

pub overflow_add-g : goal.overflow_add-g
overflow_add-g c = omega
    (arith, few c.requires.0 c.gives_ships-fits.ensures (not-false c.gives_ships-fits.result (ap not c.if-not-fits.false)) c.no_elements.ensures c.judge-e.ensures)

pub returns-then-out-g : goal.returns-then-out-g
returns-then-out-g c = answers-short (tariff_in c.args.tariff.now) c.args.out.now c.gives_ships-fits.ensures
    (not-false c.gives_ships-fits.result (ap not c.if-not-fits.false)) c.reach.ensures c.no_elements.ensures refl c.judge-e.ensures c.if-out-g.true

pub returns-then-not-within : goal.returns-then-not-within
returns-then-not-within c = answers-beyond (tariff_in c.args.tariff.now) c.args.out.now c.gives_ships-fits.ensures
    (not-false c.gives_ships-fits.result (ap not c.if-not-fits.false)) c.reach.ensures c.no_elements.ensures refl c.judge-e.ensures
    (omega (arith, c.well_formed.1.1.1.0.1)) c.if-out-g.false (not-true _ (ap not c.if-not-within.true))

pub write-requires : goal.write-requires
write-requires c = ready-write c.requires.0 c.gives_ships-fits.ensures (not-false c.gives_ships-fits.result (ap not c.if-not-fits.false)) c.judge-e.ensures.heads.kept
    (omega (arith, c.if-out-g.false, c.well_formed.1.1.1.0.1))

pub returns : goal.returns
returns c = answers-dues (tariff_in c.args.tariff.now) c.args.out.now c.gives_ships-fits.ensures
    (not-false c.gives_ships-fits.result (ap not c.if-not-fits.false)) c.reach.ensures c.no_elements.ensures refl c.judge-e.ensures
    (omega (arith, c.well_formed.1.1.1.0.1)) c.if-out-g.false (not-false _ (ap not c.if-not-within.false)) c.write.ensures c.settle_dues.ensures
