-- `front_scope::clear` meets its contract, by BinderWords.
use mathlib.Core.Path.{refl}
use Rattle.front_scope.specs.Binders.{cleared}
use Rattle.front_scope.proofs.BinderWords.{cleared-next}
use Rattle.front_scope.proofs.clear.Goals as goal

pub loop-x-init : goal.loop-x-init
unfolding cleared
loop-x-init c = refl

pub loop-x-preserved : goal.loop-x-preserved
loop-x-preserved c = cleared-next c.args.s.now c.loop-x.x c.loop-x.invariant c.put_binder.ensures
