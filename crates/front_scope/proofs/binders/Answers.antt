-- `front_scope::binders` meets its contract, by BinderWords.
use mathlib.Core.Path.{refl}
use Rattle.front_scope.specs.Binders.{noted_up_to}
use Rattle.front_scope.proofs.BinderWords.{noted-next}
use Rattle.front_scope.proofs.binders.Goals as goal

pub loop-i-init : goal.loop-i-init
unfolding noted_up_to
loop-i-init c = refl

pub loop-i-preserved : goal.loop-i-preserved
loop-i-preserved c = noted-next c.clear.new.s c.loop-i.i c.loop-i.invariant c.note.ensures
