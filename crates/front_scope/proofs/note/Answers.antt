-- `front_scope::note` meets its contract, by BinderWords.
use Rattle.front_scope.proofs.BinderWords.{noted-not, noted-beyond, noted_here}
use native.Mathlib.Omega.{arith}
use Rattle.front_scope.proofs.note.Goals as goal

pub returns-then-k-lt-KIND_GENERATOR : goal.returns-then-k-lt-KIND_GENERATOR
returns-then-k-lt-KIND_GENERATOR c = noted-not c.args.s.now c.args.i c.kind_at-k.ensures c.arg_at-x.ensures (omega arith)

pub returns-then-k-gt-KIND_BINDING : goal.returns-then-k-gt-KIND_BINDING
returns-then-k-gt-KIND_BINDING c = noted-not c.args.s.now c.args.i c.kind_at-k.ensures c.arg_at-x.ensures (omega arith)

pub returns-then-x : goal.returns-then-x
returns-then-x c = noted_here c.args.s.now c.args.i c.kind_at-k.ensures c.arg_at-x.ensures c.if-k-lt-KIND_GENERATOR.false (omega arith) c.if-x.true c.put_binder.ensures

pub returns-else-x : goal.returns-else-x
returns-else-x c = noted-beyond c.args.s.now c.args.i c.kind_at-k.ensures c.arg_at-x.ensures c.if-x.false
