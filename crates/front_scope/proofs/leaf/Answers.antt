-- `front_scope::leaf` meets its contract, by KindNumbers, Exits.
use native.Mathlib.Omega.{arith}
use Rattle.front_scope.proofs.KindNumbers.{kind-is, kind-not}
use Rattle.front_scope.proofs.Exits.{leaf-name, leaf-other}
use Rattle.front_scope.proofs.leaf.Goals as goal

pub returns-then-kind_at-eq-KIND_NAME : goal.returns-then-kind_at-eq-KIND_NAME
returns-then-kind_at-eq-KIND_NAME c = leaf-name (kind-is c.args.s.now 0 3 c.kind_at.ensures c.if-kind_at-eq-KIND_NAME.true) c.arg_at.ensures c.used.ensures

pub returns : goal.returns
returns c = leaf-other c.args.s.now c.args.scope.now c.args.ok (kind-not c.args.s.now 0 c.kind_at.ensures 3 (omega arith) c.if-kind_at-eq-KIND_NAME.false)
