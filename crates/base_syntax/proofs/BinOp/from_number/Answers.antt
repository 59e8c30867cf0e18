-- `base_syntax::Op::from_number` meets its contract, by Numbers.
use native.Mathlib.Omega.{arith}
use Rattle.base_syntax.proofs.Numbers.{op-rest}
use Rattle.base_syntax.proofs.BinOp.from_number.Goals as goal

pub returns-in_default : goal.returns-in_default
returns-in_default c = op-rest c.args.n (λ e. omega arith) (λ e. omega arith) (λ e. omega arith) (λ e. omega arith) (λ e. omega arith) (λ e. omega arith)
