-- `base_syntax::Monoid::from_number` meets its contract, by Numbers.
use native.Mathlib.Omega.{arith}
use Rattle.base_syntax.proofs.Numbers.{monoid-rest}
use Rattle.base_syntax.proofs.Monoid.from_number.Goals as goal

pub returns-in_default : goal.returns-in_default
returns-in_default c = monoid-rest c.args.n (λ e. omega arith) (λ e. omega arith) (λ e. omega arith) (λ e. omega arith) (λ e. omega arith) (λ e. omega arith) (λ e. omega arith)
