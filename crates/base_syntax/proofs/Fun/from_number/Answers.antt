-- `base_syntax::Fun::from_number` meets its contract, by Numbers.
use Rattle.base_syntax.proofs.Numbers.{fun-rest}
use native.Mathlib.Omega.{arith}
use Rattle.base_syntax.proofs.Fun.from_number.Goals as goal

pub returns-in_default : goal.returns-in_default
returns-in_default c = fun-rest c.args.n (λ e. omega arith)
