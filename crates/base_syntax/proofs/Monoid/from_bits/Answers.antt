-- `base_syntax::Monoid::from_bits` meets its contract, by Numbers.
use mathlib.Core.Path.{◌∙◌}
use Prim.Native.Nat.{◌%◌}
use Rattle.base_syntax.proofs.Numbers.{bits-min, bits-other}
use Rattle.base_syntax.proofs.Monoid.from_bits.Goals as goal

pub returns-then-b-eq0 : goal.returns-then-b-eq0
returns-then-b-eq0 c = bits-min (c.args.a % 8) c.if-b-eq0.true

pub returns : goal.returns
returns c = c.from_number.ensures ∙ bits-other (c.args.a % 8) c.if-b-eq0.false
