-- `base_tariff::in_reach`: below 0, or by the magnitude.
use mathlib.Core.Path.{ap, ◌∙◌}
use mir.Facts.{to_z-of_z, sfits_lit}
use lib.IntN.{pos, nat_abs}
use Rattle.base_signed.proofs.SignedWords.{lt-is}
use Rattle.base_tariff.proofs.Laws.{below-0, from-0}
use Rattle.base_tariff.proofs.in_reach.Goals as goal

pub returns-then-x-lt0 : goal.returns-then-x-lt0
returns-then-x-lt0 c = below-0 c.args.deepest c.args.x (lt-is c.ranges.x (sfits_lit {z = pos 0} tt) c.if-x-lt0.true)

pub returns : goal.returns
returns c = from-0 c.args.deepest c.args.x (lt-is c.ranges.x (sfits_lit {z = pos 0} tt) c.if-x-lt0.false)
    (c.magnitude.ensures ∙ ap nat_abs (to_z-of_z c.ranges.x))
