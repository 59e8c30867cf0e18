-- `base_tariff::cents`: the charge of the content, below 2^62.
use native.Mathlib.Omega.{arith}
use mathlib.Core.Path.{ap, ◌∙◌}
use Prim.Native.Nat.{ℕ}
use mir.Facts.{to_z-of_z}
use lib.IntN.{pos, nat_abs}
use Rattle.spec_tariff.specs.Tariff.{charge}
use Rattle.base_signed.proofs.SignedWords.{up}
use Rattle.base_tariff.specs.Contract.{tariff_in}
use Rattle.base_tariff.proofs.Laws.{header-in, cents-is, magnitude-most}
use Rattle.base_tariff.proofs.cents.Goals as goal

pub slice_bounds-charge-count : goal.slice_bounds-charge-count
slice_bounds-charge-count c = header-in c.requires

pub slice_bounds-charge-start : goal.slice_bounds-charge-start
slice_bounds-charge-start c = header-in c.requires

pub charge-requires : goal.charge-requires
charge-requires c = omega (arith, magnitude-most c.ranges.x, c.magnitude.ensures ∙ ap nat_abs (to_z-of_z c.ranges.x))

pub returns : goal.returns
returns c = up (omega (arith, c.charge.ensures.small)) ∙ ap pos
    (cents-is c.requires c.charge.ensures ∙ ap (λ (h : ℕ). charge (tariff_in c.args.l.now) h) (c.magnitude.ensures ∙ ap nat_abs (to_z-of_z c.ranges.x)))
