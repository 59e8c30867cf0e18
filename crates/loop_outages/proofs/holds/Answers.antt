-- `loop_outages::holds`: the question's word over the rows that are left. Assumes nothing.
use lib.IntN.{pos}
use mir.Facts.{sfits_lit}
use Rattle.base_signed.proofs.SignedWords.{fits, eq_is, ne-is}
use Rattle.loop_outages.proofs.Exits.{holds-no, holds-yes}
use Rattle.loop_outages.proofs.holds.Goals as goal

pub returns-then-scalar-eq0 : goal.returns-then-scalar-eq0
returns-then-scalar-eq0 c = holds-no c.args.«data».now c.args.s.now c.args.k c.args.w c.args.m c.without.ensures c.store.ensures c.scalar.ensures (eq_is (fits c.scalar.type_inv) (sfits_lit {z = pos 0} tt) c.if-scalar-eq0.true)

pub returns : goal.returns
returns c = holds-yes c.args.«data».now c.args.s.now c.args.k c.args.w c.args.m c.without.ensures c.store.ensures c.scalar.ensures (ne-is (fits c.scalar.type_inv) (sfits_lit {z = pos 0} tt) c.if-scalar-eq0.false)
