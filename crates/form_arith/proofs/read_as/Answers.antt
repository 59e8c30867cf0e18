-- `form_arith::read_as` meets its contract, by Exits.
use mir.Facts.{to_z-of_z}
use Rattle.form_arith.proofs.Exits.{read_same, read-either, read-other}
use Rattle.form_arith.proofs.read_as.Goals as goal

pub returns-then-eq : goal.returns-then-eq
returns-then-eq c = read_same c.args.want c.args.have c.eq.ensures c.if-eq.true (to_z-of_z c.ranges.x)

pub returns-then-eq-2 : goal.returns-then-eq-2
returns-then-eq-2 c = read-either c.args.want c.args.have c.eq.ensures c.eq-2.ensures c.if-eq.false c.if-eq-2.true (to_z-of_z c.ranges.x)

pub returns-else-eq-2 : goal.returns-else-eq-2
returns-else-eq-2 c = read-other c.args.want c.args.have c.eq.ensures c.eq-2.ensures c.args.x c.if-eq.false c.if-eq-2.false
