-- `front_emit::collection_number` meets its contract, by SmallFunctions.
use native.Mathlib.Omega.{arith}
use mathlib.Core.Path.{◌∙◌, ap, sym}
use Rattle.front_emit.proofs.SmallFunctions.{number_by, described, number-list}
use Rattle.front_emit.proofs.collection_number.Goals as goal

pub returns-in-2 : goal.returns-in-2
returns-in-2 c = (ap number_by (sym c.in-2.is) ∙ described c.args.s.now c.args.k c.collection.ensures c.table.ensures, omega arith)

pub returns-in-3 : goal.returns-in-3
returns-in-3 c = (ap number_by (sym c.in-3.is) ∙ described c.args.s.now c.args.k c.collection.ensures c.table.ensures, omega arith)

pub returns-in_default : goal.returns-in_default
returns-in_default c = let m = c.in_default.in_default-own.rest in (number-list c.collection.result (omega (arith, c.collection.ensures)) m.0.1 m.1 ∙ described c.args.s.now c.args.k c.collection.ensures c.table.ensures, omega arith)
