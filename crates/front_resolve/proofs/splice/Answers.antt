-- `front_resolve::splice` meets its contract, by Exits.
use native.Mathlib.Omega.{arith}
use Rattle.front_resolve.proofs.Exits.{comp-inside, s-comp, s-table, s-junk, entered}
use borrow.Enum.Refused.{opened}
use Rattle.front_resolve.proofs.splice.Goals as goal

pub enter-requires : goal.enter-requires
enter-requires c = ((comp-inside c.requires.0 c.in-Comp.is).1, c.requires.1)

pub overflow_add-result : goal.overflow_add-result
overflow_add-result c = omega (arith, (comp-inside c.requires.0 c.in-Comp.is).1)

pub returns-in-Comp : goal.returns-in-Comp
returns-in-Comp c = record { is = ((comp-inside c.requires.0 c.in-Comp.is).0, λ r R. s-comp c.in-Comp.is c.requires.0 c.joined.ensures c.enter.ensures R); long = entered c.args.h.depth _ c.requires.0 c.enter.ensures }

pub returns-in-Table : goal.returns-in-Table
returns-in-Table c = record { is = s-table c.in-Table.is c.requires.0 c.requires.1; long = c.requires.0.long }

pub returns-in_default : goal.returns-in_default
returns-in_default c = record { is = s-junk c.requires.0 (opened c.in_default.in_default-own.keys3); long = c.requires.0.long }
