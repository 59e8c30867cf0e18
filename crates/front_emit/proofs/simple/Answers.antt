-- `front_emit::simple` meets its contract, by LeafForms.
use native.Mathlib.Omega.{arith}
use Rattle.front_emit.proofs.LeafForms.{one_place, cell-small, row_small, table-starts, simple-number, simple-truth, simple-row, simple-cell, simple-rest}
use borrow.Enum.Refused.{opened}
use Rattle.front_emit.proofs.simple.Goals as goal

pub leaf-requires : goal.leaf-requires
leaf-requires c = (omega arith, omega (arith, c.arg.ensures), one_place c.requires)

pub leaf-requires-in-Truth : goal.leaf-requires-in-Truth
leaf-requires-in-Truth c = (omega arith, omega (arith, c.truth_number.ensures.1), one_place c.requires)

pub leaf-requires-in-Row : goal.leaf-requires-in-Row
leaf-requires-in-Row c = (omega arith, omega (arith, row_small c.requires c.in-Row.is), one_place c.requires)

pub leaf-requires-in-Cell : goal.leaf-requires-in-Cell
leaf-requires-in-Cell c = (omega arith, omega (arith, (cell-small c.requires c.in-Cell.is).0, (cell-small c.requires c.in-Cell.is).1), one_place c.requires)

pub table-requires : goal.table-requires
table-requires c = table-starts c.requires c.in-Table.is

pub leaf-requires-in_default : goal.leaf-requires-in_default
leaf-requires-in_default c = (omega arith, omega arith, one_place c.requires)

pub returns-in-Number : goal.returns-in-Number
returns-in-Number c = simple-number c.requires c.in-Number.is c.node_word.ensures c.arg.ensures c.leaf.ensures

pub returns-in-Truth : goal.returns-in-Truth
returns-in-Truth c = simple-truth c.requires c.in-Truth.is c.truth_number.ensures.0 c.leaf-in-Truth.ensures

pub returns-in-Row : goal.returns-in-Row
returns-in-Row c = simple-row c.requires c.in-Row.is c.leaf-in-Row.ensures

pub returns-in-Cell : goal.returns-in-Cell
returns-in-Cell c = simple-cell c.requires c.in-Cell.is c.leaf-in-Cell.ensures

pub returns-in_default : goal.returns-in_default
returns-in_default c = simple-rest c.requires (opened c.in_default.in_default-own.keys6) c.leaf-in_default.ensures
