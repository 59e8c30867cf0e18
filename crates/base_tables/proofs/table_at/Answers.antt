-- `base_tables::table_at`: each way out is one of `table_at`'s. Assumes nothing.
use Rattle.std.proofs.Common.{arith}
use Rattle.base_tables.proofs.ByteReaders.{table-bad, table-within, table-unfit, table_is}
use Rattle.base_tables.proofs.table_at.Goals as goal

pub returns-in_default : goal.returns-in_default
returns-in_default c = table-bad c.args.«data».now c.args.scratch.now c.args.p c.read_header.ensures c.in_default.is

pub overflow_add-next : goal.overflow_add-next
overflow_add-next c = omega (arith, table-within c.args.«data».now c.args.scratch.now c.args.p c.read_header.ensures c.in-Some.is c.requires.0)

pub slice_bounds-well_formed-end : goal.slice_bounds-well_formed-end
slice_bounds-well_formed-end c = table-within c.args.«data».now c.args.scratch.now c.args.p c.read_header.ensures c.in-Some.is c.requires.0

pub slice_bounds-numbered_table-end : goal.slice_bounds-numbered_table-end
slice_bounds-numbered_table-end c = table-within c.args.«data».now c.args.scratch.now c.args.p c.read_header.ensures c.in-Some.is c.requires.0

pub returns-then-well_formed : goal.returns-then-well_formed
returns-then-well_formed c = table_is c.args.«data».now c.args.scratch.now c.args.p c.read_header.ensures
    c.in-Some.is c.well_formed-2.ensures c.if-well_formed.true c.two_at.ensures.0 c.numbered_table.ensures

pub returns : goal.returns
returns c = table-unfit c.args.«data».now c.args.scratch.now c.args.p c.read_header.ensures
    c.in-Some.is c.well_formed-2.ensures c.if-well_formed.false
