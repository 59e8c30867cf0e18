-- `base_tables::bound`: each way out is one of `bound_in`'s. Assumes nothing.
use Rattle.base_tables.proofs.ByteReaders.{bound-beside, bound-short, bound-inside}
use Rattle.base_tables.proofs.bound.Goals as goal

pub returns-then-width-c : goal.returns-then-width-c
returns-then-width-c c = bound-beside c.columns-width.ensures c.if-width-c.true

pub returns-then-first-width : goal.returns-then-first-width
returns-then-first-width c = bound-short c.columns-width.ensures c.if-width-c.false c.if-first-width.true

pub returns : goal.returns
returns c = bound-inside c.columns-width.ensures c.if-width-c.false c.if-first-width.false c.four_at.ensures
