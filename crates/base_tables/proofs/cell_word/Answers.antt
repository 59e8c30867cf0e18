-- `base_tables::cell_word`: where no row is left out the stored word, else that of the row that is kept. Assumes nothing.
use Rattle.std.proofs.Common.{refl}
use Rattle.base_tables.proofs.ByteReaders.{word-full, word_kept}
use Rattle.base_tables.proofs.cell_word.Goals as goal

pub returns-then-m-eq0 : goal.returns-then-m-eq0
returns-then-m-eq0 c = word-full c.args.«data».now c.args.w c.args.r c.args.c refl c.if-m-eq0.true c.stored_word.ensures

pub returns : goal.returns
returns c = word_kept c.args.«data».now c.args.w c.args.r c.args.c refl c.if-m-eq0.false c.whole.ensures c.kept_row.ensures.0 c.stored_word-2.ensures
