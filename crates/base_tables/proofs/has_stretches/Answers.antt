-- `base_tables::has_stretches` meets its contract, by Stretches. Assumes nothing.
use Rattle.std.proofs.Common.{sym}
use Rattle.base_signed.proofs.SignedWords.{no}
use Rattle.base_tables.proofs.Stretches.{stretchable}
use Rattle.base_tables.proofs.has_stretches.Goals as goal

pub returns-then-by_columns : goal.returns-then-by_columns
returns-then-by_columns c = λ e. no (sym e)

pub returns-then-w-eq0 : goal.returns-then-w-eq0
returns-then-w-eq0 c = λ e. stretchable c.by_columns.ensures c.if-by_columns.false c.if-w-eq0.true e

pub returns : goal.returns
returns c = λ e. no (sym e)
