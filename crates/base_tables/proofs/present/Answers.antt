-- `base_tables::present` meets its contract, by TableWords.
use Rattle.base_tables.proofs.TableWords.{present-columns}
use Rattle.base_tables.proofs.present.Goals as goal

pub returns : goal.returns
returns c = present-columns c.args.s.now c.args.k c.table.ensures c.columns.ensures
