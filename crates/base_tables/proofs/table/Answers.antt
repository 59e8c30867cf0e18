-- `base_tables::table` meets its contract, by TableWords.
use Rattle.base_tables.proofs.TableWords.{table-few, table-past}
use Rattle.base_tables.proofs.table.Goals as goal

pub returns-then-k-lt-MOST_TABLES : goal.returns-then-k-lt-MOST_TABLES
returns-then-k-lt-MOST_TABLES c = table-few c.args.s.now c.args.k c.if-k-lt-MOST_TABLES.true c.load.ensures

pub returns : goal.returns
returns c = table-past c.args.s.now c.args.k c.if-k-lt-MOST_TABLES.false
