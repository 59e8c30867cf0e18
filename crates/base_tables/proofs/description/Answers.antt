-- `base_tables::description` meets its contract, by TableWords.
use Rattle.base_tables.proofs.TableWords.{description-none, description-is}
use Rattle.base_tables.proofs.description.Goals as goal

pub returns-then-n-eq0 : goal.returns-then-n-eq0
returns-then-n-eq0 c = description-none c.args.s.now c.if-n-eq0.true

pub returns : goal.returns
returns c = description-is c.args.s.now c.args.n c.if-n-eq0.false c.table.ensures
