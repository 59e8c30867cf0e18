-- `front_parser::value::number` meets its contract, by LeafRecords.
use Rattle.front_parser.proofs.LeafRecords.{number-broken, number_small, number-large}
use Rattle.front_parser.proofs.value.number.Goals as goal

pub returns-then-c-ne4 : goal.returns-then-c-ne4
returns-then-c-ne4 c = number-broken c.if-c-ne4.true

pub returns-then-n-lt-ZERO : goal.returns-then-n-lt-ZERO
returns-then-n-lt-ZERO c = number_small c.if-c-ne4.false c.two_at.ensures c.two_at-2.ensures c.if-n-lt-ZERO.true

pub returns-else-n-lt-ZERO : goal.returns-else-n-lt-ZERO
returns-else-n-lt-ZERO c = number-large c.if-c-ne4.false c.two_at.ensures c.two_at-2.ensures c.if-n-lt-ZERO.false
