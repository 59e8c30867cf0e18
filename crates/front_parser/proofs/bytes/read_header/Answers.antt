-- `front_parser::bytes::read_header` meets its contract, by LeafRecords.
use Rattle.front_parser.proofs.LeafRecords.{headed-short, headed-cut, headed-whole}
use Rattle.front_parser.proofs.bytes.read_header.Goals as goal

pub returns-then-l-lt4 : goal.returns-then-l-lt4
returns-then-l-lt4 c = headed-short c.if-l-lt4.true

pub returns-then-l-n : goal.returns-then-l-n
returns-then-l-n c = headed-cut c.if-l-lt4.false c.two_at-n.ensures c.if-l-n.true

pub returns : goal.returns
returns c = headed-whole c.if-l-lt4.false c.two_at-n.ensures c.if-l-n.false c.two_at-k.ensures
