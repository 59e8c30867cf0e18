-- `front_parser::bytes::begin` meets its contract, by LeafRecords.
use Rattle.front_parser.specs.RecordFront.{none, deep, many, cut}
use Rattle.front_parser.proofs.LeafRecords.{passed_on, absent, not-headed}
use Rattle.front_parser.proofs.bytes.begin.Goals as goal

pub returns-then-l-eq0 : goal.returns-then-l-eq0
returns-then-l-eq0 c = record { is = none c.if-l-eq0.true }

pub returns-then-p-eq0 : goal.returns-then-p-eq0
returns-then-p-eq0 c = record { is = deep c.if-l-eq0.false c.if-p-eq0.true }

pub returns-then-p-eq0-2 : goal.returns-then-p-eq0-2
returns-then-p-eq0-2 c = record { is = many c.if-l-eq0.false c.if-p-eq0-2.true }

pub returns-in_err-k : goal.returns-in_err-k
returns-in_err-k c =
    let n = absent _ c.ok_or.ensures.value c.in_err-k.was in
    rw (passed_on _ c.from_residual.ensures.1, n.1) (record { is = cut c.if-p-eq0.false c.if-p-eq0-2.false (not-headed c.read_header.ensures n.0) })
