-- `base_tariff::is_alone`: a header, kind 22, and as many bytes behind it as it says.
use Rattle.base_tariff.proofs.Laws.{cut, other-kind, by_length}
use Rattle.base_tariff.proofs.is_alone.Goals as goal

pub returns-then-l-lt-HEADER : goal.returns-then-l-lt-HEADER
returns-then-l-lt-HEADER c = cut c.args.l.now c.if-l-lt-HEADER.true

pub returns-then-two_at-ne-KIND_TARIFF : goal.returns-then-two_at-ne-KIND_TARIFF
returns-then-two_at-ne-KIND_TARIFF c = other-kind c.args.l.now c.two_at.ensures.0 c.if-two_at-ne-KIND_TARIFF.true

pub returns : goal.returns
returns c = by_length c.args.l.now c.if-l-lt-HEADER.false c.two_at.ensures.0 c.if-two_at-ne-KIND_TARIFF.false c.two_at-2.ensures.0
