-- `base_tables::read_header`: each way out gives what `header_at` does. Assumes nothing.
use Rattle.std.proofs.Common.{sym, ap, ◌∙◌, arith}
use Rattle.spec_encoding.specs.Data.{is_kind}
use Rattle.base_signed.proofs.SignedWords.{no}
use Rattle.base_tables.proofs.ByteReaders.{header-bad, header-good}
use Rattle.base_tables.proofs.read_header.Goals as goal

pub returns-then-s-lt4 : goal.returns-then-s-lt4
returns-then-s-lt4 c = header-bad c.args.s.now (λ w. omega (arith, w.within))

pub returns-then-s-n : goal.returns-then-s-n
returns-then-s-n c = header-bad c.args.s.now (λ w. omega (arith, w.within, c.two_at-n.ensures.0))

pub returns-then-is_table : goal.returns-then-is_table
returns-then-is_table c = header-good c.args.s.now c.two_at-n.ensures.0 (record {
  within = omega (arith, c.two_at-n.ensures.0);
  kind = sym (ap is_kind c.two_at.ensures.0) ∙ sym c.is_table.ensures ∙ c.if-is_table.true;
})

pub returns : goal.returns
returns c = header-bad c.args.s.now (λ w. no (sym w.kind ∙ sym (ap is_kind c.two_at.ensures.0) ∙ sym c.is_table.ensures ∙ c.if-is_table.false))
