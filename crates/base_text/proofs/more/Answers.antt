-- `base_text::more` meets its contract, by base_signed/Limit.
use Rattle.base_signed.proofs.Limit.{bump-more, bump-full}
use borrow.Author.Rules.{rules}
use Rattle.base_text.proofs.more.Goals as goal

pub returns-then-p-lt9223372036854775808 : goal.returns-then-p-lt9223372036854775808
returns-then-p-lt9223372036854775808 c = bump-more c.args.p c.if-p-lt9223372036854775808.true

pub returns-else-p-lt9223372036854775808 : goal.returns-else-p-lt9223372036854775808
returns-else-p-lt9223372036854775808 c = bump-full c.args.p c.if-p-lt9223372036854775808.false
