-- `answer_writer::more` meets its contract, by base_signed/Limit.
use Rattle.base_signed.proofs.Limit.{bump-more, bump-full}
use borrow.Author.Rules.{rules}
use Rattle.answer_writer.proofs.more.Goals as goal

pub returns-then-p-lt-COUNT_LIMIT : goal.returns-then-p-lt-COUNT_LIMIT
returns-then-p-lt-COUNT_LIMIT c = bump-more c.args.p c.if-p-lt-COUNT_LIMIT.true

pub returns-else-p-lt-COUNT_LIMIT : goal.returns-else-p-lt-COUNT_LIMIT
returns-else-p-lt-COUNT_LIMIT c = bump-full c.args.p c.if-p-lt-COUNT_LIMIT.false
