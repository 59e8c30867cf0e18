-- `base_syntax::Monoid::one_more` meets its contract, by base_signed/Limit.
use Rattle.base_signed.proofs.Limit.{bump-more, bump-full}
use Rattle.base_syntax.proofs.Monoid.one_more.Goals as goal

pub returns-then-n-lt-COUNT_LIMIT : goal.returns-then-n-lt-COUNT_LIMIT
returns-then-n-lt-COUNT_LIMIT c = bump-more c.args.n c.if-n-lt-COUNT_LIMIT.true

pub returns-else-n-lt-COUNT_LIMIT : goal.returns-else-n-lt-COUNT_LIMIT
returns-else-n-lt-COUNT_LIMIT c = bump-full c.args.n c.if-n-lt-COUNT_LIMIT.false
