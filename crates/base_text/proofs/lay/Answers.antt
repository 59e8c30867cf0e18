-- `base_text::lay` meets its contract, by LaidText.
use Rattle.base_text.proofs.LaidText.{laid_in, laid-limit, laid-past}
use borrow.Author.Rules.{rules}
use Rattle.base_text.proofs.lay.Goals as goal

pub returns-then-p-text : goal.returns-then-p-text
returns-then-p-text c = laid_in c.args.limit c.args.p c.args.b c.args.text.now c.if-p-limit.true

pub returns-else-p-text : goal.returns-else-p-text
returns-else-p-text c = laid-past c.args.limit c.args.p c.args.b c.args.text.now c.if-p-limit.true c.if-p-text.false

pub returns-else-p-limit : goal.returns-else-p-limit
returns-else-p-limit c = laid-limit c.args.limit c.args.p c.args.b c.args.text.now c.if-p-limit.false
