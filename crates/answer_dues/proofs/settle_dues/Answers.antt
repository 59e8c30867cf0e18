-- `answer_dues::settle_dues`: charged, then brought to the written form.
use Rattle.answer_dues.proofs.Laws.{dues-settled}
use borrow.Author.Rules.{rules}
use Rattle.answer_dues.proofs.settle_dues.Goals as goal

pub returns : goal.returns
returns c = dues-settled c.charge_all.ensures c.finish.ensures.finish_post
