-- `answer_settle::settle` meets its contract, by FinishSettles.
use Rattle.answer_settle.proofs.FinishSettles.{settled}
use borrow.Author.Rules.{rules}
use Rattle.answer_settle.proofs.settle.Goals as goal

pub returns : goal.returns
returns c = settled c.finish.ensures.finish_post
