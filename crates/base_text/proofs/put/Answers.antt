-- `base_text::put` meets its contract, by LaidText.
use Rattle.base_text.proofs.LaidText.{lays-put}
use borrow.Author.Rules.{rules}
use Rattle.base_text.proofs.put.Goals as goal

pub returns : goal.returns
returns c = lays-put c.lay.ensures c.more.ensures
