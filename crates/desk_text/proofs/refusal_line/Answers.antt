-- `refusal_line`: its three parts. Assumes nothing.
use Rattle.spec_plan.specs.Lines.{ascii}
use Rattle.desk_text.proofs.DeskLines.{refusal_is}
use borrow.Author.Rules.{rules}
use Rattle.desk_text.proofs.refusal_line.Goals as goal

pub say-p-requires : goal.say-p-requires
unfolding ascii
say-p-requires c = search rules

pub decimal-q-requires : goal.decimal-q-requires
unfolding ascii
decimal-q-requires c = search rules

pub put-requires : goal.put-requires
unfolding ascii
put-requires c = search rules

pub shape_of-text : goal.shape_of-text
unfolding ascii
shape_of-text c = search rules

pub returns : goal.returns
unfolding ascii
returns c = refusal_is c.say-p.ensures c.decimal-q.ensures c.put.ensures
