-- `base_logs::advance`: the rows behind each move. Assumes nothing.
use Rattle.base_logs.proofs.Moves.{after-pair, after_first, after-second}
use Rattle.base_logs.proofs.advance.Goals as goal

pub returns-in-Pair : goal.returns-in-Pair
returns-in-Pair c = after-pair c.args.data.now c.args.a c.args.b c.args.r c.in-Pair.is c.word_of.ensures c.word_of-in-Pair.ensures

pub returns-in-First : goal.returns-in-First
returns-in-First c = after_first c.args.data.now c.args.a c.args.b c.args.r c.in-First.is c.word_of-in-First.ensures

pub returns-in-Second : goal.returns-in-Second
returns-in-Second c = after-second c.args.data.now c.args.a c.args.b c.args.r c.in-Second.is c.word_of-in-Second.ensures
