-- `answer_line`: its three parts. Assumes nothing.
use Rattle.spec_plan.specs.Lines.{ascii}
use Rattle.desk_text.proofs.DeskLines.{answer-is, answer-most}
use borrow.Author.Rules.{rules}
use Rattle.desk_text.proofs.answer_line.Goals as goal

pub say-q-requires : goal.say-q-requires
unfolding ascii
say-q-requires c = search rules

pub spaced_words-r-requires : goal.spaced_words-r-requires
unfolding ascii
spaced_words-r-requires c = search rules

pub put-requires : goal.put-requires
unfolding ascii
put-requires c = search rules

pub shape_of-text : goal.shape_of-text
unfolding ascii
shape_of-text c = search rules

pub returns : goal.returns
unfolding ascii
returns c = record { lays = answer-is c.args.words.now c.say-q.ensures c.spaced_words-r.ensures.lays c.put.ensures; words_len_bound = answer-most c.args.words.now c.spaced_words-r.ensures.words_len_bound }
