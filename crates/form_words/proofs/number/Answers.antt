-- `form_words::number` meets its contract, by NodeWords.
use Rattle.form_words.proofs.NodeWords.{number_ok, number_is}
use Rattle.form_words.proofs.number.Goals as goal

pub overflow_sub-result : goal.overflow_sub-result
overflow_sub-result c = number_ok c.requires

pub returns : goal.returns
returns c = number_is c.requires
