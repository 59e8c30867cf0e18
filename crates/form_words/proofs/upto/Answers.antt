-- `form_words::upto` meets its contract, by Operands.
use mathlib.Core.Path.{sym}
use Rattle.form_words.proofs.Operands.{upto-in, upto-out}
use Rattle.form_words.proofs.upto.Goals as goal

pub returns-then-i-e : goal.returns-then-i-e
returns-then-i-e c = sym (upto-in c.if-i-e.true)

pub returns-else-i-e : goal.returns-else-i-e
returns-else-i-e c = sym (upto-out c.if-i-e.false)
