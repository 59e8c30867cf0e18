-- `form_words::look_clause` meets its contract, by NodeWords.
use Rattle.form_words.proofs.NodeWords.{clause-out, clause-generator, clause-condition, clause-head}
use Rattle.form_words.proofs.look_clause.Goals as goal

pub returns-then-i-ge-FORM_WORDS : goal.returns-then-i-ge-FORM_WORDS
returns-then-i-ge-FORM_WORDS c = clause-out c.if-i-ge-FORM_WORDS.true

pub returns-in-9 : goal.returns-in-9
returns-in-9 c = clause-generator c.if-i-ge-FORM_WORDS.false c.word-w.ensures c.arg-a.ensures c.kind.ensures c.in-9.is c.low.ensures c.low-in-9.ensures

pub returns-in-10 : goal.returns-in-10
returns-in-10 c = clause-condition c.if-i-ge-FORM_WORDS.false c.word-w.ensures c.arg-a.ensures c.kind.ensures c.in-10.is c.next.ensures

pub returns-in_default : goal.returns-in_default
returns-in_default c = clause-head c.word-w.ensures c.kind.ensures c.in_default.in_default-own.rest.0.1 c.in_default.in_default-own.rest.1
