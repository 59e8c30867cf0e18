-- `form_words::monoid_of` meets its contract, by NodeWords.
use Rattle.form_words.proofs.NodeWords.{monoid-out, monoid-is, monoid-rest}
use Rattle.form_words.proofs.monoid_of.Goals as goal

pub returns-then-i-ge-FORM_WORDS : goal.returns-then-i-ge-FORM_WORDS
returns-then-i-ge-FORM_WORDS c = monoid-out c.if-i-ge-FORM_WORDS.true

pub returns-in-8 : goal.returns-in-8
returns-in-8 c = monoid-is c.if-i-ge-FORM_WORDS.false c.word-w.ensures c.arg.ensures c.kind.ensures c.in-8.is c.from_bits.ensures

pub returns-in_default : goal.returns-in_default
returns-in_default c = monoid-rest c.word-w.ensures c.kind.ensures c.in_default.in_default-own.rest.1
