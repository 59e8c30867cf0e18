-- `front_words::binder_word` meets its contract, by NodeWords.
use mathlib.Core.Path.{◌∙◌}
use Rattle.front_words.proofs.NodeWords.{far-binder, binder-at}
use Rattle.front_words.proofs.binder_word.Goals as goal

pub returns-then-i-lt-NAMES : goal.returns-then-i-lt-NAMES
returns-then-i-lt-NAMES c = let a = c.args in
    c.load.ensures ∙ binder-at a.s.now a.x c.if-i-lt-NAMES.true

pub returns-else-i-lt-NAMES : goal.returns-else-i-lt-NAMES
returns-else-i-lt-NAMES c = far-binder c.args.s.now c.args.x c.if-i-lt-NAMES.false
