-- `answer_canonical::arrange` meets its contract, by WalkExits, answer_types/Types.
use mathlib.Core.Path.{refl, ◌∙◌}
use Rattle.answer_types.proofs.Types.{reshape, as-words, laid_as}
use Rattle.answer_canonical.proofs.WalkExits.{arrange-words, arrange-record, arrange-collection}
use borrow.Author.Rules.{rules}
use Rattle.answer_canonical.proofs.arrange.Goals as goal

pub order-r-requires : goal.order-r-requires
order-r-requires c = c.element_layout-u.ensures.shaped

pub returns-in-Word : goal.returns-in-Word
returns-in-Word c = arrange-words (as-words (reshape c.requires c.in-Word.is))

pub returns-in-Words : goal.returns-in-Words
returns-in-Words c = arrange-words (reshape c.requires c.in-Words.is)

pub returns-in-Fields : goal.returns-in-Fields
returns-in-Fields c = arrange-record (reshape c.requires c.in-Fields.is)

pub shape_of-o : goal.shape_of-o
shape_of-o c = c.mark.auto.o ∙ c.order-r.auto.o

pub returns-in-Elements : goal.returns-in-Elements
returns-in-Elements c = arrange-collection (reshape c.requires c.in-Elements.is) (laid_as c.element_layout-u.ensures) c.tally-n.ensures c.step-first.ensures c.order-r.ensures.order_post c.order-r.ensures.order_count_post c.mark.ensures refl refl c.saturating_add.ensures
