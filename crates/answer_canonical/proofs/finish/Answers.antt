-- `answer_canonical::finish` meets its contract, by WalkExits, answer_types/Types.
use mathlib.Core.Path.{refl, ◌∙◌}
use Rattle.answer_types.proofs.Types.{laid_as}
use Rattle.answer_canonical.proofs.WalkExits.{written, written_at, finished, finish-counted}
use borrow.Author.Rules.{rules}
use Rattle.answer_canonical.proofs.finish.Goals as goal

pub walk-g-requires : goal.walk-g-requires
walk-g-requires c = c.layout_at-t.ensures.shaped

pub arrange-e-requires : goal.arrange-e-requires
arrange-e-requires c = c.layout_at-t.ensures.shaped

pub returns : goal.returns
returns c = let W = written_at (laid_as c.layout_at-t.ensures) (written refl c.walk-g.ensures c.arrange-e.ensures) in
    record { finish_post = finished refl refl refl W (c.arrange-e.auto.o ∙ c.walk-g.auto.o) c.clear.ensures; finish_count = finish-counted refl refl refl W }
