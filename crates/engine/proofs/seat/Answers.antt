-- `engine::seat`: beyond the rota nothing, else the seat's own portion.
use Rattle.engine.proofs.RotaCalls.{seat-beyond, seat-visited}
use borrow.Author.Rules.{rules}
use Rattle.engine.proofs.seat.Goals as goal

pub returns-then-quotas-i : goal.returns-then-quotas-i
returns-then-quotas-i c = seat-beyond c.if-quotas-i.true c.idle.ensures

pub returns : goal.returns
returns c = seat-visited (search rules) c.dislogha_portion.ensures
