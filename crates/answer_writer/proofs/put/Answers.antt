-- `answer_writer::put` meets its contract, by Exits.
use mir.Facts.{to_z-of_z}
use Rattle.answer_writer.proofs.Exits.{put_is}
use borrow.Author.Rules.{rules}
use Rattle.answer_writer.proofs.put.Goals as goal

pub returns : goal.returns
returns c = put_is (to_z-of_z c.ranges.x) c.lay.ensures c.more.ensures
