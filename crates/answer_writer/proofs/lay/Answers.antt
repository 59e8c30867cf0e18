-- `answer_writer::lay` meets its contract, by LaidWords, Exits.
use mathlib.Core.Path.{sym}
use mir.Facts.{to_z-of_z}
use Rattle.answer_writer.proofs.LaidWords.{laid-past, laid-limit}
use Rattle.answer_writer.proofs.Exits.{lay-in}
use borrow.Author.Rules.{rules}
use Rattle.answer_writer.proofs.lay.Goals as goal

pub returns-then-p-out : goal.returns-then-p-out
returns-then-p-out c = lay-in c.args.limit c.args.p c.args.out.now c.if-p-limit.true (to_z-of_z c.ranges.x)

pub returns-else-p-out : goal.returns-else-p-out
returns-else-p-out c = sym (laid-past c.args.limit c.args.p c.args.x c.args.out.now c.if-p-out.false)

pub returns-else-p-limit : goal.returns-else-p-limit
returns-else-p-limit c = sym (laid-limit c.args.limit c.args.p c.args.x c.args.out.now c.if-p-limit.false)
