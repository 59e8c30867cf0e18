-- `answer_writer::row` meets its contract, by Exits, base_signed/SignedWords.
use mathlib.Core.Path.{refl}
use mir.Facts.{to_z-of_z}
use Rattle.base_signed.proofs.SignedWords.{fits}
use Rattle.answer_writer.proofs.Exits.{row_first, row-again, row-none, row_last}
use Rattle.answer_writer.proofs.row.Goals as goal

pub returns-then-rows-r : goal.returns-then-rows-r
returns-then-rows-r c = row-none c.slot-e.ensures c.slot_table.ensures c.description-w.ensures c.slot_row-r.ensures c.rows.ensures c.if-rows-r.true refl c.put.ensures

pub loop-c-init : goal.loop-c-init
loop-c-init c = row_first

pub loop-c-preserved : goal.loop-c-preserved
loop-c-preserved c = row-again c.loop-c.invariant c.loop-c-test.true c.cell.ensures (to_z-of_z (fits c.cell.type_inv)) c.put-q.ensures c.put-q.auto.out

pub returns : goal.returns
returns c = row_last c.slot-e.ensures c.slot_table.ensures c.description-w.ensures c.slot_row-r.ensures c.rows.ensures c.if-rows-r.false c.columns-c-end.ensures c.loop-c.invariant c.loop-c-test.false
