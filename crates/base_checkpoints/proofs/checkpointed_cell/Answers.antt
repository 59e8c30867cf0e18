-- `base_checkpoints::checkpointed_cell` meets its contract, by Laws.
use Rattle.std.proofs.Common.{to_z-of_z}
use Rattle.base_signed.proofs.SignedWords.{fits}
use Rattle.base_checkpoints.proofs.Laws.{uses, cell-checkpointed, cell_other}
use Rattle.base_checkpoints.proofs.checkpointed_cell.Goals as goal

pub checkpoint-requires : goal.checkpoint-requires
checkpoint-requires c = (c.requires, (uses c.uses_checkpoint.ensures c.if-uses_checkpoint.true).few)

pub returns-then-uses_checkpoint : goal.returns-then-uses_checkpoint
returns-then-uses_checkpoint c = rw (to_z-of_z (fits c.signed_of.type_inv)) (cell-checkpointed c.description-w.ensures c.uses_checkpoint.ensures c.if-uses_checkpoint.true c.checkpoint.ensures c.checkpointed_word.ensures c.signed_of.ensures)

pub returns : goal.returns
returns c = rw (to_z-of_z (fits c.cell.type_inv)) (cell_other c.description-w.ensures c.uses_checkpoint.ensures c.if-uses_checkpoint.false c.cell.ensures)
