use Rattle.base_columns.proofs.WrittenColumns.{FoldingCells}
use Rattle.base_columns.proofs.fold_cells.Given as goal

abbrev pub invariant-loop-i : goal.invariant-loop-i
invariant-loop-i l = FoldingCells l.c l.columns l.rows l.initial.d l.d l.i
