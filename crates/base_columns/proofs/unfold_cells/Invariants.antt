use Rattle.base_columns.proofs.WrittenColumns.{UnfoldingCells}
use Rattle.base_columns.proofs.unfold_cells.Given as goal

abbrev pub invariant-loop-i : goal.invariant-loop-i
invariant-loop-i l = UnfoldingCells l.c l.columns l.rows l.initial.d l.d l.i
