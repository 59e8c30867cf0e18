use Rattle.base_columns.proofs.WrittenColumns.{Folding}
use Rattle.base_columns.proofs.fold_column.Given as goal

abbrev pub invariant-loop-r : goal.invariant-loop-r
invariant-loop-r l = Folding l.c l.initial.d l.from l.step l.to l.d l.above l.r
