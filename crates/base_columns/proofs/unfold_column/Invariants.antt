use Rattle.base_columns.proofs.WrittenColumns.{Unfolding}
use Rattle.base_columns.proofs.unfold_column.Given as goal

abbrev pub invariant-loop-r : goal.invariant-loop-r
invariant-loop-r l = Unfolding l.c l.initial.d l.from l.to l.step l.d l.x l.r
