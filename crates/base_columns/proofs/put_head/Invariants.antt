use Rattle.base_columns.proofs.TurnedRecords.{Copying}
use Rattle.base_columns.proofs.put_head.Given as goal

abbrev pub invariant-loop-j : goal.invariant-loop-j
invariant-loop-j l = Copying l.l l.initial.d l.d l.j
