use Rattle.answer_writer.proofs.Exits.{CellsLaid}
use Rattle.answer_writer.proofs.row.Given as goal

abbrev pub invariant-loop-c : goal.invariant-loop-c
invariant-loop-c l = CellsLaid l.«data» l.w l.r l.limit l.initial.out l.p l.c-end l.out l.q l.c
