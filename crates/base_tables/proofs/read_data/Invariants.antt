use Rattle.std.proofs.Common.{◌-◌, length}
use Rattle.base_tables.proofs.ReadLoop.{ReadLoop}
use Rattle.base_tables.proofs.read_data.Given as goal

abbrev pub invariant-loop-p : goal.invariant-loop-p
invariant-loop-p l = ReadLoop l.«data» l.initial.scratch l.scratch l.p l.n

abbrev pub decreases-loop-p : goal.decreases-loop-p
decreases-loop-p l = length l.«data» - l.p
