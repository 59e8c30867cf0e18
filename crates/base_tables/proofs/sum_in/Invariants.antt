use Rattle.std.proofs.Common.{◌≡◌}
use Rattle.spec_encoding.specs.Columns.{summed}
use Rattle.base_tables.proofs.sum_in.Given as goal

abbrev pub invariant-loop-r : goal.invariant-loop-r
invariant-loop-r l = l.x ≡ summed l.s l.p l.r
