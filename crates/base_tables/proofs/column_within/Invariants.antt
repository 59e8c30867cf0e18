use Rattle.std.proofs.Common.{◌≡◌}
use Rattle.base_tables.proofs.ColumnBounds.{cell_place, Looking}
use Rattle.base_tables.proofs.column_within.Given as goal

abbrev pub invariant-loop-r : goal.invariant-loop-r
invariant-loop-r l = Looking l.c l.i l.b l._r × (l.p ≡ cell_place l.c l._r l.i)
