use Rattle.std.proofs.Common.{◌≡◌, ◌+◌, ◌*◌}
use Rattle.spec_encoding.specs.Columns.{summed}
use Rattle.spec_encoding.specs.Data.{content_by_rows}
use Rattle.base_tables.proofs.ColumnBounds.{column_place, Looking}
use Rattle.base_tables.proofs.sums_within.Given as goal

abbrev pub invariant-loop-r : goal.invariant-loop-r
invariant-loop-r l = Looking (content_by_rows l.c) l.i l.b l._r × (l.p ≡ column_place l.c l.i + 4 * l._r) × (l.x ≡ summed l.c (column_place l.c l.i) l._r)
