use Rattle.spec_encoding.specs.Data.{content_by}
use Rattle.base_tables.proofs.ColumnBounds.{Keeping}
use Rattle.base_tables.proofs.columns_bounded.Given as goal

abbrev pub invariant-loop-i : goal.invariant-loop-i
invariant-loop-i l = Keeping (content_by l.kind l.c) l.i
