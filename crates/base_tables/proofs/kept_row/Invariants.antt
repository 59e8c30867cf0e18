use Rattle.std.proofs.Common.{◌≡◌, ◌+◌, ◌-◌}
use Rattle.base_tables.specs.Description.{kept_row}
use Rattle.base_tables.proofs.kept_row.Given as goal

abbrev pub invariant-loop-q : goal.invariant-loop-q
invariant-loop-q l = l.q + kept_row (12 - l.q) l.x l.before ≡ kept_row 12 l.m l.r
