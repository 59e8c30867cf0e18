use Rattle.std.proofs.Common.{◌≡◌, ◌+◌, ◌-◌, ◌≤◌}
use Rattle.base_tables.specs.Description.{ones_in}
use Rattle.base_tables.proofs.ones.Given as goal

abbrev pub invariant-loop-i : goal.invariant-loop-i
invariant-loop-i l = (l.n + ones_in (12 - l._i) l.x ≡ ones_in 12 l.m) × (l.n + l.x ≤ l.m)
