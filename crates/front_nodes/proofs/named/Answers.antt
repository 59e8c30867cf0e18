-- `front_nodes::named` meets its contract, by ReaderExits.
use mathlib.Core.Path.{refl}
use Rattle.front_nodes.proofs.ReaderExits.{name-unbound, name-behind, name-outside, name-bound}
use Rattle.front_nodes.proofs.named.Goals as goal

pub returns-then-w-eq0 : goal.returns-then-w-eq0
returns-then-w-eq0 c = name-unbound c.if-w-eq0.true

pub returns-then-i-x : goal.returns-then-i-x
returns-then-i-x c = name-behind c.if-w-eq0.false refl c.if-i-x.true

pub returns-then-d-eq0 : goal.returns-then-d-eq0
returns-then-d-eq0 c = name-outside c.if-w-eq0.false refl c.if-i-x.false c.depth_at-d.ensures c.if-d-eq0.true

pub returns : goal.returns
returns c = name-bound c.if-w-eq0.false refl c.if-i-x.false c.depth_at-d.ensures c.if-d-eq0.false
