-- `loop_outages::asks_truth`: of the sort of some and of all. Assumes nothing.
use mathlib.Core.Path.{◌∙◌}
use Rattle.form_arith.specs.declared.Sort.TheVariants.{Truth}
use Rattle.form_arith.proofs.ValueWords.{sorts-same}
use Rattle.loop_outages.proofs.Exits.{asks-sort, asks_none}
use Rattle.loop_outages.proofs.asks_truth.Goals as goal

pub returns-in-Some : goal.returns-in-Some
returns-in-Some c = asks-sort c.monoid_of.ensures c.in-Some.is c.sort_of.ensures (c.eq.ensures ∙ sorts-same c.sort_of.result Truth)

pub returns-in-None : goal.returns-in-None
returns-in-None c = asks_none c.monoid_of.ensures c.in-None.is
