-- `answer_ships::is_truth`: as the node tells where the first branch stands.
use mathlib.Core.Path.{sym, ap, subst, ◌∙◌}
use mathlib.Core.Bool.{Bool, not}
use Rattle.form_arith.specs.declared.Sort.TheVariants.{Number}
use Rattle.form_arith.proofs.ValueWords.{sorts-same}
use Rattle.answer_ships.specs.Contract.{TruthPost}
use Rattle.answer_ships.proofs.Exits.{truth-told, truth-none}
use borrow.Enum.Refused.{opened}
use Rattle.answer_ships.proofs.is_truth.Goals as goal

pub returns-in_default : goal.returns-in_default
returns-in_default c = truth-none c.first_branch.ensures c.shape_at.ensures (opened c.in_default.in_default-own.keys2)

pub returns : goal.returns
returns c = subst (TruthPost c.args.s.now c.args.i) (sym c.ne.ensures) (truth-told c.first_branch.ensures c.shape_at.ensures c.in-Word.is (sorts-same c.in-Word.k Number))
