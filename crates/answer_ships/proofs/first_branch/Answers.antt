-- `answer_ships::first_branch`: from a choice to its first branch, as long as a choice stands there.
use native.Mathlib.Omega.{arith}
use Rattle.form_words.specs.FormTree.{left}
use Rattle.form_words.proofs.NodeWords.{recast}
use Rattle.answer_ships.proofs.Exits.{Branching, branch-start, branch_less, branch-again, branch-other, branch-open, as-choice}
use borrow.Author.Rules.{rules}
use borrow.Enum.Refused.{opened}
use Rattle.answer_ships.proofs.first_branch.Goals as goal

pub loop-f-init : goal.loop-f-init
loop-f-init c = branch-start

pub returns-in_default : goal.returns-in_default
returns-in_default c = branch-other c.loop-f.invariant c.look.ensures (opened c.in_default.in_default-own.keys2)

pub returns-in_default-f : goal.returns-in_default-f
returns-in_default-f c = branch-open c.loop-f.invariant (recast c.look.ensures c.in-Operator.is) c.in_default-f.in_default-f-own.keys2

pub overflow_add-j : goal.overflow_add-j
overflow_add-j c = let p = (recast c.look.ensures c.in-Operator.is).inside in omega arith

pub loop-f-smaller : goal.loop-f-smaller
loop-f-smaller c = let w = as-choice (recast c.look.ensures c.in-Operator.is) c.in-Choice.is in omega
    (arith, branch_less w c.branch-j.ensures, w.inside.0, w.inside.1)

pub loop-f-preserved : goal.loop-f-preserved
loop-f-preserved c = branch-again (as-choice (recast c.look.ensures c.in-Operator.is) c.in-Choice.is) c.loop-f.invariant c.branch-j.ensures
