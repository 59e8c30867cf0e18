use native.Mathlib.Omega.{arith}
use Rattle.form_words.specs.FormTree.{left}
use Rattle.form_words.proofs.NodeWords.{recast}
use Rattle.answer_ships.proofs.Exits.{Branching, branch-start, branch_less, branch-again, branch-other, branch-open, as-choice}
use borrow.Author.Rules.{rules}
use Rattle.answer_ships.proofs.first_branch.Given as goal

abbrev pub invariant-loop-f : goal.invariant-loop-f
invariant-loop-f l = Branching l.s l.i l.j

abbrev pub decreases-loop-f : goal.decreases-loop-f
decreases-loop-f l = left l.j
