use Prim.Native.Nat.{◌+◌, ◌-◌, ◌*◌}
use Rattle.form_words.specs.FormTree.{left}
use Rattle.loop_draughts.proofs.Exits.{Judging, JudgedRows}
use Rattle.loop_draughts.proofs.+judge_judge_each.Given as goal

abbrev pub decreases-judge : goal.decreases-judge
decreases-judge l = 2 * left l.at

abbrev pub invariant-judge-loop-g : goal.invariant-judge-loop-g
invariant-judge-loop-g l = Judging l.«data» l.deepest l.initial.s l.at l.e l.s l.j

abbrev pub decreases-judge-loop-g : goal.decreases-judge-loop-g
decreases-judge-loop-g l = left l.j

abbrev pub decreases-judge_each : goal.decreases-judge_each
decreases-judge_each l = 2 * left l.at + 1

abbrev pub invariant-judge_each-loop-r : goal.invariant-judge_each-loop-r
invariant-judge_each-loop-r l = JudgedRows l.«data» l.deepest l.initial.s l.at l.g l.k l.initial.a l.s l.a l.r

abbrev pub decreases-judge_each-loop-r : goal.decreases-judge_each-loop-r
decreases-judge_each-loop-r l = 2048 - l.r
