use Prim.Native.Nat.{◌+◌, ◌-◌, ◌*◌}
use Rattle.form_words.specs.FormTree.{left}
use Rattle.loop_collect.proofs.Exits.{Parting, Collecting, RowLoop}
use Rattle.loop_collect.proofs.+collect_each_flat_part_parts_write.Given as goal

abbrev pub decreases-collect : goal.decreases-collect
decreases-collect l = 4 * left l.at + 2

abbrev pub invariant-collect-loop-g : goal.invariant-collect-loop-g
invariant-collect-loop-g l = Collecting l.«data» l.limit l.initial.s l.initial.out l.at l.e l.s l.out l.j

abbrev pub decreases-collect-loop-g : goal.decreases-collect-loop-g
decreases-collect-loop-g l = left l.j

abbrev pub decreases-each : goal.decreases-each
decreases-each l = 4 * left l.at + 3

abbrev pub invariant-each-loop-r : goal.invariant-each-loop-r
invariant-each-loop-r l = RowLoop l.«data» l.limit l.initial.s l.initial.out l.at l.g l.k l.initial.a l.s l.out l.a l.r

abbrev pub decreases-each-loop-r : goal.decreases-each-loop-r
decreases-each-loop-r l = 2048 - l.r

abbrev pub decreases-flat : goal.decreases-flat
decreases-flat l = 4 * left l.i

abbrev pub decreases-part : goal.decreases-part
decreases-part l = 4 * left l.i + 2

abbrev pub decreases-parts : goal.decreases-parts
decreases-parts l = 4 * left l.i + 3

abbrev pub invariant-parts-loop-j : goal.invariant-parts-loop-j
invariant-parts-loop-j l = Parting l.«data» l.limit l.initial.s l.initial.out l.i l.e l.p l.s l.out l.j l.q

abbrev pub decreases-parts-loop-j : goal.decreases-parts-loop-j
decreases-parts-loop-j l = left l.j

abbrev pub decreases-write : goal.decreases-write
decreases-write l = 4 * left l.i + 1
