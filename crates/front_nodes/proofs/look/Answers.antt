-- `front_nodes::look` meets its contract, by ReaderExits, base_signed/SignedWords.
use mathlib.Core.Path.{ap, ◌∙◌}
use mir.Facts.{to_z-of_z}
use Rattle.base_syntax.specs.MonoidWord.{monoid_of}
use Rattle.base_signed.proofs.SignedWords.{fits}
use Rattle.front_nodes.proofs.ReaderExits.{kind-is, arg_is, look-number, look-truth, look-name, look-table, look-field, look-comp, look-record, look-two, look-not, look-gen, look-bind, look-cond, look-choice, look-open, look-bad, look-far}
use Rattle.front_nodes.proofs.look.Goals as goal

pub returns-then-i-ge-MOST_NODES : goal.returns-then-i-ge-MOST_NODES
returns-then-i-ge-MOST_NODES c = look-far c.if-i-ge-MOST_NODES.true

pub returns-in-Number : goal.returns-in-Number
returns-in-Number c = let w = c.node_word-w.ensures in look-number c.if-i-ge-MOST_NODES.false (arg_is c.args.s.now c.args.i w c.arg-a.ensures) (kind-is c.args.s.now c.args.i w c.kind.ensures c.kind_of.ensures c.in-Number.is) (to_z-of_z (fits c.number.type_inv) ∙ c.number.ensures)

pub returns-in-Truth : goal.returns-in-Truth
returns-in-Truth c = let w = c.node_word-w.ensures in look-truth c.if-i-ge-MOST_NODES.false (arg_is c.args.s.now c.args.i w c.arg-a.ensures) (kind-is c.args.s.now c.args.i w c.kind.ensures c.kind_of.ensures c.in-Truth.is)

pub returns-in-Name : goal.returns-in-Name
returns-in-Name c = let w = c.node_word-w.ensures in look-name c.if-i-ge-MOST_NODES.false (arg_is c.args.s.now c.args.i w c.arg-a.ensures) (kind-is c.args.s.now c.args.i w c.kind.ensures c.kind_of.ensures c.in-Name.is) c.binder_word.ensures c.named.ensures

pub returns-in-Field : goal.returns-in-Field
returns-in-Field c = let w = c.node_word-w.ensures in look-field c.if-i-ge-MOST_NODES.false (arg_is c.args.s.now c.args.i w c.arg-a.ensures) c.prior-c.ensures (kind-is c.args.s.now c.args.i w c.kind.ensures c.kind_of.ensures c.in-Field.is) c.raised.ensures

pub returns-in-Record : goal.returns-in-Record
returns-in-Record c = look-record c.if-i-ge-MOST_NODES.false (kind-is c.args.s.now c.args.i c.node_word-w.ensures c.kind.ensures c.kind_of.ensures c.in-Record.is)

pub returns-in-Two : goal.returns-in-Two
returns-in-Two c = look-two c.if-i-ge-MOST_NODES.false c.prior-c.ensures (kind-is c.args.s.now c.args.i c.node_word-w.ensures c.kind.ensures c.kind_of.ensures c.in-Two.is) c.start_at.ensures.0 c.prior.ensures c.raised-in-Two.ensures

pub returns-in-Not : goal.returns-in-Not
returns-in-Not c = look-not c.if-i-ge-MOST_NODES.false c.prior-c.ensures (kind-is c.args.s.now c.args.i c.node_word-w.ensures c.kind.ensures c.kind_of.ensures c.in-Not.is) c.raised-in-Not.ensures

pub returns-in-Comp : goal.returns-in-Comp
returns-in-Comp c = let w = c.node_word-w.ensures in look-comp c.if-i-ge-MOST_NODES.false (arg_is c.args.s.now c.args.i w c.arg-a.ensures) c.prior-c.ensures (kind-is c.args.s.now c.args.i w c.kind.ensures c.kind_of.ensures c.in-Comp.is) (ap monoid_of c.from_number.ensures) c.raised-in-Comp.ensures

pub returns-in-Table : goal.returns-in-Table
returns-in-Table c = let w = c.node_word-w.ensures in look-table c.if-i-ge-MOST_NODES.false (arg_is c.args.s.now c.args.i w c.arg-a.ensures) (kind-is c.args.s.now c.args.i w c.kind.ensures c.kind_of.ensures c.in-Table.is)

pub returns-in-Gen : goal.returns-in-Gen
returns-in-Gen c = look-gen c.if-i-ge-MOST_NODES.false c.prior-c.ensures (kind-is c.args.s.now c.args.i c.node_word-w.ensures c.kind.ensures c.kind_of.ensures c.in-Gen.is) c.raised-in-Gen.ensures

pub returns-in-Bind : goal.returns-in-Bind
returns-in-Bind c = look-bind c.if-i-ge-MOST_NODES.false c.prior-c.ensures (kind-is c.args.s.now c.args.i c.node_word-w.ensures c.kind.ensures c.kind_of.ensures c.in-Bind.is) c.raised-in-Bind.ensures

pub returns-in-Cond : goal.returns-in-Cond
returns-in-Cond c = look-cond c.if-i-ge-MOST_NODES.false c.prior-c.ensures (kind-is c.args.s.now c.args.i c.node_word-w.ensures c.kind.ensures c.kind_of.ensures c.in-Cond.is) c.raised-in-Cond.ensures

pub returns-in-Choice : goal.returns-in-Choice
returns-in-Choice c = look-choice c.if-i-ge-MOST_NODES.false (kind-is c.args.s.now c.args.i c.node_word-w.ensures c.kind.ensures c.kind_of.ensures c.in-Choice.is)

pub returns-in-Open : goal.returns-in-Open
returns-in-Open c = let w = c.node_word-w.ensures in look-open c.if-i-ge-MOST_NODES.false (arg_is c.args.s.now c.args.i w c.arg-a.ensures) (kind-is c.args.s.now c.args.i w c.kind.ensures c.kind_of.ensures c.in-Open.is)

pub returns-in-Unknown : goal.returns-in-Unknown
returns-in-Unknown c = look-bad c.if-i-ge-MOST_NODES.false (kind-is c.args.s.now c.args.i c.node_word-w.ensures c.kind.ensures c.kind_of.ensures c.in-Unknown.is)
