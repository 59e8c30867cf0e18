-- `front_measure::weigh` meets its contract, by WeighExits.
use mathlib.Core.Logic.{inl, inr}
use Rattle.front_measure.proofs.WeighExits.{weigh-number, weigh-truth, weigh-followed, weigh-record, weigh-app, weigh-two, weigh-not, weigh-comp, weigh-table, weigh-gen, weigh-bind, weigh-cond, weigh-bad}
use Rattle.front_measure.proofs.weigh.Goals as goal

pub returns-in-Two : goal.returns-in-Two
returns-in-Two c = weigh-two c.look.ensures c.in-Two.is c.two.ensures

pub returns-in-Not : goal.returns-in-Not
returns-in-Not c = weigh-not c.look.ensures c.in-Not.is
    c.term_count.ensures c.raise-in-Not.ensures c.scalar-in-Not.ensures

pub returns-in-Comp : goal.returns-in-Comp
returns-in-Comp c = weigh-comp c.look.ensures c.in-Comp.is c.comp.ensures

pub returns-in-Table : goal.returns-in-Table
returns-in-Table c = weigh-table c.look.ensures c.in-Table.is c.table.ensures

pub returns-in-Gen : goal.returns-in-Gen
returns-in-Gen c = weigh-gen c.look.ensures c.in-Gen.is c.splices.ensures
    c.qualifier.ensures

pub returns-in-Bind : goal.returns-in-Bind
returns-in-Bind c = weigh-bind c.look.ensures c.in-Bind.is c.nothing.ensures
    c.qualifier-in-Bind.ensures

pub returns-in-Cond : goal.returns-in-Cond
returns-in-Cond c = weigh-cond c.look.ensures c.in-Cond.is c.conditions.ensures
    c.qualifier-in-Cond.ensures

pub returns-in-Number : goal.returns-in-Number
returns-in-Number c = elim c.in-Number.is [
  | inl p ↦ weigh-number c.look.ensures p.1 c.scalar.ensures
  | inr q ↦ elim q [ inl p ↦ weigh-truth c.look.ensures p.1 c.scalar.ensures | inr e ↦ weigh-bad c.look.ensures e c.scalar.ensures ]
]

pub returns-in-Name : goal.returns-in-Name
returns-in-Name c = weigh-followed c.look.ensures c.followed.ensures c.in-Name.is

pub returns-in-Record : goal.returns-in-Record
returns-in-Record c = elim c.in-Record.is [
  | inl e ↦ weigh-record c.look.ensures e c.terms.ensures c.raise.ensures c.scalar-in-Record.ensures
  | inr p ↦ weigh-app c.look.ensures p.1 c.terms.ensures c.raise.ensures c.scalar-in-Record.ensures
]
