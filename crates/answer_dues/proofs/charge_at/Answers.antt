-- `answer_dues::charge_at`: the word at p, or nothing behind the buffer.
use mathlib.Core.Path.{◌∙◌}
use mir.Facts.{to_z-of_z}
use Rattle.base_signed.proofs.SignedWords.{fits}
use Rattle.base_tariff.specs.Contract.{tariff_in}
use Rattle.answer_dues.proofs.Laws.{charged-in, charged-out}
use borrow.Author.Rules.{rules}
use Rattle.answer_dues.proofs.charge_at.Goals as goal

pub returns-then-p-o : goal.returns-then-p-o
returns-then-p-o c = charged-in (tariff_in c.args.t.now) c.args.p c.args.o.now (to_z-of_z (fits c.x-1.given))
    (to_z-of_z (fits c.cents.type_inv) ∙ c.cents.ensures)

pub returns-else-p-o : goal.returns-else-p-o
returns-else-p-o c = charged-out (tariff_in c.args.t.now) c.args.p c.args.o.now c.if-p-o.false
