-- `base_columns::refusal`: each way out is one of `refusal_of`'s. Assumes nothing.
use Rattle.std.proofs.Common.{sym, refl, ◌∙◌, arith}
use Rattle.std.proofs.lemmas.Result.{err_from_is_err_and}
use Rattle.base_refusals.proofs.Numbers.{number-above}
use Rattle.base_columns.proofs.TurnedRecords.{bad-header, other-kind, more_bytes, own-refused, target-short, target-long, header-within}
use Rattle.base_columns.proofs.refusal.Goals as goal

pub returns-in_default : goal.returns-in_default
returns-in_default c = bad-header c.args.kind c.args.l.now c.args.room c.requires c.read_header.ensures c.in_default.is

pub returns-then-two_at-kind : goal.returns-then-two_at-kind
returns-then-two_at-kind c = other-kind c.args.kind c.args.l.now c.args.room (λ z. c.if-two_at-kind.true (c.two_at.ensures.0 ∙ z))

pub overflow_add-n : goal.overflow_add-n
overflow_add-n c = omega (arith, header-within c.args.l.now c.read_header.ensures c.in-Some.is)

pub returns-then-l-n : goal.returns-then-l-n
returns-then-l-n c = more_bytes c.args.kind c.args.l.now c.args.room c.read_header.ensures c.in-Some.is c.if-l-n.true

pub returns-in_err-own_refusal : goal.returns-in_err-own_refusal
returns-in_err-own_refusal c = let p = err_from_is_err_and c.from_residual.result c.from_residual.ensures.1 in
    rw (p.1, p.2) (own-refused c.args.kind c.args.l.now c.args.room c.read_header.ensures c.in-Some.is (sym c.two_at.ensures.0 ∙ c.if-two_at-kind.false) c.if-l-n.false c.in_err-own_refusal.ensures (number-above _))

pub returns-then-room-l : goal.returns-then-room-l
returns-then-room-l c = target-short c.args.kind c.args.l.now c.args.room c.read_header.ensures c.in-Some.is (sym c.two_at.ensures.0 ∙ c.if-two_at-kind.false) c.if-l-n.false c.in_ok-own_refusal.ensures refl c.if-room-l.true

pub returns : goal.returns
returns c = target-long c.args.kind c.args.l.now c.args.room c.read_header.ensures c.in-Some.is (sym c.two_at.ensures.0 ∙ c.if-two_at-kind.false) c.if-l-n.false c.in_ok-own_refusal.ensures refl c.if-room-l.false
