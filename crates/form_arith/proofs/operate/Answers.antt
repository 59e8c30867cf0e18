-- `form_arith::operate` meets its contract, by Exits, base_signed/SignedWords.
use lib.IntN.{◌+ℤ◌, ◌-ℤ◌, ◌*ℤ◌}
use mir.Facts.{to_z-of_z}
use Rattle.base_signed.proofs.SignedWords.{fits}
use Rattle.form_arith.proofs.Exits.{plus-size, minus-size, times-size, result_ok, op-plus, op-minus, op-times, op-equal, op-less, op-and-no, op-and-yes, op-or-no, op-or-yes}
use Rattle.form_arith.proofs.operate.Goals as goal

pub overflow_add-result : goal.overflow_add-result
overflow_add-result c = result_ok c.ranges.a c.ranges.b ◌+ℤ◌ (plus-size c.args.a c.args.b c.requires c.in-Plus.is)

pub overflow_sub-result : goal.overflow_sub-result
overflow_sub-result c = result_ok c.ranges.a c.ranges.b ◌-ℤ◌ (minus-size c.args.a c.args.b c.requires c.in-Minus.is)

pub overflow_mul-result : goal.overflow_mul-result
overflow_mul-result c = result_ok c.ranges.a c.ranges.b ◌*ℤ◌ (times-size c.args.a c.args.b c.requires c.in-Times.is)

pub returns-in-Plus : goal.returns-in-Plus
returns-in-Plus c = op-plus c.ranges.a c.ranges.b c.requires c.in-Plus.is

pub returns-in-Minus : goal.returns-in-Minus
returns-in-Minus c = op-minus c.ranges.a c.ranges.b c.requires c.in-Minus.is

pub returns-in-Times : goal.returns-in-Times
returns-in-Times c = op-times c.ranges.a c.ranges.b c.requires c.in-Times.is

pub returns-in-Equal : goal.returns-in-Equal
returns-in-Equal c = op-equal c.ranges.a c.ranges.b c.in-Equal.is (to_z-of_z (fits c.truth_word.type_inv)) c.truth_word.ensures

pub returns-in-Less : goal.returns-in-Less
returns-in-Less c = op-less c.ranges.a c.ranges.b c.in-Less.is (to_z-of_z (fits c.truth_word-in-Less.type_inv)) c.truth_word-in-Less.ensures

pub returns-then-a-eq0 : goal.returns-then-a-eq0
returns-then-a-eq0 c = op-and-no c.ranges.a c.ranges.b c.in-And.is c.if-a-eq0.true

pub returns-else-a-eq0 : goal.returns-else-a-eq0
returns-else-a-eq0 c = op-and-yes c.ranges.a c.ranges.b c.in-And.is c.if-a-eq0.false

pub returns-then-a-eq0-2 : goal.returns-then-a-eq0-2
returns-then-a-eq0-2 c = op-or-no c.ranges.a c.ranges.b c.in-Or.is c.if-a-eq0-2.true

pub returns-else-a-eq0-2 : goal.returns-else-a-eq0-2
returns-else-a-eq0-2 c = op-or-yes c.ranges.a c.ranges.b c.in-Or.is c.if-a-eq0-2.false
