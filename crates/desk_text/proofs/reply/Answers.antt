-- `reply`: the answering call's refusal, or the plan's lines and the answer behind them. Assumes nothing.
use mathlib.Core.Path.{refl, sym, ◌∙◌}
use Prim.Native.Nat.{◌≤◌}
use native.Mathlib.Omega.{arith}
use lib.ListN.{length}
use lib.Seq.{length-take-le}
use Rattle.base_scratch.specs.Map.{scratch_size}
use Rattle.spec_desk.specs.Desk.{alone}
use Rattle.desk_text.proofs.LentBuffers.{answer-clears, plan-clears}
use Rattle.desk_text.proofs.Replies.{refuses, answers, prints-refusal, prints-answer}
use borrow.Author.Rules.{rules}
use Rattle.desk_text.proofs.reply.Goals as goal

pub returns-then-given-ne0 : goal.returns-then-given-ne0
returns-then-given-ne0 c = let R = refuses c.args.tables.now c.args.question.now c.args.scratch.now c.args.words.now c.requires.0 c.requires.1 c.answer-given.ensures c.if-given-ne0.true in
    let C = answer-clears c.args.tables.now (alone c.args.question.now) c.args.scratch.now c.args.words.now c.requires.0 c.answer-given.ensures in
    record {
      prints = prints-refusal R c.refusal_line.ensures refl c.requires.2 (omega (arith, c.well_formed.1.1.1.1.0));
      words_after = c.answer-given.ensures.buffer;
      scratch_after = C;
    }

pub slice_bounds-answer_line-end : goal.slice_bounds-answer_line-end
slice_bounds-answer_line-end c = let A = answers c.args.tables.now c.args.question.now c.args.scratch.now c.args.words.now c.requires.0 c.requires.1 c.answer-given.ensures c.if-given-ne0.false in
    A.within

pub returns : goal.returns
returns c = let A = answers c.args.tables.now c.args.question.now c.args.scratch.now c.args.words.now c.requires.0 c.requires.1 c.answer-given.ensures c.if-given-ne0.false in
    let after = c.answer-given.new.scratch in
    let kept = c.answer-given.auto in
    let room : scratch_size ≤ length after = omega (arith, c.requires.0, kept.scratch) in
    let C = answer-clears c.args.tables.now (alone c.args.question.now) c.args.scratch.now c.args.words.now c.requires.0 c.answer-given.ensures in
    let P = prints-answer A after c.args.text.now room c.requires.2 c.dislogha_plan_lines-plan.ensures c.answer_line.ensures.lays c.answer_line.ensures.words_len_bound (kept.words ∙ c.requires.1) refl (omega (arith, c.well_formed.1.1.1.1.0)) in
    record {
      prints = P;
      words_after = c.answer-given.ensures.buffer;
      scratch_after = plan-clears c.args.tables.now (alone c.args.question.now) c.args.scratch.now after c.args.text.now room C c.dislogha_plan_lines-plan.ensures;
    }

pub slice_bounds-answer_line-end-2 : goal.slice_bounds-answer_line-end-2
slice_bounds-answer_line-end-2 c = sym (length-take-le c.answer-given.result.length c.answer-given.new.words (slice_bounds-answer_line-end c))
