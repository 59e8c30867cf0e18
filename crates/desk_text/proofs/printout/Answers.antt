-- `printout`: "too long", or what is printed of the tables and the question. Assumes nothing.
use mathlib.Core.Path.{refl, sym}
use native.Mathlib.Omega.{arith}
use lib.Seq.{length-take-le}
use Rattle.spec_plan.specs.Lines.{ascii}
use Rattle.desk_text.proofs.LentBuffers.{left-long, left-asks}
use Rattle.desk_text.proofs.Replies.{prints-counts, desk-long, desk-asks}
use borrow.Author.Rules.{rules}
use Rattle.desk_text.proofs.printout.Goals as goal

pub returns-then-input-gt65536 : goal.returns-then-input-gt65536
unfolding ascii
returns-then-input-gt65536 c = let P = desk-long c.args.input.now c.args.text.now c.if-input-gt65536.true c.say.ensures refl c.requires.2 (omega arith) in
    let L = left-long c.args.input.now c.args.scratch.now c.args.words.now c.if-input-gt65536.true in
    record { words_after = L.0; scratch_after = L.1; prints = P; front_length = prints-counts P }

pub returns : goal.returns
returns c = let P = desk-asks c.args.input.now c.args.text.now c.if-input-gt65536.false c.tables_end-at.ensures.0 c.reply.ensures.prints in
    let L = left-asks c.args.input.now c.args.scratch.now c.args.words.now c.if-input-gt65536.false c.tables_end-at.ensures.0 c.reply.ensures.words_after c.reply.ensures.scratch_after in
    record { words_after = L.0; scratch_after = L.1; prints = P; front_length = prints-counts P }

pub say-requires : goal.say-requires
unfolding ascii
say-requires c = search rules

pub shape_of-text-then-input-gt65536 : goal.shape_of-text-then-input-gt65536
unfolding ascii
shape_of-text-then-input-gt65536 c = search rules

pub tables_end-at-requires : goal.tables_end-at-requires
unfolding ascii
tables_end-at-requires c = search rules

pub slice_bounds-reply-end : goal.slice_bounds-reply-end
unfolding ascii
slice_bounds-reply-end c = sym (length-take-le c.tables_end-at.result c.args.input.now c.tables_end-at.ensures.1)

pub slice_bounds-reply-count : goal.slice_bounds-reply-count
unfolding ascii
slice_bounds-reply-count c = search rules

pub slice_bounds-reply-start : goal.slice_bounds-reply-start
unfolding ascii
slice_bounds-reply-start c = search rules

pub slice_bounds-reply-end-2 : goal.slice_bounds-reply-end-2
unfolding ascii
slice_bounds-reply-end-2 c = search rules

pub reply-requires : goal.reply-requires
unfolding ascii
reply-requires c = search rules

pub shape_of-scratch : goal.shape_of-scratch
unfolding ascii
shape_of-scratch c = search rules

pub shape_of-words : goal.shape_of-words
unfolding ascii
shape_of-words c = search rules

pub shape_of-text : goal.shape_of-text
unfolding ascii
shape_of-text c = search rules
