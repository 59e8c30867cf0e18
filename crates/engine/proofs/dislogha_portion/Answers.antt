-- `engine::dislogha_portion` meets its contract, by PortionCalls.
use native.Mathlib.Omega.{arith}
use mathlib.Core.Path.{refl}
use Rattle.engine.proofs.PortionCalls.{no_rows, many-rows, scant-scratch, portion-refused, portion-nothing, portion-on, portion-short, portion-full}
use borrow.Author.Rules.{rules}
use Rattle.engine.proofs.dislogha_portion.Reads as reads
use Rattle.engine.proofs.dislogha_portion.Lts as lts
use Rattle.engine.proofs.declined.Reads as declined-reads
use Rattle.engine.proofs.ended.Reads as ended-reads
use Rattle.exec_portions.proofs.advance.Reads as advance-reads
use Rattle.engine.proofs.dislogha_portion.Goals as goal

pub returns-then-rows-eq0 : goal.returns-then-rows-eq0
returns-then-rows-eq0 c = portion-refused (no_rows c.args.rows c.args.scratch.now c.if-rows-eq0.true) (λ z. omega (arith, z)) c.declined.ensures

pub returns-then-rows-gt-MOST_ROWS : goal.returns-then-rows-gt-MOST_ROWS
returns-then-rows-gt-MOST_ROWS c = portion-refused (many-rows c.args.rows c.args.scratch.now c.if-rows-eq0.false c.if-rows-gt-MOST_ROWS.true) (λ z. omega (arith, z)) c.declined-then-rows-gt-MOST_ROWS.ensures

pub returns-then-scratch-lt-WORDS : goal.returns-then-scratch-lt-WORDS
returns-then-scratch-lt-WORDS c = portion-refused (scant-scratch c.args.rows c.args.scratch.now c.if-rows-eq0.false c.if-rows-gt-MOST_ROWS.false c.if-scratch-lt-WORDS.true) (λ z. omega (arith, z)) c.declined-then-scratch-lt-WORDS.ensures

pub returns-in-Nothing : goal.returns-in-Nothing
returns-in-Nothing c = portion-nothing c.args.rows c.args.scratch.now c.advance.ensures c.if-rows-eq0.false c.if-rows-gt-MOST_ROWS.false c.if-scratch-lt-WORDS.false c.in-Nothing.is c.declined-in-Nothing.ensures

pub returns-in-Unfinished : goal.returns-in-Unfinished
returns-in-Unfinished c = portion-on c.args.rows c.args.scratch.now c.advance.ensures c.if-rows-eq0.false c.if-rows-gt-MOST_ROWS.false c.if-scratch-lt-WORDS.false c.in-Unfinished.is (record { end = refl; offered = refl; number = refl; size = refl })

pub returns-in-Short : goal.returns-in-Short
returns-in-Short c = portion-short c.args.rows c.args.scratch.now c.advance.ensures c.if-rows-eq0.false c.if-rows-gt-MOST_ROWS.false c.if-scratch-lt-WORDS.false c.in-Short.is c.ended.ensures

pub returns-in-Length : goal.returns-in-Length
returns-in-Length c = portion-full c.args.rows c.args.scratch.now c.advance.ensures c.if-rows-eq0.false c.if-rows-gt-MOST_ROWS.false c.if-scratch-lt-WORDS.false c.in-Length.is c.ended-in-Length.ensures
