-- The readers of comprehension, qualifier and term call each other and meet their contracts; the bytes left fall.
use mathlib.Core.Path.{refl, ap, ◌∙◌}
use Rattle.std.proofs.Common.{Ok}
use Rattle.front_parser.proofs.LeafRecords.{passed_on, absent, present}
use Rattle.front_parser.proofs.Records.{term-none, term-refused, term-read, content-terms, content-comprehension, item-none, item-head, head-refused, item_refused, item-read}
use Rattle.front_parser.proofs.TermSequences.{upto-last, upto-over, upto-refused, upto-again, compound-broken, compound-refused, compound-few, compound-done}
use Rattle.front_parser.proofs.Questions.{parts-last-refused, parts_again, parts-last-over, parts_last, comprehension-none, comprehension-zero, comprehension-over, comprehension-refused, comprehension-read, finishing-terms, few-terms}
use Rattle.front_parser.proofs.+compound_comprehension_content_parts_qualifier_term_terms.Goals as goal

pub compound-returns-in_err-a : goal.compound-returns-in_err-a
compound-returns-in_err-a t c = let n = absent _ c.ok_or.ensures.value c.in_err-a.was in rw (passed_on _ c.from_residual.ensures.1, n.1) (compound-broken c.fixed.ensures n.0)

pub compound-returns-in_err-count : goal.compound-returns-in_err-count
compound-returns-in_err-count t c = rw (passed_on _ c.from_residual-in_err-count.ensures.1) (compound-refused c.fixed.ensures (present _ c.ok_or.ensures.value c.in_ok-a.was) c.terms.ensures c.in_err-count.was)

pub compound-returns-then-count-h : goal.compound-returns-then-count-h
compound-returns-then-count-h t c = compound-few c.fixed.ensures (present _ c.ok_or.ensures.value c.in_ok-a.was) c.terms.ensures c.in_ok-count.was c.if-count-h.true

pub compound-finish-requires : goal.compound-finish-requires
compound-finish-requires t c = finishing-terms c.requires.1 c.terms.ensures c.in_ok-count.was c.requires.0 (few-terms c.requires.1 c.terms.ensures c.in_ok-count.was)

pub compound-returns-then-skip-eq0 : goal.compound-returns-then-skip-eq0
compound-returns-then-skip-eq0 t c =
    compound-done c.fixed.ensures (present _ c.ok_or.ensures.value c.in_ok-a.was) c.terms.ensures c.in_ok-count.was c.if-count-h.false c.finish.ensures (λ e. refl) (λ n. absurd (n c.if-skip-eq0.true))

pub compound-returns : goal.compound-returns
compound-returns t c =
    compound-done c.fixed.ensures (present _ c.ok_or.ensures.value c.in_ok-a.was) c.terms.ensures c.in_ok-count.was c.if-count-h.false c.finish-2.ensures (λ e. absurd (c.if-skip-eq0.false e)) (λ n. refl)

pub comprehension-returns-then-c-eq0 : goal.comprehension-returns-then-c-eq0
comprehension-returns-then-c-eq0 t c = comprehension-none c.if-c-eq0.true

pub comprehension-returns-then-m-eq0 : goal.comprehension-returns-then-m-eq0
comprehension-returns-then-m-eq0 t c = comprehension-zero c.if-c-eq0.false c.byte_at-m.ensures c.if-m-eq0.true

pub comprehension-returns-then-m-gt-MONOIDS : goal.comprehension-returns-then-m-gt-MONOIDS
comprehension-returns-then-m-gt-MONOIDS t c = comprehension-over c.if-c-eq0.false c.byte_at-m.ensures c.if-m-gt-MONOIDS.true

pub comprehension-returns-in_err-left : goal.comprehension-returns-in_err-left
comprehension-returns-in_err-left t c =
    rw (passed_on _ c.from_residual.ensures.1) (comprehension-refused c.args.p c.args.c.now c.if-c-eq0.false c.byte_at-m.ensures c.if-m-eq0.false c.if-m-gt-MONOIDS.false c.parts.ensures c.in_err-left.was)

pub comprehension-returns : goal.comprehension-returns
comprehension-returns t c = comprehension-read c.args.p c.args.c.now c.if-c-eq0.false c.byte_at-m.ensures c.if-m-eq0.false c.if-m-gt-MONOIDS.false c.parts.ensures c.in_ok-left.was c.finish.ensures

pub content-returns-in-Terms : goal.content-returns-in-Terms
content-returns-in-Terms t c = content-terms c.shape_of.ensures c.in-Terms.is c.compound.ensures

pub content-returns-in-Comprehension : goal.content-returns-in-Comprehension
content-returns-in-Comprehension t c = content-comprehension c.shape_of.ensures c.in-Comprehension.is c.comprehension.ensures

pub qualifier-returns-in_err-k : goal.qualifier-returns-in_err-k
qualifier-returns-in_err-k t c = rw (passed_on _ c.from_residual.ensures.1) (item-none c.begin.ensures c.in_err-k.was)

pub qualifier-returns-in_err-used : goal.qualifier-returns-in_err-used
qualifier-returns-in_err-used t c = rw (passed_on _ c.from_residual-in_err-used.ensures.1) (head-refused c.begin.ensures c.in_ok-k.was c.look_ahead.ensures c.in_default.is c.term.ensures c.in_err-used.was)

pub qualifier-returns-in_default : goal.qualifier-returns-in_default
qualifier-returns-in_default t c = item-head c.begin.ensures c.in_ok-k.was c.look_ahead.ensures c.in_default.is c.term.ensures c.in_ok-used.was

pub qualifier-returns-in_err-left : goal.qualifier-returns-in_err-left
qualifier-returns-in_err-left t c = rw (passed_on _ c.from_residual-in_err-left.ensures.1) (item_refused c.begin.ensures c.in_ok-k.was c.look_ahead.ensures c.in-Some.is c.compound.ensures c.in_err-left.was)

pub qualifier-returns : goal.qualifier-returns
qualifier-returns t c = item-read c.begin.ensures c.in_ok-k.was c.look_ahead.ensures c.in-Some.is c.compound.ensures c.in_ok-left.was

pub term-returns-in_err-k : goal.term-returns-in_err-k
term-returns-in_err-k t c = rw (passed_on _ c.from_residual.ensures.1) (term-none c.begin.ensures c.in_err-k.was)

pub term-returns-in_err-left : goal.term-returns-in_err-left
term-returns-in_err-left t c = rw (passed_on _ c.from_residual-in_err-left.ensures.1) (term-refused c.begin.ensures c.in_ok-k.was c.content.ensures c.in_err-left.was)

pub term-returns : goal.term-returns
term-returns t c = term-read c.begin.ensures c.in_ok-k.was c.content.ensures c.in_ok-left.was

pub parts-returns-in_err-used : goal.parts-returns-in_err-used
parts-returns-in_err-used t c = rw (passed_on _ c.from_residual.ensures.1) (parts-last-refused c.loop-used.invariant c.qualifier.ensures c.in_err-used.was)

pub parts-loop-used-preserved : goal.parts-loop-used-preserved
parts-loop-used-preserved t c = parts_again c.loop-used.invariant c.qualifier.ensures (c.in_ok-used.was ∙ ap Ok c.in-Qualifier.is) c.behind-q.ensures

pub parts-returns-then-used-l : goal.parts-returns-then-used-l
parts-returns-then-used-l t c = parts-last-over c.loop-used.invariant c.qualifier.ensures (c.in_ok-used.was ∙ ap Ok c.in-Head.is) c.if-used-l.true

pub parts-returns-in-Head : goal.parts-returns-in-Head
parts-returns-in-Head t c = parts_last c.loop-used.invariant c.qualifier.ensures (c.in_ok-used.was ∙ ap Ok c.in-Head.is) c.if-used-l.false

pub terms-returns-then-most-count : goal.terms-returns-then-most-count
terms-returns-then-most-count t c = upto-over c.loop-at.invariant c.loop-at-test.true c.if-most-count.true

pub terms-returns-in_err-used : goal.terms-returns-in_err-used
terms-returns-in_err-used t c = rw (passed_on _ c.from_residual.ensures.1) (upto-refused c.loop-at.invariant c.loop-at-test.true c.if-most-count.false c.term.ensures c.in_err-used.was)

pub terms-loop-at-preserved : goal.terms-loop-at-preserved
terms-loop-at-preserved t c = upto-again c.loop-at.invariant c.loop-at-test.true c.if-most-count.false c.term.ensures c.in_ok-used.was c.behind-q.ensures

pub terms-returns : goal.terms-returns
terms-returns t c = upto-last c.loop-at.invariant c.loop-at-test.false
