-- `front_parser::read_question` meets its contract, by LeafRecords, Questions.
use Rattle.front_parser.proofs.LeafRecords.{passed_on, absent, present, headed, not-headed}
use Rattle.front_parser.proofs.Questions.{question-long, question-cut, question-kind, question-refused, question-over, question-read}
use Rattle.front_parser.proofs.read_question.Goals as goal

pub returns-then-l-gt-QUESTION_BYTES : goal.returns-then-l-gt-QUESTION_BYTES
returns-then-l-gt-QUESTION_BYTES c = question-long c.if-l-gt-QUESTION_BYTES.true

pub returns-in_err-k : goal.returns-in_err-k
returns-in_err-k c = let n = absent _ c.ok_or.ensures.value c.in_err-k.was in rw (passed_on _ c.from_residual.ensures.1, n.1) (question-cut c.if-l-gt-QUESTION_BYTES.false (not-headed c.read_header.ensures n.0))

pub returns-then-k-ne-KIND_COMPREHENSION : goal.returns-then-k-ne-KIND_COMPREHENSION
returns-then-k-ne-KIND_COMPREHENSION c = question-kind c.if-l-gt-QUESTION_BYTES.false (headed c.read_header.ensures (present _ c.ok_or.ensures.value c.in_ok-k.was)) c.if-k-ne-KIND_COMPREHENSION.true

pub returns-in_err-n : goal.returns-in_err-n
returns-in_err-n c =
    rw (passed_on _ c.from_residual-in_err-n.ensures.1)
    (question-refused c.if-l-gt-QUESTION_BYTES.false (headed c.read_header.ensures (present _ c.ok_or.ensures.value c.in_ok-k.was)) c.if-k-ne-KIND_COMPREHENSION.false c.comprehension.ensures c.in_err-n.was)

pub returns-then-e-l : goal.returns-then-e-l
returns-then-e-l c =
    question-over c.if-l-gt-QUESTION_BYTES.false (headed c.read_header.ensures (present _ c.ok_or.ensures.value c.in_ok-k.was)) c.if-k-ne-KIND_COMPREHENSION.false c.comprehension.ensures c.in_ok-n.was c.if-e-l.true

pub returns : goal.returns
returns c =
    question-read c.if-l-gt-QUESTION_BYTES.false (headed c.read_header.ensures (present _ c.ok_or.ensures.value c.in_ok-k.was)) c.if-k-ne-KIND_COMPREHENSION.false c.comprehension.ensures c.in_ok-n.was c.if-e-l.false
