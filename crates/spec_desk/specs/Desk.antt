-- "The desk program reads standard input": the text that it prints, as a function of the bytes that it read.
use Rattle.std.specs.Prelude.{List, [], ◌∷◌, ◌++◌, ℕ, ◌+◌, leb, length, take, drop, ℤ}
use Rattle.spec_calculus.specs.Lists.{pick}
use Rattle.spec_encoding.specs.Record.{Bytes, Result, refused, got, and_then, require}
use Rattle.spec_plan.specs.Planner.{plan_of}
use Rattle.spec_plan.specs.Lines.{ascii, decimal, signed_decimal, lines}
use Rattle.spec_outcome.specs.WrittenForm.{words}
use Rattle.spec_outcome.specs.Acceptance.{Lent, lent_as, Accepted, examine}
use Rattle.spec_outcome.specs.Outcome.{G, looped}
use Rattle.spec_desk.specs.TablesEnd.{tables_end}

-- "answer its words": each behind a space, and byte 10 ends the line
unfoldable pub spaced : List ℤ → Bytes
spaced [] = []
spaced (z ∷ l) = ascii " " ++ (signed_decimal z ++ spaced l)

unfoldable pub answer_line : List ℤ → Bytes
answer_line l = ascii "answer" ++ (spaced l ++ ascii "\n")

-- "refused" and the number
unfoldable pub refusal_line : ℕ → Bytes
refusal_line n = ascii "refused " ++ (decimal n ++ ascii "\n")

-- "the plan and answer, its answer buffer being 4,096 words": a longer answer is refusal 32
unfoldable pub plan_and_answer : Accepted → Result Bytes
plan_and_answer a = require 32 (leb (G a) 4096) (got (lines (plan_of a.form) ++ answer_line (words (looped a))))

-- "Else it prints "refused" and the number, or the plan and answer"
unfoldable pub or_refusal : Result Bytes → Bytes
or_refusal (refused n) = refusal_line n
or_refusal (got t) = t

-- "the desk program lends no calendar" (document 02, E4)
abbrev pub alone : Bytes → Lent
alone l = lent_as [] l

-- the reply to a question l over the tables d
unfoldable pub asked : Bytes → Bytes → Bytes
asked d l = or_refusal (and_then (examine d (alone l)) plan_and_answer)

-- "over 65,536 bytes it prints "too long"", else the reply to the question behind the table records
unfoldable pub desk : Bytes → Bytes
desk b = pick (leb (length b) 65536) (asked (take (tables_end b) b) (drop (tables_end b) b)) (ascii "too long\n")

-- bytes that hold every such text: a plan's lines, and an answer line of 4,096 words with a space, a sign and 19 digits each
abbrev pub plan_bytes : ℕ
plan_bytes = 32768

abbrev pub text_bytes : ℕ
text_bytes = plan_bytes + 86023
