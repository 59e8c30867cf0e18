-- The outcome of answering with a tariff (document 02, E6), from what is lent: data, calendars and question, a tariff, scratch, an answer buffer.
use Rattle.std.specs.Prelude.{List, ℕ, leb, length, ℤ}
use Rattle.spec_calculus.specs.Value.{Value, elems}
use Rattle.spec_encoding.specs.Record.{Bytes, Result, got, and_then, require}
use Rattle.spec_outcome.specs.WrittenForm.{words}
use Rattle.spec_outcome.specs.Acceptance.{Lent, Accepted, examine}
use Rattle.spec_outcome.specs.Outcome.{Outcome, Answer, scratch_words, with_scratch, G, looped}
use Rattle.spec_tariff.specs.Tariff.{Tariff}
use Rattle.spec_tariff.specs.TariffBytes.{read_tariff}
use Rattle.spec_tariff.specs.Dues.{question_type, gives_ships, draughts_fit, dues}

-- the dues on an accepted question's value
abbrev pub dues_of : Tariff → Accepted → Value
dues_of t a = dues t (looped a)

-- "45, a question of another type, after 28; 46, a draught below 0 or above the last step, after 32 and before a word is written". A record of two numbers
-- becomes one of two numbers: the dues have G words, as the question has.
unfoldable pub charged : List ℤ → Tariff → Accepted → Result (Answer ℤ)
charged b t a =
    let ws = words (dues_of t a) in
    require 45 (gives_ships (question_type a.tables a.question))
    (require 32 (leb (G a) (length b))
    (require 46 (draughts_fit t (elems (looped a)))
    (got (record { size = length ws; front = ws }))))

-- the tariff l, the data d, what is lent beside them: "44 .., after 31", before the data
unfoldable pub charged_with : Bytes → Bytes → Lent → List ℤ → Result (Answer ℤ)
charged_with l d q b = and_then (read_tariff l) (λ t. and_then (examine d q) (charged b t))

unfoldable pub with_tariff : Bytes → Bytes → Lent → List ℕ → List ℤ → Outcome ℤ
with_tariff l d q s b = with_scratch scratch_words s b (charged_with l d q b)
