-- The outcome of the call that counts outages (document 02, E12), from what it is lent: data, calendars, a question, a table's number, an answer buffer.
use Rattle.std.specs.Prelude.{List, [], ◌∷◌, map, Bool, true, false, not, ◌&&◌, ℕ, zero, suc, leb, length, get_or, set, ℤ, pos}
use Rattle.spec_calculus.specs.Lists.{bind_l}
use Rattle.spec_calculus.specs.Syntax.{Monoid, of, sum, max, min, some, all, Question}
use Rattle.spec_calculus.specs.Value.{Value, as_bool, Table, Tables, no_table, is_there, rows_of}
use Rattle.spec_calculus.specs.Monoid.{canonical}
use Rattle.spec_calculus.specs.Meaning.{meaning}
use Rattle.spec_encoding.specs.Record.{Bytes, Result, got, and_then, require}
use Rattle.spec_outcome.specs.Acceptance.{Lent, Accepted, examine}
use Rattle.spec_outcome.specs.Outcome.{Outcome, Answer, scratch_words, with_scratch}

-- "every subset of its rows, taken by position (the others removed, order kept)": each subset of the rest, with the first row and without it
unfoldable pub subsets : {A : Type 0} → List A → List (List A)
subsets [] = [] ∷ []
subsets (a ∷ l) = bind_l (subsets l) (λ S. (a ∷ S) ∷ S ∷ [])

-- the tables with these rows in place of those of table k
unfoldable pub with_rows : Tables → ℕ → List Value → Tables
with_rows T k l = let t = get_or T k no_table in set T k (record { kind = t.kind; columns = t.columns; bounds = t.bounds; rows = l })

-- what the question gives over each subset of the rows of table k
unfoldable pub verdicts : Tables → ℕ → Question → List Bool
verdicts T k q = map (λ l. as_bool (meaning canonical (with_rows T k l) q)) (subsets (rows_of T k))

-- "how many give true and how many false"
unfoldable pub trues : List Bool → ℕ
trues [] = 0
trues (true ∷ l) = suc (trues l)
trues (false ∷ l) = trues l

abbrev pub falses : List Bool → ℕ
falses l = trues (map not l)

-- "a question whose monoid is some or all"
unfoldable pub asks_truth : Monoid → Bool
asks_truth (of c) = false
asks_truth sum = false
asks_truth max = false
asks_truth min = false
asks_truth some = true
asks_truth all = true

-- "a table of at most 12 rows"
unfoldable pub countable : Tables → ℕ → Bool
countable T k = is_there T k && leb (length (rows_of T k)) 12

-- "The counts, true first, are the answer's two words; 32 is then a buffer under two. Answers: 55, another monoid; 56, an absent table or one with more
-- than 12 rows; both after 28, 55 first."
unfoldable pub outages : ℕ → List ℤ → Accepted → Result (Answer ℤ)
outages k b a =
    let l = verdicts a.tables k a.question in
    require 55 (asks_truth a.question.monoid)
    (require 56 (countable a.tables k)
    (require 32 (leb 2 (length b))
    (got (record { size = 2; front = pos (trues l) ∷ pos (falses l) ∷ [] }))))

-- of table k
unfoldable pub count_outages : Bytes → Lent → ℕ → List ℕ → List ℤ → Outcome ℤ
count_outages d l k s b = with_scratch scratch_words s b (and_then (examine d l) (outages k b))
