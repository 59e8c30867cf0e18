-- Worked cases, as rows of one table: the two counts, or the refusal's number.
use mathlib.Core.Path.{◌≡◌, refl}
use mathlib.Core.List.{List, [], ◌∷◌}
use mathlib.Core.Bool.{true, false}
use Prim.Native.Nat.{ℕ}
use lib.IntN.{ℤ, pos}
use Rattle.spec_calculus.specs.Syntax.{Collection, bag, set, sum, some, all, equal, less, Term, num, truth, name, field, bin, comp, table, qnil, gen, cond, Question}
use Rattle.spec_calculus.specs.Value.{Value, vnil, vcons, Table, Tables, kind_of}
use Rattle.spec_calculus.specs.Value as Value
use Rattle.spec_calculus.specs.Lists as Lists
use Rattle.spec_calculus.specs.Order as Order
use Rattle.spec_calculus.specs.Monoid as Monoid
use Rattle.spec_calculus.specs.Meaning as Meaning
use Rattle.spec_calculus.proofs.Lists.{All}
use Rattle.spec_encoding.specs.Record.{Result, refused, got}
use Rattle.spec_encoding.specs.Record as Record
use Rattle.spec_normal_form.specs.Normal.{normal}
use Rattle.spec_outcome.specs.Acceptance.{Accepted}
use Rattle.spec_outcome.specs.Outcome.{Answer}
use Rattle.spec_outages.specs.Outages.{outages}
use Rattle.spec_outages.specs.Outages as Outages

-- all the definitions that the cases compute with
unfoldable definitions : Unit {0}
unfolding Lists.bind_l Lists.guard Lists.pick Lists.upd Value.as_int Value.as_bool Value.elems Value.nth Value.field_of Value.eq_z Value.bin_v Value.columns_of Value.kind_of Value.is_there Value.rows_of Order.then Order.compare_z Order.compare_b Order.le_v Order.compare_v Order.insert Order.put Monoid.start Monoid.step Monoid.total Monoid.finish Monoid.fold_by Monoid.ordered Monoid.canonical Meaning.meaning Meaning.eval Record.require Outages.subsets Outages.with_rows Outages.verdicts Outages.trues Outages.asks_truth Outages.countable Outages.outages
definitions = tt

-- a question over a table of one column with these numbers, which is table 0: its two counts; or the refusal's number where the outages of this table
-- are counted with this answer buffer
pub data Case : Type 0 where
  counts : Collection → List ℕ → Question → ℕ → ℕ → Case
  refuses : Collection → List ℕ → Question → ℕ → List ℤ → ℕ → Case

abbrev rows_with : List ℕ → List Value
rows_with [] = []
rows_with (n ∷ l) = Value.rec (vcons (Value.num (pos n)) vnil) ∷ rows_with l

abbrev tables : Collection → List ℕ → Tables
tables c l = record { kind = c; columns = 1; bounds = 9 ∷ []; rows = rows_with l } ∷ []

abbrev over : Collection → List ℕ → Question → Accepted
over c l q = record { tables = tables c l; lent = 0; question = q; form = normal (kind_of (tables c l)) q }

abbrev room : List ℤ
room = pos 5 ∷ pos 5 ∷ pos 5 ∷ []

abbrev Holds : Case → Type 0
Holds (counts c l q t f) = outages 0 room (over c l q) ≡ got (record { size = 2; front = pos t ∷ pos f ∷ [] })
Holds (refuses c l q k b n) = outages k b (over c l q) ≡ refused n

abbrev tugs : List ℕ
tugs = 1 ∷ 2 ∷ 3 ∷ []

abbrev some_tug : Question
some_tug = record { monoid = some; quals = gen 0 (table 0) qnil; head = truth true }

abbrev first : Term
first = field 0 (name 0)

abbrev cases : List Case
cases =
    counts bag tugs some_tug 7 1
    ∷ counts bag tugs (record { monoid = some; quals = qnil; head = truth true }) 8 0  -- a table that the question does not name
    ∷ counts bag [] (record { monoid = all; quals = gen 0 (table 0) qnil; head = truth false }) 1 0  -- no rows
    ∷ counts set (1 ∷ 1 ∷ 2 ∷ []) (record { monoid = some; quals = gen 0 (table 0) qnil; head = bin equal first (num (pos 1)) }) 6 2  -- equal rows of a set
    ∷ counts bag tugs (record { monoid = some; quals = gen 0 (table 0) (gen 1 (table 0) (cond (bin less first (field 0 (name 1))) qnil)); head = truth true }) 4 4  -- a table used twice
    ∷ refuses bag tugs (record { monoid = sum; quals = cond (comp some qnil (truth true)) qnil; head = num (pos 1) }) 0 [] 55  -- whose monoid; before 32
    ∷ refuses bag tugs some_tug 256 room 56  -- a number over 7
    ∷ refuses bag (1 ∷ 2 ∷ 3 ∷ 4 ∷ 5 ∷ 6 ∷ 7 ∷ 8 ∷ 9 ∷ 1 ∷ 2 ∷ 3 ∷ 4 ∷ []) some_tug 0 [] 56  -- 13 rows; before 32
    ∷ refuses bag tugs some_tug 0 (pos 5 ∷ []) 32
    ∷ []

pub cases-hold : All Holds cases
unfolding definitions
cases-hold = (refl, (refl, (refl, (refl, (refl, (refl, (refl, (refl, (refl, tt)))))))))
