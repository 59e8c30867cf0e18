-- A question that stands prepared in scratch, answered over each subset of one table's rows: what each function asks and gives. m says by its bits which
-- rows are left out (base_tables/specs/Description).
use Rattle.std.specs.Prelude.{◌≡◌, List, Bool, false, ℕ, zero, suc, ◌+◌, ◌≤◌, ◌<◌, leb, length, get_or, set, ℤ, ⊤, Option, Some, None, Result, Ok, Err}
use Rattle.spec_calculus.specs.Lists.{pick}
use Rattle.spec_calculus.specs.Value.{Tables, as_bool}
use Rattle.spec_encoding.specs.Record.{Bytes, got}
use Rattle.spec_outcome.specs.Acceptance.{Lent, read_lent, Accepted, posed_of}
use Rattle.spec_outcome.specs.Gives.{Settles}
use Rattle.spec_outages.specs.Outages.{asks_truth, outages}
use Rattle.base_scratch.specs.Map.{scratch_size}
use Rattle.base_refusals.specs.Numbers.{outcome_number, outcome_length}
use Rattle.base_refusals.specs.declared.Refusal.{Refusal}
use Rattle.base_syntax.specs.declared.Monoid.{Monoid}
use Rattle.base_syntax.specs.MonoidWord.{monoid_of}
use Rattle.base_tables.specs.Description.{most_tables, rows_in, subset_in, subset_rows, table_in, present_in, without_in}
use Rattle.form_words.specs.NodeWord.{node_at}
use Rattle.form_words.specs.Look.{monoid_in}
use Rattle.form_words.specs.FormTree.{left}
use Rattle.form_env.specs.Environment.{Held}
use Rattle.form_prepared.specs.PreparedQuestion.{Prepared}
use Rattle.loop_scalar.specs.Contract.{value_at, Evaluable}

-- "a question whose monoid is some or all", by the form that stands in scratch
unfoldable pub truth_read : Option Monoid → Bool
truth_read (Some m) = asks_truth (monoid_of m)
truth_read None = false

abbrev pub truth_asked : List ℕ → Bool
truth_asked s = truth_read (monoid_in (node_at s 0))

-- neither "an absent table" nor "one with more than 12 rows", by the words in scratch
unfoldable pub countable_in : List ℕ → ℕ → Bool
countable_in s k = pick (present_in s k) (leb (rows_in (table_in s k)) subset_rows) false

-- scratch in which the word of table k, which was w, leaves m out
abbrev pub leaving : List ℕ → ℕ → ℕ → ℕ → List ℕ
leaving s k w m = set s (1 + k) (without_in w m)

pub record HoldsPre (d : Bytes) (s : List ℕ) (k w m : ℕ) : Type 0 where
  pub number : k < most_tables
  pub full : subset_in w ≡ 0
  pub bits : m < 4096
  pub form : Evaluable d (leaving s k w m) 0

-- 1 where the question is true over whatever tables scratch then holds, else 0
pub record HoldsPost (d : Bytes) (s : List ℕ) (k w m : ℕ) (s' : List ℕ) (r : ℕ) : Type 0 where
  pub is : {T : Tables} → Held d T (leaving s k w m) → (f : ℕ) → left 0 < f → r ≡ pick (as_bool (value_at T f (leaving s k w m) 0)) 1 0
  pub most : r ≤ 1
  pub kept : s' ≡ leaving s k w m

-- how many of the first n are true
unfoldable pub count_to : (ℕ → Bool) → ℕ → ℕ
count_to b zero = 0
count_to b (suc n) = count_to b n + pick (b n) 1 0

pub record TruthsPre (d : Bytes) (s : List ℕ) (k n : ℕ) : Type 0 where
  pub number : k < most_tables
  pub few : n ≤ 4096
  pub each : (m : ℕ) → m < n → HoldsPre d s k (table_in s k) m

pub record TruthsPost (d : Bytes) (s : List ℕ) (k n : ℕ) (s' : List ℕ) (t : ℕ) : Type 0 where
  pub is : (T : ℕ → Tables) → ((m : ℕ) → m < n → Held d (T m) (leaving s k (table_in s k) m)) → (f : ℕ) → left 0 < f
      → t ≡ count_to (λ m. as_bool (value_at (T m) f (leaving s k (table_in s k) m) 0)) n
  pub most : t ≤ n
  pub long : length s' ≡ length s
  pub above : (j : ℕ) → most_tables < j → get_or s' j 0 ≡ get_or s j 0

-- With whatever question stands in scratch: number, length and buffer are those that its counts have. Words from 2,048 on stay.
pub record CountPost (d : Bytes) (s : List ℕ) (k : ℕ) (o : List ℤ) (s' : List ℕ) (o' : List ℤ) (r : Result ℕ Refusal) : Type 0 where
  pub is : (l : Lent) (a : Accepted) → read_lent l ≡ got (posed_of a) → Prepared d a s → Settles (outages k o a) o (outcome_number r) (outcome_length r) o'
  pub long : length s' ≡ length s
  pub above : (j : ℕ) → scratch_size ≤ j → get_or s' j 0 ≡ get_or s j 0
