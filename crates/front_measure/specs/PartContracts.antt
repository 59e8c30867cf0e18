-- What the parts of the code answer.
use Rattle.std.specs.Prelude.{◌≡◌, List, Bool, true, false, ℕ, ◌-◌, ◌<◌, ltb, set}
use Rattle.spec_calculus.specs.Lists.{pick}
use Rattle.spec_calculus.specs.Syntax.{Collection, Monoid, Bin, plus, minus, times, equal, less, and, or}
use Rattle.spec_normal_form.specs.Normal.{idempotent, gives_way}
use Rattle.front_theory.specs.NodeForms.{levels}
use Rattle.front_words.specs.NodeTree.{start_at}
use Rattle.front_sizes.specs.declared.FormSize.{FormSize}
use Rattle.front_sizes.specs.SizeWords.{place, pack, SmallSize, term_count, condition_count, spliced_count}
use Rattle.front_nodes.specs.NodeTable.{depth_at}
use Rattle.front_resolve.specs.declared.Form.{Form}
use Rattle.front_resolve.specs.declared.Form.TheVariants.{Number, Truth, Row, Cell, Record, Two, Not, Comp, Table, Operator, Bad}
use Rattle.front_resolve.specs.Resolved.{Resolved, Heads}
use Rattle.front_measure.specs.declared.Ways.{Ways}
use Rattle.front_measure.specs.declared.Weight.{Weight}
use Rattle.front_measure.specs.Measure.{count, beside, above, none, leaf, never}
use Rattle.front_measure.specs.MeasurableNodes.{ends, Arranged}
use Rattle.front_measure.specs.KeptSizes.{Measured, KeptSizes}

-- a count for each flag
abbrev pub ways : (Bool → FormSize) → Ways
ways f = record { stays = f false; yields = f true }

unfoldable pub way : Ways → Bool → FormSize
way w true = w.yields
way w false = w.stays

abbrev pub Right : (ℕ → Collection) → List ℕ → ℕ → Weight → Type 0
Right K s i w = Measured K s i w.term (way w.condition) (way w.splice) (λ v. (way w.before v).gens)

-- ten bits are enough for each number
pub record SmallWays (w : Ways) : Type 0 where
  pub stays : SmallSize w.stays
  pub yields : SmallSize w.yields

pub record SmallWeight (w : Weight) : Type 0 where
  pub term : SmallSize w.term
  pub condition : SmallWays w.condition
  pub splice : SmallWays w.splice
  pub before : SmallWays w.before

-- ---- what the code's parts answer
abbrev pub both_ways : Ways → Ways → Ways
both_ways a b = record { stays = beside a.stays b.stays; yields = beside a.yields b.yields }

abbrev pub condition_ways : List ℕ → ℕ → Ways
condition_ways s i = ways (condition_count s i)

abbrev pub splice_ways : List ℕ → ℕ → Ways
splice_ways s i = ways (spliced_count s i)

abbrev pub no_ways : Ways
no_ways = ways (λ v. none)

-- a term that is no collection; and one that is one condition
abbrev pub term_weight : FormSize → Ways → Weight
term_weight t c = record { term = t; condition = c; splice = ways (λ v. never); before = no_ways }

abbrev pub scalar_weight : FormSize → Weight
scalar_weight t = term_weight t (ways (λ v. above t))

-- "and" as a condition is two
abbrev pub joins : Bin → Bool
joins plus = false
joins minus = false
joins times = false
joins equal = false
joins less = false
joins and = true
joins or = false

abbrev pub two_term : List ℕ → ℕ → ℕ → FormSize
two_term s a b = above (beside (term_count s a) (term_count s b))

abbrev pub two_weight : List ℕ → Bin → ℕ → ℕ → Weight
two_weight s o a b = term_weight (two_term s a b) (pick (joins o) (both_ways (condition_ways s a) (condition_ways s b)) (ways (λ v. above (two_term s a b))))

abbrev pub table_weight : Weight
table_weight = record { term = count 4 1; condition = ways (λ v. count 5 1); splice = ways (λ v. count 2 1); before = no_ways }

-- what is stored of the row that ends at e
abbrev pub row_ways : List ℕ → ℕ → ℕ → Ways
row_ways s d e = pick (ends s d e) (splice_ways s (e - 1)) no_ways

-- a comprehension whose qualifiers write a, with a head that writes t as a term and c as a condition
abbrev pub comp_term : Monoid → Ways → FormSize → FormSize
comp_term m a t = above (beside (way a (idempotent m)) t)

abbrev pub comp_weight : Monoid → Ways → FormSize → FormSize → Weight
comp_weight m a t c = record {
  term = comp_term m a t;
  condition = record { stays = above (comp_term m a t); yields = pick (gives_way m true) (beside a.yields c) (above (comp_term m a t)) };
  splice = record { stays = way a (idempotent m); yields = a.yields };
  before = no_ways;
}

-- "a 33rd level" is refused (23)
abbrev pub comp_at : List ℕ → ℕ → Monoid → ℕ → Weight
comp_at s i m h = pick (ltb (depth_at s i) levels) (comp_weight m (row_ways s (depth_at s h) (start_at s h)) (term_count s h) (condition_count s h true)) (scalar_weight leaf)

-- a qualifier that writes w, behind others that write b
abbrev pub qualifier_weight : Ways → Ways → Weight
qualifier_weight b w = record { term = none; condition = w; splice = both_ways b w; before = b }

-- what node j keeps, but for its offsets
abbrev pub kept_weight : List ℕ → ℕ → Weight
kept_weight s j = record { term = term_count s j; condition = condition_ways s j; splice = splice_ways s j; before = no_ways }

abbrev pub form_weight : List ℕ → ℕ → Form → Weight
form_weight s j (Number z) = kept_weight s j
form_weight s j (Truth b) = kept_weight s j
form_weight s j (Row g) = scalar_weight leaf
form_weight s j (Cell k g) = scalar_weight (count 2 0)
form_weight s j Record = kept_weight s j
form_weight s j (Two o a b) = kept_weight s j
form_weight s j (Not c) = kept_weight s j
form_weight s j (Comp m h) = kept_weight s j
form_weight s j (Table k) = kept_weight s j
form_weight s j (Operator f) = kept_weight s j
form_weight s j Bad = scalar_weight leaf

-- a name or a field has what the place that it comes to has
pub record FollowedPost (s : List ℕ) (i : ℕ) (w : Weight) : Type 0 where
  pub at : Resolved
  pub env : List ℕ
  pub heads : Heads s i (depth_at s i) env at
  pub is : w ≡ form_weight s at.node at.form

-- where the nodes before i are kept right, this is right for node i
pub record WeighPost (s : List ℕ) (i : ℕ) (w : Weight) : Type 0 where
  pub is : (n : ℕ) → i < n → Arranged s n → (K : ℕ → Collection) → ((j : ℕ) → j < i → KeptSizes K s s j) → Right K s i w
  pub small : SmallWeight w

-- the two words of node i
abbrev pub offsets_of : Ways → FormSize
offsets_of w = record { size = w.stays.gens; gens = w.yields.gens }

abbrev pub storing : List ℕ → ℕ → Weight → List ℕ
storing s i w =
    set (set s (place i 0) (pack w.term w.condition.stays w.condition.yields)) (place i 1) (pack w.splice.stays w.splice.yields (offsets_of w.before))
