-- For each name the node that binds it.
use Rattle.std.specs.Prelude.{List, [], ◌∷◌, Bool, true, false, ◌&&◌, ℕ, zero, suc, ◌+◌, ltb}
use Rattle.spec_calculus.specs.Lists.{pick, guard}
use Rattle.spec_encoding.specs.Reader.{Kind, unknown, number, truth_k, name_k, field_k, record', not, table_k, comprehension, generator, binding, condition, choice_k, open_k, two_terms}
use Rattle.base_scratch.specs.Map.{names}
use Rattle.front_words.specs.Binders.{put_binder}
use Rattle.front_words.specs.NodeTree.{kind_at, arg_at}

-- generators and bindings bind a name
abbrev pub binds_name : Kind → Bool
binds_name generator = true
binds_name binding = true
binds_name number = false
binds_name truth_k = false
binds_name name_k = false
binds_name field_k = false
binds_name record' = false
binds_name choice_k = false
binds_name open_k = false
binds_name not = false
binds_name table_k = false
binds_name comprehension = false
binds_name condition = false
binds_name unknown = false
binds_name (two_terms o) = false

-- the name that node i binds, if any
abbrev pub bound_by : List ℕ → ℕ → List ℕ
bound_by s i = guard (binds_name (kind_at s i)) (arg_at s i ∷ [])

-- the first k of the words are 0
unfoldable pub cleared : List ℕ → ℕ → List ℕ
cleared s zero = s
cleared s (suc k) = put_binder (cleared s k) k 0

-- node i is noted as the binder of its name
unfoldable pub noted : List ℕ → ℕ → List ℕ
noted s i = pick (binds_name (kind_at s i) && ltb (arg_at s i) names) (put_binder s (arg_at s i) (i + 1)) s

unfoldable pub noted_up_to : List ℕ → ℕ → List ℕ
noted_up_to s zero = s
noted_up_to s (suc i) = noted (noted_up_to s i) i

abbrev pub binders_of : List ℕ → ℕ → List ℕ
binders_of s n = noted_up_to (cleared s names) n
