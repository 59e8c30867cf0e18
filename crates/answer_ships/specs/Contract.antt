-- What reading the type of ships off a normal form's words gives, at every fuel that suffices.
use Rattle.std.specs.Prelude.{◌≡◌, Bool, true, false, List, ℕ, ◌+◌, ◌<◌}
use Rattle.spec_checks.specs.Types.{Ty, number, truth, record', coll}
use Rattle.spec_tariff.specs.Dues.{number_type, ship_fields, is_ship, is_ships}
use Rattle.base_syntax.specs.declared.Fun.TheVariants.{Choice}
use Rattle.form_words.specs.declared.FormNode.TheVariants.{Operator}
use Rattle.form_words.specs.NodeWord.{node_at}
use Rattle.form_words.specs.FormTree.{left}
use Rattle.answer_types.specs.Shape.{type_at, types_at}

abbrev pub truth_type : Ty → Bool
truth_type number = false
truth_type truth = true
truth_type (record' ts) = false
truth_type (coll c t) = false

-- no choice stands at j, and the types at i and j are both a truth's or both not
pub record BranchPost (s : List ℕ) (i j : ℕ) : Type 0 where
  pub alike : (f : ℕ) → left i < f → (g : ℕ) × (left j < g) × (truth_type (type_at f s i) ≡ truth_type (type_at g s j))
  pub no_choice : (e : ℕ) → node_at s j ≡ Operator Choice e → ⊥

pub record TruthPost (s : List ℕ) (i : ℕ) (r : Bool) : Type 0 where
  pub is : (f : ℕ) → left i < f → r ≡ truth_type (type_at f s i)

pub record NumberPost (s : List ℕ) (i : ℕ) (r : Bool) : Type 0 where
  pub is : (f : ℕ) → left i < f → r ≡ number_type (type_at f s i)

pub record FieldsPost (s : List ℕ) (c e : ℕ) (r : Bool) : Type 0 where
  pub is : (f : ℕ) → left c + 1 < f → r ≡ ship_fields (types_at f s c e)

pub record ShipPost (s : List ℕ) (h : ℕ) (r : Bool) : Type 0 where
  pub is : (f : ℕ) → left h < f → r ≡ is_ship (type_at f s h)

pub record ShipsPost (s : List ℕ) (r : Bool) : Type 0 where
  pub is : (f : ℕ) → left 0 < f → r ≡ is_ships (type_at f s 0)
