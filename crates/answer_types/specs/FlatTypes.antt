-- Types without a collection: all values of one have as many words, and each word is a number or a truth.
use Rattle.std.specs.Prelude.{ℕ, ◌+◌}
use Rattle.spec_checks.specs.Types.{Ty, Tys, number, truth, record', coll, ynil, ycons}

abbrev mutual
  pub Flat : Ty → Type 0
  Flat number = Unit {0}
  Flat truth = Unit {0}
  Flat (record' ts) = FlatEach ts
  Flat (coll c t) = ⊥

  pub FlatEach : Tys → Type 0
  FlatEach ynil = Unit {0}
  FlatEach (ycons t ts) = Flat t × FlatEach ts

-- how many words a value has; nothing is said of a collection
unfoldable mutual
  pub width_of : Ty → ℕ
  width_of number = 1
  width_of truth = 1
  width_of (record' ts) = width_each ts
  width_of (coll c t) = 0

  pub width_each : Tys → ℕ
  width_each ynil = 0
  width_each (ycons t ts) = width_of t + width_each ts
