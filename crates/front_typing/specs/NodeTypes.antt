-- The type of each node: `type_of` over a node table. Where `type_of` hands on the type of each name, a name here has the type
-- of the qualifier that binds it: a generator has its elements' type, a binding its term's.
use Rattle.std.specs.Prelude.{List, [], ◌∷◌, Bool, true, ℕ, zero, suc}
use Rattle.spec_calculus.specs.Lists.{pick}
use Rattle.spec_calculus.specs.Syntax.{Collection, Monoid}
use Rattle.spec_calculus.specs.Value.{Tables, kind_of, columns_of, is_there}
use Rattle.spec_checks.specs.Types.{Typed, wrong, has, Typeds, hass, ynil, record', coll, cells, number, truth, field_type, of_truth, bin_type, app_type, comp_type, ranges, typed_as, record'', all_typed, cons_type}
use Rattle.front_theory.specs.NodeTable.{Node, Nodes, nnum, ntruth, nname, nfield, nrec, nbin, nnegate, napp, ncomp, ntable, ngen, nbind, ncond, nbad}

-- which collections' generators may stand in a monoid
abbrev pub StandsRule : Type 0
StandsRule = Collection → Monoid → Bool

unfoldable pub types_by : (ℕ → Typed) → List ℕ → Typeds
types_by τ [] = hass ynil
types_by τ (c ∷ cs) = cons_type (τ c) (types_by τ cs)

-- t behind a qualifier of a comprehension of m
abbrev pub behind_qual : StandsRule → (ℕ → Typed) → Monoid → Node → Typed → Typed
behind_qual J τ m (ngen c) t = ranges (λ a. J a m) (τ c) (λ u. t)
behind_qual J τ m (nbind c) t = typed_as (τ c) (λ u. t)
behind_qual J τ m (ncond c) t = of_truth (τ c) t
behind_qual J τ m (nnum z) t = wrong
behind_qual J τ m (ntruth b) t = wrong
behind_qual J τ m (nname x d) t = wrong
behind_qual J τ m (nfield k c) t = wrong
behind_qual J τ m (nrec cs) t = wrong
behind_qual J τ m (napp f cs) t = wrong
behind_qual J τ m (nbin o a b) t = wrong
behind_qual J τ m (nnegate c) t = wrong
behind_qual J τ m (ncomp n cs h) t = wrong
behind_qual J τ m (ntable k) t = wrong
behind_qual J τ m nbad t = wrong

unfoldable pub behind_quals : StandsRule → Nodes → (ℕ → Typed) → Monoid → List ℕ → Typed → Typed
behind_quals J N τ m [] t = t
behind_quals J N τ m (c ∷ cs) t = behind_qual J τ m (N c) (behind_quals J N τ m cs t)

-- "25: .. table that does not fit"; "naming an absent number is 25" (document 02, E9)
abbrev pub table_type : Tables → ℕ → Typed
table_type T k = pick (is_there T k) (has (coll (kind_of T k) (record' (cells (columns_of T k))))) wrong

-- a node's type, where τ has the types of the nodes before it
abbrev pub type_by : StandsRule → Tables → Nodes → (ℕ → Typed) → Node → Typed
type_by J T N τ (nnum z) = has number
type_by J T N τ (ntruth b) = has truth
type_by J T N τ (nname x d) = τ x
type_by J T N τ (nfield k c) = field_type k (τ c)
type_by J T N τ (nrec cs) = record'' (types_by τ cs)
type_by J T N τ (napp f cs) = all_typed (types_by τ cs) (app_type f)
type_by J T N τ (nbin o a b) = bin_type o (τ a) (τ b)
type_by J T N τ (nnegate c) = of_truth (τ c) (has truth)
type_by J T N τ (ncomp m cs h) = comp_type m (behind_quals J N τ m cs (τ h))
type_by J T N τ (ntable k) = table_type T k
type_by J T N τ (ngen c) = ranges (λ a. true) (τ c) (λ u. has u)
type_by J T N τ (nbind c) = τ c
type_by J T N τ (ncond c) = of_truth (τ c) (has truth)
type_by J T N τ nbad = wrong

-- the type of node i, where at most f steps back are gone
unfoldable pub type_up_to : StandsRule → Tables → Nodes → ℕ → ℕ → Typed
type_up_to J T N zero i = wrong
type_up_to J T N (suc f) i = type_by J T N (λ j. type_up_to J T N f j) (N i)

unfoldable pub node_type : StandsRule → Tables → Nodes → ℕ → Typed
node_type J T N i = type_up_to J T N (suc i) i
