-- What a nest makes of a stream that has grown from rows whose neighbours differ.
use mathlib.Core.Path.{◌≡◌, refl, sym, ap, ◌∙◌}
use mathlib.Core.List.{List, [], ◌∷◌, ◌++◌, map, append-nil}
use mathlib.Core.Bool.{false}
use Prim.Native.Nat.{ℕ}
use lib.ListN.{take}
use Rattle.spec_calculus.specs.Lists.{bind_l, guard, pick}
use Rattle.spec_calculus.specs.Syntax.{Monoid}
use Rattle.spec_calculus.specs.Value.{Value}
use Rattle.spec_calculus.specs.Monoid.{Fold}
use Rattle.spec_calculus.proofs.Lists.{map-map, All, Some}
use Rattle.spec_plan.specs.Plan.{PTerm}
use Rattle.spec_plan.specs.Operators.{val, Row, Stream, whole, same, Group, group, enter, heads, groups, close}
use Rattle.spec_plan.proofs.StreamRows.{same_self, Front, Differ}

enter-same : (r : Row) (vs ws : List Value) (l : List Group) → enter r vs (group r ws ∷ l) ≡ group r (vs ++ ws) ∷ l
unfolding enter pick
enter-same r vs ws l = ap (λ b. pick b (group r (vs ++ ws) ∷ l) (group r vs ∷ group r ws ∷ l)) (same_self r)

enter-other : (r s : Row) (vs ws : List Value) (l : List Group) → same r s ≡ false → enter r vs (group s ws ∷ l) ≡ group r vs ∷ group s ws ∷ l
unfolding enter pick
enter-other r s vs ws l e = ap (λ b. pick b (group r (vs ++ ws) ∷ l) (group r vs ∷ group s ws ∷ l)) e

module _ (k : ℕ) (h c : PTerm) where
  abbrev give : Row → List Value
  give u = guard (whole u) (heads h c u)

  group-one : (r u : Row) (rest : Stream) → take k u ≡ r → groups k h c (u ∷ rest) ≡ enter r (give u) (groups k h c rest)
  unfolding groups
  group-one r u rest e = ap (λ x. enter x (give u) (groups k h c rest)) e

  -- the rows grown from one row are one group, whatever comes behind them
  group-all : (r : Row) (l rest : Stream) → Some l → All (λ u. take k u ≡ r) l → ((vs : List Value) → enter r vs (groups k h c rest) ≡ group r vs ∷ groups k h c rest) → groups k h c (l ++ rest) ≡ group r (bind_l l give) ∷ groups k h c rest
  unfolding bind_l
  group-all r [] rest n a f = absurd n
  group-all r (u ∷ []) rest n a f = group-one r u rest a.0 ∙ f (give u) ∙ ap (λ vs. group r vs ∷ groups k h c rest) (sym (append-nil (give u)))
  group-all r (u ∷ (w ∷ l)) rest n a f = group-one r u ((w ∷ l) ++ rest) a.0 ∙ ap (enter r (give u)) (group-all r (w ∷ l) rest tt a.1 f) ∙ enter-same r (give u) (bind_l (w ∷ l) give) (groups k h c rest)

  module _ (f : Row → Stream) where
    abbrev made : Row → Group
    made r = group r (bind_l (f r) give)

    fresh : (r : Row) (s : Stream) → Front r s → (vs : List Value) → enter r vs (map made s) ≡ group r vs ∷ map made s
    unfolding enter
    fresh r [] a vs = refl
    fresh r (u ∷ s) a vs = enter-other r u vs (bind_l (f u) give) (map made s) a

    groups-all : (s : Stream) → Differ s → All (λ r. Some (f r) × All (λ u. take k u ≡ r) (f r)) s → groups k h c (bind_l s f) ≡ map made s
    unfolding bind_l groups
    groups-all [] a g = refl
    groups-all (r ∷ s) a g = group-all r (f r) (bind_l s f) g.0.0 g.0.1 (λ vs. ap (enter r vs) (groups-all s a.1 g.1) ∙ fresh r s a.0 vs ∙ ap (λ l. group r vs ∷ l) (sym (groups-all s a.1 g.1)))
        ∙ ap (λ l. made r ∷ l) (groups-all s a.1 g.1)

    -- A nest over what any f has grown from rows whose neighbours differ gives each row once, in order, with the monoid
    -- over the heads of what has grown from it.
    pub nest-all : (F : Fold) (m : Monoid) (s : Stream) → Differ s → All (λ r. Some (f r) × All (λ u. take k u ≡ r) (f r)) s
        → map (close F m) (groups k h c (bind_l s f)) ≡ map (λ r. r ++ val (F m (bind_l (f r) give)) ∷ []) s
    unfolding close
    nest-all F m s a g = ap (map (close F m)) (groups-all s a g) ∙ map-map s made (close F m)
