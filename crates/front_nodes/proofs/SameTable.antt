-- The table is that of the nodes' and the binders' words: where these are the same, so is the table.
use mathlib.Core.Path.{◌≡◌, refl, ap, ap₂, fun_ext, ◌∙◌}
use mathlib.Core.List.{List, [], ◌∷◌, ◌++◌}
use mathlib.Core.Bool.{Bool, true, false}
use Prim.Native.Nat.{ℕ, zero, suc, ◌+◌, ◌-◌, ◌<◌, ◌≤◌, min}
use native.Mathlib.Omega.{arith}
use lib.Dec.{leb, ltb, eqb}
use lib.ListN.{get_or, set}
use lib.Seq.{get_or-set_other}
use borrow.Author.Tests.{ltb-true, leb-true}
use Rattle.spec_calculus.specs.Lists.{pick}
use Rattle.spec_calculus.specs.Syntax.{choice}
use Rattle.spec_calculus.specs.Lending.{unlent}
use Rattle.spec_encoding.specs.Reader.{Kind, kinds, unknown, number, truth_k, name_k, field_k, record', not, table_k, comprehension, generator, binding, condition, choice_k, open_k, two_terms}
use Rattle.base_scratch.specs.Map.{nodes_at, binders_at, shapes_at, most_nodes}
use Rattle.front_words.specs.NodeWord.{node_kind_of, arg_of, start_of, depth_of, node_word}
use Rattle.front_words.specs.NodeTree.{monoid_at, kind_at, arg_at, start_at}
use Rattle.base_syntax.specs.Numbers.{constant_of}
use Rattle.front_theory.specs.NodeTable.{Node, nnum, ntruth, nname, nfield, nrec, nbin, napp, ncomp, ntable, nbad}
use Rattle.front_words.specs.Binders.{binder_word}
use Rattle.front_nodes.specs.NodeTable.{depth_at, count_of, count_at, siblings, children_of, chain_upto, qualifiers_of, above, name_by, node_by, nodes_of}

-- a test's two sides
pick_same : {A : Type 0} (b : Bool) (y : A) {x x' : A} → (b ≡ true → x ≡ x') → pick b x y ≡ pick b x' y
unfolding pick
pick_same true y h = h refl
pick_same false y h = refl

module _ (s s' : List ℕ) (words : (j : ℕ) → j < most_nodes → node_word s' j ≡ node_word s j) (bound : (x : ℕ) → x < most_nodes → get_or s' (binders_at + x) 0 ≡ get_or s (binders_at + x) 0) where
  arg-same : (i : ℕ) → i < most_nodes → arg_at s' i ≡ arg_at s i
  arg-same i h = ap arg_of (words i h)

  pub start-same : (i : ℕ) → i < most_nodes → start_at s' i ≡ start_at s i
  start-same i h = ap (λ (w : ℕ). min (start_of w) i) (words i h)

  pub depth_same : (i : ℕ) → i < most_nodes → depth_at s' i ≡ depth_at s i
  depth_same i h = ap depth_of (words i h)

  siblings-same : (n e : ℕ) (cs : List ℕ) → e ≤ most_nodes → siblings s' n e cs ≡ siblings s n e cs
  unfolding siblings
  siblings-same zero e cs h = refl
  siblings-same (suc n) e cs h =
      ap (λ (b : ℕ). siblings s' n b ((e - 1) ∷ cs)) (start-same (e - 1) (omega arith)) ∙ siblings-same n (start_at s (e - 1)) ((e - 1) ∷ cs) (omega arith)

  chain_same : (f lo e : ℕ) → e ≤ most_nodes → chain_upto f s' lo e ≡ chain_upto f s lo e
  unfolding chain_upto
  chain_same zero lo e h = refl
  chain_same (suc f) lo e h =
      ap (λ (l : List ℕ). pick (leb e lo) [] (l ++ ((e - 1) ∷ [])))
      (ap (chain_upto f s' lo) (start-same (e - 1) (omega arith)) ∙ chain_same f lo (start_at s (e - 1)) (omega arith))

  kind-same : (i : ℕ) → i < most_nodes → kind_at s' i ≡ kind_at s i
  kind-same i h = ap (λ (w : ℕ). get_or kinds (node_kind_of w) unknown) (words i h)

  pub children-same : (i : ℕ) → i < most_nodes → children_of s' i ≡ children_of s i
  children-same i h = ap (λ (l : List ℕ). pick (ltb 0 i) l []) (ap (λ (n : ℕ). siblings s' n i []) (ap₂ count_of (kind-same i h) (arg-same i h)) ∙ siblings-same (count_at s i) i [] (omega arith))

  pub qualifiers-same : (i : ℕ) → i < most_nodes → qualifiers_of s' i ≡ qualifiers_of s i
  qualifiers-same i h =
      ap₂ (λ (lo e : ℕ). chain_upto e s' lo e) (start-same i h) (start-same (i - 1) (omega arith)) ∙ chain_same (start_at s (i - 1)) (start_at s i) (start_at s (i - 1)) (omega arith)

  binder-same : (x : ℕ) → binder_word s' x ≡ binder_word s x
  unfolding binder_word
  binder-same x = pick_same (ltb x most_nodes) 0 (λ t. bound x (ltb-true x most_nodes t))

  name-same : (i w : ℕ) → i < most_nodes → name_by s' i w ≡ name_by s i w
  unfolding name_by
  name-same i w h =
      ap (λ (n : Node). pick (ltb 0 w) n nbad)
      (pick_same (leb w i) nbad (λ t. ap (λ (d : ℕ). pick (ltb 0 d) (nname (w - 1) (d - 1)) nbad) (depth_same (w - 1) (omega (arith, leb-true w i t)))))

  node-same : (i : ℕ) → i < most_nodes → (K : Kind) → node_by s' i K ≡ node_by s i K
  node-same i h number = ap (λ (a : ℕ). nnum (constant_of a)) (arg-same i h)
  node-same i h truth_k = ap (λ (a : ℕ). ntruth (eqb a 1)) (arg-same i h)
  node-same i h name_k = ap (λ (a : ℕ). name_by s' i (binder_word s' a)) (arg-same i h) ∙ ap (name_by s' i) (binder-same (arg_at s i)) ∙ name-same i (binder_word s (arg_at s i)) h
  node-same i h field_k = ap (λ (a : ℕ). above i (nfield a (i - 1))) (arg-same i h)
  node-same i h record' = ap nrec (children-same i h)
  node-same i h choice_k = ap (napp choice) (children-same i h)
  node-same i h open_k = ap₂ (λ (n : ℕ) (cs : List ℕ). napp (unlent n) cs) (arg-same i h) (children-same i h)
  node-same i h (two_terms o) = ap (λ (b : ℕ). above i (nbin o (b - 1) (i - 1))) (start-same (i - 1) (omega arith))
  node-same i h not = refl
  node-same i h comprehension = ap₂ (λ (a : ℕ) (l : List ℕ). above i (ncomp (monoid_at a) l (i - 1))) (arg-same i h) (qualifiers-same i h)
  node-same i h table_k = ap ntable (arg-same i h)
  node-same i h generator = refl
  node-same i h binding = refl
  node-same i h condition = refl
  node-same i h unknown = refl

  pub nodes-same : nodes_of s' ≡ nodes_of s
  unfolding nodes_of
  nodes-same = fun_ext λ i. pick_same (ltb i most_nodes) nbad (λ t.
      let h = ltb-true i most_nodes t in
      ap (λ (w : ℕ). node_by s' i (get_or kinds (node_kind_of w) unknown)) (words i h) ∙ node-same i h (kind_at s i))

-- A store behind these words leaves the table as it is.
pub nodes-set : (s : List ℕ) (p w : ℕ) → shapes_at ≤ p → nodes_of (set s p w) ≡ nodes_of s
nodes-set s p w h =
    nodes-same s (set s p w) (λ j l. get_or-set_other s p (nodes_at + j) w 0 (λ e. omega arith)) (λ x l. get_or-set_other s p (binders_at + x) w 0 (λ e. omega arith))
