-- Whatever the scratch holds, a node's children and the binder of a name stand before it.
use mathlib.Core.Path.{◌≡◌, refl}
use mathlib.Core.List.{List, [], ◌∷◌, ◌++◌}
use mathlib.Core.Bool.{Bool, true, false}
use Prim.Native.Nat.{ℕ, zero, suc, ◌-◌, ◌<◌, ◌≤◌}
use native.Mathlib.Omega.{arith}
use lib.Dec.{leb, ltb}
use borrow.Author.Tests.{ltb-true, leb-true, leb-false}
use Rattle.spec_calculus.specs.Lists.{pick}
use Rattle.spec_encoding.specs.Reader.{Kind, unknown, number, truth_k, name_k, field_k, record', not, table_k, comprehension, generator, binding, condition, choice_k, open_k, two_terms}
use Rattle.front_words.specs.NodeTree.{monoid_at, kind_at, arg_at, start_at}
use Rattle.front_theory.specs.NodeTable.{Node, nname, nfield, nbin, nnegate, ncomp, ngen, nbind, ncond, nbad, Below, Inside, PostOrder}
use Rattle.base_scratch.specs.Map.{most_nodes}
use Rattle.front_nodes.specs.NodeTable.{depth_at, count_at, siblings, children_of, chain_upto, qualifiers_of, above, name_by, node_by, nodes_of}

-- what holds where the test does, and where it does not
pub by-pick : {A : Type 0} (P : A → Type 0) (b : Bool) (x y : A) → (b ≡ true → P x) → (b ≡ false → P y) → P (pick b x y)
unfolding pick
by-pick P true x y p q = p refl
by-pick P false x y p q = q refl

below-siblings : (s : List ℕ) (i n e : ℕ) (cs : List ℕ) → 0 < i → e ≤ i → Below i cs → Below i (siblings s n e cs)
unfolding siblings Below
below-siblings s i zero e cs p q b = b
below-siblings s i (suc n) e cs p q b = below-siblings s i n (start_at s (e - 1)) ((e - 1) ∷ cs) p (omega arith) (omega arith, b)

below-append : (i : ℕ) (cs ds : List ℕ) → Below i cs → Below i ds → Below i (cs ++ ds)
unfolding Below
below-append i [] ds a b = b
below-append i (c ∷ cs) ds a b = (a.0, below-append i cs ds a.1 b)

below_chain : (s : List ℕ) (i f lo e : ℕ) → e ≤ i → Below i (chain_upto f s lo e)
unfolding chain_upto Below
below_chain s i zero lo e q = tt
below_chain s i (suc f) lo e q =
    by-pick (Below i) (leb e lo) [] (chain_upto f s lo (start_at s (e - 1)) ++ ((e - 1) ∷ [])) (λ t. tt)
    (λ t. below-append i (chain_upto f s lo (start_at s (e - 1))) ((e - 1) ∷ []) (below_chain s i f lo (start_at s (e - 1)) (omega arith)) (omega (arith, leb-false e lo t), tt))

pub below-children : (s : List ℕ) (i : ℕ) → Below i (children_of s i)
unfolding Below
below-children s i =
    by-pick (Below i) (ltb 0 i) (siblings s (count_at s i) i []) [] (λ t. below-siblings s i (count_at s i) i [] (ltb-true 0 i t) (omega arith) tt) (λ t. tt)

inside-above : (i : ℕ) (n : Node) → (0 < i → Inside i n) → Inside i (above i n)
unfolding above
inside-above i n h = by-pick (Inside i) (ltb 0 i) n nbad (λ t. h (ltb-true 0 i t)) (λ t. tt)

inside-name : (s : List ℕ) (i w : ℕ) → Inside i (name_by s i w)
unfolding name_by
inside-name s i w =
    let d = depth_at s (w - 1) in
    let y = nname (w - 1) (d - 1) in
    by-pick (Inside i) (ltb 0 w) (pick (leb w i) (pick (ltb 0 d) y nbad) nbad) nbad
    (λ a. by-pick (Inside i) (leb w i) (pick (ltb 0 d) y nbad) nbad
    (λ b. by-pick (Inside i) (ltb 0 d) y nbad (λ c. omega (arith, ltb-true 0 w a, leb-true w i b)) (λ c. tt))
    (λ b. tt))
    (λ a. tt)

inside-kind : (s : List ℕ) (i : ℕ) (K : Kind) → Inside i (node_by s i K)
inside-kind s i number = tt
inside-kind s i truth_k = tt
inside-kind s i name_k = inside-name s i _
inside-kind s i field_k = inside-above i (nfield (arg_at s i) (i - 1)) (λ p. omega arith)
inside-kind s i record' = below-children s i
inside-kind s i choice_k = below-children s i
inside-kind s i open_k = below-children s i
inside-kind s i (two_terms o) = inside-above i (nbin o (start_at s (i - 1) - 1) (i - 1)) (λ p. (omega arith, omega arith))
inside-kind s i not = inside-above i (nnegate (i - 1)) (λ p. omega arith)
inside-kind s i comprehension =
    inside-above i (ncomp (monoid_at (arg_at s i)) (qualifiers_of s i) (i - 1)) (λ p. (below_chain s i (start_at s (i - 1)) (start_at s i) (start_at s (i - 1)) (omega arith), omega arith))
inside-kind s i table_k = tt
inside-kind s i generator = inside-above i (ngen (i - 1)) (λ p. omega arith)
inside-kind s i binding = inside-above i (nbind (i - 1)) (λ p. omega arith)
inside-kind s i condition = inside-above i (ncond (i - 1)) (λ p. omega arith)
inside-kind s i unknown = tt

pub post-order : (s : List ℕ) → PostOrder (nodes_of s)
unfolding nodes_of
post-order s i = by-pick (Inside i) (ltb i most_nodes) (node_by s i (kind_at s i)) nbad (λ t. inside-kind s i (kind_at s i)) (λ t. tt)
