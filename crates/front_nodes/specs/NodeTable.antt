-- The node table that the words in scratch stand for. Nodes stand in post-order: a node's last child is the node before it,
-- and the child before a child c ends where c's subtree begins. Every scratch is read as some table, and in every one each
-- node refers to nodes before it alone (proofs/PostOrder). `e` is the place behind a node.
use Rattle.std.specs.Prelude.{List, [], ◌∷◌, ◌++◌, ℕ, zero, suc, ◌-◌, leb, ltb, eqb}
use Rattle.spec_calculus.specs.Lists.{pick}
use Rattle.spec_calculus.specs.Syntax.{choice}
use Rattle.spec_calculus.specs.Lending.{unlent}
use Rattle.spec_encoding.specs.Reader.{Kind, unknown, number, truth_k, name_k, field_k, record', not, table_k, comprehension, generator, binding, condition, choice_k, open_k, two_terms}
use Rattle.base_scratch.specs.Map.{most_nodes}
use Rattle.front_words.specs.Binders.{binder_word}
use Rattle.front_words.specs.NodeWord.{depth_of, node_word}
use Rattle.front_words.specs.NodeTree.{monoid_at, kind_at, arg_at, start_at}
use Rattle.base_syntax.specs.Numbers.{constant_of}
use Rattle.front_theory.specs.NodeTable.{Node, Nodes, nnum, ntruth, nname, nfield, nrec, nbin, nnegate, napp, ncomp, ntable, ngen, nbind, ncond, nbad}

-- how many comprehensions are around node i
abbrev pub depth_at : List ℕ → ℕ → ℕ
depth_at s i = depth_of (node_word s i)

-- the n nodes one behind the other that end at e, in front of cs
unfoldable pub siblings : List ℕ → ℕ → ℕ → List ℕ → List ℕ
siblings s zero e cs = cs
siblings s (suc n) e cs = siblings s n (start_at s (e - 1)) ((e - 1) ∷ cs)

-- how many terms a node of a kind has, by its argument: a record or a choice says it; that of kind 21 is its calendar's number, and it has one
abbrev pub count_of : Kind → ℕ → ℕ
count_of open_k a = 1
count_of number a = a
count_of truth_k a = a
count_of name_k a = a
count_of field_k a = a
count_of record' a = a
count_of choice_k a = a
count_of (two_terms o) a = a
count_of not a = a
count_of comprehension a = a
count_of table_k a = a
count_of generator a = a
count_of binding a = a
count_of condition a = a
count_of unknown a = a

abbrev pub count_at : List ℕ → ℕ → ℕ
count_at s i = count_of (kind_at s i) (arg_at s i)

-- the terms of the record or operator at node i
abbrev pub children_of : List ℕ → ℕ → List ℕ
children_of s i = pick (ltb 0 i) (siblings s (count_at s i) i []) []

-- the qualifiers between lo and e, where at most f steps back are gone
unfoldable pub chain_upto : ℕ → List ℕ → ℕ → ℕ → List ℕ
chain_upto zero s lo e = []
chain_upto (suc f) s lo e = pick (leb e lo) [] (chain_upto f s lo (start_at s (e - 1)) ++ ((e - 1) ∷ []))

-- each step goes back by one node at least, so e steps are enough
abbrev pub chain : List ℕ → ℕ → ℕ → List ℕ
chain s lo e = chain_upto e s lo e

-- the qualifiers of the comprehension at node i: from its first node on, up to its head's subtree
abbrev pub qualifiers_of : List ℕ → ℕ → List ℕ
qualifiers_of s i = chain s (start_at s i) (start_at s (i - 1))

-- a node that has a child: there is one before it
unfoldable pub above : ℕ → Node → Node
above i n = pick (ltb 0 i) n nbad

-- a name by the word of its binder: the binder stands before it and in a comprehension
unfoldable pub name_by : List ℕ → ℕ → ℕ → Node
name_by s i w = pick (ltb 0 w) (pick (leb w i) (pick (ltb 0 (depth_at s (w - 1))) (nname (w - 1) (depth_at s (w - 1) - 1)) nbad) nbad) nbad

-- a node by its kind
abbrev pub node_by : List ℕ → ℕ → Kind → Node
node_by s i number = nnum (constant_of (arg_at s i))
node_by s i truth_k = ntruth (eqb (arg_at s i) 1)
node_by s i name_k = name_by s i (binder_word s (arg_at s i))
node_by s i field_k = above i (nfield (arg_at s i) (i - 1))
node_by s i record' = nrec (children_of s i)
node_by s i choice_k = napp choice (children_of s i)
node_by s i open_k = napp (unlent (arg_at s i)) (children_of s i)
node_by s i (two_terms o) = above i (nbin o (start_at s (i - 1) - 1) (i - 1))
node_by s i not = above i (nnegate (i - 1))
node_by s i comprehension = above i (ncomp (monoid_at (arg_at s i)) (qualifiers_of s i) (i - 1))
node_by s i table_k = ntable (arg_at s i)
node_by s i generator = above i (ngen (i - 1))
node_by s i binding = above i (nbind (i - 1))
node_by s i condition = above i (ncond (i - 1))
node_by s i unknown = nbad

unfoldable pub nodes_of : List ℕ → Nodes
nodes_of s i = pick (ltb i most_nodes) (node_by s i (kind_at s i)) nbad
