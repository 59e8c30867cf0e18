-- A question kept as nodes in post-order: a node's children, and the qualifier that binds a name, stand before it.
use Rattle.std.specs.Prelude.{List, [], ◌∷◌, Bool, ℕ, ◌<◌, ℤ}
use Rattle.spec_calculus.specs.Syntax.{Monoid, Bin, Fun}

-- a decoded node; its children are node numbers
pub data Node : Type 0 where
  nnum : ℤ → Node
  ntruth : Bool → Node
  nname : ℕ → ℕ → Node  -- the qualifier that binds it, and the depth of that qualifier's comprehension
  nfield : ℕ → ℕ → Node
  nrec : List ℕ → Node
  nbin : Bin → ℕ → ℕ → Node
  nnegate : ℕ → Node
  napp : Fun → List ℕ → Node
  ncomp : Monoid → List ℕ → ℕ → Node  -- its qualifiers in order, and its head
  ntable : ℕ → Node
  ngen : ℕ → Node
  nbind : ℕ → Node
  ncond : ℕ → Node
  nbad : Node  -- what is no node

-- the node of each number
abbrev pub Nodes : Type 0
Nodes = ℕ → Node

-- all of these stand before node i
unfoldable pub Below : ℕ → List ℕ → Type 0
Below i [] = Unit {0}
Below i (c ∷ cs) = (c < i) × Below i cs

-- what node i refers to stands before it
abbrev pub Inside : ℕ → Node → Type 0
Inside i (nnum z) = Unit {0}
Inside i (ntruth b) = Unit {0}
Inside i (nname x d) = x < i
Inside i (nfield k c) = c < i
Inside i (nrec cs) = Below i cs
Inside i (napp f cs) = Below i cs
Inside i (nbin o a b) = (a < i) × (b < i)
Inside i (nnegate c) = c < i
Inside i (ncomp m cs h) = Below i cs × (h < i)
Inside i (ntable k) = Unit {0}
Inside i (ngen c) = c < i
Inside i (nbind c) = c < i
Inside i (ncond c) = c < i
Inside i nbad = Unit {0}

-- all that is asked of a node table
abbrev pub PostOrder : Nodes → Type 0
PostOrder N = (i : ℕ) → Inside i (N i)

-- the qualifiers of a comprehension; other nodes have none
abbrev pub qualifiers : Node → List ℕ
qualifiers (nnum z) = []
qualifiers (ntruth b) = []
qualifiers (nname x d) = []
qualifiers (nfield k c) = []
qualifiers (nrec cs) = []
qualifiers (napp f cs) = []
qualifiers (nbin o a b) = []
qualifiers (nnegate c) = []
qualifiers (ncomp m cs h) = cs
qualifiers (ntable k) = []
qualifiers (ngen c) = []
qualifiers (nbind c) = []
qualifiers (ncond c) = []
qualifiers nbad = []
