-- What reading a node answers: the node of the table, its lists of children left out.
use Rattle.std.specs.Prelude.{◌≡◌, Option, Some, None, List, [], ◌∷◌, ℕ, zero, suc, ◌^◌, ◌<◌, ltb}
use Rattle.std.specs.Int.Signed.{mag}
use Rattle.spec_calculus.specs.Lists.{pick}
use Rattle.spec_encoding.specs.Reader as Re
use Rattle.base_syntax.specs.MonoidWord.{monoid_of}
use Rattle.base_syntax.specs.Numbers.{bin_of, fun_of}
use Rattle.front_theory.specs.NodeTable as No
use Rattle.front_nodes.specs.declared.Kind.{Kind}
use Rattle.front_nodes.specs.declared.Kind.TheVariants as Ki
use Rattle.front_nodes.specs.declared.QueryNode.{QueryNode}
use Rattle.front_nodes.specs.declared.QueryNode.TheVariants.{Number, Truth, Name, Field, Record, Two, Not, Comp, Table, Gen, Bind, Cond, Operator, Bad}
use Rattle.front_nodes.specs.declared.Binder.{Binder}
use Rattle.front_nodes.specs.declared.Binder.TheVariants as Bi
use Rattle.front_nodes.specs.NodeTable.{children_of, qualifiers_of, name_by, nodes_of}

-- the kind that each case is
abbrev pub kind_named : Kind → Re.Kind
kind_named Ki.Number = Re.number
kind_named Ki.Truth = Re.truth_k
kind_named Ki.Name = Re.name_k
kind_named Ki.Field = Re.field_k
kind_named Ki.Record = Re.record'
kind_named (Ki.Two o) = Re.two_terms (bin_of o)
kind_named Ki.Not = Re.not
kind_named Ki.Comp = Re.comprehension
kind_named Ki.Table = Re.table_k
kind_named Ki.Gen = Re.generator
kind_named Ki.Bind = Re.binding
kind_named Ki.Cond = Re.condition
kind_named Ki.Choice = Re.choice_k
kind_named Ki.Open = Re.open_k
kind_named Ki.Unknown = Re.unknown

-- the node that each case is, at i
abbrev pub node_named : List ℕ → ℕ → QueryNode → No.Node
node_named s i (Number z) = No.nnum z
node_named s i (Truth b) = No.ntruth b
node_named s i (Name x d) = No.nname x d
node_named s i (Field k c) = No.nfield k c
node_named s i Record = No.nrec (children_of s i)
node_named s i (Two o a b) = No.nbin (bin_of o) a b
node_named s i (Not c) = No.nnegate c
node_named s i (Comp m h) = No.ncomp (monoid_of m) (qualifiers_of s i) h
node_named s i (Table k) = No.ntable k
node_named s i (Gen c) = No.ngen c
node_named s i (Bind c) = No.nbind c
node_named s i (Cond c) = No.ncond c
node_named s i (Operator f) = No.napp (fun_of f) (children_of s i)
node_named s i Bad = No.nbad

-- an argument has 33 bits, a depth 6
abbrev pub SmallNode : QueryNode → Type 0
SmallNode (Number z) = mag z < 2 ^ 33
SmallNode (Truth b) = Unit {0}
SmallNode (Name x d) = d < 64
SmallNode (Field k c) = k < 2 ^ 33
SmallNode Record = Unit {0}
SmallNode (Two o a b) = Unit {0}
SmallNode (Not c) = Unit {0}
SmallNode (Comp m h) = Unit {0}
SmallNode (Table k) = k < 2 ^ 33
SmallNode (Gen c) = Unit {0}
SmallNode (Bind c) = Unit {0}
SmallNode (Cond c) = Unit {0}
SmallNode (Operator f) = Unit {0}
SmallNode Bad = Unit {0}

pub record LookPost (s : List ℕ) (i : ℕ) (r : QueryNode) : Type 0 where
  pub is : nodes_of s i ≡ node_named s i r
  pub small : SmallNode r

-- the name at node i whose binder's word is w
pub record NamedPost (s : List ℕ) (i w : ℕ) (r : QueryNode) : Type 0 where
  pub is : name_by s i w ≡ node_named s i r
  pub small : SmallNode r

-- a node that has a child
pub record RaisedPost (i : ℕ) (n r : QueryNode) : Type 0 where
  pub is : r ≡ pick (ltb 0 i) n Bad

-- element k
unfoldable pub nth : ℕ → List ℕ → Option ℕ
nth k [] = None
nth zero (c ∷ cs) = Some c
nth (suc k) (c ∷ cs) = nth k cs

abbrev pub Before : ℕ → Option ℕ → Type 0
Before i (Some c) = c < i
Before i None = Unit {0}

-- term k of the record or operator at node i
pub record ChildPost (s : List ℕ) (i k : ℕ) (r : Option ℕ) : Type 0 where
  pub is : r ≡ nth k (children_of s i)
  pub before : Before i r

-- what binds no name
abbrev pub Unbinding : No.Node → Type 0
Unbinding (No.nnum z) = Unit {0}
Unbinding (No.ntruth b) = Unit {0}
Unbinding (No.nname x d) = Unit {0}
Unbinding (No.nfield k c) = Unit {0}
Unbinding (No.nrec cs) = Unit {0}
Unbinding (No.nbin o a b) = Unit {0}
Unbinding (No.nnegate c) = Unit {0}
Unbinding (No.ncomp m cs h) = Unit {0}
Unbinding (No.ntable k) = Unit {0}
Unbinding (No.ngen c) = ⊥
Unbinding (No.nbind c) = ⊥
Unbinding (No.ncond c) = Unit {0}
Unbinding (No.napp f cs) = Unit {0}
Unbinding No.nbad = Unit {0}

-- what node x binds a name to
abbrev pub Bound : List ℕ → ℕ → Binder → Type 0
Bound s x (Bi.Gen c) = (nodes_of s x ≡ No.ngen c) × (c < x)
Bound s x (Bi.Bind c) = (nodes_of s x ≡ No.nbind c) × (c < x)
Bound s x Bi.Other = Unbinding (nodes_of s x)

pub record BoundByPost (s : List ℕ) (x : ℕ) (r : Binder) : Type 0 where
  pub is : Bound s x r
