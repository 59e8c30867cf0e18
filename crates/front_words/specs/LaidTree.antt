-- How a tree lies in the node words: its children one behind the other, then the node itself. `nodes` counts its nodes,
-- so a tree that begins at node a ends at node a + nodes t - 1, which is its own node.
use Rattle.std.specs.Prelude.{◌≡◌, List, [], ℕ, suc, ◌+◌, ◌≤◌}
use Rattle.spec_calculus.specs.Lists.{pick}
use Rattle.spec_calculus.specs.Syntax.{Fun, choice, is_open, Term, Terms, Quals, num, truth, name, field, rec, bin, negate, app, comp, table, tnil, tcons, qnil, gen, bind, cond}
use Rattle.spec_encoding.specs.Reader.{Kind, number, truth_k, name_k, field_k, record', not, table_k, comprehension, generator, binding, condition, choice_k, open_k, two_terms}
use Rattle.front_words.specs.NodeWord.{start_of, depth_of, node_word}
use Rattle.front_words.specs.NodeTree.{monoid_at, kind_at, arg_at}
use Rattle.base_syntax.specs.Numbers.{constant_of}

-- every term, comprehension and qualifier is a node
unfoldable mutual
  pub nodes : Term → ℕ
  nodes (num z) = 1
  nodes (truth b) = 1
  nodes (name x) = 1
  nodes (field i t) = nodes t + 1
  nodes (rec ts) = nodes_l ts + 1
  nodes (app f ts) = nodes_l ts + 1
  nodes (bin o t u) = nodes t + nodes u + 1
  nodes (negate t) = nodes t + 1
  nodes (comp m qs h) = nodes_q qs + nodes h + 1
  nodes (table k) = 1

  pub nodes_l : Terms → ℕ
  nodes_l tnil = 0
  nodes_l (tcons t ts) = nodes t + nodes_l ts

  pub nodes_q : Quals → ℕ
  nodes_q qnil = 0
  nodes_q (gen x t qs) = nodes t + 1 + nodes_q qs
  nodes_q (bind x t qs) = nodes t + 1 + nodes_q qs
  nodes_q (cond t qs) = nodes t + 1 + nodes_q qs

unfoldable pub count_l : Terms → ℕ
count_l tnil = 0
count_l (tcons t ts) = suc (count_l ts)

-- the kind of each of document 02's operators
abbrev pub operator : Fun → Kind
operator choice = choice_k
operator (is_open n c) = open_k

-- the argument of its node: how many terms it has, or its calendar's number
abbrev pub argued : Fun → Terms → ℕ
argued choice ts = count_l ts
argued (is_open n c) ts = n

-- as it is read: of one term, calendars being lent to a question later
abbrev pub AsRead : Fun → Terms → Type 0
AsRead choice ts = Unit {0}
AsRead (is_open n c) ts = (c ≡ []) × (count_l ts ≡ 1)

-- node i: its kind, the first node of its subtree, and how many comprehensions are around it
pub record LaidNode (s : List ℕ) (d a i : ℕ) (K : Kind) : Type 0 where
  pub kind : kind_at s i ≡ K
  pub start : start_of (node_word s i) ≡ a
  pub depth : depth_of (node_word s i) ≡ d

-- The nodes from a on are those of a tree that d comprehensions are around: its depth. The question has depth 0, the
-- qualifiers and the head of a comprehension one more than it.
abbrev mutual
  pub Laid : List ℕ → ℕ → ℕ → Term → Type 0
  Laid s d a (num z) = LaidNode s d a a number × (constant_of (arg_at s a) ≡ z)
  Laid s d a (truth b) = LaidNode s d a a truth_k × (arg_at s a ≡ pick b 1 0)
  Laid s d a (name x) = LaidNode s d a a name_k × (arg_at s a ≡ x)
  Laid s d a (field i t) = Laid s d a t × LaidNode s d a (a + nodes t) field_k × (arg_at s (a + nodes t) ≡ i)
  Laid s d a (rec ts) = LaidL s d a ts × LaidNode s d a (a + nodes_l ts) record' × (arg_at s (a + nodes_l ts) ≡ count_l ts)
  Laid s d a (app f ts) = LaidL s d a ts × LaidNode s d a (a + nodes_l ts) (operator f) × (arg_at s (a + nodes_l ts) ≡ argued f ts) × AsRead f ts
  Laid s d a (bin o t u) = Laid s d a t × Laid s d (a + nodes t) u × LaidNode s d a (a + nodes t + nodes u) (two_terms o)
  Laid s d a (negate t) = Laid s d a t × LaidNode s d a (a + nodes t) not
  Laid s d a (comp m qs h) =
      LaidQ s (d + 1) a qs × Laid s (d + 1) (a + nodes_q qs) h × LaidNode s d a (a + nodes_q qs + nodes h) comprehension ×
      (monoid_at (arg_at s (a + nodes_q qs + nodes h)) ≡ m) × (1 ≤ arg_at s (a + nodes_q qs + nodes h)) × (arg_at s (a + nodes_q qs + nodes h) ≤ 8)
  Laid s d a (table k) = LaidNode s d a a table_k × (arg_at s a ≡ k)

  pub LaidL : List ℕ → ℕ → ℕ → Terms → Type 0
  LaidL s d a tnil = Unit {0}
  LaidL s d a (tcons t ts) = Laid s d a t × LaidL s d (a + nodes t) ts

  pub LaidQ : List ℕ → ℕ → ℕ → Quals → Type 0
  LaidQ s d a qnil = Unit {0}
  LaidQ s d a (gen x t qs) = Laid s d a t × LaidNode s d a (a + nodes t) generator × (arg_at s (a + nodes t) ≡ x) × LaidQ s d (a + nodes t + 1) qs
  LaidQ s d a (bind x t qs) = Laid s d a t × LaidNode s d a (a + nodes t) binding × (arg_at s (a + nodes t) ≡ x) × LaidQ s d (a + nodes t + 1) qs
  LaidQ s d a (cond t qs) = Laid s d a t × LaidNode s d a (a + nodes t) condition × LaidQ s d (a + nodes t + 1) qs
