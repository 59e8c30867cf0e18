-- The scratch words that a reader may change, and the node that it puts.
use Rattle.std.specs.Prelude.{◌≡◌, List, ℕ, ◌+◌, ◌≤◌, ◌<◌, length, get_or, set}
use Rattle.spec_encoding.specs.Reader.{kinds, unknown}
use Rattle.base_scratch.specs.Map.{nodes_at, scratch_size}
use Rattle.front_words.specs.NodeWord.{pack}
use Rattle.front_words.specs.NodeTree.{arg_at}
use Rattle.front_words.specs.LaidTree.{LaidNode}
use Rattle.front_parser.specs.declared.ParseState.{ParseState}

-- only the words of nodes a to 255 may differ
pub record NodesKept (a : ℕ) (s s' : List ℕ) : Type 0 where
  pub long : length s' ≡ length s
  pub below : (i : ℕ) → i < nodes_at + a → get_or s' i 0 ≡ get_or s i 0
  pub above : (i : ℕ) → nodes_at + 256 ≤ i → get_or s' i 0 ≡ get_or s i 0

-- There is room for the nodes of the records that may still be begun, and for their depths: a level further down is at
-- most one comprehension further in. `more` is 1 where a record has begun, whose own level is used up already.
pub record NodeRoom (more : ℕ) (s : List ℕ) (p : ParseState) : Type 0 where
  pub words : scratch_size ≤ length s
  pub nodes : p.node + p.left ≤ 255
  pub deep : p.levels + p.depth + more ≤ 32

-- node i may be put, for a record that begins at node p .node
pub record FinishPre (s : List ℕ) (k a : ℕ) (p : ParseState) (i : ℕ) : Type 0 where
  pub words : scratch_size ≤ length s
  pub kind : k < 32
  pub arg : a < 8589934592
  pub start : p.node ≤ i
  pub below : i < 256
  pub deep : p.depth ≤ 32

-- node i is put and nothing else; what the node then says follows from its word
pub record FinishPost (s : List ℕ) (k a : ℕ) (p : ParseState) (left i : ℕ) (s' : List ℕ) (r : ℕ × ℕ) : Type 0 where
  pub is : r ≡ (left, i + 1)
  pub put : s' ≡ set s (nodes_at + i) (pack k a p.node p.depth)
  pub node : LaidNode s' p.depth p.node i (get_or kinds k unknown)
  pub arg : arg_at s' i ≡ a
  pub kept : NodesKept i s s'
