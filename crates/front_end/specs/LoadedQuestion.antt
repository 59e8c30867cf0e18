-- Tables and a question in scratch, as the readers leave them, and once the binders' words are right.
use Rattle.std.specs.Prelude.{◌≡◌, List, true, ℕ, ◌+◌, ◌≤◌, ◌<◌, length, get_or}
use Rattle.spec_calculus.specs.Syntax.{Question, as_term}
use Rattle.spec_calculus.specs.Value.{Tables}
use Rattle.spec_encoding.specs.Record.{Bytes, got}
use Rattle.spec_encoding.specs.Data.{read_data}
use Rattle.spec_checks.specs.Scope.{names_hold}
use Rattle.base_tables.specs.DataReader.{Stored}
use Rattle.base_scratch.specs.Map.{binders_at, scratch_size}
use Rattle.front_words.specs.NodeTree.{kind_at, arg_at}
use Rattle.front_words.specs.LaidTree.{nodes, Laid}
use Rattle.front_scope.specs.ScopePass.{Small}
use Rattle.front_scope.specs.Binders.{binds_name}
use Rattle.front_nodes.specs.QuestionTree.{nesting}

-- the tables T of the data d, and the question q, whose n nodes lie from node 0 on
pub record Loaded (d : Bytes) (T : Tables) (q : Question) (s : List ℕ) (n : ℕ) : Type 0 where
  pub tables : read_data d ≡ got T
  pub stored : Stored d s
  pub laid : Laid s 0 0 (as_term q)
  pub count : n ≡ nodes (as_term q)
  pub some : 1 ≤ n
  pub few : n ≤ 256
  pub small : Small (as_term q)
  pub deep : nesting (as_term q) ≤ 32
  pub long : scratch_size ≤ length s

-- its names hold, and the word of each name that it binds has the node that binds it
pub record ScopedQuestion (d : Bytes) (T : Tables) (q : Question) (s : List ℕ) (n : ℕ) : Type 0 where
  pub loaded : Loaded d T q s n
  pub names : names_hold q ≡ true
  pub bound : (i : ℕ) → i < n → binds_name (kind_at s i) ≡ true → (arg_at s i < 256) × (get_or s (binders_at + arg_at s i) 0 ≡ i + 1)

-- the words behind those of the question stay
pub record BehindKept (s s' : List ℕ) : Type 0 where
  pub long : length s' ≡ length s
  pub above : (j : ℕ) → scratch_size ≤ j → get_or s' j 0 ≡ get_or s j 0
