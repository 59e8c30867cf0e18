-- 25 and 26 for words in which tables were read, and whose nodes hold a question.
use mathlib.Core.Path.{◌≡◌, ap, ◌∙◌}
use mathlib.Core.List.{List}
use mathlib.Core.Bool.{Bool, true, false}
use Prim.Native.Nat.{ℕ, ◌-◌, ◌≤◌}
use lib.ListN.{length}
use Rattle.spec_calculus.specs.Syntax.{Question, as_term}
use Rattle.spec_calculus.specs.Value.{Tables, kind_of}
use Rattle.spec_checks.specs.Types.{types_fit, generators_fit}
use Rattle.base_scratch.specs.Map.{sizes_at}
use Rattle.front_nodes.specs.NodeTable.{nodes_of}
use Rattle.spec_encoding.specs.Data.{read_data}
use Rattle.spec_encoding.specs.Record.{Bytes, got}
use Rattle.front_theory.specs.QuestionNodes.{no_names, Holds}
use Rattle.base_tables.specs.DataReader.{Stored}
use Rattle.spec_calculus.proofs.WellFormed.{number-few}
use Rattle.spec_encoding.proofs.Data.{read-well-formed}
use Rattle.base_tables.proofs.TableWords.{by_number, present-is, described-in}
use Rattle.front_typing.specs.ShapeWords.{collection_by, known_in, Judges}
use Rattle.front_typing.proofs.ShapesOfTypes.{Knows}
use Rattle.front_typing.proofs.ShapeWords.{types-fit-is, generators-fit-is}

-- the tables of the data d and a question of n nodes are in s, whose nodes hold it
pub record Checked (d : Bytes) (T : Tables) (q : Question) (s : List ℕ) (n : ℕ) : Type 0 where
  pub tables : read_data d ≡ got T
  pub stored : Stored d s
  pub some : 1 ≤ n
  pub most : n ≤ 256
  pub long : sizes_at ≤ length s
  pub depth : ℕ → ℕ
  pub holds : Holds (nodes_of s) depth (as_term q) (n - 1) 0 no_names

module _ {d : Bytes} {T : Tables} {q : Question} {s : List ℕ} {n : ℕ} (C : Checked d T q s n) where
  knows : Knows (known_in s) T
  knows =
      record {
        has = present-is C.stored C.tables;
        columns = λ k l. (described-in C.stored C.tables k l).columns;
        kind = λ k l. ap collection_by (described-in C.stored C.tables k l).collection ∙ by_number (kind_of T k);
      }

  -- "25: a type, field or table that does not fit."
  pub types-fit : {s' : List ℕ} {r : Bool} → Judges false s n s' r → r ≡ types_fit T q
  types-fit J = types-fit-is T (number-few (read-well-formed d C.tables)) s C.long knows n C.some C.most J C.depth q C.holds

  -- "26: a generator its monoid may not have."
  pub generators-fit : {s' : List ℕ} {r : Bool} → Judges true s n s' r → r ≡ generators_fit T q
  generators-fit J = generators-fit-is T (number-few (read-well-formed d C.tables)) s C.long knows n C.some C.most J C.depth q C.holds
