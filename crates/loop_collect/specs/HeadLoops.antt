-- Loops over the heads that clauses meet. What heads do to what a loop keeps, `acts`, is left open: they are laid, or judged.
use Rattle.std.specs.Prelude.{◌≡◌, List, ℕ, ◌+◌, ◌<◌}
use Rattle.spec_calculus.specs.Lists.{bind_l, upd}
use Rattle.spec_calculus.specs.Value.{Value, rows_of}
use Rattle.spec_encoding.specs.Record.{Bytes}
use Rattle.form_words.specs.FormTree.{left}
use Rattle.form_env.specs.Environment.{env_of, tables_in}
use Rattle.loop_scalar.specs.Contract.{heads_at}

-- the heads behind the clauses at i
pub record HeadsPost {X : Type 0} (acts : List Value → X → X) (d : Bytes) (s : List ℕ) (i : ℕ) (x : X) (s' : List ℕ) (y : X) : Type 0 where
  pub is : (f : ℕ) → left i + 1 < f → y ≡ acts (heads_at (tables_in d) f s i (env_of (tables_in d) s)) x
  pub kept : s' ≡ s

-- for each row of table k as generator g
pub record RowsPost {X : Type 0} (acts : List Value → X → X) (d : Bytes) (s : List ℕ) (i g k : ℕ) (x : X) (s' : List ℕ) (y : X) : Type 0 where
  pub is : (f : ℕ) → left i + 1 < f → y ≡ acts (bind_l (rows_of (tables_in d) k) (λ v. heads_at (tables_in d) f s i (upd g v (env_of (tables_in d) s)))) x
  pub kept : s' ≡ s
