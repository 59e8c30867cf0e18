-- An accepted question in scratch while it is answered, and what bringing its raw words to their written form comes to.
use Rattle.std.specs.Prelude.{◌≡◌, List, ◌++◌, ℕ, suc, ◌≤◌, length, drop, ℤ}
use Rattle.spec_calculus.specs.Value.{Value}
use Rattle.spec_calculus.specs.Monoid.{canonical, raw}
use Rattle.spec_encoding.specs.Record.{Bytes, got}
use Rattle.spec_normal_form.specs.Form.{as_form, normal_value}
use Rattle.spec_outcome.specs.WrittenForm.{words}
use Rattle.spec_outcome.specs.Acceptance.{Lent, read_lent, posed_of, Accepted}
use Rattle.spec_outcome.specs.Outcome.{G, written}
use Rattle.form_words.specs.FormTree.{form_tree, left}
use Rattle.form_prepared.specs.PreparedQuestion.{Prepared}
use Rattle.spec_outcome.specs.Gives.{Settles}
use Rattle.form_env.specs.Environment.{Held, tables_in}
use Rattle.form_env.specs.NamedTables.{table_of, Named}

-- scratch has the question's tables, its normal form, and each generator's table still
pub record Still (d : Bytes) (a : Accepted) (s : List ℕ) : Type 0 where
  pub held : Held d (tables_in d) s
  pub named : Named (table_of s) (as_form a.form)
  pub form : form_tree (suc (left 0)) s 0 ≡ as_form a.form

-- where a question was prepared, in whatever scratch, and its raw words stand in front of what follows G words in the buffer b: its
-- outcome over b is settled
pub record SettlePost (s : List ℕ) (o o' : List ℤ) (n : ℕ) : Type 0 where
  pub is : (d : Bytes) (a : Accepted) (p : List ℕ) → Prepared d a p → Still d a s → (q : Lent) → read_lent q ≡ got (posed_of a)
      → (b : List ℤ) → o ≡ words (normal_value raw a.tables a.form) ++ drop (G a) b → G a ≤ length b
      → (value : Accepted → Value) → normal_value canonical a.tables a.form ≡ value a → Settles (written value b a) b 0 n o'
