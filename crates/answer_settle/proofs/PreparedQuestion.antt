-- What a question that stands prepared in scratch has there: its tables, its normal form, no generator that stands for a row.
use mathlib.Core.Path.{◌≡◌, sym, ap, subst, ◌∙◌}
use mathlib.Core.Bool.{true, false, and-eq-true_iff}
use mathlib.Core.List.{List}
use Prim.Native.Nat.{ℕ, ◌+◌, ◌<◌}
use native.Mathlib.Omega.{arith}
use Rattle.spec_calculus.specs.Value.{Tables, junk, kind_of}
use Rattle.spec_calculus.specs.Monoid.{raw}
use Rattle.spec_calculus.specs.Meaning.{Env}
use Rattle.spec_calculus.proofs.WellFormed.{WellFormed}
use Rattle.spec_encoding.specs.Record.{Bytes, got}
use Rattle.spec_encoding.proofs.Data.{read-well-formed}
use Rattle.spec_normal_form.specs.Form.{Form, Forms, row, cell, rec, bin, negate, app, comp, fnil, fcons, as_form, value, normal_value}
use Rattle.spec_normal_form.specs.Form as Fo
use Rattle.spec_normal_form.specs.NoRule.{Ordered}
use Rattle.spec_normal_form.proofs.NoRuleApplies.{normal-in-scope}
use Rattle.spec_outcome.specs.Acceptance.{Lent, read_lent, posed_of, Accepted}
use Rattle.spec_outcome.proofs.Checks.{Passed, judged}
use Rattle.form_words.specs.FormTree.{form_tree, left}
use Rattle.form_words.proofs.ReadBack.{read_back}
use Rattle.form_prepared.specs.PreparedQuestion.{Prepared}
use Rattle.form_env.specs.Environment.{env_of, tables_in, Held}
use Rattle.form_env.proofs.BoundRows.{tables-in, env-empty, held-read}
use Rattle.answer_types.proofs.RawValueType.{SomeF, Solid, SolidF, Even}
use Rattle.answer_settle.proofs.ChoiceSorts.{normal-even}
use Rattle.answer_writer.specs.RecordFields.{filled, some_f, filled_f}
use Rattle.answer_writer.proofs.RecordFields.{read-filled}

-- no record is without fields: as the test says it, and as the layout of values asks for it
mutual
  unfolding filled

  filled-solid : (t : Form) → filled t ≡ true → Solid t
  filled-solid (Fo.num z) e = tt
  filled-solid (Fo.truth b) e = tt
  filled-solid (row g) e = tt
  filled-solid (cell i g) e = tt
  filled-solid (rec ts) e = let p = (and-eq-true_iff (some_f ts) (filled_f ts)).0 e in (some-solid ts p.0, fields-solid ts p.1)
  filled-solid (bin o t u) e = tt
  filled-solid (negate t) e = tt
  filled-solid (app f ts) e = tt
  filled-solid (comp m q h) e = filled-solid h e

  some-solid : (ts : Forms) → some_f ts ≡ true → SomeF ts
  some-solid fnil e = let z : ◌≡◌ {A = ℕ} 0 1 = cc in absurd (omega arith)
  some-solid (fcons t ts) e = tt

  fields-solid : (ts : Forms) → filled_f ts ≡ true → SolidF ts
  fields-solid fnil e = tt
  fields-solid (fcons t ts) e = let p = (and-eq-true_iff (filled t) (filled_f ts)).0 e in (filled-solid t p.0, fields-solid ts p.1)

module _ {d : Bytes} {a : Accepted} {s : List ℕ} (P : Prepared d a s) where
  pub tables-are : tables_in d ≡ a.tables
  tables-are = tables-in d P.tables

  pub passed : Passed a
  passed = judged a.tables a.lent a.question a P.judged

  pub held : Held d (tables_in d) s
  held = held-read (P.tables ∙ ap got (sym tables-are)) P.stored P.checkpointed (omega (arith, P.long))

  pub form-is : (f : ℕ) → left 0 < f → form_tree f s 0 ≡ as_form a.form
  form-is f l = read_back (as_form a.form) s 0 P.fits P.lent (omega (arith, P.few)) P.held f l

  pub well-formed : WellFormed a.tables
  well-formed = read-well-formed d P.tables

  -- no generator stands for a row
  empty : env_of (tables_in d) s ≡ (λ g. junk)
  empty = env-empty (tables_in d) s (subst WellFormed (sym tables-are) well-formed) P.rowless

  pub raw-value : value raw (tables_in d) (as_form a.form) (env_of (tables_in d) s) ≡ normal_value raw a.tables a.form
  unfolding normal_value
  raw-value =
      ap (λ (ρ : Env). value raw (tables_in d) (as_form a.form) ρ) empty
      ∙ ap (λ (T : Tables). value raw T (as_form a.form) (λ g. junk)) tables-are

  pub form-in-scope : Ordered (as_form a.form) (λ g. false) 0
  form-in-scope = subst (λ t. Ordered (as_form t) (λ g. false) 0) (sym passed.form-is) (normal-in-scope (kind_of a.tables) a.question passed.names)

  pub even : (C : ℕ → ℕ) → Even C (as_form a.form)
  even C = subst (λ t. Even C (as_form t)) (sym passed.form-is) (normal-even C a.tables a.question passed.generators)

  -- "5 record (1 to 8 terms)"
  pub no-empty : (l : Lent) → read_lent l ≡ got (posed_of a) → filled (as_form a.form) ≡ true
  no-empty l r = ap (λ t. filled (as_form t)) passed.form-is ∙ read-filled (kind_of a.tables) l r

  pub solid : (l : Lent) → read_lent l ≡ got (posed_of a) → Solid (as_form a.form)
  solid l r = filled-solid (as_form a.form) (no-empty l r)
