-- Each row in a question's normal form is that of a generator in whose scope it stands, and has as many columns as the table that the
-- generator's slot names; the branches of each choice are alike. So the values of the normal form are of the type that its words stand for.
use mathlib.Core.Path.{◌≡◌, refl, sym, ap, subst, ◌∙◌}
use mathlib.Core.Bool.{Bool, true}
use mathlib.Core.List.{List}
use Prim.Native.Nat.{ℕ, suc, ◌+◌}
use Rattle.spec_calculus.specs.Lists.{upd}
use Rattle.spec_calculus.specs.Value.{Tables, columns_of}
use Rattle.spec_encoding.specs.Record.{Bytes}
use Rattle.base_tables.specs.Description.{columns_in, description_in}
use Rattle.spec_normal_form.specs.Form.{Form, Forms, Clauses, num, truth, row, cell, rec, bin, negate, app, comp, fnil, fcons, done, gen, cond, gens, gens_c}
use Rattle.spec_normal_form.specs.NoRule.{behind, Ordered, OrderedF, OrderedC}
use Rattle.form_env.specs.Environment.{tables_in, Held}
use Rattle.form_env.specs.NamedTables.{table_of, Named, NamedF, NamedC}
use Rattle.form_env.proofs.BoundRows.{width}
use Rattle.answer_types.specs.Columns.{columns}
use Rattle.answer_types.proofs.RawValueType.{ran, Even, EvenF, Rooted, RootedF, RootedC}

ran-behind : (q : Clauses) (S : ℕ → Bool) → ran q S ≡ behind q S
unfolding ran behind
ran-behind done S = refl
ran-behind (gen g k q) S = ran-behind q (upd g true S)
ran-behind (cond t q) S = ran-behind q S

module _ {d : Bytes} {s : List ℕ} (H : Held d (tables_in d) s) where
  abbrev T : Tables
  T = tables_in d

  abbrev C : ℕ → ℕ
  C = columns s

  -- a generator has as many columns as the table that its slot names
  columns-are : (g k : ℕ) → table_of s g ≡ suc k → C g ≡ columns_of T k
  unfolding columns
  columns-are g k e = ap (λ (n : ℕ). columns_in (description_in s n)) e ∙ width H k

  mutual
    unfolding Ordered

    pub rooted : (t : Form) (S : ℕ → Bool) (j : ℕ) → Ordered t S j → Named (table_of s) t → Even C t → Rooted C T S t
    rooted (num z) S j x w v = tt
    rooted (truth b) S j x w v = tt
    rooted (row g) S j x w v = x
    rooted (cell c g) S j x w v = tt
    rooted (rec ts) S j x w v = rooted_f ts S j x w v
    rooted (bin o t u) S j x w v = tt
    rooted (negate t) S j x w v = tt
    rooted (app f ts) S j x w v = v
    rooted (comp m q h) S j x w v = (rooted_c q S j x.0 w.0, subst (λ (B : ℕ → Bool). Rooted C T B h) (sym (ran-behind q S)) (rooted h (behind q S) (j + gens_c q) x.1 w.1 v))

    rooted_f : (ts : Forms) (S : ℕ → Bool) (j : ℕ) → OrderedF ts S j → NamedF (table_of s) ts → EvenF C ts → RootedF C T S ts
    rooted_f fnil S j x w v = tt
    rooted_f (fcons t ts) S j x w v = (rooted t S j x.0 w.0 v.0, rooted_f ts S (j + gens t) x.1 w.1 v.1)

    rooted_c : (q : Clauses) (S : ℕ → Bool) (j : ℕ) → OrderedC q S j → NamedC (table_of s) q → RootedC C T S q
    rooted_c done S j x w = tt
    rooted_c (gen g k q) S j x w = (columns-are g k w.0, rooted_c q (upd g true S) (suc j) x.1 w.1)
    rooted_c (cond t q) S j x w = rooted_c q S (j + gens t) x.1 w.1
