-- Bytes that a normal form's terms and operators come to in its plan's lines: at most 64 for each node.
use Prim.Native.Nat.{ℕ, ◌+◌, ◌*◌, ◌≤◌}
use native.Mathlib.Omega.{arith}
use Rattle.spec_normal_form.specs.Form.{Form, Forms, Clauses, num, truth, row, cell, rec, bin, negate, app, comp, fnil, fcons, done, gen, cond}
use Rattle.spec_normal_form.specs.Size.{nodes, nodes_f, nodes_c}

-- a term and a space; a comprehension in it is a place
abbrev mutual
  pub term_bytes : Form → ℕ
  term_bytes (num z) = 12
  term_bytes (truth b) = 6
  term_bytes (row g) = 6
  term_bytes (cell i g) = 15
  term_bytes (rec ts) = 6 + terms_bytes ts
  term_bytes (app f ts) = 12 + terms_bytes ts
  term_bytes (bin o s t) = 6 + (term_bytes s + term_bytes t)
  term_bytes (negate t) = 6 + term_bytes t
  term_bytes (comp m q h) = 6

  pub terms_bytes : Forms → ℕ
  terms_bytes fnil = 0
  terms_bytes (fcons t ts) = term_bytes t + terms_bytes ts

-- the operators of the comprehensions in a term; in clauses also the conditions, each with its "and"
abbrev mutual
  pub op_bytes : Form → ℕ
  op_bytes (num z) = 0
  op_bytes (truth b) = 0
  op_bytes (row g) = 0
  op_bytes (cell i g) = 0
  op_bytes (rec ts) = ops_bytes ts
  op_bytes (app f ts) = ops_bytes ts
  op_bytes (bin o s t) = op_bytes s + op_bytes t
  op_bytes (negate t) = op_bytes t
  op_bytes (comp m q h) = 40 + (clause_bytes q + (term_bytes h + op_bytes h))

  pub ops_bytes : Forms → ℕ
  ops_bytes fnil = 0
  ops_bytes (fcons t ts) = op_bytes t + ops_bytes ts

  pub clause_bytes : Clauses → ℕ
  clause_bytes done = 0
  clause_bytes (gen g k q) = 16 + clause_bytes q
  clause_bytes (cond t q) = 7 + term_bytes t + (op_bytes t + clause_bytes q)

mutual
  unfolding nodes

  pub form-most : (t : Form) → term_bytes t + op_bytes t ≤ 64 * nodes t
  form-most (num z) = omega arith
  form-most (truth b) = omega arith
  form-most (row g) = omega arith
  form-most (cell i g) = omega arith
  form-most (rec ts) = omega (arith, forms-most ts)
  form-most (app f ts) = omega (arith, forms-most ts)
  form-most (bin o s t) = omega (arith, form-most s, form-most t)
  form-most (negate t) = omega (arith, form-most t)
  form-most (comp m q h) = omega (arith, clauses-most q, form-most h)

  forms-most : (ts : Forms) → terms_bytes ts + ops_bytes ts ≤ 64 * nodes_f ts
  forms-most fnil = omega arith
  forms-most (fcons t ts) = omega (arith, form-most t, forms-most ts)

  clauses-most : (q : Clauses) → clause_bytes q ≤ 64 * nodes_c q
  clauses-most done = omega arith
  clauses-most (gen g k q) = omega (arith, clauses-most q)
  clauses-most (cond t q) = omega (arith, form-most t, clauses-most q)
