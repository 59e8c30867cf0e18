-- "27: a normal form over 512 nodes, each term, comprehension and qualifier being one, copies counted."
use Rattle.std.specs.Prelude.{Bool, ℕ, ◌+◌, leb}
use Rattle.spec_normal_form.specs.Form.{Form, Forms, Clauses, NormalForm, as_form, num, truth, row, cell, rec, bin, negate, app, comp, fnil, fcons, done, gen, cond}

-- A cell is a field and a name; a generator is itself and its table.
unfoldable mutual
  pub nodes : Form → ℕ
  nodes (num z) = 1
  nodes (truth b) = 1
  nodes (row g) = 1
  nodes (cell i g) = 2
  nodes (rec ts) = 1 + nodes_f ts
  nodes (app f ts) = 1 + nodes_f ts  -- "It is one node." (document 02, E2; so is E4's: "each term")
  nodes (bin o s t) = 1 + (nodes s + nodes t)
  nodes (negate t) = 1 + nodes t
  nodes (comp m q h) = 1 + (nodes_c q + nodes h)

  pub nodes_f : Forms → ℕ
  nodes_f fnil = 0
  nodes_f (fcons t ts) = nodes t + nodes_f ts

  pub nodes_c : Clauses → ℕ
  nodes_c done = 0
  nodes_c (gen g k q) = 2 + nodes_c q
  nodes_c (cond t q) = 1 + (nodes t + nodes_c q)

unfoldable pub size_fits : NormalForm → Bool
size_fits f = leb (nodes (as_form f)) 512
