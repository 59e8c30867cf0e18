-- "A name holds from the end of its qualifier": a condition mentions no generator that stands behind it.
use mathlib.Core.Path.{◌≡◌}
use mathlib.Core.List.{List, [], ◌∷◌}
use mathlib.Core.Bool.{Bool, true, not, ◌&&◌}
use Rattle.spec_normal_form.specs.Form.{Form, Forms, Clauses, num, truth, row, cell, rec, bin, negate, app, comp, fnil, fcons, done, gen, cond}
use Rattle.spec_plan.specs.Planner.{mentions, Gen, from, from_unit, gens_of}

-- whether a term mentions none of these generators
unfoldable pub clear : List Gen → Form → Bool
clear [] t = true
clear (from g k ∷ gs) t = not (mentions g t) && clear gs t
clear (from_unit ∷ gs) t = clear gs t

-- every condition, at every depth
abbrev mutual
  pub Scoped : Form → Type 0
  Scoped (num z) = Unit {0}
  Scoped (truth b) = Unit {0}
  Scoped (row g) = Unit {0}
  Scoped (cell i g) = Unit {0}
  Scoped (rec ts) = ScopedF ts
  Scoped (app f ts) = ScopedF ts
  Scoped (bin o s t) = Scoped s × Scoped t
  Scoped (negate t) = Scoped t
  Scoped (comp m q h) = ScopedC q × Scoped h

  pub ScopedF : Forms → Type 0
  ScopedF fnil = Unit {0}
  ScopedF (fcons t ts) = Scoped t × ScopedF ts

  pub ScopedC : Clauses → Type 0
  ScopedC done = Unit {0}
  ScopedC (gen g k q) = ScopedC q
  ScopedC (cond t q) = (clear (gens_of q) t ≡ true) × (Scoped t × ScopedC q)
