-- The numbers of an accepted question's normal form fit into its words.
use mathlib.Core.Path.{◌≡◌}
use mathlib.Core.Bool.{true}
use Prim.Native.Nat.{ℕ, ◌≤◌}
use native.Mathlib.Omega.{arith}
use Rattle.spec_calculus.specs.Syntax.{Collection, Fun, choice, is_open, Question}
use Rattle.spec_checks.specs.Scope.{names_hold}
use Rattle.spec_normal_form.specs.Form.{Form, Forms, Clauses, num, truth, row, cell, rec, bin, negate, app, comp, fnil, fcons, done, gen, cond, as_form}
use Rattle.spec_normal_form.specs.Normal.{normal}
use Rattle.spec_normal_form.specs.Size.{nodes}
use Rattle.spec_normal_form.proofs.Ranges.{OpInRange, Ranges, Ranged, RangedF, RangedC, Below, BelowF, BelowC, normal-ranged, numbers-below-256}
use Rattle.base_syntax.specs.Numbers.{FitsOp}
use Rattle.form_words.specs.FormWords.{Fits, FitsF, FitsC}

op_fits : (f : Fun) → OpInRange f → FitsOp f
op_fits choice h = tt
op_fits (is_open n c) h = h

mutual
  fits : (t : Form) → Ranged t → Below 256 t → Fits t
  fits (num z) r b = r
  fits (truth x) r b = tt
  fits (row g) r b = omega (arith, b)
  fits (cell i g) r b = (omega (arith, r), omega (arith, b))
  fits (rec ts) r b = fits_f ts r b
  fits (app f ts) r b = (op_fits f r.2, fits_f ts r.1 b)
  fits (bin o s t) r b = (fits s r.0 b.0, fits t r.1 b.1)
  fits (negate t) r b = fits t r b
  fits (comp m q h) r b = (fits_c q r.0 b.0, fits h r.1 b.1)

  fits_f : (ts : Forms) → RangedF ts → BelowF 256 ts → FitsF ts
  fits_f fnil r b = tt
  fits_f (fcons t ts) r b = (fits t r.0 b.0, fits_f ts r.1 b.1)

  fits_c : (q : Clauses) → RangedC q → BelowC 256 q → FitsC q
  fits_c done r b = tt
  fits_c (gen g k q) r b = (omega (arith, b.0), omega (arith, r.0), fits_c q r.1 b.1)
  fits_c (cond t q) r b = (fits t r.0 b.0, fits_c q r.1 b.1)

-- Where the names of a question hold (24), its constants, fields and tables are in range, and its normal form has at most
-- 512 nodes (27), the numbers of the normal form fit into its words.
pub normal-fits : (K : ℕ → Collection) (q : Question) → names_hold q ≡ true → Ranges q → nodes (as_form (normal K q)) ≤ 512 → Fits (as_form (normal K q))
normal-fits K q h r l = fits (as_form (normal K q)) (normal-ranged K q r) (numbers-below-256 K q h l)
