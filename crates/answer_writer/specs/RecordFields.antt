-- Records that have fields.
use Rattle.std.specs.Prelude.{Bool, true, false, ◌&&◌}
use Rattle.spec_normal_form.specs.Form.{Form, Forms, num, truth, row, cell, rec, bin, negate, app, comp, fnil, fcons}

-- no record of what is written is without fields: then each element has a word, and no count is above the answer's length
unfoldable mutual
  pub filled : Form → Bool
  filled (num z) = true
  filled (truth b) = true
  filled (row g) = true
  filled (cell c g) = true
  filled (rec ts) = some_f ts && filled_f ts
  filled (bin o t u) = true
  filled (negate t) = true
  filled (app f ts) = true
  filled (comp m q h) = filled h

  pub some_f : Forms → Bool
  some_f fnil = false
  some_f (fcons t ts) = true

  pub filled_f : Forms → Bool
  filled_f fnil = true
  filled_f (fcons t ts) = filled t && filled_f ts
