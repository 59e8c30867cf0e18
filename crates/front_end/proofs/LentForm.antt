-- A normal form with calendars lent to it fits into the same words.
use mathlib.Core.Path.{◌≡◌, refl, ap, ap₂, ◌∙◌}
use mathlib.Core.List.{◌∷◌, ◌++◌}
use Prim.Native.Nat.{ℕ, suc, ◌+◌, ◌*◌}
use Rattle.spec_calendar.specs.Hours.{Calendar}
use Rattle.spec_calculus.specs.Syntax.{Fun, choice, is_open}
use Rattle.spec_calculus.specs.Lending.{lend_op}
use Rattle.spec_normal_form.specs.Form.{Form, Forms, Clauses, num, truth, row, cell, rec, bin, negate, app, comp, fnil, fcons, done, gen, cond}
use Rattle.spec_normal_form.proofs.Lending.{lend_f, lend_fs, lend_c}
use Rattle.base_syntax.specs.Numbers.{op_arg, fun_arg, FitsOp, LentOp, monoid_arg}
use Rattle.form_words.specs.NodeWord.{pack}
use Rattle.form_words.specs.FormWords.{size, size_f, size_c, flat, flat_f, flat_c, Fits, FitsF, FitsC, CalendarsIn, CalendarsInAll, CalendarsInClauses}

module _ (K : ℕ → Calendar) where
  op_fits : (f : Fun) → FitsOp f → FitsOp (lend_op K f)
  unfolding lend_op
  op_fits choice h = tt
  op_fits (is_open n c) h = h

  op-lent : (f : Fun) → LentOp K (lend_op K f)
  unfolding lend_op
  op-lent choice = tt
  op-lent (is_open n c) = refl

  op-arg : (f : Fun) → fun_arg (lend_op K f) ≡ fun_arg f
  unfolding lend_op
  op-arg choice = refl
  op-arg (is_open n c) = refl

  mutual
    unfolding lend_f

    pub fits-lent : (t : Form) → Fits t → Fits (lend_f K t)
    fits-lent (num z) h = h
    fits-lent (truth b) h = tt
    fits-lent (row g) h = h
    fits-lent (cell i g) h = h
    fits-lent (rec ts) h = fits_f-lent ts h
    fits-lent (bin o s t) h = (fits-lent s h.0, fits-lent t h.1)
    fits-lent (negate t) h = fits-lent t h
    fits-lent (app f ts) h = (op_fits f h.0, fits_f-lent ts h.1)
    fits-lent (comp m q t) h = (fits_c-lent q h.0, fits-lent t h.1)

    fits_f-lent : (ts : Forms) → FitsF ts → FitsF (lend_fs K ts)
    fits_f-lent fnil h = tt
    fits_f-lent (fcons t ts) h = (fits-lent t h.0, fits_f-lent ts h.1)

    fits_c-lent : (q : Clauses) → FitsC q → FitsC (lend_c K q)
    fits_c-lent done h = tt
    fits_c-lent (gen g k q) h = (h.0, h.1, fits_c-lent q h.2)
    fits_c-lent (cond t q) h = (fits-lent t h.0, fits_c-lent q h.1)

  mutual
    unfolding lend_f

    pub all-lent : (t : Form) → CalendarsIn K (lend_f K t)
    all-lent (num z) = tt
    all-lent (truth b) = tt
    all-lent (row g) = tt
    all-lent (cell i g) = tt
    all-lent (rec ts) = all_f-lent ts
    all-lent (bin o s t) = (all-lent s, all-lent t)
    all-lent (negate t) = all-lent t
    all-lent (app f ts) = (op-lent f, all_f-lent ts)
    all-lent (comp m q t) = (all_c-lent q, all-lent t)

    all_f-lent : (ts : Forms) → CalendarsInAll K (lend_fs K ts)
    all_f-lent fnil = tt
    all_f-lent (fcons t ts) = (all-lent t, all_f-lent ts)

    all_c-lent : (q : Clauses) → CalendarsInClauses K (lend_c K q)
    all_c-lent done = tt
    all_c-lent (gen g k q) = all_c-lent q
    all_c-lent (cond t q) = (all-lent t, all_c-lent q)

  mutual
    unfolding lend_f size

    size-lent : (t : Form) → size (lend_f K t) ≡ size t
    size-lent (num z) = refl
    size-lent (truth b) = refl
    size-lent (row g) = refl
    size-lent (cell i g) = refl
    size-lent (rec ts) = ap suc (size_f-lent ts)
    size-lent (bin o s t) = ap₂ (λ m n. suc (m + n)) (size-lent s) (size-lent t)
    size-lent (negate t) = ap suc (size-lent t)
    size-lent (app f ts) = ap suc (size_f-lent ts)
    size-lent (comp m q t) = ap₂ (λ m n. suc (m + n)) (size_c-lent q) (size-lent t)

    size_f-lent : (ts : Forms) → size_f (lend_fs K ts) ≡ size_f ts
    size_f-lent fnil = refl
    size_f-lent (fcons t ts) = ap₂ ◌+◌ (size-lent t) (size_f-lent ts)

    size_c-lent : (q : Clauses) → size_c (lend_c K q) ≡ size_c q
    size_c-lent done = refl
    size_c-lent (gen g k q) = ap suc (size_c-lent q)
    size_c-lent (cond t q) = ap₂ (λ m n. suc (m + n)) (size-lent t) (size_c-lent q)

  mutual
    unfolding lend_f flat

    pub flat-lent : (t : Form) → flat (lend_f K t) ≡ flat t
    flat-lent (num z) = refl
    flat-lent (truth b) = refl
    flat-lent (row g) = refl
    flat-lent (cell i g) = refl
    flat-lent (rec ts) = ap₂ (λ n l. pack 5 n 0 ∷ l) (size_f-lent ts) (flat_f-lent ts)
    flat-lent (bin o s t) = ap₂ (λ n l. pack 6 n (op_arg o) ∷ l) (ap₂ ◌+◌ (size-lent s) (size-lent t)) (ap₂ ◌++◌ (flat-lent s) (flat-lent t))
    flat-lent (negate t) = ap₂ (λ n l. pack 7 n 0 ∷ l) (size-lent t) (flat-lent t)
    flat-lent (app f ts) = ap₂ (λ n l. pack 11 n (fun_arg (lend_op K f)) ∷ l) (size_f-lent ts) (flat_f-lent ts) ∙ ap (λ a. pack 11 (size_f ts) a ∷ flat_f ts) (op-arg f)
    flat-lent (comp m q t) = ap₂ (λ n l. pack 8 n (monoid_arg m) ∷ l) (ap₂ ◌+◌ (size_c-lent q) (size-lent t)) (ap₂ ◌++◌ (flat_c-lent q) (flat-lent t))

    flat_f-lent : (ts : Forms) → flat_f (lend_fs K ts) ≡ flat_f ts
    flat_f-lent fnil = refl
    flat_f-lent (fcons t ts) = ap₂ ◌++◌ (flat-lent t) (flat_f-lent ts)

    flat_c-lent : (q : Clauses) → flat_c (lend_c K q) ≡ flat_c q
    flat_c-lent done = refl
    flat_c-lent (gen g k q) = ap (λ l. pack 9 0 (1024 * g + k) ∷ l) (flat_c-lent q)
    flat_c-lent (cond t q) = ap₂ (λ n l. pack 10 n 0 ∷ l) (size-lent t) (ap₂ ◌++◌ (flat-lent t) (flat_c-lent q))
