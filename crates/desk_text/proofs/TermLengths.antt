-- How long a plan's terms are.
use mathlib.Core.Path.{◌≡◌, refl}
use mathlib.Core.Bool.{Bool, true, false}
use mathlib.Core.List.{List, [], ◌∷◌, ◌++◌}
use Prim.Native.Nat.{ℕ, suc, ◌+◌, ◌^◌, ◌≤◌, ◌<◌}
use native.Mathlib.Omega.{arith}
use lib.Dec.{eqb, lit<}
use lib.ListN.{length, length-append}
use lib.IntN.{ℤ}
use lib.Signed.{mag}
use Rattle.spec_calculus.specs.Lists.{upd}
use Rattle.spec_calculus.specs.Syntax.{Bin, plus, minus, times, equal, less, and, or, Fun, choice, is_open}
use Rattle.spec_normal_form.specs.Form.{Form, Forms, num, truth, row, cell, rec, bin, negate, app, comp, fnil, fcons}
use Rattle.spec_normal_form.specs.Size.{nodes, nodes_f}
use Rattle.base_syntax.specs.Numbers.{FitsOp}
use Rattle.form_words.specs.FormWords.{Fits, FitsF}
use Rattle.spec_plan.specs.Plan.{PTerm, PTerms, pnum, ptruth, place, pfield, prec, pbin, pnegate, papp, pnil, pcons}
use Rattle.spec_plan.specs.Planner.{Slots, next, nexts, term, terms, Gen, from, from_unit, slot, slots, after, no_slots}
use Rattle.spec_plan.specs.Lines.{ascii, decimal, signed_decimal, bin_name, fun_name, truth_name, show_term, show_terms}
use Rattle.base_text.proofs.Decimals.{tens, decimal-most, signed-most}
use Rattle.desk_text.proofs.NodeBytes.{term_bytes, terms_bytes}

abbrev pub shown : PTerm → ℕ
shown t = length (show_term t)

-- places, columns and tables have four digits at most
pub few-digits : (n : ℕ) → n < 10000 → length (decimal n) ≤ 4
few-digits n l = decimal-most 3 n l

pub place-most : (n : ℕ) → n < 10000 → shown (place n) ≤ 5
unfolding show_term ascii
place-most n l = omega (arith, few-digits n l)

abbrev pub Short : Slots → Type 0
Short c = (g : ℕ) → shown (c g) ≤ 5

pub short_none : Short no_slots
unfolding show_term signed_decimal
short_none g = omega (arith, few-digits 0 (lit< tt))

pub short-slot : (g : Gen) (n : ℕ) (c : Slots) → n < 10000 → Short c → Short (slot g n c)
unfolding slot upd
short-slot (from g k) n c l S = λ y. go (eqb g y) y
  where
    go : (t : Bool) (y : ℕ) → shown (elim t [ true ↦ place n | false ↦ c y ]) ≤ 5
    go true y = place-most n l
    go false y = S y
short-slot from_unit n c l S = S

pub after_is : (gs : List Gen) (n : ℕ) → after gs n ≡ n + length gs
unfolding after
after_is [] n = omega arith
after_is (g ∷ gs) n = omega (arith, after_is gs (suc n))

pub short-slots : (gs : List Gen) (n : ℕ) (c : Slots) → n + length gs ≤ 2048 → Short c → Short (slots gs n c)
unfolding slots
short-slots [] n c l S = S
short-slots (g ∷ gs) n c l S = short-slots gs (suc n) (slot g n c) (omega arith) (short-slot g n c (omega arith) S)

-- the stream's width grows by no more than there are nodes
mutual
  unfolding next nodes

  pub next-most : (t : Form) (k : ℕ) → next t k ≤ k + nodes t
  next-most (num z) k = omega arith
  next-most (truth b) k = omega arith
  next-most (row g) k = omega arith
  next-most (cell i g) k = omega arith
  next-most (rec ts) k = omega (arith, nexts-most ts k)
  next-most (app f ts) k = omega (arith, nexts-most ts k)
  next-most (bin o s t) k = omega (arith, next-most s k, next-most t (next s k))
  next-most (negate t) k = omega (arith, next-most t k)
  next-most (comp m q h) k = omega arith

  nexts-most : (ts : Forms) (k : ℕ) → nexts ts k ≤ k + nodes_f ts
  nexts-most fnil k = omega arith
  nexts-most (fcons t ts) k = omega (arith, next-most t k, nexts-most ts (next t k))

name-most : (o : Bin) → length (ascii (bin_name o)) ≤ 3
unfolding ascii bin_name
name-most plus = omega arith
name-most minus = omega arith
name-most times = omega arith
name-most equal = omega arith
name-most less = omega arith
name-most and = omega arith
name-most or = omega arith

pub bin-most : (o : Bin) (s t : PTerm) → shown (pbin o s t) ≤ 7 + (shown s + shown t)
unfolding show_term ascii
bin-most o s t = omega (
  arith,
  name-most o,
  length-append (ascii (bin_name o)) (ascii " " ++ (show_term s ++ (ascii " " ++ (show_term t ++ ascii ")")))),
  length-append (show_term s) (ascii " " ++ (show_term t ++ ascii ")")),
  length-append (show_term t) (ascii ")"),
)

field-most : (i : ℕ) (t : PTerm) → i < 10000 → shown (pfield i t) ≤ 9 + shown t
unfolding show_term ascii
field-most i t l = omega (arith, few-digits i l, length-append (decimal i) (ascii " " ++ (show_term t ++ ascii ")")), length-append (show_term t) (ascii ")"))

truth-most : (b : Bool) → shown (ptruth b) ≤ 5
unfolding show_term truth_name ascii
truth-most true = omega arith
truth-most false = omega arith

constant-most : (z : ℤ) → mag z < 2 ^ 31 → shown (pnum z) ≤ 11
unfolding show_term
constant-most z l = signed-most 9 z (omega (arith, l, top))
  where
    top : 2147483649 < tens 9
    top = lit< tt

rec-shown : (ts : PTerms) → shown (prec ts) ≡ 5 + length (show_terms ts)
unfolding show_term ascii
rec-shown ts = omega (arith, length-append (show_terms ts) (ascii ")"))

app-most : (f : Fun) (ts : PTerms) → FitsOp f → shown (papp f ts) ≤ 11 + length (show_terms ts)
unfolding show_term fun_name ascii
app-most choice ts h = omega (arith, length-append (show_terms ts) (ascii ")"))
app-most (is_open n c) ts h = omega (
  arith,
  few-digits n (omega (arith, h)),
  length-append (decimal n) (show_terms ts ++ ascii ")"),
  length-append (show_terms ts) (ascii ")"),
)

not-shown : (t : PTerm) → shown (pnegate t) ≡ 6 + shown t
unfolding show_term ascii
not-shown t = omega (arith, length-append (show_term t) (ascii ")"))

none-shown : length (show_terms pnil) ≡ 0
unfolding show_term
none-shown = refl

terms-shown : (t : PTerm) (ts : PTerms) → length (show_terms (pcons t ts)) ≡ 1 + (shown t + length (show_terms ts))
unfolding show_term ascii
terms-shown t ts = omega (arith, length-append (show_term t) (show_terms ts))

-- k is the next place: the places of a term stay below 2,048
module _ (c : Slots) (S : Short c) where
  mutual
    unfolding term nodes

    pub term-most : (t : Form) → Fits t → (k : ℕ) → k + nodes t ≤ 2048 → shown (term t c k) + 1 ≤ term_bytes t
    term-most (num z) f k l = omega (arith, constant-most z f)
    term-most (truth b) f k l = omega (arith, truth-most b)
    term-most (row g) f k l = omega (arith, S g)
    term-most (cell i g) f k l = omega (arith, S g, field-most i (c g) (omega (arith, f.0)))
    term-most (rec ts) f k l = omega (arith, rec-shown (terms ts c k), terms-most ts f k (omega arith))
    term-most (app o ts) f k l = omega (arith, app-most o (terms ts c k) f.0, terms-most ts f.1 k (omega arith))
    term-most (bin o s t) f k l = omega (arith, bin-most o (term s c k) (term t c (next s k)), term-most s f.0 k (omega arith), term-most t f.1 (next s k) (omega (arith, next-most s k)))
    term-most (negate t) f k l = omega (arith, not-shown (term t c k), term-most t f k (omega arith))
    term-most (comp m q h) f k l = omega (arith, place-most k (omega arith))

    terms-most : (ts : Forms) → FitsF ts → (k : ℕ) → k + nodes_f ts ≤ 2048 → length (show_terms (terms ts c k)) ≤ terms_bytes ts
    terms-most fnil f k l = omega (arith, none-shown)
    terms-most (fcons t ts) f k l = omega (arith, terms-shown (term t c k) (terms ts c (next t k)), term-most t f.0 k (omega arith), terms-most ts f.1 (next t k) (omega (arith, next-most t k)))
