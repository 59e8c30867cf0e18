-- Laws of the check of bounds: a bound cut at 2^62 + 1 can be computed from cut bounds and decides what the bound decides;
-- and the size of a form by its node.
use mathlib.Core.Path.{◌≡◌, refl, sym, ap, ap₂, subst, ◌∙◌}
use mathlib.Core.Bool.{Bool, true, ◌&&◌, and-true, and_assoc}
use mathlib.Core.Logic.{◌⊎◌, inl, inr}
use mathlib.Core.List.{List, [], ◌∷◌}
use Prim.Native.Nat.{ℕ, zero, suc, ◌+◌, ◌*◌, ◌^◌, ◌≤◌, ◌<◌}
use native.Mathlib.Nat.{mul-le-mul, mul_assoc, mul_comm, pow-suc}
use native.Mathlib.Omega.{arith}
use borrow.Author.Tests.{leb-true, leb-false, le-leb, lt-leb}
use lib.Dec.{T, leb}
use lib.ListN.{length, get_or}
use lib.IntN.{ℤ, nat_abs}
use Rattle.spec_calendar.specs.Hours.{Calendar}
use Rattle.spec_calculus.specs.Lists.{pick}
use Rattle.spec_calculus.specs.Syntax.{of, sum, max, some, all, Bin, plus, minus, times, equal, less, and, or, choice, is_open}
use Rattle.spec_calculus.specs.Syntax as Sy
use Rattle.spec_normal_form.specs.Form.{Form, Forms, Clauses, app, fnil, fcons, NormalForm, as_form}
use Rattle.spec_normal_form.specs.Bound.{own_gens, bin_bound, larger, app_bound, comp_bound, Declared, bound, bounds, small, within, within_f, within_c, numbers_fit}
use Rattle.spec_normal_form.proofs.GeneratorNumbers.{Numbered}
use Rattle.spec_normal_form.proofs.GeneratorTables.{Named, numbers-fit-as}
use Rattle.base_signed.proofs.SignedWords.{by-test}
use Rattle.base_syntax.specs.declared.Monoid.{Monoid}
use Rattle.base_syntax.specs.MonoidWord.{monoid_of}
use Rattle.base_syntax.specs.declared.Fun.{Fun}
use Rattle.base_syntax.specs.declared.BinOp.{BinOp}
use Rattle.base_syntax.specs.Numbers.{bin_of, fun_of, lent_of}
use Rattle.base_syntax.specs.declared.Fun.TheVariants.{Choice, Open}
use Rattle.base_windows.specs.KeptCalendars.{calendar_in}
use Rattle.form_words.specs.declared.FormNode.{FormNode}
use Rattle.form_words.specs.declared.FormNode.TheVariants.{Number, Truth, Row, Cell, Record, Binary, Negation, Operator, Comprehension, Generator, Condition, Nothing}
use Rattle.form_words.specs.declared.Clause.{Clause}
use Rattle.form_words.specs.declared.Clause.TheVariants as Cl
use Rattle.form_words.specs.NodeWord.{next}
use Rattle.form_words.specs.FormTree.{op_in, form_tree, forms_tree, clauses_tree, head_tree, left}
use Rattle.base_scratch.specs.Map.{form_words}
use Rattle.form_words.specs.Look.{Looks, LooksC}
use Rattle.form_words.specs.FormWords.{flat, Holds}
use Rattle.form_words.specs.FormWords as Fl
use Rattle.form_words.proofs.ReadBack.{read_back}
use Rattle.form_words.proofs.NodeWords.{next_past, next-out, form_node, clauses_node, head_node, form-is, clauses-is, head-is, forms-end, forms-more}
use Rattle.front_bounds.specs.declared.Size.{Size}
use Rattle.front_bounds.specs.CutBounds.{cut, per_head, per_generator, per_generators, CheckedPost, SizeOf, SizeOfC, FirstOf, UnboundedPost, FormSizePost, ClausesSizePost, RecordFitsPost, TermSizePost, OperatorSizePost, BoundFitsPost}

-- ---- cut bounds
abbrev top : ℕ
top = 2 ^ 62 + 1

cut_left : (a b : ℕ) → cut (cut a * b) ≡ cut (a * b)
cut_left a zero = omega arith
cut_left a (suc b) = by-test (leb a top) (λ p. ap (λ x. cut (x * suc b)) (omega (arith, leb-true a top p))) (λ p. omega (arith, grows (cut a) (omega (arith, leb-false a top p)), grows a (omega (arith, leb-false a top p))))
  where
    grows : (x : ℕ) → top ≤ x → top ≤ x * suc b
    grows x h = omega (arith, mul-le-mul {n₁ = top} {m₁ = 1} {n₂ = x} {m₂ = suc b} h (omega arith))

cut-mul : (a b : ℕ) → cut (cut a * cut b) ≡ cut (a * b)
cut-mul a b = cut_left a (cut b) ∙ ap cut (mul_comm a (cut b)) ∙ cut_left b a ∙ ap cut (mul_comm b a)

cut-bin : (o : Bin) (a b : ℕ) → cut (bin_bound o (cut a) (cut b)) ≡ cut (bin_bound o a b)
unfolding bin_bound
cut-bin plus a b = omega arith
cut-bin minus a b = omega arith
cut-bin times a b = cut-mul a b
cut-bin equal a b = refl
cut-bin less a b = refl
cut-bin and a b = refl
cut-bin or a b = refl

pub larger-second : (a b : ℕ) → a ≤ b → b ≡ larger a b
unfolding larger pick
larger-second a b h = rw (le-leb a b h)

pub larger-first : (a b : ℕ) → b < a → a ≡ larger a b
unfolding larger pick
larger-first a b h = rw (lt-leb a b h)

cut-larger : (a b : ℕ) → larger (cut a) (cut b) ≡ cut (larger a b)
cut-larger a b = by-test (leb a b)
    (λ p. let h = leb-true a b p in sym (larger-second (cut a) (cut b) (omega arith)) ∙ ap cut (larger-second a b h))
    (λ p. let h = leb-false a b p in by-test (leb (cut a) (cut b))
    (λ q. let l = leb-true (cut a) (cut b) q in sym (larger-second (cut a) (cut b) l) ∙ omega arith ∙ ap cut (larger-first a b h))
    (λ q. let l = leb-false (cut a) (cut b) q in sym (larger-first (cut a) (cut b) l) ∙ ap cut (larger-first a b h)))

-- of an operator, by the bounds of its first three terms
cut_app : (f : Sy.Fun) (bs : List ℕ) → app_bound f (cut (get_or bs 0 0) ∷ cut (get_or bs 1 0) ∷ cut (get_or bs 2 0) ∷ []) ≡ cut (app_bound f bs)
unfolding app_bound
cut_app choice bs = cut-larger (get_or bs 1 0) (get_or bs 2 0)
cut_app (is_open n c) bs = refl

small_cut : (n : ℕ) → leb (cut n) (2 ^ 62) ≡ leb n (2 ^ 62)
small_cut n = by-test (leb n (2 ^ 62)) (λ p. le-leb (cut n) (2 ^ 62) (omega (arith, leb-true n (2 ^ 62) p)) ∙ sym p) (λ p. lt-leb (cut n) (2 ^ 62) (omega (arith, leb-false n (2 ^ 62) p)) ∙ sym p)

head-bound : (m : Sy.Monoid) (a : ℕ) → per_head m (cut a) ≡ cut (comp_bound m 0 a)
unfolding per_head comp_bound
head-bound (of c) a = refl
head-bound sum a = omega arith
head-bound max a = refl
head-bound Sy.min a = refl
head-bound some a = refl
head-bound all a = refl

generator-bound : (m : Sy.Monoid) (g a : ℕ) → per_generator m (cut (comp_bound m g a)) ≡ cut (comp_bound m (1 + g) a)
unfolding per_generator comp_bound
generator-bound (of c) g a = refl
generator-bound sum g a = cut_left (a * 1024 ^ g) 1024 ∙ ap cut (mul_assoc a (1024 ^ g) 1024 ∙ ap (λ x. a * x) (sym (pow-suc 1024 g) ∙ ap (λ x. 1024 ^ x) (omega arith)))
generator-bound max g a = refl
generator-bound Sy.min g a = refl
generator-bound some g a = refl
generator-bound all g a = refl

-- ---- generators one by one
-- with k more on b it is as with n more on a
pub record Repeating (m : Sy.Monoid) (n a k b : ℕ) : Type 0 where
  pub is : per_generators m k b ≡ per_generators m n a

pub repeating-first : {m : Sy.Monoid} {n k a : ℕ} → k ≡ n → Repeating m n a k a
repeating-first {m} {a = a} e = record { is = ap (λ (x : ℕ). per_generators m x a) e }

generators-more : (m : Sy.Monoid) (k n a : ℕ) → k ≡ suc n → per_generators m k a ≡ per_generators m n (per_generator m a)
unfolding per_generators
generators-more m k n a e = ap (λ (x : ℕ). per_generators m x a) e

module _ {m : Sy.Monoid} {n a k b : ℕ} (I : Repeating m n a k b) where
  pub repeating-again : {r l : ℕ} → k ≡ suc l → r ≡ per_generator m b → Repeating m n a l r
  repeating-again {l = l} h p = record { is = ap (per_generators m l) p ∙ sym (generators-more m k l b h) ∙ I.is }

  pub repeating-last : k ≤ 0 → b ≡ per_generators m n a
  unfolding per_generators
  repeating-last h = ap (λ (x : ℕ). per_generators m x b) {x = 0} {y = k} (omega arith) ∙ I.is

-- ---- the size of a form, by its node
-- a number's own bound D is looked at besides what is in it
checked-size : {D : Declared} {b : ℕ} {u : Bool} {r : Size} (t : Form) → CheckedPost b u r → b ≡ cut (bound D t) → within D t ≡ (small D t && u) → SizeOf D t r
checked-size {D} {u = u} t C e w = record {
  bound_is = C.bound_is ∙ e;
  fits_is = C.fits_is ∙ ap (λ x. leb x (2 ^ 62) && u) e ∙ ap (λ x. x && u) (small_cut (bound D t)) ∙ sym w;
}

sized : {D : Declared} {s : List ℕ} {i : ℕ} {n : FormNode} {r : Size} → Looks s i n → ((f : ℕ) → left i < suc f → SizeOf D (form_node f s i n) r) → FormSizePost D s i r
sized {D} {r = r} H h = record { is = elim [ zero ↦ λ l. absurd (omega arith) | suc f ↦ λ l. subst (λ (t : Form). SizeOf D t r) (sym (form-is H f)) (h f l) ] }

sized_c : {D : Declared} {s : List ℕ} {i : ℕ} {n : Clause} {m : Monoid} {r : Size} → LooksC s i n → ((f : ℕ) → left i + 1 < suc f → SizeOfC D (monoid_of m) (clauses_node f s i n) (head_node f s i n) r) → ClausesSizePost D s i m r
sized_c {D} {s} {i} {n} {m} {r} H h = record {
  is = elim [
    | zero ↦ λ l. absurd (omega arith)
    | suc f ↦ λ l.
        subst (λ (q : Clauses). SizeOfC D (monoid_of m) q (head_tree (suc f) s i) r) (sym (clauses-is H f)) (subst (λ (t : Form). SizeOfC D (monoid_of m) (clauses_node f s i n) t r) (sym (head-is H f)) (h f l))
  ];
}

module _ {D : Declared} {s : List ℕ} {i : ℕ} {r : Size} where
  pub size_number : {z z' : ℤ} {b : ℕ} → Looks s i (Number z) → z' ≡ z → b ≡ nat_abs z' → CheckedPost b true r → FormSizePost D s i r
  unfolding bound within
  size_number {z} H e q C = sized H (λ f l. checked-size (form_node f s i (Number z)) C (q ∙ ap nat_abs e ∙ omega (arith, H.inside)) (sym (and-true (leb (nat_abs z) (2 ^ 62)))))

  -- what is no number, and holds none
  module _ (U : UnboundedPost true r) where
    size-truth : {b : Bool} → Looks s i (Truth b) → FormSizePost D s i r
    unfolding bound within
    size-truth H = sized H (λ f l. record { bound_is = U.bound_is; fits_is = U.fits_is })

    size-row : {g : ℕ} → Looks s i (Row g) → FormSizePost D s i r
    unfolding bound within
    size-row H = sized H (λ f l. record { bound_is = U.bound_is; fits_is = U.fits_is })

    size-generator : {g k : ℕ} → Looks s i (Generator g k) → FormSizePost D s i r
    unfolding bound within
    size-generator H = sized H (λ f l. record { bound_is = U.bound_is; fits_is = U.fits_is })

    size-condition : {j : ℕ} → Looks s i (Condition j) → FormSizePost D s i r
    unfolding bound within
    size-condition H = sized H (λ f l. record { bound_is = U.bound_is; fits_is = U.fits_is })

    size-nothing : Looks s i Nothing → FormSizePost D s i r
    unfolding bound within
    size-nothing H = sized H (λ f l. record { bound_is = U.bound_is; fits_is = U.fits_is })

    pub size-none : {n : FormNode} → Looks s i n
        → ((b : Bool) × (n ≡ Truth b)) ⊎ (((g : ℕ) × (n ≡ Row g)) ⊎ (((g : ℕ) × (k : ℕ) × (n ≡ Generator g k)) ⊎ (((j : ℕ) × (n ≡ Condition j)) ⊎ (n ≡ Nothing)))) → FormSizePost D s i r
    size-none H (inl p) = size-truth (subst (Looks s i) p.1 H)
    size-none H (inr (inl p)) = size-row (subst (Looks s i) p.1 H)
    size-none H (inr (inr (inl p))) = size-generator (subst (Looks s i) p.2 H)
    size-none H (inr (inr (inr (inl p)))) = size-condition (subst (Looks s i) p.1 H)
    size-none H (inr (inr (inr (inr e)))) = size-nothing (subst (Looks s i) e H)

  pub size-cell : {c g b : ℕ} → Looks s i (Cell c g) → b ≡ D g c → b < 2 ^ 32 → CheckedPost b true r → FormSizePost D s i r
  unfolding bound within
  size-cell {c} {g} H e p C = sized H (λ f l. checked-size (form_node f s i (Cell c g)) C (omega (arith, e, p)) (sym (and-true (leb (D g c) (2 ^ 62)))))

  pub size-record : {e : ℕ} {w : Bool} → Looks s i (Record e) → RecordFitsPost D s (i + 1) e w → UnboundedPost w r → FormSizePost D s i r
  unfolding bound within
  size-record H W U = sized H (λ f l. record { bound_is = U.bound_is; fits_is = U.fits_is ∙ W.is f (omega (arith, H.inside.0, H.inside.1)) })

  pub size-binary : {o : BinOp} {j b : ℕ} {u : Bool} {x y : Size} → Looks s i (Binary o j) → FormSizePost D s (i + 1) x → FormSizePost D s j y →
      b ≡ cut (bin_bound (bin_of o) x.bound y.bound) → u ≡ (x.fits && y.fits) → CheckedPost b u r → FormSizePost D s i r
  unfolding bound within
  size-binary {o} {j} H X Y p q C = sized H (λ f l.
      let A = X.is f (omega (arith, H.inside.0, H.inside.1)) in
      let B = Y.is f (omega (arith, H.inside.0, H.inside.1)) in
      checked-size (form_node f s i (Binary o j)) C
      (p ∙ ap₂ (λ a b. cut (bin_bound (bin_of o) a b)) A.bound_is B.bound_is ∙ cut-bin (bin_of o) (bound D (form_tree f s (i + 1))) (bound D (form_tree f s j)))
      (ap (λ v. small D (form_node f s i (Binary o j)) && v) (sym (q ∙ ap₂ ◌&&◌ A.fits_is B.fits_is))))

  pub size-negation : {x : Size} → Looks s i Negation → FormSizePost D s (i + 1) x → UnboundedPost x.fits r → FormSizePost D s i r
  unfolding bound within
  size-negation H X U = sized H (λ f l. record { bound_is = U.bound_is; fits_is = U.fits_is ∙ (X.is f (omega (arith, H.inside))).fits_is })

  pub size-comprehension : {m : Monoid} {x : Size} → Looks s i (Comprehension m) → ClausesSizePost D s (i + 1) m x → CheckedPost x.bound x.fits r → FormSizePost D s i r
  unfolding bound within
  size-comprehension {m} H X C = sized H (λ f l.
      let A = X.is f (omega (arith, H.inside)) in
      checked-size (form_node f s i (Comprehension m)) C A.bound_is (ap (λ v. small D (form_node f s i (Comprehension m)) && v) (sym A.fits_is)))

  pub size-operator : {o : Fun} {e : ℕ} → Looks s i (Operator o e) → OperatorSizePost D s (i + 1) e o r → FormSizePost D s i r
  size-operator H O = sized H (λ f l. O.is f (omega (arith, H.inside.0, H.inside.1)))

  -- clauses
  module _ {m : Monoid} where
    clauses-generator : {g k : ℕ} {x : Size} → LooksC s i (Cl.Generator g k) → ClausesSizePost D s (i + 1) m x →
        r.bound ≡ per_generator (monoid_of m) x.bound → r.fits ≡ x.fits → ClausesSizePost D s i m r
    unfolding own_gens within
    clauses-generator H X p q = sized_c H (λ f l.
        let A = X.is f (omega (arith, H.inside.0)) in
        record {
          bound_is = p ∙ ap (per_generator (monoid_of m)) A.bound_is ∙ generator-bound (monoid_of m) (own_gens (clauses_tree f s (i + 1))) (bound D (head_tree f s (i + 1)));
          fits_is = q ∙ A.fits_is;
        })

    clauses-condition : {j : ℕ} {t x : Size} → LooksC s i (Cl.Condition j) → FormSizePost D s (i + 1) t → ClausesSizePost D s j m x →
        r.bound ≡ x.bound → r.fits ≡ (t.fits && x.fits) → ClausesSizePost D s i m r
    unfolding own_gens within
    clauses-condition {j} H T X p q = sized_c H (λ f l.
        let A = X.is f (omega (arith, H.inside.0, H.inside.1)) in
        let B = T.is f (omega (arith, H.inside.0, H.inside.1)) in
        record {
          bound_is = p ∙ A.bound_is;
          fits_is = q ∙ ap₂ ◌&&◌ B.fits_is A.fits_is ∙ sym (and_assoc (within D (form_tree f s (i + 1))) (within_c D (clauses_tree f s j)) (within D (head_tree f s j)));
        })

    clauses-head : {x : Size} → LooksC s i Cl.Head → FormSizePost D s i x → r.bound ≡ per_head (monoid_of m) x.bound → r.fits ≡ x.fits → ClausesSizePost D s i m r
    unfolding own_gens within
    clauses-head H X p q = sized_c H (λ f l.
        let A = X.is f (omega arith) in
        record { bound_is = p ∙ ap (per_head (monoid_of m)) A.bound_is ∙ head-bound (monoid_of m) (bound D (form_tree f s i)); fits_is = q ∙ A.fits_is })

-- at the clause at j, behind n generators and conditions of which t says whether the numbers in them fit: what the clauses from
-- there on come to says what those from i on come to
pub record Sizing (D : Declared) (s : List ℕ) (i : ℕ) (m : Monoid) (j n : ℕ) (t : Bool) : Type 0 where
  pub low : left j ≤ left i
  pub few : n ≤ j
  pub back : (r a : Size) → ClausesSizePost D s j m a → r.bound ≡ per_generators (monoid_of m) n a.bound → r.fits ≡ (t && a.fits) → ClausesSizePost D s i m r

pub sizing-first : {D : Declared} {s : List ℕ} {i : ℕ} {m : Monoid} → Sizing D s i m i 0 true
unfolding per_generators
sizing-first = record {
  low = omega arith;
  few = omega arith;
  back = λ r a C p q. record { is = λ f l. record { bound_is = p ∙ (C.is f l).bound_is; fits_is = q ∙ (C.is f l).fits_is } };
}

module _ {D : Declared} {s : List ℕ} {i : ℕ} {m : Monoid} {j n : ℕ} {t : Bool} (I : Sizing D s i m j n t) where
  pub sizing-generator : {g k : ℕ} → LooksC s j (Cl.Generator g k) → Sizing D s i m (j + 1) (n + 1) t
  sizing-generator H = record {
    low = omega (arith, I.low);
    few = omega (arith, I.few);
    back = λ r a C p q. I.back r (record { bound = per_generator (monoid_of m) a.bound; fits = a.fits }) (clauses-generator H C refl refl) (p ∙ generators-more (monoid_of m) (n + 1) n a.bound (omega arith)) q;
  }

  pub sizing-condition : {e : ℕ} {x : Size} {u : Bool} → LooksC s j (Cl.Condition e) → FormSizePost D s (j + 1) x → u ≡ (t && x.fits) → Sizing D s i m e n u
  sizing-condition {x = x} H X w = record {
    low = omega (arith, I.low, H.inside.0);
    few = omega (arith, I.few, H.inside.0);
    back = λ r a C p q. I.back r (record { bound = a.bound; fits = x.fits && a.fits }) (clauses-condition H X C refl refl) p (q ∙ ap (λ y. y && a.fits) w ∙ and_assoc t x.fits a.fits);
  }

  pub sizing-head : {x r : Size} {b : ℕ} → LooksC s j Cl.Head → FormSizePost D s j x → b ≡ per_head (monoid_of m) x.bound → r.bound ≡ per_generators (monoid_of m) n b → r.fits ≡ (t && x.fits) →
      ClausesSizePost D s i m r
  sizing-head {x} {r} {b} H X p q w = I.back r (record { bound = b; fits = x.fits }) (clauses-head H X p refl) q w

-- ---- fields of a record
fields-end : {D : Declared} {s : List ℕ} {i e : ℕ} → e ≤ i → RecordFitsPost D s i e true
unfolding within
fields-end {D} {s} {i} {e} p = record { is = elim [ zero ↦ λ l. absurd (omega arith) | suc f ↦ λ l. sym (ap (within_f D) (forms-end f s i e p)) ] }

fields-more : {D : Declared} {s : List ℕ} {i e n : ℕ} {a : Size} {b r : Bool} → i < e → e ≤ form_words → FormSizePost D s i a → n ≡ next s i → RecordFitsPost D s n e b → r ≡ (a.fits && b) → RecordFitsPost D s i e r
unfolding within
fields-more {D} {s} {i} {e} {n} p t A q B w = record {
  is = elim [
    | zero ↦ λ l. absurd (omega arith)
    | suc f ↦ λ l.
        w ∙ ap₂ ◌&&◌ (A.is f (omega arith)).fits_is (B.is f (omega (arith, q, next_past s i (omega arith))) ∙ ap (λ x. within_f D (forms_tree f s x e)) q)
        ∙ sym (ap (within_f D) (forms-more f s i e p))
  ];
}

-- at the field at j, behind fields of which t says whether the numbers in them fit
pub record Fitting (D : Declared) (s : List ℕ) (i e j : ℕ) (t : Bool) : Type 0 where
  pub low : left j ≤ left i
  pub back : (r b : Bool) → RecordFitsPost D s j e b → r ≡ (t && b) → RecordFitsPost D s i e r

pub fitting-first : {D : Declared} {s : List ℕ} {i e : ℕ} → Fitting D s i e i true
fitting-first = record { low = omega arith; back = λ r b B q. record { is = λ f l. q ∙ B.is f l } }

module _ {D : Declared} {s : List ℕ} {i e j : ℕ} {t : Bool} (I : Fitting D s i e j t) where
  pub fitting-again : {n : ℕ} {a : Size} {u : Bool} → j < e → e ≤ form_words → FormSizePost D s j a → u ≡ (t && a.fits) → n ≡ next s j → Fitting D s i e n u
  fitting-again {a = a} p h A w q = record {
    low = omega (arith, I.low, q, next_past s j (omega arith));
    back = λ r b B y. I.back r (a.fits && b) (fields-more p h A q B refl) (y ∙ ap (λ z. z && b) w ∙ and_assoc t a.fits b);
  }

  pub fitting-last : e ≤ j → RecordFitsPost D s i e t
  fitting-last h = I.back t true (fields-end h) (sym (and-true t))

-- ---- the terms of an operator
rest : Forms → Forms
rest fnil = fnil
rest (fcons t ts) = ts

first-bound : (D : Declared) (ts : Forms) (r : Size) → FirstOf D ts r → r.bound ≡ cut (get_or (bounds D ts) 0 0)
unfolding bounds
first-bound D fnil r h = h.0
first-bound D (fcons t ts) r h = h.bound_is

later-bound : (D : Declared) (ts : Forms) (n : ℕ) → get_or (bounds D (rest ts)) n 0 ≡ get_or (bounds D ts) (suc n) 0
unfolding bounds rest
later-bound D fnil n = refl
later-bound D (fcons t ts) n = refl

first-within : (D : Declared) (ts : Forms) (r : Size) → FirstOf D ts r → (r.fits && within_f D (rest ts)) ≡ within_f D ts
unfolding within rest
first-within D fnil r h = ap (λ b. b && true) h.1
first-within D (fcons t ts) r h = ap (λ b. b && within_f D ts) h.fits_is

no-forms : (f : ℕ) (s : List ℕ) (i e : ℕ) → e ≤ i → forms_tree f s i e ≡ fnil
unfolding form_tree
no-forms zero s i e h = refl
no-forms (suc f) s i e h = forms-end f s i e h

no-behind : (s : List ℕ) (i e : ℕ) → e ≤ form_words → e ≤ i → e ≤ next s i
no-behind s i e h l = by-test (leb form_words i)
    (λ p. omega (arith, leb-true form_words i p, next-out s i (leb-true form_words i p)))
    (λ p. omega (arith, next_past s i (leb-false form_words i p)))

left-next : (s : List ℕ) (i : ℕ) → left (next s i) ≤ left i
left-next s i = by-test (leb form_words i) (λ p. omega (arith, next-out s i (leb-true form_words i p))) (λ p. omega (arith, next_past s i (leb-false form_words i p)))

pub left_after : (s : List ℕ) (i : ℕ) {j : ℕ} → j ≡ next s i → left j ≤ left i
left_after s i p = rw p (left-next s i)

rest-tree : (f : ℕ) (s : List ℕ) (i e : ℕ) → e ≤ form_words → rest (forms_tree (suc f) s i e) ≡ forms_tree f s (next s i) e
unfolding rest
rest-tree f s i e h = by-test (leb e i)
    (λ p. let l = leb-true e i p in ap rest (forms-end f s i e l) ∙ sym (no-forms f s (next s i) e (no-behind s i e h l)))
    (λ p. ap rest (forms-more f s i e (leb-false e i p)))

pub term-none : {D : Declared} {s : List ℕ} {i e : ℕ} {r : Size} → e ≤ i → UnboundedPost true r → TermSizePost D s i e r
term-none {D} {s} {i} {e} {r} h U = record { is = λ f l. subst (λ ts. FirstOf D ts r) (sym (no-forms f s i e h)) (U.bound_is, U.fits_is) }

pub term-some : {D : Declared} {s : List ℕ} {i e : ℕ} {r : Size} → i < e → FormSizePost D s i r → TermSizePost D s i e r
term-some {D} {s} {i} {e} {r} h A = record {
  is = elim [ zero ↦ λ l. absurd (omega arith) | suc f ↦ λ l. subst (λ ts. FirstOf D ts r) (sym (forms-more f s i e h)) (A.is f (omega arith)) ];
}

bound-lent : (K : ℕ → Calendar) (o : Fun) (bs : List ℕ) → app_bound (fun_of o) bs ≡ app_bound (lent_of K o) bs
unfolding app_bound
bound-lent K Choice bs = refl
bound-lent K (Open n) bs = refl

module _ (o : Fun) {D : Declared} {s : List ℕ} {i e j k n w : ℕ} {a b c x : Size} {r v : Bool} (h : e ≤ form_words) (A : TermSizePost D s i e a) (pj : j ≡ next s i) (B : TermSizePost D s j e b) (pk : k ≡ next s j)
    (C : TermSizePost D s k e c) (pn : n ≡ next s k) (R : RecordFitsPost D s n e r) (pw : w ≡ app_bound (fun_of o) (a.bound ∷ b.bound ∷ c.bound ∷ [])) (pv : v ≡ (((a.fits && b.fits) && c.fits) && r))
    (X : CheckedPost w v x) where
  -- the terms from the first, the second, the third on, and those behind it
  module _ (g : ℕ) (lj : left j + 1 < suc (suc g)) (li : left i + 1 < suc (suc (suc g))) (lk : left k + 1 < suc g) (ln : left n + 1 < g) where
    abbrev given : Forms
    given = forms_tree (suc (suc (suc g))) s i e

    second : rest given ≡ forms_tree (suc (suc g)) s j e
    second = rest-tree (suc (suc g)) s i e h ∙ ap (λ p. forms_tree (suc (suc g)) s p e) (sym pj)

    third : rest (rest given) ≡ forms_tree (suc g) s k e
    third = ap rest second ∙ rest-tree (suc g) s j e h ∙ ap (λ p. forms_tree (suc g) s p e) (sym pk)

    behind : rest (rest (rest given)) ≡ forms_tree g s n e
    behind = ap rest third ∙ rest-tree g s k e h ∙ ap (λ p. forms_tree g s p e) (sym pn)

    at_second : FirstOf D (rest given) b
    at_second = subst (λ ts. FirstOf D ts b) (sym second) (B.is (suc (suc g)) lj)

    at-third : FirstOf D (rest (rest given)) c
    at-third = subst (λ ts. FirstOf D ts c) (sym third) (C.is (suc g) lk)

    three-bounds : app_bound (op_in s o) (a.bound ∷ b.bound ∷ c.bound ∷ []) ≡ cut (app_bound (op_in s o) (bounds D given))
    three-bounds =
        rw (first-bound D given a (A.is (suc (suc (suc g))) li), first-bound D (rest given) b at_second ∙ ap cut (later-bound D given 0), first-bound D (rest (rest given)) c at-third ∙ ap cut (later-bound D (rest given) 0 ∙ later-bound D given 1))
        (cut_app (op_in s o) (bounds D given))

    all-within : v ≡ within_f D given
    all-within =
        pv ∙ and_assoc (a.fits && b.fits) c.fits r ∙ and_assoc a.fits b.fits (c.fits && r) ∙
        ap (λ y. a.fits && y) (ap (λ y. b.fits && y) (ap (λ y. c.fits && y) (R.is g ln ∙ sym (ap (within_f D) behind)) ∙ first-within D (rest (rest given)) c at-third) ∙ first-within D (rest given) b at_second)
        ∙ first-within D given a (A.is (suc (suc (suc g))) li)

    three-terms : SizeOf D (app (op_in s o) given) x
    unfolding bound within
    three-terms = checked-size (app (op_in s o) given) X (pw ∙ bound-lent (calendar_in s) o _ ∙ three-bounds) (ap (λ y. small D (app (op_in s o) given) && y) (sym all-within))

  pub operator-terms : OperatorSizePost D s i e o x
  operator-terms = record { is = go }
    where
      go : (f : ℕ) → left i + 2 < f → SizeOf D (app (op_in s o) (forms_tree f s i e)) x
      go zero l = absurd (omega arith)
      go (suc zero) l = absurd (omega arith)
      go (suc (suc zero)) l = absurd (omega arith)
      go (suc (suc (suc g))) l = by-test (leb e i)
          (λ p.
          let q = leb-true e i p in
          let m = left i + left j + left k + left n + 2 in
          subst (λ ts. SizeOf D (app (op_in s o) ts) x) (no-forms (suc (suc (suc m))) s i e q ∙ sym (no-forms (suc (suc (suc g))) s i e q))
          (three-terms m (omega arith) (omega arith) (omega arith) (omega arith)))
          (λ p.
          let q = leb-false e i p in
          let y = next_past s i (omega arith) in
          three-terms g (omega (arith, l, q, h, y, pj)) (omega (arith, l)) (omega (arith, l, q, h, y, pj, pk, left-next s j)) (omega (arith, l, q, h, y, pj, pk, pn, left-next s j, left-next s k)))

pub verdict : {D : Declared} {s : List ℕ} {a : Size} → FormSizePost D s 0 a → BoundFitsPost D s a.fits
verdict A = record { is = λ f l. (A.is f l).fits_is }

-- Where scratch holds the words of a normal form, and D says of each generator what its table's columns declare, the answer is whether its numbers fit.
pub verdict-is : {D : Declared} {s : List ℕ} {r : Bool} → BoundFitsPost D s r → (B : Declared) (n : NormalForm) → Numbered (as_form n) 0 → Named D B (as_form n) → Fl.Fits (as_form n) → Fl.CalendarsIn (calendar_in s) (as_form n) → length (flat (as_form n)) ≤ form_words → Holds s 0 (flat (as_form n)) → r ≡ numbers_fit B n
verdict-is {D} {s} A B n u v w y l h = A.is (left 0 + 1) (omega arith) ∙ ap (within D) (read_back (as_form n) s 0 w y (omega arith) h (left 0 + 1) (omega arith)) ∙ numbers-fit-as B D n u v
