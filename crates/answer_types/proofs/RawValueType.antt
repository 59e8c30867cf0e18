-- The raw value of a normal form is of the type that the normal form stands for: a row is looked at only where its generator has
-- run, a generator has as many columns as its table, and no record is without fields.
use mathlib.Core.Path.{◌≡◌, refl, sym, subst}
use mathlib.Core.Bool.{Bool, true, false}
use mathlib.Core.List.{List, [], ◌∷◌, map}
use Prim.Native.Nat.{ℕ, zero, suc, ◌≤◌}
use native.Mathlib.Omega.{arith}
use lib.Dec.{T, eqb, eqb→eq}
use lib.IntN.{ℤ, pos}
use lib.ListN.{length}
use Rattle.spec_calculus.specs.Lists.{guard, pick, upd}
use Rattle.spec_calculus.specs.Syntax as Sy
use Rattle.spec_calculus.specs.Syntax.{Monoid, of, sum, max, some, all, Bin, plus, minus, times, equal, less, and, or, Fun, choice, is_open}
use Rattle.spec_calculus.specs.Value.{Value, Values, to_list, from_list, junk, as_bool, nth, field_of, bin_v, not_v, scalar, choice_v, app_v, Tables, columns_of, is_there, rows_of}
use Rattle.spec_calculus.specs.Value as Va
use Rattle.spec_calculus.specs.Monoid.{start, step, total, finish, fold_by, raw}
use Rattle.spec_calculus.specs.Meaning.{Env}
use Rattle.spec_calculus.proofs.Lists.{All, all-imp, all-bind}
use Rattle.spec_calculus.proofs.Folds.{raw_of}
use Rattle.spec_calculus.proofs.WellFormed.{WellFormedRow, WellFormed, rows-well-formed, columns-at-least, absent-no-rows}
use Rattle.spec_checks.specs.Types.{Ty, Tys, number, truth, record', coll, ynil, ycons, cells}
use Rattle.spec_checks.proofs.Judgement.{result, Scalar, Takes}
use Rattle.spec_checks.proofs.Refold.{gives, gathered}
use Rattle.spec_normal_form.specs.Form.{Form, Forms, Clauses, NormalForm, as_form, row, cell, rec, bin, negate, app, comp, fnil, fcons, done, gen, cond, value, values, loops, normal_value}
use Rattle.spec_normal_form.specs.Form as Fo
use Rattle.base_signed.proofs.SignedWords.{by-test}
use Rattle.answer_types.specs.Shape.{type_of, types_of}
use Rattle.answer_types.specs.TypedValues.{Some, Of, a_number, a_truth, a_record, a_collection, OfEach, no_field, field, AllOf, no_element, element}

-- ---- elements as a list
pub to-all : {t : Ty} {vs : Values} → AllOf t vs → All (Of t) (to_list vs)
to-all no_element = tt
to-all (element h k) = (h, to-all k)

pub from_all : {t : Ty} (l : List Value) → All (Of t) l → AllOf t (from_list l)
from_all [] h = no_element
from_all (v ∷ l) h = element h.0 (from_all l h.1)

-- ---- rows
row-cells : (zs : List ℤ) → OfEach (cells (length zs)) (from_list (map Va.num zs))
unfolding cells
row-cells [] = no_field
row-cells (z ∷ zs) = field (a_number z) (row-cells zs)

some-cells : (n : ℕ) → 1 ≤ n → Some (cells n)
unfolding cells
some-cells zero l = absurd (omega arith)
some-cells (suc n) l = tt

row_of : {n : ℕ} {v : Value} → 1 ≤ n → WellFormedRow n v → Of (record' (cells n)) v
row_of {n} l r = subst (Of (record' (cells n))) (sym r.is) (a_record (some-cells n l) (subst (λ (m : ℕ). OfEach (cells m) (from_list (map Va.num r.cells))) r.width (row-cells r.cells)))

rows-of : {D : Tables} → WellFormed D → (k : ℕ) → All (Of (record' (cells (columns_of D k)))) (rows_of D k)
rows-of {D} W k = by-test (is_there D k)
    (λ e. all-imp (WellFormedRow (columns_of D k)) (Of (record' (cells (columns_of D k)))) (rows_of D k) (rows-well-formed W k) (λ v r. row_of (columns-at-least W k e) r))
    (λ e. rw (absent-no-rows W k e) tt)

nth_of : (n i : ℕ) (vs : Values) → OfEach (cells n) vs → Of number (nth i vs)
unfolding cells nth
nth_of zero i vs no_field = a_number (pos 0)
nth_of (suc n) zero vs (field h k) = h
nth_of (suc n) (suc i) vs (field {vs = ws} h k) = nth_of n i ws k

-- ---- what generators stand for: a row where they have run, nothing yet before
abbrev StandsFor : Bool → ℕ → Value → Type 0
StandsFor true n v = Of (record' (cells n)) v
StandsFor false n v = v ≡ junk

abbrev pub Stand : (ℕ → ℕ) → (ℕ → Bool) → Env → Type 0
Stand C B ρ = (g : ℕ) → StandsFor (B g) (C g) (ρ g)

stand-next : (C : ℕ → ℕ) (B : ℕ → Bool) (ρ : Env) (g : ℕ) (v : Value) → Stand C B ρ → Of (record' (cells (C g))) v → Stand C (upd g true B) (upd g v ρ)
unfolding upd
stand-next C B ρ g v S h x = go (eqb g x) refl
  where
    go : (b : Bool) → eqb g x ≡ b → StandsFor (elim b [ true ↦ true | false ↦ B x ]) (C x) (elim b [ true ↦ v | false ↦ ρ x ])
    go true e = subst (λ (y : ℕ). Of (record' (cells (C y))) v) (eqb→eq g x (subst T (sym e) tt)) h
    go false e = S x

cell-of : (b : Bool) (n i : ℕ) (v : Value) → StandsFor b n v → Of number (field_of i v)
unfolding field_of
cell-of true n i v (a_record {vs = vs} m h) = nth_of n i vs h
cell-of false n i v e = subst (λ (w : Value). Of number (field_of i w)) (sym e) (a_number (pos 0))

-- which generators have run behind clauses
unfoldable pub ran : Clauses → (ℕ → Bool) → ℕ → Bool
ran done B = B
ran (gen g k q) B = ran q (upd g true B)
ran (cond t q) B = ran q B

-- The branches of each choice that is written, in a head or in a field of it, are numbers or truths alike.
abbrev mutual
  pub Even : (ℕ → ℕ) → Form → Type 0
  Even C (Fo.num z) = Unit {0}
  Even C (Fo.truth b) = Unit {0}
  Even C (row g) = Unit {0}
  Even C (cell i g) = Unit {0}
  Even C (rec ts) = EvenF C ts
  Even C (bin o t u) = Unit {0}
  Even C (negate t) = Unit {0}
  Even C (app f ts) = Takes f (types_of C ts) (gives f (types_of C ts)) × EvenF C ts
  Even C (comp m q h) = Even C h

  pub EvenF : (ℕ → ℕ) → Forms → Type 0
  EvenF C fnil = Unit {0}
  EvenF C (fcons t ts) = Even C t × EvenF C ts

-- Each row in the head, or in a field of it, is of a generator that has run (those in B), and each generator has as many columns
-- as its table.
abbrev mutual
  pub Rooted : (ℕ → ℕ) → Tables → (ℕ → Bool) → Form → Type 0
  Rooted C T B (Fo.num z) = Unit {0}
  Rooted C T B (Fo.truth b) = Unit {0}
  Rooted C T B (row g) = B g ≡ true
  Rooted C T B (cell i g) = Unit {0}
  Rooted C T B (rec ts) = RootedF C T B ts
  Rooted C T B (bin o t u) = Unit {0}
  Rooted C T B (negate t) = Unit {0}
  Rooted C T B (app f ts) = Even C (app f ts)
  Rooted C T B (comp m q h) = RootedC C T B q × Rooted C T (ran q B) h

  pub RootedF : (ℕ → ℕ) → Tables → (ℕ → Bool) → Forms → Type 0
  RootedF C T B fnil = Unit {0}
  RootedF C T B (fcons t ts) = Rooted C T B t × RootedF C T B ts

  pub RootedC : (ℕ → ℕ) → Tables → (ℕ → Bool) → Clauses → Type 0
  RootedC C T B done = Unit {0}
  RootedC C T B (gen g k q) = (C g ≡ columns_of T k) × RootedC C T (upd g true B) q
  RootedC C T B (cond t q) = RootedC C T B q

-- No record in the head, or in a field of it, is without fields.
abbrev pub SomeF : Forms → Type 0
SomeF fnil = ⊥
SomeF (fcons t ts) = Unit {0}

abbrev mutual
  pub Solid : Form → Type 0
  Solid (Fo.num z) = Unit {0}
  Solid (Fo.truth b) = Unit {0}
  Solid (row g) = Unit {0}
  Solid (cell i g) = Unit {0}
  Solid (rec ts) = SomeF ts × SolidF ts
  Solid (bin o t u) = Unit {0}
  Solid (negate t) = Unit {0}
  Solid (app f ts) = Unit {0}
  Solid (comp m q h) = Solid h

  pub SolidF : Forms → Type 0
  SolidF fnil = Unit {0}
  SolidF (fcons t ts) = Solid t × SolidF ts

some-types : (C : ℕ → ℕ) (ts : Forms) → SomeF ts → Some (types_of C ts)
unfolding type_of
some-types C fnil h = absurd h
some-types C (fcons t ts) h = tt

-- ---- operators and monoids
bin-of : (o : Bin) (v w : Value) → Of (result o) (bin_v o v w)
unfolding result bin_v
bin-of plus v w = a_number _
bin-of minus v w = a_number _
bin-of times v w = a_number _
bin-of equal v w = a_truth _
bin-of less v w = a_truth _
bin-of and v w = a_truth _
bin-of or v w = a_truth _

fold-of : (m : Monoid) (t : Ty) (l : List Value) → All (Of t) l → Of (gathered m t) (raw m l)
unfolding gathered raw fold_by total finish start step
fold-of (of c) t l h = subst (Of (coll c t)) (sym (raw_of c l)) (a_collection c (from_all l h))
fold-of sum t [] h = a_number _
fold-of sum t (v ∷ l) h = a_number _
fold-of max t l h = a_number _
fold-of Sy.min t l h = a_number _
fold-of some t [] h = a_truth _
fold-of some t (v ∷ l) h = a_truth _
fold-of all t [] h = a_truth _
fold-of all t (v ∷ l) h = a_truth _

scalar-fold-of : (m : Monoid) (t : Ty) (l : List Value) → Scalar (gathered m t) → Of (gathered m t) (raw m l)
unfolding gathered raw fold_by total finish start step
scalar-fold-of (of c) t l s = absurd s
scalar-fold-of sum t [] s = a_number _
scalar-fold-of sum t (v ∷ l) s = a_number _
scalar-fold-of max t l s = a_number _
scalar-fold-of Sy.min t l s = a_number _
scalar-fold-of some t [] s = a_truth _
scalar-fold-of some t (v ∷ l) s = a_truth _
scalar-fold-of all t [] s = a_truth _
scalar-fold-of all t (v ∷ l) s = a_truth _

-- a number or a truth, read as one
scalar-same : (t : Ty) (v : Value) → Scalar t → Of t v → Of t (scalar v)
unfolding scalar
scalar-same number v s (a_number z) = a_number z
scalar-same truth v s (a_truth b) = a_truth b
scalar-same (record' ts) v s h = absurd s
scalar-same (coll c t) v s h = absurd s

choice-of : (b : Bool) (t : Ty) (v w : Value) → Scalar t → Of t v → Of t w → Of t (scalar (pick b v w))
unfolding pick
choice-of true t v w s h k = scalar-same t v s h
choice-of false t v w s h k = scalar-same t w s k

choice-values : (t : Ty) (vs : Values) → Scalar t → OfEach (ycons truth (ycons t (ycons t ynil))) vs → Of t (app_v choice vs)
unfolding app_v choice_v nth
choice-values t vs s (field {v = c} h (field {v = v} a (field {v = w} b no_field))) = choice-of (as_bool c) t v w s a b

app_of : (f : Fun) (us : Tys) (t : Ty) (vs : Values) → Takes f us t → OfEach us vs → Of t (app_v f vs)
unfolding app_v
app_of (is_open n c) us t vs h k = subst (λ (x : Ty). Of x (app_v (is_open n c) vs)) (sym h.0) (a_truth _)
app_of choice us t vs h k = choice-values t vs h.0 (subst (λ (ts : Tys). OfEach ts vs) h.1 k)

pub takes-scalar : (f : Fun) (us : Tys) (t : Ty) → Takes f us t → Scalar t
takes-scalar choice us t h = h.0
takes-scalar (is_open n c) us t h = subst Scalar (sym h.0) tt

-- numbers and truths
abbrev pub Scalars : Tys → Type 0
Scalars ynil = Unit {0}
Scalars (ycons t ts) = Scalar t × Scalars ts

pub takes-scalars : (f : Fun) (us : Tys) (t : Ty) → Takes f us t → Scalars us
takes-scalars choice us t h = subst Scalars (sym h.1) (tt, (h.0, (h.0, tt)))
takes-scalars (is_open n c) us t h = subst Scalars (sym h.1) (tt, tt)

guard_all : (P : Value → Type 0) (b : Bool) (l : List Value) → All P l → All P (guard b l)
unfolding guard
guard_all P true l h = h
guard_all P false l h = tt

module _ {D : Tables} (W : WellFormed D) (C : ℕ → ℕ) where
  loops-of : (P : Value → Type 0) (B : ℕ → Bool) (q : Clauses) (k : Env → List Value) (ρ : Env) → RootedC C D B q → Stand C B ρ → ((σ : Env) → Stand C (ran q B) σ → All P (k σ)) → All P (loops raw D q k ρ)
  unfolding value ran
  loops-of P B done k ρ h S f = f ρ S
  loops-of P B (gen g t q) k ρ h S f = all-bind (Of (record' (cells (columns_of D t)))) P (λ v. loops raw D q k (upd g v ρ)) (rows_of D t) (rows-of W t) (λ v r.
      loops-of P (upd g true B) q k (upd g v ρ) h.1 (stand-next C B ρ g v S (subst (λ (n : ℕ). Of (record' (cells n)) v) (sym h.0) r)) f)
  loops-of P B (cond t q) k ρ h S f = guard_all P (as_bool (value raw D t ρ)) (loops raw D q k ρ) (loops-of P B q k ρ h S f)

  -- a number or a truth: nothing is asked of what is inside
  mutual
    unfolding value type_of not_v

    scalar-of : (B : ℕ → Bool) (t : Form) (ρ : Env) → Scalar (type_of C t) → Even C t → Stand C B ρ → Of (type_of C t) (value raw D t ρ)
    scalar-of B (Fo.num z) ρ s e S = a_number z
    scalar-of B (Fo.truth b) ρ s e S = a_truth b
    scalar-of B (row g) ρ s e S = absurd s
    scalar-of B (cell i g) ρ s e S = cell-of (B g) (C g) i (ρ g) (S g)
    scalar-of B (rec ts) ρ s e S = absurd s
    scalar-of B (bin o t u) ρ s e S = bin-of o (value raw D t ρ) (value raw D u ρ)
    scalar-of B (negate t) ρ s e S = a_truth _
    scalar-of B (app f ts) ρ s e S = app_of f (types_of C ts) (gives f (types_of C ts)) (values raw D ts ρ) e.0 (scalars-of B ts ρ (takes-scalars f (types_of C ts) (gives f (types_of C ts)) e.0) e.1 S)
    scalar-of B (comp m q t) ρ s e S = scalar-fold-of m (type_of C t) (loops raw D q (λ σ. value raw D t σ ∷ []) ρ) s

    scalars-of : (B : ℕ → Bool) (ts : Forms) (ρ : Env) → Scalars (types_of C ts) → EvenF C ts → Stand C B ρ → OfEach (types_of C ts) (values raw D ts ρ)
    scalars-of B fnil ρ s e S = no_field
    scalars-of B (fcons t ts) ρ s e S = field (scalar-of B t ρ s.0 e.0 S) (scalars-of B ts ρ s.1 e.1 S)

  mutual
    unfolding value type_of not_v

    pub value_of : (B : ℕ → Bool) (t : Form) (ρ : Env) → Solid t → Rooted C D B t → Stand C B ρ → Of (type_of C t) (value raw D t ρ)
    value_of B (Fo.num z) ρ n h S = a_number z
    value_of B (Fo.truth b) ρ n h S = a_truth b
    value_of B (row g) ρ n h S = subst (λ b. StandsFor b (C g) (ρ g)) h (S g)
    value_of B (cell i g) ρ n h S = cell-of (B g) (C g) i (ρ g) (S g)
    value_of B (rec ts) ρ n h S = a_record (some-types C ts n.0) (values_of B ts ρ n.1 h S)
    value_of B (bin o t u) ρ n h S = bin-of o (value raw D t ρ) (value raw D u ρ)
    value_of B (negate t) ρ n h S = a_truth _
    value_of B (app f ts) ρ n h S = scalar-of B (app f ts) ρ (takes-scalar f (types_of C ts) (gives f (types_of C ts)) h.0) h S
    value_of B (comp m q t) ρ n h S = fold-of m (type_of C t) (loops raw D q (λ σ. value raw D t σ ∷ []) ρ) (loops-of (Of (type_of C t)) B q (λ σ. value raw D t σ ∷ []) ρ h.0 S (λ σ Z. (value_of (ran q B) t σ n h.1 Z, tt)))

    values_of : (B : ℕ → Bool) (ts : Forms) (ρ : Env) → SolidF ts → RootedF C D B ts → Stand C B ρ → OfEach (types_of C ts) (values raw D ts ρ)
    values_of B fnil ρ n h S = no_field
    values_of B (fcons t ts) ρ n h S = field (value_of B t ρ n.0 h.0 S) (values_of B ts ρ n.1 h.1 S)

  -- The raw value of a question's normal form.
  pub normal-of : (t : NormalForm) → Solid (as_form t) → Rooted C D (λ g. false) (as_form t) → Of (type_of C (as_form t)) (normal_value raw D t)
  unfolding normal_value
  normal-of t n h = value_of (λ g. false) (as_form t) (λ g. junk) n h (λ g. refl)
