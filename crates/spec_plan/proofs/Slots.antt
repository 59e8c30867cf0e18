-- Plan terms read a row as the normal form reads its environment.
use mathlib.Core.Path.{◌≡◌, refl, sym, ap, ap₂, ◌∙◌, fun_ext}
use mathlib.Core.List.{List, [], ◌∷◌, ◌++◌, append_assoc, append-nil}
use mathlib.Core.Bool.{Bool, true, false, ◌&&◌, and-true, and_assoc, and-eq-true_iff}
use Prim.Native.Nat.{ℕ, suc, ◌+◌, ◌≤◌}
use native.Mathlib.Omega.{arith}
use lib.Dec.{eqb}
use lib.ListN.{length}
use Rattle.spec_calculus.specs.Lists.{pick, upd}
use Rattle.spec_calculus.specs.Syntax.{and}
use Rattle.spec_calculus.specs.Value.{Value, vcons, as_bool, field_of, bin_v, not_v, app_v, Tables}
use Rattle.spec_calculus.specs.Value as Va
use Rattle.spec_calculus.specs.Monoid.{Fold}
use Rattle.spec_calculus.specs.Meaning.{Env}
use Rattle.spec_calculus.proofs.Lists.{All}
use Rattle.spec_normal_form.specs.Form.{Form, Forms, num, truth, cell, rec, bin, negate, app, comp, fnil, fcons, value, values}
use Rattle.spec_normal_form.specs.Form as Nf
use Rattle.spec_plan.specs.Plan.{PTerm, place, pbin}
use Rattle.spec_plan.specs.Operators.{Place, row, val, Row, value_of, eval_p, eval_ps, meets, whole}
use Rattle.spec_plan.specs.Planner.{free, frees, Slots, next, nexts, term, terms, next_l, term_l, joined, conj, Gen, from, from_unit, or_unit, slot, slots, after}
use Rattle.spec_plan.proofs.StreamRows.{length-snoc, at_before, at_here, whole_val}
use Rattle.spec_plan.proofs.Conditions.{bind_g, hold}

-- where there is no generator there is one over unit
pub unit-length : (gs : List Gen) → length (or_unit gs) ≤ 1 + length gs
unfolding or_unit
unit-length [] = omega arith
unit-length (g ∷ gs) = omega arith

-- the environment that a row holds
abbrev pub env_of : Slots → Row → Env
env_of c r x = eval_p (c x) r

-- the slots lie within the first k places
abbrev pub Stable : ℕ → Slots → Type 0
Stable k c = (x : ℕ) (r y : Row) → k ≤ length r → eval_p (c x) (r ++ y) ≡ eval_p (c x) r

pub stable-up : (j k : ℕ) (c : Slots) → j ≤ k → Stable j c → Stable k c
stable-up j k c h s x r y e = s x r y (omega arith)

pub env-stable : (k : ℕ) (c : Slots) → Stable k c → (r y : Row) → k ≤ length r → env_of c (r ++ y) ≡ env_of c r
env-stable k c s r y h = fun_ext (λ x. s x r y h)

pub slot-stable : (g : Gen) (k : ℕ) (c : Slots) → Stable k c → Stable (suc k) (slot g k c)
unfolding slot upd eval_p
slot-stable (from g n) k c s x r y h = go (eqb g x)
  where
    go : (b : Bool) → eval_p (elim b [ true ↦ place k | false ↦ c x ]) (r ++ y) ≡ eval_p (elim b [ true ↦ place k | false ↦ c x ]) r
    go true = ap value_of (at_before k r y h)
    go false = s x r y (omega arith)
slot-stable from_unit k c s x r y h = s x r y (omega arith)

pub slots-stable : (gs : List Gen) (k : ℕ) (c : Slots) → Stable k c → Stable (after gs k) (slots gs k c)
unfolding slots after
slots-stable [] k c s = s
slots-stable (g ∷ gs) k c s = slots-stable gs (suc k) (slot g k c) (slot-stable g k c s)

-- a table row behind a row: the generator's turn of the loop
pub env-slot : (g : Gen) (k : ℕ) (c : Slots) → Stable k c → (r : Row) → length r ≡ k → (i : ℕ) (v : Value) → env_of (slot g k c) (r ++ row i v ∷ []) ≡ bind_g g v (env_of c r)
unfolding slot upd eval_p bind_g value_of
env-slot (from g n) k c s r e i v = fun_ext (λ x. go x (eqb g x))
  where
    go : (x : ℕ) (b : Bool) → eval_p (elim b [ true ↦ place k | false ↦ c x ]) (r ++ row i v ∷ []) ≡ elim b [ true ↦ v | false ↦ eval_p (c x) r ]
    go x true = ap value_of (at_here k r (row i v) [] e)
    go x false = s x r (row i v ∷ []) (omega arith)
env-slot from_unit k c s r e i v = env-stable k c s r (row i v ∷ []) (omega arith)

-- what the inner comprehensions of a term add to a row: each its value, or its monoid's value over nothing where the row
-- has a pad (b: it has none)
unfoldable mutual
  pub places : Fold → Tables → Bool → Form → Env → List Place
  places F T b (num z) ρ = []
  places F T b (truth t) ρ = []
  places F T b (Nf.row g) ρ = []
  places F T b (cell i g) ρ = []
  places F T b (rec ts) ρ = places_f F T b ts ρ
  places F T b (app f ts) ρ = places_f F T b ts ρ
  places F T b (bin o s t) ρ = places F T b s ρ ++ places F T b t ρ
  places F T b (negate t) ρ = places F T b t ρ
  places F T b (comp m q h) ρ = val (pick b (value F T (comp m q h) ρ) (F m [])) ∷ []

  pub places_f : Fold → Tables → Bool → Forms → Env → List Place
  places_f F T b fnil ρ = []
  places_f F T b (fcons t ts) ρ = places F T b t ρ ++ places_f F T b ts ρ

unfoldable pub places_l : Fold → Tables → Bool → List Form → Env → List Place
places_l F T b [] ρ = []
places_l F T b (t ∷ ts) ρ = places F T b t ρ ++ places_l F T b ts ρ

-- how a row widens, and that it gets no pad
abbrev pub Widens : (ℕ → ℕ) → Row → Type 0
Widens f y = (r : Row) → (length (r ++ y) ≡ f (length r)) × (whole (r ++ y) ≡ whole r)

widens-none : Widens (λ n. n) []
widens-none r = (ap length (append-nil r), ap whole (append-nil r))

widens-two : (f g : ℕ → ℕ) (x y : Row) → Widens f x → Widens g y → Widens (λ n. g (f n)) (x ++ y)
widens-two f g x y h k r = (ap length (sym (append_assoc r x y)) ∙ (k (r ++ x)).0 ∙ ap g (h r).0, ap whole (sym (append_assoc r x y)) ∙ (k (r ++ x)).1 ∙ (h r).1)

module _ (F : Fold) (T : Tables) (b : Bool) (ρ : Env) where
  mutual
    unfolding places next

    pub widens : (t : Form) → Widens (next t) (places F T b t ρ)
    widens (num z) = widens-none
    widens (truth t) = widens-none
    widens (Nf.row g) = widens-none
    widens (cell i g) = widens-none
    widens (rec ts) = widens_f ts
    widens (app f ts) = widens_f ts
    widens (bin o s t) = widens-two (next s) (next t) (places F T b s ρ) (places F T b t ρ) (widens s) (widens t)
    widens (negate t) = widens t
    widens (comp m q h) = λ r. (length-snoc r (val (pick b (value F T (comp m q h) ρ) (F m []))), whole_val r (pick b (value F T (comp m q h) ρ) (F m [])))

    widens_f : (ts : Forms) → Widens (nexts ts) (places_f F T b ts ρ)
    widens_f fnil = widens-none
    widens_f (fcons t ts) = widens-two (next t) (nexts ts) (places F T b t ρ) (places_f F T b ts ρ) (widens t) (widens_f ts)

  pub widens_l : (ts : List Form) → Widens (next_l ts) (places_l F T b ts ρ)
  unfolding places_l next_l
  widens_l [] = widens-none
  widens_l (t ∷ ts) = widens-two (next t) (next_l ts) (places F T b t ρ) (places_l F T b ts ρ) (widens t) (widens_l ts)

mutual
  unfolding next

  pub next_le : (t : Form) (k : ℕ) → k ≤ next t k
  next_le (num z) k = omega arith
  next_le (truth b) k = omega arith
  next_le (Nf.row g) k = omega arith
  next_le (cell i g) k = omega arith
  next_le (rec ts) k = nexts-le ts k
  next_le (app f ts) k = nexts-le ts k
  next_le (bin o s t) k = let h : k ≤ next s k = next_le s k in let l : next s k ≤ next t (next s k) = next_le t (next s k) in omega arith
  next_le (negate t) k = next_le t k
  next_le (comp m q h) k = omega arith

  pub nexts-le : (ts : Forms) (k : ℕ) → k ≤ nexts ts k
  nexts-le fnil k = omega arith
  nexts-le (fcons t ts) k = let h : k ≤ next t k = next_le t k in let l : next t k ≤ nexts ts (next t k) = nexts-le ts (next t k) in omega arith

pub next_l-le : (ts : List Form) (k : ℕ) → k ≤ next_l ts k
unfolding next_l
next_l-le [] k = omega arith
next_l-le (t ∷ ts) k = let h : k ≤ next t k = next_le t k in let l : next t k ≤ next_l ts (next t k) = next_l-le ts (next t k) in omega arith

-- a plan term does not see places behind its own
mutual
  unfolding term next eval_p

  pub term_stable : (t : Form) (c : Slots) (k : ℕ) → Stable k c → (r y : Row) → next t k ≤ length r → eval_p (term t c k) (r ++ y) ≡ eval_p (term t c k) r
  term_stable (num z) c k s r y h = refl
  term_stable (truth b) c k s r y h = refl
  term_stable (Nf.row g) c k s r y h = s g r y h
  term_stable (cell i g) c k s r y h = ap (field_of i) (s g r y h)
  term_stable (rec ts) c k s r y h = ap Va.rec (terms-stable ts c k s r y h)
  term_stable (app f ts) c k s r y h = ap (app_v f) (terms-stable ts c k s r y h)
  term_stable (bin o t u) c k s r y h =
      let l : next t k ≤ next u (next t k) = next_le u (next t k) in
      ap₂ (bin_v o) (term_stable t c k s r y (omega arith)) (term_stable u c (next t k) (stable-up k (next t k) c (next_le t k) s) r y h)
  term_stable (negate t) c k s r y h = ap not_v (term_stable t c k s r y h)
  term_stable (comp m q u) c k s r y h = ap value_of (at_before k r y h)

  terms-stable : (ts : Forms) (c : Slots) (k : ℕ) → Stable k c → (r y : Row) → nexts ts k ≤ length r → eval_ps (terms ts c k) (r ++ y) ≡ eval_ps (terms ts c k) r
  terms-stable fnil c k s r y h = refl
  terms-stable (fcons t ts) c k s r y h =
      let l : next t k ≤ nexts ts (next t k) = nexts-le ts (next t k) in
      ap₂ vcons (term_stable t c k s r y (omega arith)) (terms-stable ts c (next t k) (stable-up k (next t k) c (next_le t k) s) r y h)

module _ (F : Fold) (T : Tables) (c : Slots) (ρ : Env) where
  -- on a row that has grown by the values of a term's inner comprehensions, the plan term has the term's value
  mutual
    unfolding term next eval_p value places value_of pick

    pub term-ok : (t : Form) (k : ℕ) → Stable k c → (r : Row) → length r ≡ k → env_of c r ≡ ρ → eval_p (term t c k) (r ++ places F T true t ρ) ≡ value F T t ρ
    term-ok (num z) k s r w e = refl
    term-ok (truth b) k s r w e = refl
    term-ok (Nf.row g) k s r w e = ap (eval_p (c g)) (append-nil r) ∙ ap (λ σ. σ g) e
    term-ok (cell i g) k s r w e = ap (field_of i) (ap (eval_p (c g)) (append-nil r) ∙ ap (λ σ. σ g) e)
    term-ok (rec ts) k s r w e = ap Va.rec (terms-ok ts k s r w e)
    term-ok (app f ts) k s r w e = ap (app_v f) (terms-ok ts k s r w e)
    term-ok (bin o t u) k s r w e =
        let x : Row = places F T true t ρ in
        let y : Row = places F T true u ρ in
        let wx : length (r ++ x) ≡ next t k = (widens F T true ρ t r).0 ∙ ap (next t) w in
        ap₂ (bin_v o)
        (ap (eval_p (term t c k)) (sym (append_assoc r x y)) ∙ term_stable t c k s (r ++ x) y (omega arith) ∙ term-ok t k s r w e)
        (ap (eval_p (term u c (next t k))) (sym (append_assoc r x y)) ∙ term-ok u (next t k) (stable-up k (next t k) c (next_le t k) s) (r ++ x) wx (env-stable k c s r x (omega arith) ∙ e))
    term-ok (negate t) k s r w e = ap not_v (term-ok t k s r w e)
    term-ok (comp m q h) k s r w e = ap value_of (at_here k r (val (value F T (comp m q h) ρ)) [] w)

    terms-ok : (ts : Forms) (k : ℕ) → Stable k c → (r : Row) → length r ≡ k → env_of c r ≡ ρ → eval_ps (terms ts c k) (r ++ places_f F T true ts ρ) ≡ values F T ts ρ
    terms-ok fnil k s r w e = refl
    terms-ok (fcons t ts) k s r w e =
        let x : Row = places F T true t ρ in
        let y : Row = places_f F T true ts ρ in
        let wx : length (r ++ x) ≡ next t k = (widens F T true ρ t r).0 ∙ ap (next t) w in
        ap₂ vcons
        (ap (eval_p (term t c k)) (sym (append_assoc r x y)) ∙ term_stable t c k s (r ++ x) y (omega arith) ∙ term-ok t k s r w e)
        (ap (eval_ps (terms ts c (next t k))) (sym (append_assoc r x y)) ∙ terms-ok ts (next t k) (stable-up k (next t k) c (next_le t k) s) (r ++ x) wx (env-stable k c s r x (omega arith) ∙ e))

-- whether a row meets all of some conditions
unfoldable pub meets_all : List PTerm → Row → Bool
meets_all [] r = true
meets_all (a ∷ l) r = meets a r && meets_all l r

joined-all : (a : PTerm) (l : List PTerm) (r : Row) → meets (joined a l) r ≡ (meets a r && meets_all l r)
unfolding joined meets_all meets eval_p bin_v as_bool
joined-all a [] r = sym (and-true (meets a r))
joined-all a (b ∷ l) r = joined-all (pbin and a b) l r ∙ and_assoc (meets a r) (meets b r) (meets_all l r)

pub conj-all : (l : List PTerm) (r : Row) → meets (conj l) r ≡ meets_all l r
unfolding conj meets_all meets eval_p as_bool
conj-all [] r = refl
conj-all (a ∷ l) r = joined-all a l r

module _ (F : Fold) (T : Tables) (c : Slots) (ρ : Env) where
  -- the conditions that held a comprehension, on a row that has grown by their values and then by y
  pub late-ok : (ts : List Form) (k : ℕ) → Stable k c → (r : Row) → length r ≡ k → env_of c r ≡ ρ → (y : Row) → meets_all (term_l ts c k) ((r ++ places_l F T true ts ρ) ++ y) ≡ hold F T ts ρ
  unfolding meets_all term_l places_l hold meets
  late-ok [] k s r w e y = refl
  late-ok (t ∷ ts) k s r w e y =
      let x : Row = places F T true t ρ in
      let z : Row = places_l F T true ts ρ in
      let wx : length (r ++ x) ≡ next t k = (widens F T true ρ t r).0 ∙ ap (next t) w in
      ap₂ ◌&&◌
      (ap as_bool (ap (eval_p (term t c k)) (ap (λ l. l ++ y) (sym (append_assoc r x z)) ∙ append_assoc (r ++ x) z y) ∙ term_stable t c k s (r ++ x) (z ++ y) (omega arith) ∙ term-ok F T c ρ t k s r w e))
      (ap (λ l. meets_all (term_l ts c (next t k)) (l ++ y)) (sym (append_assoc r x z)) ∙ late-ok ts (next t k) (stable-up k (next t k) c (next_le t k) s) (r ++ x) wx (env-stable k c s r x (omega arith) ∙ e) y)

-- a term free of comprehensions has its value on any row
module _ (F : Fold) (T : Tables) (c : Slots) (r : Row) where
  mutual
    unfolding free term eval_p value

    free-ok : (t : Form) (k : ℕ) → free t ≡ true → eval_p (term t c k) r ≡ value F T t (env_of c r)
    free-ok (num z) k e = refl
    free-ok (truth b) k e = refl
    free-ok (Nf.row g) k e = refl
    free-ok (cell i g) k e = refl
    free-ok (rec ts) k e = ap Va.rec (frees-ok ts k e)
    free-ok (app f ts) k e = ap (app_v f) (frees-ok ts k e)
    free-ok (bin o s t) k e = let b = (and-eq-true_iff (free s) (free t)).0 e in ap₂ (bin_v o) (free-ok s k b.0) (free-ok t (next s k) b.1)
    free-ok (negate t) k e = ap not_v (free-ok t k e)
    free-ok (comp m q h) k e = cc e

    frees-ok : (ts : Forms) (k : ℕ) → frees ts ≡ true → eval_ps (terms ts c k) r ≡ values F T ts (env_of c r)
    frees-ok fnil k e = refl
    frees-ok (fcons t ts) k e = let b = (and-eq-true_iff (free t) (frees ts)).0 e in ap₂ vcons (free-ok t k b.0) (frees-ok ts (next t k) b.1)

  pub early-ok : (ts : List Form) (k : ℕ) → All (λ t. free t ≡ true) ts → meets_all (term_l ts c k) r ≡ hold F T ts (env_of c r)
  unfolding meets_all term_l hold meets
  early-ok [] k h = refl
  early-ok (t ∷ ts) k h = ap₂ ◌&&◌ (ap as_bool (free-ok t k h.0)) (early-ok ts (next t k) h.1)
