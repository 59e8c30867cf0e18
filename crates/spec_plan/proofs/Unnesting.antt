-- Unnesting: the value of the plan is the value of the normal form.
use mathlib.Core.Path.{◌≡◌, refl, sym, ap, ap₂, ◌∙◌}
use mathlib.Core.List.{List, [], ◌∷◌, ◌++◌, map, append_assoc, append-nil}
use mathlib.Core.Bool.{Bool, true, false, not}
use Prim.Native.Nat.{ℕ}
use native.Mathlib.Omega.{arith}
use lib.ListN.{length, take}
use lib.Seq.{take_at}
use Rattle.spec_calculus.specs.Lists.{bind_l, guard, pick}
use Rattle.spec_calculus.specs.Syntax.{Monoid}
use Rattle.spec_calculus.specs.Value.{Value, junk, Tables}
use Rattle.spec_calculus.specs.Monoid.{Fold}
use Rattle.spec_calculus.specs.Meaning.{Env}
use Rattle.spec_calculus.proofs.Lists.{bind-map, bind-one, map-map, map-bind, map_same, All, Some, all-bind, all_map, all-imp, all-zip, some-map, map-all, bind_all}
use Rattle.spec_normal_form.specs.Form.{Form, Forms, Clauses, NormalForm, as_form, num, truth, row, cell, rec, bin, negate, app, comp, fnil, fcons, done, gen, cond, value, loops, normal_value}
use Rattle.spec_plan.specs.Plan.{PTerm, Op, join, outer, nest}
use Rattle.spec_plan.specs.Operators.{Place, val, Row, Stream, eval_p, whole, matches, matches_or_pad, heads, groups, close, apply, exec, one, plan_value}
use Rattle.spec_plan.specs.Planner.{free, Slots, next, term, next_l, term_l, conj, plan_gens, conds_of, sift, early, late, slots, after, grows, ops, ops_f, ops_c, no_slots, plan_of}
use Rattle.spec_plan.proofs.StreamRows.{Differ, Grows, apart-differ, differ-bind, differ-map}
use Rattle.spec_plan.proofs.Nest.{nest-all}
use Rattle.spec_plan.proofs.ConditionScope.{Scoped, ScopedF, ScopedC}
use Rattle.spec_plan.proofs.Conditions.{hold, loops-placed, sift-all}
use Rattle.spec_plan.proofs.Slots.{env_of, Stable, stable-up, env-stable, slots-stable, places, places_f, places_l, Widens, widens, widens_l, next_le, next_l-le, term-ok, meets_all, conj-all, late-ok}
use Rattle.spec_plan.proofs.Growth.{exec-append, Grew, grew-more, grew-take, join-local, outer-local, grown, exec-grows, grown-on, grown-apart, grown-live, grown-some, grown-whole}

-- A comprehension with clauses q and head h planned at width k, where the slots are c: the slots and the width behind its
-- generators, the width behind the inner comprehensions of its conditions, its head and its condition for the nest or
-- reduce, the operators of its inner comprehensions, and all its operators before the nest.
abbrev pub slots_in : Clauses → ℕ → Slots → Slots
slots_in q k c = slots (plan_gens q) k c

abbrev pub width_in : Clauses → ℕ → ℕ
width_in q k = after (plan_gens q) k

abbrev pub width_head : Clauses → ℕ → ℕ
width_head q k = next_l (late q) (width_in q k)

abbrev pub head_in : Clauses → Form → ℕ → Slots → PTerm
head_in q h k c = term h (slots_in q k c) (width_head q k)

abbrev pub cond_in : Clauses → ℕ → Slots → PTerm
cond_in q k c = conj (term_l (late q) (slots_in q k c) (width_in q k))

abbrev pub inner_ops : Clauses → Form → ℕ → Slots → List Op
inner_ops q h k c = ops_c q (width_in q k) (slots_in q k c) ++ ops h (width_head q k) (slots_in q k c)

abbrev pub ops_before : Clauses → Form → ℕ → Slots → List Op
ops_before q h k c = grows outer (plan_gens q) (early q) k c ++ inner_ops q h k c

module _ (F : Fold) (T : Tables) where
  -- the operators os, over ANY stream of rows of k places whose neighbours differ in their row numbers, give each row in
  -- order with the places X behind it
  abbrev pub Adds : List Op → ℕ → Slots → (Bool → Env → List Place) → Type 0
  Adds os k c X = (s : Stream) → All (λ r. length r ≡ k) s → Differ s → exec F T os s ≡ map (λ r. r ++ X (whole r) (env_of c r)) s

  adds_none : (k : ℕ) (c : Slots) → Adds [] k c (λ b ρ. [])
  unfolding exec
  adds_none k c s w a = sym (map-all (λ r. length r ≡ k) (λ r. r ++ []) (λ r. r) s w (λ r e. append-nil r) ∙ map_same s)

  adds-two : (os ps : List Op) (k : ℕ) (c : Slots) (f : ℕ → ℕ) (X Y : Bool → Env → List Place) → Stable k c → ((b : Bool) (ρ : Env) → Widens f (X b ρ))
      → Adds os k c X → Adds ps (f k) c Y → Adds (os ++ ps) k c (λ b ρ. X b ρ ++ Y b ρ)
  adds-two os ps k c f X Y st wd h_x h_y s w a =
      let E : Row → Row = λ r. r ++ X (whole r) (env_of c r) in
      exec-append F T os ps s ∙ ap (exec F T ps) (h_x s w a)
      ∙ h_y (map E s) (all_map (λ r. length r ≡ f k) E s (all-imp (λ r. length r ≡ k) (λ r. length (E r) ≡ f k) s w (λ r e. (wd (whole r) (env_of c r) r).0 ∙ ap f e)))
      (differ-map k E s a (all-imp (λ r. length r ≡ k) (λ r. take k (E r) ≡ r) s w (λ r e. take_at r (X (whole r) (env_of c r)) k e)))
      ∙ map-map s E (λ r. r ++ Y (whole r) (env_of c r))
      ∙ map-all (λ r. length r ≡ k) (λ r. E r ++ Y (whole (E r)) (env_of c (E r))) (λ r. r ++ (X (whole r) (env_of c r) ++ Y (whole r) (env_of c r))) s w
      (λ r e. ap₂ (λ b ρ. E r ++ Y b ρ) (wd (whole r) (env_of c r) r).1 (env-stable k c st r (X (whole r) (env_of c r)) (omega arith)) ∙ append_assoc r (X (whole r) (env_of c r)) (Y (whole r) (env_of c r)))

  adds-cond : (t : Form) (q : Clauses) (k : ℕ) (c : Slots) → Stable k c
      → Adds (ops_c q k c) k c (λ b ρ. places_l F T b (late q) ρ) → Adds (ops t k c) k c (λ b ρ. places F T b t ρ) → Adds (ops_c q (next t k) c) (next t k) c (λ b ρ. places_l F T b (late q) ρ)
      → (b : Bool) → Adds (pick b (ops_c q k c) (ops t k c ++ ops_c q (next t k) c)) k c (λ d ρ. places_l F T d (pick (not b) (t ∷ late q) (late q)) ρ)
  unfolding pick places_l
  adds-cond t q k c st h₁ h₂ h₃ true = h₁
  adds-cond t q k c st h₁ h₂ h₃ false = adds-two (ops t k c) (ops_c q (next t k) c) k c (next t) (λ b ρ. places F T b t ρ) (λ b ρ. places_l F T b (late q) ρ) st (λ b ρ. widens F T b ρ t) h₂ h₃

  fold-guard : (m : Monoid) (b : Bool) (l : List Value) → F m (guard b l) ≡ pick b (F m l) (F m [])
  unfolding guard pick
  fold-guard m true l = refl
  fold-guard m false l = refl

  -- one comprehension: what a nest and the reduce have in common
  module _ (q : Clauses) (h : Form) (k : ℕ) (c : Slots) (st : Stable k c) where
    -- what its inner comprehensions add, a row so grown, and what the loops do in their middle
    abbrev X : Bool → Env → List Place
    X b ρ = places_l F T b (late q) ρ ++ places F T b h ρ

    abbrev E : Row → Row
    E u = u ++ X (whole u) (env_of (slots_in q k c) u)

    abbrev K : Env → List Value
    K σ = guard (hold F T (late q) σ) (value F T h σ ∷ [])

    st₁ : Stable (width_in q k) (slots_in q k c)
    st₁ = slots-stable (plan_gens q) k c st

    early-free : All (λ t. free t ≡ true) (early q)
    unfolding early
    early-free = sift-all free (conds_of q)

    -- behind the generators, the inner comprehensions
    inner : Adds (ops_c q (width_in q k) (slots_in q k c)) (width_in q k) (slots_in q k c) (λ b ρ. places_l F T b (late q) ρ) → Adds (ops h (width_head q k) (slots_in q k c)) (width_head q k) (slots_in q k c) (λ b ρ. places F T b h ρ)
        → Adds (inner_ops q h k c) (width_in q k) (slots_in q k c) X
    inner h_q h_h = adds-two (ops_c q (width_in q k) (slots_in q k c)) (ops h (width_head q k) (slots_in q k c)) (width_in q k) (slots_in q k c) (next_l (late q)) (λ b ρ. places_l F T b (late q) ρ) (λ b ρ. places F T b h ρ) st₁ (λ b ρ. widens_l F T b ρ (late q)) h_q h_h

    -- what a row without a pad gives
    heads-ok : (u : Row) → length u ≡ width_in q k → heads (head_in q h k c) (cond_in q k c) (u ++ X true (env_of (slots_in q k c) u)) ≡ K (env_of (slots_in q k c) u)
    unfolding heads
    heads-ok u e =
        let c₁ : Slots = slots_in q k c in
        let σ : Env = env_of c₁ u in
        let x : Row = places_l F T true (late q) σ in
        let y : Row = places F T true h σ in
        let wx : length (u ++ x) ≡ width_head q k = (widens_l F T true σ (late q) u).0 ∙ ap (next_l (late q)) e in
        let assoc : u ++ (x ++ y) ≡ (u ++ x) ++ y = sym (append_assoc u x y) in
        ap₂ (λ b v. guard b (v ∷ []))
        (conj-all (term_l (late q) c₁ (width_in q k)) (u ++ (x ++ y)) ∙ ap (meets_all (term_l (late q) c₁ (width_in q k))) assoc ∙ late-ok F T c₁ σ (late q) (width_in q k) st₁ u e refl y)
        (ap (eval_p (head_in q h k c)) assoc ∙ term-ok F T c₁ σ h (width_head q k) (stable-up (width_in q k) (width_head q k) c₁ (next_l-le (late q) (width_in q k)) st₁) (u ++ x) wx (env-stable (width_in q k) c₁ st₁ u x (omega arith)))

    -- what any row gives
    gives : Row → List Value
    gives u = guard (whole u) (heads (head_in q h k c) (cond_in q k c) u)

    gives-ok : (u : Row) → length u ≡ width_in q k → gives (E u) ≡ guard (whole u) (K (env_of (slots_in q k c) u))
    unfolding gives
    gives-ok u e =
        let σ : Env = env_of (slots_in q k c) u in
        let x : Row = places_l F T (whole u) (late q) σ in
        ap (λ b. guard b (heads (head_in q h k c) (cond_in q k c) (E u))) (ap whole (sym (append_assoc u x (places F T (whole u) h σ))) ∙ (widens F T (whole u) σ h (u ++ x)).1 ∙ (widens_l F T (whole u) σ (late q) u).1)
        ∙ go (whole u)
      where
        go : (b : Bool) → guard b (heads (head_in q h k c) (cond_in q k c) (u ++ X b (env_of (slots_in q k c) u))) ≡ guard b (K (env_of (slots_in q k c) u))
        go true = ap (guard true) (heads-ok u e)
        go false = unfold guard in refl

    -- what grows from one row
    abbrev G : Row → Stream
    G = grown (matches_or_pad T) (plan_gens q) (early q) k c

    on : (r : Row) → length r ≡ k → All (λ u. Grew (width_in q k) r u) (G r)
    on = grown-on T (matches_or_pad T) (outer-local T) (plan_gens q) (early q) k c

    -- all that one row's growth gives to the nest: the loops of the comprehension
    gives_all : ScopedC q → (r : Row) → length r ≡ k → bind_l (map E (G r)) gives ≡ guard (whole r) (loops F T q (λ σ. value F T h σ ∷ []) (env_of c r))
    gives_all sc r e = bind-map (G r) E gives
        ∙ bind_all (Grew (width_in q k) r) (λ u. gives (E u)) (λ u. guard (whole u) (K (env_of (slots_in q k c) u))) (G r) (on r e) (λ u g. gives-ok u g.2)
        ∙ grown-live T (matches_or_pad T) (outer-local T) F (plan_gens q) (early q) k c r st e early-free K
        ∙ ap (guard (whole r)) (sym (loops-placed F T q (λ σ. value F T h σ ∷ []) (env_of c r) sc))

    -- the stream that comes to the nest, row by row
    before : Adds (inner_ops q h k c) (width_in q k) (slots_in q k c) X → (s : Stream) → All (λ r. length r ≡ k) s → Differ s → exec F T (ops_before q h k c) s ≡ bind_l s (λ r. map E (G r))
    unfolding apply
    before h_i s w a =
        exec-append F T (grows outer (plan_gens q) (early q) k c) (inner_ops q h k c) s
        ∙ ap (exec F T (inner_ops q h k c)) (exec-grows F T outer (matches_or_pad T) (λ t d x. refl) (plan_gens q) (early q) k c s)
        ∙ h_i (bind_l s G)
        (all-bind (λ r. length r ≡ k) (λ u. length u ≡ width_in q k) G s w (λ r e. all-imp (Grew (width_in q k) r) (λ u. length u ≡ width_in q k) (G r) (on r e) (λ u g. g.2)))
        (differ-bind k G s a (all-imp (λ r. length r ≡ k) (Grows k G) s w
        (λ r e. (
          grown-some T (plan_gens q) (early q) k c r,
          (apart-differ (G r) (grown-apart T (matches_or_pad T) (outer-local T) (plan_gens q) (early q) k c r e), all-imp (Grew (width_in q k) r) (λ u. take k u ≡ r) (G r) (on r e) (λ u g. grew-take k (width_in q k) r u e g)),
        ))))
        ∙ map-bind s G E

    -- what the nest makes of it
    nested : (m : Monoid) (s : Stream) → All (λ r. length r ≡ k) s → Differ s
        → map (close F m) (groups k (head_in q h k c) (cond_in q k c) (bind_l s (λ r. map E (G r)))) ≡ map (λ r. r ++ val (F m (bind_l (map E (G r)) gives)) ∷ []) s
    unfolding gives
    nested m s w a = nest-all k (head_in q h k c) (cond_in q k c) (λ r. map E (G r)) F m s a
        (all-imp (λ r. length r ≡ k) (λ r. Some (map E (G r)) × All (λ u. take k u ≡ r) (map E (G r))) s w
        (λ r e. (
          some-map E (G r) (grown-some T (plan_gens q) (early q) k c r),
          all_map (λ u. take k u ≡ r) E (G r) (all-imp (Grew (width_in q k) r) (λ u. take k (E u) ≡ r) (G r) (on r e) (λ u g. grew-more k (width_in q k) r u (X (whole u) (env_of (slots_in q k c) u)) e g)),
        )))

    exec-nest : (m : Monoid) (s : Stream) → exec F T (ops (comp m q h) k c) s ≡ map (close F m) (groups k (head_in q h k c) (cond_in q k c) (exec F T (ops_before q h k c) s))
    unfolding ops exec apply
    exec-nest m s =
        let o : Op = nest k m (head_in q h k c) (cond_in q k c) in
        ap (λ os. exec F T os s)
        (ap (λ os. grows outer (plan_gens q) (early q) k c ++ os) (sym (append_assoc (ops_c q (width_in q k) (slots_in q k c)) (ops h (width_head q k) (slots_in q k c)) (o ∷ []))) ∙ sym (append_assoc (grows outer (plan_gens q) (early q) k c) (inner_ops q h k c) (o ∷ [])))
        ∙ exec-append F T (ops_before q h k c) (o ∷ []) s

    comp-ok : (m : Monoid) → ScopedC q → Adds (inner_ops q h k c) (width_in q k) (slots_in q k c) X → Adds (ops (comp m q h) k c) k c (λ b ρ. places F T b (comp m q h) ρ)
    unfolding places value
    comp-ok m sc h_i s w a = exec-nest m s ∙ ap (λ x. map (close F m) (groups k (head_in q h k c) (cond_in q k c) x)) (before h_i s w a) ∙ nested m s w a
        ∙ map-all (λ r. length r ≡ k) (λ r. r ++ val (F m (bind_l (map E (G r)) gives)) ∷ []) (λ r. r ++ val (pick (whole r) (F m (loops F T q (λ σ. value F T h σ ∷ []) (env_of c r))) (F m [])) ∷ []) s w
        (λ r e. ap (λ v. r ++ val v ∷ []) (ap (F m) (gives_all sc r e) ∙ fold-guard m (whole r) (loops F T q (λ σ. value F T h σ ∷ []) (env_of c r))))

  -- The inner comprehensions of a term, planned one after another over any stream, give each row in order with their
  -- values behind it.
  mutual
    unfolding ops places next late sift conds_of places_l

    pub ops-ok : (t : Form) (k : ℕ) (c : Slots) → Stable k c → Scoped t → Adds (ops t k c) k c (λ b ρ. places F T b t ρ)
    ops-ok (num z) k c st sc = adds_none k c
    ops-ok (truth b) k c st sc = adds_none k c
    ops-ok (row g) k c st sc = adds_none k c
    ops-ok (cell i g) k c st sc = adds_none k c
    ops-ok (rec ts) k c st sc = ops_f-ok ts k c st sc
    ops-ok (app f ts) k c st sc = ops_f-ok ts k c st sc
    ops-ok (bin o t u) k c st sc = adds-two (ops t k c) (ops u (next t k) c) k c (next t) (λ b ρ. places F T b t ρ) (λ b ρ. places F T b u ρ) st (λ b ρ. widens F T b ρ t) (ops-ok t k c st sc.0) (ops-ok u (next t k) c (stable-up k (next t k) c (next_le t k) st) sc.1)
    ops-ok (negate t) k c st sc = ops-ok t k c st sc
    ops-ok (comp m q h) k c st sc = comp-ok q h k c st m sc.0 (inner q h k c st
        (ops_c-ok q (width_in q k) (slots_in q k c) (slots-stable (plan_gens q) k c st) sc.0)
        (ops-ok h (width_head q k) (slots_in q k c) (stable-up (width_in q k) (width_head q k) (slots_in q k c) (next_l-le (late q) (width_in q k)) (slots-stable (plan_gens q) k c st)) sc.1))

    pub ops_f-ok : (ts : Forms) (k : ℕ) (c : Slots) → Stable k c → ScopedF ts → Adds (ops_f ts k c) k c (λ b ρ. places_f F T b ts ρ)
    ops_f-ok fnil k c st sc = adds_none k c
    ops_f-ok (fcons t ts) k c st sc = adds-two (ops t k c) (ops_f ts (next t k) c) k c (next t) (λ b ρ. places F T b t ρ) (λ b ρ. places_f F T b ts ρ) st (λ b ρ. widens F T b ρ t) (ops-ok t k c st sc.0) (ops_f-ok ts (next t k) c (stable-up k (next t k) c (next_le t k) st) sc.1)

    pub ops_c-ok : (q : Clauses) (k : ℕ) (c : Slots) → Stable k c → ScopedC q → Adds (ops_c q k c) k c (λ b ρ. places_l F T b (late q) ρ)
    ops_c-ok done k c st sc = adds_none k c
    ops_c-ok (gen g n q) k c st sc = ops_c-ok q k c st sc
    ops_c-ok (cond t q) k c st sc = adds-cond t q k c st (ops_c-ok q k c st sc.1.1) (ops-ok t k c st sc.1.0) (ops_c-ok q (next t k) c (stable-up k (next t k) c (next_le t k) st) sc.1.1) (free t)

  inner-ok : (m : Monoid) (q : Clauses) (h : Form) (k : ℕ) (c : Slots) (st : Stable k c) → Scoped (comp m q h) → Adds (inner_ops q h k c) (width_in q k) (slots_in q k c) (X q h k c st)
  inner-ok m q h k c st sc = inner q h k c st (ops_c-ok q (width_in q k) (slots_in q k c) (st₁ q h k c st) sc.0)
      (ops-ok h (width_head q k) (slots_in q k c) (stable-up (width_in q k) (width_head q k) (slots_in q k c) (next_l-le (late q) (width_in q k)) (st₁ q h k c st)) sc.1)

  -- Unnesting, for an inner comprehension. Over ANY stream of rows of k places, with or without pads, whose neighbours differ
  -- in their row numbers, its operators give each row in order with one more place: the comprehension's value in that
  -- row's environment, or the monoid's value over nothing where the row has a pad.
  pub unnest : (m : Monoid) (q : Clauses) (h : Form) (k : ℕ) (c : Slots) → Stable k c → Scoped (comp m q h)
      → (s : Stream) → All (λ r. length r ≡ k) s → Differ s
      → exec F T (ops (comp m q h) k c) s ≡ map (λ r. r ++ val (pick (whole r) (value F T (comp m q h) (env_of c r)) (F m [])) ∷ []) s
  unfolding places
  unnest m q h k c st sc = ops-ok (comp m q h) k c st sc

  -- An inner comprehension's operators work on each row alone ..
  pub row-by-row : (m : Monoid) (q : Clauses) (h : Form) (k : ℕ) (c : Slots) → Stable k c → Scoped (comp m q h)
      → (s : Stream) → All (λ r. length r ≡ k) s → Differ s
      → exec F T (ops (comp m q h) k c) s ≡ bind_l s (λ r. exec F T (ops (comp m q h) k c) (r ∷ []))
  row-by-row m q h k c st sc s w a =
      let g : Row → Row = λ r. r ++ places F T (whole r) (comp m q h) (env_of c r) in
      ops-ok (comp m q h) k c st sc s w a
      ∙ sym (bind_all (λ r. length r ≡ k) (λ r. exec F T (ops (comp m q h) k c) (r ∷ [])) (λ r. g r ∷ []) s w (λ r e. ops-ok (comp m q h) k c st sc (r ∷ []) (e, tt) (tt, tt))
      ∙ sym (bind-map s g (λ r. r ∷ [])) ∙ bind-one (map g s))

  -- .. and on one row the nest is the monoid over all that has grown from it: no grouping is left.
  pub one-row : (m : Monoid) (q : Clauses) (h : Form) (k : ℕ) (c : Slots) → Stable k c → Scoped (comp m q h) → (r : Row) → length r ≡ k
      → exec F T (ops (comp m q h) k c) (r ∷ []) ≡ (r ++ val (F m (bind_l (exec F T (ops_before q h k c) (r ∷ [])) (λ u. guard (whole u) (heads (head_in q h k c) (cond_in q k c) u)))) ∷ []) ∷ []
  unfolding bind_l gives
  one-row m q h k c st sc r e =
      let B : exec F T (ops_before q h k c) (r ∷ []) ≡ bind_l (r ∷ []) (λ r. map (E q h k c st) (G q h k c st r)) = before q h k c st (inner-ok m q h k c st sc) (r ∷ []) (e, tt) (tt, tt) in
      exec-nest q h k c st m (r ∷ []) ∙ ap (λ x. map (close F m) (groups k (head_in q h k c) (cond_in q k c) x)) B ∙ nested q h k c st m (r ∷ []) (e, tt) (tt, tt)
      ∙ ap (λ x. (r ++ val (F m (bind_l x (gives q h k c st))) ∷ []) ∷ []) (sym (B ∙ append-nil (map (E q h k c st) (G q h k c st r))))

  stable-none : Stable 0 no_slots
  unfolding eval_p
  stable-none x r y h = refl

  -- what the joins of the outermost comprehension make of the one row
  abbrev join_rows : Clauses → Stream
  join_rows q = grown (matches T) (plan_gens q) (early q) 0 no_slots []

  joins-on : (q : Clauses) → All (λ u. Grew (width_in q 0) [] u) (join_rows q)
  joins-on q = grown-on T (matches T) (join-local T) (plan_gens q) (early q) 0 no_slots [] refl

  -- the stream that comes to the reduce
  plan-stream : (m : Monoid) (q : Clauses) (h : Form) → Scoped (comp m q h) → exec F T (grows join (plan_gens q) (early q) 0 no_slots ++ inner_ops q h 0 no_slots) one ≡ map (E q h 0 no_slots stable-none) (join_rows q)
  unfolding one bind_l
  plan-stream m q h sc = exec-append F T (grows join (plan_gens q) (early q) 0 no_slots) (inner_ops q h 0 no_slots) one
      ∙ ap (exec F T (inner_ops q h 0 no_slots)) (exec-grows F T join (matches T) (λ t d x. unfold apply in refl) (plan_gens q) (early q) 0 no_slots one ∙ append-nil (join_rows q))
      ∙ inner-ok m q h 0 no_slots stable-none sc (join_rows q) (all-imp (Grew (width_in q 0) []) (λ u. length u ≡ width_in q 0) (join_rows q) (joins-on q) (λ u g. g.2))
      (apart-differ (join_rows q) (grown-apart T (matches T) (join-local T) (plan_gens q) (early q) 0 no_slots [] refl))

  -- what it gives: the loops of the question
  plan-heads : (q : Clauses) (h : Form) → ScopedC q → bind_l (map (E q h 0 no_slots stable-none) (join_rows q)) (heads (head_in q h 0 no_slots) (cond_in q 0 no_slots)) ≡ loops F T q (λ σ. value F T h σ ∷ []) (λ g. junk)
  unfolding eval_p whole guard
  plan-heads q h sc =
      let c₁ : Slots = slots_in q 0 no_slots in
      let e : Row → Row = E q h 0 no_slots stable-none in
      let H : Row → List Value = heads (head_in q h 0 no_slots) (cond_in q 0 no_slots) in
      let M : Env → List Value = K q h 0 no_slots stable-none in
      bind-map (join_rows q) e H
      ∙ bind_all (λ u. Grew (width_in q 0) [] u × (whole u ≡ true)) (λ u. H (e u)) (λ u. guard (whole u) (M (env_of c₁ u))) (join_rows q)
      (all-zip (Grew (width_in q 0) []) (λ u. whole u ≡ true) (join_rows q) (joins-on q) (grown-whole T (plan_gens q) (early q) 0 no_slots [] refl))
      (λ u g. ap (λ b. H (u ++ X q h 0 no_slots stable-none b (env_of c₁ u))) g.1 ∙ heads-ok q h 0 no_slots stable-none u g.0.2 ∙ ap (λ b. guard b (M (env_of c₁ u))) (sym g.1))
      ∙ grown-live T (matches T) (join-local T) F (plan_gens q) (early q) 0 no_slots [] stable-none refl (early-free q h 0 no_slots stable-none) M
      ∙ sym (loops-placed F T q (λ σ. value F T h σ ∷ []) (λ g. junk) sc)

  -- Unnesting, for the question: over all tables, and for any fold of the monoids, the value of the plan is the value of the
  -- normal form.
  pub unnesting : (f : NormalForm) → Scoped (as_form f) → plan_value F T (plan_of f) ≡ normal_value F T f
  unfolding plan_value plan_of normal_value value
  unnesting f sc = ap (F f.monoid) (ap (λ s. bind_l s (heads (head_in f.clauses f.head 0 no_slots) (cond_in f.clauses 0 no_slots))) (plan-stream f.monoid f.clauses f.head sc) ∙ plan-heads f.clauses f.head sc.0)
