-- One law for each way out of resolve, step, follow, splice and project.
use mathlib.Core.Path.{◌≡◌, refl, sym, ap, ap₂, subst, fun_ext, ◌∙◌}
use mathlib.Core.Bool.{Bool, true, false, ◌||◌}
use mathlib.Core.List.{List, [], ◌∷◌}
use Prim.Native.Nat.{ℕ, zero, suc, ◌+◌, ◌*◌, ◌/◌, ◌%◌, ◌^◌, ◌<◌, ◌≤◌}
use native.Mathlib.Omega.{arith}
use types.Run.{OneOf, miss}
use denote.Enum.Declared.{tag_of}
use lib.ListN.{length, get_or, set, length-set}
use lib.Seq.{get_or-set_same, get_or-set_other}
use lib.Dec.{eqb, ltb}
use borrow.Author.Tests.{ltb-true, lt-ltb, le-ltb, eqb-true, eqb-false}
use Rattle.spec_calculus.specs.Lists.{pick, upd}
use Rattle.spec_calculus.specs.Syntax.{Collection, Bin, plus, minus, times, equal, less, and, or}
use Rattle.spec_normal_form.specs.Normal.{Sem, nothing, idempotent, ranges, part, binary}
use Rattle.spec_normal_form.specs.Normal as Nm
use Rattle.front_theory.specs.NodeTable as No
use Rattle.front_theory.specs.NodeTable.{Inside}
use Rattle.front_theory.specs.NodeForms.{Env, Entry, enter, Offsets, At, bound_of, sems_of, comp_of, levels, sem_of}
use Rattle.front_theory.specs.CappedOffsets.{limit}
use Rattle.front_theory.proofs.Locality.{sem_is}
use Rattle.base_syntax.specs.MonoidWord.{monoid_of}
use Rattle.base_syntax.specs.declared.Monoid.{Monoid}
use Rattle.front_nodes.specs.NodeTable.{depth_at, children_of, qualifiers_of, nodes_of}
use Rattle.front_nodes.specs.Look.{node_named, LookPost, nth, ChildPost, Unbinding, BoundByPost}
use Rattle.front_nodes.specs.Levels.{AllAt, Level, Levelled}
use Rattle.front_nodes.specs.declared.QueryNode.{QueryNode}
use Rattle.front_nodes.specs.declared.QueryNode.TheVariants as Nd
use Rattle.std.proofs.Common.{Option}
use Rattle.std.specs.declared.option.Option.TheVariants as Opt
use Rattle.front_nodes.specs.declared.Binder.{Binder}
use Rattle.front_nodes.specs.declared.Binder.TheVariants as Bi
use Rattle.front_nodes.proofs.PostOrder.{by-pick, post-order}
use Rattle.front_nodes.proofs.ReaderExits.{looked-inside}
use Rattle.front_nodes.specs.contracts.QueryNode as node
use Rattle.front_resolve.specs.contracts.Form as form
use Rattle.front_resolve.specs.declared.Form.{Form}
use Rattle.front_resolve.specs.declared.Form.TheVariants.{Number, Truth, Row, Cell, Record, Two, Not, Comp, Table, Operator, Bad}
use Rattle.front_resolve.specs.declared.Head.{Head}
use Rattle.front_resolve.specs.declared.Next.{Next}
use Rattle.front_resolve.specs.declared.Next.TheVariants as Ne
use Rattle.front_resolve.specs.Resolved.{Resolved, under, odd, bit, env_of, offsets, sem_n, form_sem, FormAt, Fine, From, Heads, FollowPost, SplicePost, Projected, Steps, Stepped, form_for}
use Rattle.base_syntax.specs.Numbers.{bin_of}

abbrev pub place : Form → ℕ → ℕ → List ℕ → Resolved
place f i d l = record { form = f; node = i; depth = d; env = l }

-- what a node comes to, its decoded form known
abbrev sem_by : (ℕ → Collection) → List ℕ → No.Node → ℕ → Env → Sem
sem_by K s y D e = sem_of K (nodes_of s) (offsets s) (sem_n K s) y D e

sem-at : (K : ℕ → Collection) (s : List ℕ) (i D : ℕ) (e : Env) (y : No.Node) → nodes_of s i ≡ y → sem_n K s i D e ≡ sem_by K s y D e
sem-at K s i D e y p = sem_is K (nodes_of s) (post-order s) (offsets s) i D e ∙ ap (λ x. sem_by K s x D e) p

-- what the depths of the table say of a node
level-at : (s : List ℕ) (n i : ℕ) (y : No.Node) → Levelled (nodes_of s) (depth_at s) n → i < n → nodes_of s i ≡ y → Level (depth_at s) (depth_at s i) y
level-at s n i y L p e = subst (Level (depth_at s) (depth_at s i)) e (L i p)

-- a node that is what it is: neither a name nor a field
abbrev pub settled : List ℕ
settled = 0 ∷ 1 ∷ 4 ∷ 5 ∷ 6 ∷ 7 ∷ 8 ∷ 9 ∷ 10 ∷ 11 ∷ 12 ∷ 13 ∷ []

module _ (s : List ℕ) (i D : ℕ) where
  comp-sem : (K : ℕ → Collection) (e : Env) (m : Monoid) (h : ℕ) (b : Bool)
      → form_sem K s i D e (pick b (Comp m h) Bad) ≡ pick b (comp_of (nodes_of s) (sem_n K s) (monoid_of m) (qualifiers_of s i) h D e) nothing
  unfolding pick
  comp-sem K e m h true = refl
  comp-sem K e m h false = refl

  settle-sem : (K : ℕ → Collection) (e : Env) (n : QueryNode) → OneOf settled (tag_of node.the_type n) → form_sem K s i D e (form_for D n) ≡ sem_by K s (node_named s i n) D e
  settle-sem K e (Nd.Number z) h = refl
  settle-sem K e (Nd.Truth b) h = refl
  settle-sem K e (Nd.Name x d) h = absurd (miss settled 2 tt h)
  settle-sem K e (Nd.Field k c) h = absurd (miss settled 3 tt h)
  settle-sem K e Nd.Record h = refl
  settle-sem K e (Nd.Two o a b) h = refl
  settle-sem K e (Nd.Not c) h = refl
  settle-sem K e (Nd.Comp m c) h = comp-sem K e m c (ltb D levels)
  settle-sem K e (Nd.Table k) h = refl
  settle-sem K e (Nd.Gen c) h = refl
  settle-sem K e (Nd.Bind c) h = refl
  settle-sem K e (Nd.Cond c) h = refl
  settle-sem K e (Nd.Operator f) h = refl
  settle-sem K e Nd.Bad h = refl

  settle-form : (n : QueryNode) → LookPost s i n → FormAt s i D (form_for D n)
  settle-form (Nd.Number z) H = (H.is, H.small)
  settle-form (Nd.Truth b) H = H.is
  settle-form (Nd.Name x d) H = tt
  settle-form (Nd.Field k c) H = tt
  settle-form Nd.Record H = H.is
  settle-form (Nd.Two o a b) H = H.is
  settle-form (Nd.Not c) H = H.is
  settle-form (Nd.Comp m c) H = by-pick (FormAt s i D) (ltb D levels) (Comp m c) Bad (λ t. (H.is, ltb-true D levels t)) (λ t. tt)
  settle-form (Nd.Table k) H = (H.is, H.small)
  settle-form (Nd.Gen c) H = tt
  settle-form (Nd.Bind c) H = tt
  settle-form (Nd.Cond c) H = tt
  settle-form (Nd.Operator f) H = H.is
  settle-form Nd.Bad H = tt

-- a place at the node itself
stays : {s : List ℕ} {i D : ℕ} (f : Form) (l : List ℕ) → length l ≡ levels → FormAt s i D f → From s i D (place f i D l)
stays f l z p = record { below = omega arith; level = λ n L q e. e; fine = record { form = p; long = z } }

-- ---- resolve
pick_yes : (d D : ℕ) (u : Sem) → d < D → pick (ltb d D) u nothing ≡ u
unfolding pick
pick_yes d D u l = rw (lt-ltb d D l)

pick_no : (d D : ℕ) (u : Sem) → D ≤ d → pick (ltb d D) u nothing ≡ nothing
unfolding pick
pick_no d D u l = rw (le-ltb d D l)

name-is : (K : ℕ → Collection) (s : List ℕ) (i D : ℕ) (e : Env) (x d : ℕ) → nodes_of s i ≡ No.nname x d → d < D → bound_of (offsets s) (sem_n K s) x d e (nodes_of s x) ≡ sem_n K s i D e
name-is K s i D e x d p k = sym (sem-at K s i D e (No.nname x d) p ∙ pick_yes d D (bound_of (offsets s) (sem_n K s) x d e (nodes_of s x)) k)

module _ {s : List ℕ} {i D : ℕ} {l : List ℕ} where
  pub h-settled : {n : QueryNode} {f : Form} → length l ≡ levels → LookPost s i n → OneOf settled (tag_of node.the_type n) → f ≡ form_for D n → Heads s i D l (place f i D l)
  h-settled {n} {f} z H h e =
      subst (λ x. Heads s i D l (place x i D l)) (sym e)
      record {
        is = λ K. settle-sem s i D K (env_of l) n h ∙ sym (sem-at K s i D (env_of l) (node_named s i n) H.is);
        from = stays (form_for D n) l z (settle-form s i D n H);
      }

  module _ {x d : ℕ} (H : LookPost s i (Nd.Name x d)) where
    pub h-out : length l ≡ levels → D ≤ d → Heads s i D l (place Bad i D l)
    h-out z k =
        record {
          is = λ K. sym (sem-at K s i D (env_of l) (No.nname x d) H.is ∙ pick_no d D (bound_of (offsets s) (sem_n K s) x d (env_of l) (nodes_of s x)) k);
          from = stays Bad l z tt;
        }

    pub h-name : {r : Resolved} → d < D → FollowPost s x d l r → Heads s i D l r
    h-name k F =
        let x-before = looked-inside H in
        record {
          is = λ K. F.is K ∙ name-is K s i D (env_of l) x d H.is k;
          from =
              record {
                below = omega (arith, F.from.below, x-before);
                level = λ n L p e. F.from.level n L (omega (arith, p, x-before)) (level-at s n i (No.nname x d) L p H.is);
                fine = F.from.fine;
              };
        }

  pub h-field : {k c : ℕ} {h r : Resolved} → LookPost s i (Nd.Field k c) → Heads s c D l h → Projected s k h r → Heads s i D l r
  h-field {k} {c} H R P =
      let c-before = looked-inside H in
      let b = R.from.below in
      record {
        is = λ K. P.is K ∙ ap (part k) (R.is K) ∙ sym (sem-at K s i D (env_of l) (No.nfield k c) H.is);
        from =
            record {
              below = omega (arith, P.from.below, b, c-before);
              level = λ n L p e. P.from.level n L (omega (arith, p, b, c-before)) (R.from.level n L (omega (arith, p, c-before)) (level-at s n i (No.nfield k c) L p H.is ∙ e));
              fine = P.from.fine;
            };
      }

-- ---- follow
pub one_more : (d : ℕ) → d + 1 ≡ suc d
one_more d = omega arith

unbinding : (off : Offsets) (A : At) (x d : ℕ) (e : Env) (y : No.Node) → Unbinding y → nothing ≡ bound_of off A x d e y
unbinding off A x d e (No.nnum z) u = refl
unbinding off A x d e (No.ntruth b) u = refl
unbinding off A x d e (No.nname y k) u = refl
unbinding off A x d e (No.nfield i c) u = refl
unbinding off A x d e (No.nrec cs) u = refl
unbinding off A x d e (No.nbin o a b) u = refl
unbinding off A x d e (No.nnegate c) u = refl
unbinding off A x d e (No.ncomp m cs h) u = refl
unbinding off A x d e (No.ntable k) u = refl
unbinding off A x d e (No.ngen c) u = absurd u
unbinding off A x d e (No.nbind c) u = absurd u
unbinding off A x d e (No.ncond c) u = refl
unbinding off A x d e (No.napp f cs) u = refl
unbinding off A x d e No.nbad u = refl

-- the depth of the binder's term
child-level : (s : List ℕ) (x d n c : ℕ) (y : No.Node) → Levelled (nodes_of s) (depth_at s) n → x < n → nodes_of s x ≡ y → (Level (depth_at s) (depth_at s x) y → depth_at s c ≡ depth_at s x) → depth_at s x ≡ suc d → depth_at s c ≡ d + 1
child-level s x d n c y L p q f e = f (level-at s n x y L p q) ∙ e ∙ sym (one_more d)

module _ {s : List ℕ} {x d : ℕ} {l : List ℕ} where
  pub f-other : length l ≡ levels → BoundByPost s x Bi.Other → FollowPost s x d l (place Bad x (d + 1) l)
  f-other z B =
      record {
        is = λ K. unbinding (offsets s) (sem_n K s) x d (env_of l) (nodes_of s x) B.is;
        from = record { below = omega arith; level = λ n L p e. e ∙ sym (one_more d); fine = record { form = tt; long = z } };
      }

  pub f-bind : {c : ℕ} {r : Resolved} → BoundByPost s x (Bi.Bind c) → Heads s c (d + 1) l r → FollowPost s x d l r
  f-bind {c} B R =
      let q = B.is.0 in
      let c-before = B.is.1 in
      record {
        is = λ K. R.is K ∙ ap (λ j. sem_n K s c j (env_of l)) (one_more d) ∙ ap (bound_of (offsets s) (sem_n K s) x d (env_of l)) (sym q);
        from =
            record {
              below = omega (arith, R.from.below, c-before);
              level = λ n L p e. R.from.level n L (omega (arith, p, c-before)) (child-level s x d n c (No.nbind c) L p q (λ a. a) e);
              fine = R.from.fine;
            };
      }

  pub f-gen : {c w m : ℕ} {h r : Resolved} → BoundByPost s x (Bi.Gen c) → Heads s c (d + 1) l h → w ≡ get_or l d 0 → m ≡ offsets s x (odd w) (w / 2) → SplicePost s h (odd w) m r → FollowPost s x d l r
  unfolding env_of
  f-gen {c} {w} {m} {h} B R e o S =
      let q = B.is.0 in
      let c-before = B.is.1 in
      let b = R.from.below in
      record {
        is = λ K. S.is K ∙ ap (λ u. (ranges u (odd w) m).head) (R.is K ∙ ap (λ j. sem_n K s c j (env_of l)) (one_more d))
            ∙ ap (λ j. (ranges (sem_n K s c (suc d) (env_of l)) (odd w) j).head) o
            ∙ ap (λ a. (ranges (sem_n K s c (suc d) (env_of l)) (odd a) (offsets s x (odd a) (a / 2))).head) e
            ∙ ap (bound_of (offsets s) (sem_n K s) x d (env_of l)) (sym q);
        from =
            record {
              below = omega (arith, S.from.below, b, c-before);
              level = λ n L p a. S.from.level n L (omega (arith, p, b, c-before)) (R.from.level n L (omega (arith, p, c-before)) (child-level s x d n c (No.ngen c) L p q (λ z. z) a));
              fine = S.from.fine;
            };
      }

-- ---- entering a copy
half : (n : ℕ) (v : Bool) → (2 * n + bit v) / 2 ≡ n
half n true = omega arith
half n false = omega arith

odd-bit : (n : ℕ) (v : Bool) → odd (2 * n + bit v) ≡ v
odd-bit n true = let e : (2 * n + 1) % 2 ≡ 1 = omega arith in ap (λ a. eqb a 1) e
odd-bit n false = let e : (2 * n + 0) % 2 ≡ 0 = omega arith in ap (λ a. eqb a 1) e

pub env-set : (l : List ℕ) (D n : ℕ) (v : Bool) → D < length l → env_of (set l D (2 * n + bit v)) ≡ enter D n v (env_of l)
unfolding env_of upd
env-set l D n v k = fun_ext λ d. go d (eqb D d) refl
  where
    entry : ℕ → Entry
    entry w = record { base = w / 2; flag = odd w }

    pair_of : ℕ → Bool → Entry
    pair_of a c = record { base = a; flag = c }

    go : (d : ℕ) (c : Bool) → eqb D d ≡ c → env_of (set l D (2 * n + bit v)) d ≡ enter D n v (env_of l) d
    go d true p =
        rw (p, upd)
        (ap (λ j. entry (get_or (set l D (2 * n + bit v)) j 0)) (sym (eqb-true D d p)) ∙ ap entry (get_or-set_same l D (2 * n + bit v) 0 k) ∙ ap₂ pair_of (half n v) (odd-bit n v))
    go d false p = rw (p, upd) (ap entry (get_or-set_other l D d (2 * n + bit v) 0 (λ e. eqb-false D d p (sym e))))

-- ---- steps
pub stepped_by : {s : List ℕ} {i j : ℕ} {l : List ℕ} {P Q : Resolved → Type 0} {r : Next} → j ≤ i → ((q : Resolved) → P q → Q q) → Stepped s j l P r → Stepped s i l Q r
stepped_by {s} {i} {j} {l} {P} {Q} {r} h f S = record { is = go r S.is; long = S.long }
  where
    go : (x : Next) → Steps s j l P x → Steps s i l Q x
    go (Ne.On k D) a = (omega (arith, h, a.0), λ q H. f q (a.1 q H))
    go (Ne.At k) a = f (under l k) a

pub step-cast : {s : List ℕ} {j : ℕ} {l : List ℕ} {P : Resolved → Type 0} {r r' : Next} → Stepped s j l P r → r ≡ r' → Stepped s j l P r'
step-cast {s} {j} {l} {P} S e = subst (Stepped s j l P) e S

-- node i comes to what node j at depth d in the environment e comes to
pub record Leads (s : List ℕ) (i D : ℕ) (l : List ℕ) (j d : ℕ) (e : List ℕ) : Type 0 where
  pub below : j ≤ i
  pub long : length e ≡ levels
  pub on : (r : Resolved) → Heads s j d e r → Heads s i D l r

module _ {s : List ℕ} {i D : ℕ} {l : List ℕ} {j d : ℕ} {e : List ℕ} (L : Leads s i D l j d e) {m : List ℕ} where
  pub leads-on : {k b : ℕ} → Stepped s j m (Heads s j d e) (Ne.On k b) → Leads s i D l k b m
  leads-on S = record { below = omega (arith, L.below, S.is.0); long = S.long; on = λ r R. L.on r (S.is.1 r R) }

  pub leads-to : {h : Head} → Stepped s j m (Heads s j d e) (Ne.At h) → Heads s i D l (under m h)
  leads-to {h} S = L.on (under m h) S.is

-- ---- splice
-- every form but a comprehension and a table; every form but a row and a record
abbrev pub unranged : List ℕ
unranged = 0 ∷ 1 ∷ 2 ∷ 3 ∷ 4 ∷ 5 ∷ 6 ∷ 9 ∷ 10 ∷ []

abbrev pub fieldless : List ℕ
fieldless = 0 ∷ 1 ∷ 3 ∷ 5 ∷ 6 ∷ 7 ∷ 8 ∷ 9 ∷ 10 ∷ []

binary-unranged : (o : Bin) (a b : Sem) (v : Bool) (n : ℕ) → nothing ≡ (ranges (binary o a b) v n).head
unfolding ranges binary
binary-unranged plus a b v n = refl
binary-unranged minus a b v n = refl
binary-unranged times a b v n = refl
binary-unranged equal a b v n = refl
binary-unranged less a b v n = refl
binary-unranged and a b v n = refl
binary-unranged or a b v n = refl

binary-fieldless : (o : Bin) (a b : Sem) (k : ℕ) → nothing ≡ part k (binary o a b)
unfolding part binary
binary-fieldless plus a b k = refl
binary-fieldless minus a b k = refl
binary-fieldless times a b k = refl
binary-fieldless equal a b k = refl
binary-fieldless less a b k = refl
binary-fieldless and a b k = refl
binary-fieldless or a b k = refl

module _ (K : ℕ → Collection) (s : List ℕ) (i D : ℕ) (e : Env) where
  no-range : (f : Form) → OneOf unranged (tag_of form.the_type f) → (v : Bool) (n : ℕ) → nothing ≡ (ranges (form_sem K s i D e f) v n).head
  unfolding ranges
  no-range (Number z) h v n = refl
  no-range (Truth b) h v n = refl
  no-range (Row g) h v n = refl
  no-range (Cell k g) h v n = refl
  no-range Record h v n = refl
  no-range (Two o a b) h v n = binary-unranged (bin_of o) (sem_n K s a D e) (sem_n K s b D e) v n
  no-range (Not c) h v n = refl
  no-range (Comp m c) h v n = absurd (miss unranged 7 tt h)
  no-range (Table k) h v n = absurd (miss unranged 8 tt h)
  no-range (Operator f) h v n = refl
  no-range Bad h v n = refl

  no_field : (f : Form) → OneOf fieldless (tag_of form.the_type f) → (k : ℕ) → nothing ≡ part k (form_sem K s i D e f)
  unfolding part
  no_field (Number z) h k = refl
  no_field (Truth b) h k = refl
  no_field (Row g) h k = absurd (miss fieldless 2 tt h)
  no_field (Cell j g) h k = refl
  no_field Record h k = absurd (miss fieldless 4 tt h)
  no_field (Two o a b) h k = binary-fieldless (bin_of o) (sem_n K s a D e) (sem_n K s b D e) k
  no_field (Not c) h k = refl
  no_field (Comp m c) h k = refl
  no_field (Table j) h k = refl
  no_field (Operator f) h k = refl
  no_field Bad h k = refl

-- a form at the place h
abbrev at : (ℕ → Collection) → List ℕ → Resolved → Form → Sem
at K s h f = form_sem K s h.node h.depth (env_of h.env) f

fine-at : {s : List ℕ} {h : Resolved} {f : Form} → Fine s h → h.form ≡ f → FormAt s h.node h.depth f
fine-at {s} {h} F e = subst (FormAt s h.node h.depth) e F.form

-- where a comprehension's head stands, and how deep it may be
pub comp-inside : {s : List ℕ} {h : Resolved} {m : Monoid} {k : ℕ} → Fine s h → h.form ≡ Comp m k → (k < h.node) × (h.depth < levels)
comp-inside {s} {h} F e = let w = fine-at F e in ((subst (Inside h.node) w.0 (post-order s h.node)).1, w.1)

module _ {s : List ℕ} {h : Resolved} {v : Bool} {n : ℕ} where
  pub s-junk : Fine s h → OneOf unranged (tag_of form.the_type h.form) → SplicePost s h v n (place Bad h.node h.depth h.env)
  s-junk F w = record { is = λ K. no-range K s h.node h.depth (env_of h.env) h.form w v n; from = stays Bad h.env F.long tt }

  pub s-table : {k : ℕ} → h.form ≡ Table k → Fine s h → n ≤ limit → SplicePost s h v n (place (Row n) h.node h.depth h.env)
  unfolding ranges
  s-table e F q = record { is = λ K. ap (λ x. (ranges (at K s h x) v n).head) (sym e); from = stays (Row n) h.env F.long q }

  pub s-comp : {m : Monoid} {k : ℕ} {b : Bool} {l : List ℕ} {r : Resolved} → h.form ≡ Comp m k → Fine s h → b ≡ v || idempotent (monoid_of m) → l ≡ set h.env h.depth (2 * n + bit b)
      → Heads s k (h.depth + 1) l r → SplicePost s h v n r
  unfolding ranges
  s-comp {m} {k} {b} {l} e F u p R =
      let w = comp-inside F e in
      let y = (fine-at F e).0 in
      record {
        is = λ K. R.is K ∙ ap (λ j. sem_n K s k j (env_of l)) (one_more h.depth) ∙ ap (λ a. sem_n K s k (suc h.depth) (env_of a)) p
            ∙ ap (sem_n K s k (suc h.depth)) (env-set h.env h.depth n b (omega (arith, F.long, w.1)) ∙ ap (λ c. enter h.depth n c (env_of h.env)) u)
            ∙ ap (λ x. (ranges (at K s h x) v n).head) (sym e);
        from =
            record {
              below = omega (arith, R.from.below, w.0);
              level = λ j L q a. R.from.level j L (omega (arith, q, w.0)) ((level-at s j h.node _ L q y).1 ∙ ap suc a ∙ sym (one_more h.depth));
              fine = R.from.fine;
            };
      }

-- the environment keeps its length
pub entered : {s : List ℕ} {h : Resolved} (d n : ℕ) {l : List ℕ} → Fine s h → l ≡ set h.env d n → length l ≡ levels
entered {h = h} d n F e = ap (λ (l : List ℕ). length l) e ∙ length-set h.env d n ∙ F.long

-- ---- project
found-sem : At → ℕ → Env → Option ℕ → Sem
found-sem A D e (Opt.Some c) = A c D e
found-sem A D e Opt.None = nothing

nth-sem : (A : At) (D : ℕ) (e : Env) (k : ℕ) (cs : List ℕ) → Nm.nth k (sems_of A cs D e) ≡ found-sem A D e (nth k cs)
unfolding Nm.nth nth sems_of found-sem
nth-sem A D e k [] = refl
nth-sem A D e zero (c ∷ cs) = refl
nth-sem A D e (suc k) (c ∷ cs) = nth-sem A D e k cs

found-depth : (ℕ → ℕ) → ℕ → Option ℕ → Type 0
found-depth dep D (Opt.Some c) = dep c ≡ D
found-depth dep D Opt.None = Unit {0}

nth-depth : (dep : ℕ → ℕ) (D k : ℕ) (cs : List ℕ) → AllAt dep D cs → found-depth dep D (nth k cs)
unfolding nth AllAt found-depth
nth-depth dep D k [] a = tt
nth-depth dep D zero (c ∷ cs) a = a.0
nth-depth dep D (suc k) (c ∷ cs) a = nth-depth dep D k cs a.1

module _ {s : List ℕ} {k : ℕ} {h : Resolved} where
  pub p-junk : Fine s h → OneOf fieldless (tag_of form.the_type h.form) → Projected s k h (place Bad h.node h.depth h.env)
  p-junk F w = record { is = λ K. no_field K s h.node h.depth (env_of h.env) h.form w k; from = stays Bad h.env F.long tt }

  pub p-row : {g : ℕ} → h.form ≡ Row g → Fine s h → k < 2 ^ 33 → Projected s k h (place (Cell k g) h.node h.depth h.env)
  unfolding part
  p-row {g} e F q = record { is = λ K. ap (λ x. part k (at K s h x)) (sym e); from = stays (Cell k g) h.env F.long (q, fine-at F e) }

  pub p-none : h.form ≡ Record → Fine s h → ChildPost s h.node k Opt.None → Projected s k h (place Bad h.node h.depth h.env)
  unfolding part found-sem
  p-none e F P =
      record {
        is = λ K. ap (found-sem (sem_n K s) h.depth (env_of h.env)) P.is ∙ sym (nth-sem (sem_n K s) h.depth (env_of h.env) k (children_of s h.node)) ∙ ap (λ x. part k (at K s h x)) (sym e);
        from = stays Bad h.env F.long tt;
      }

  pub p-part : {c : ℕ} {r : Resolved} → h.form ≡ Record → Fine s h → ChildPost s h.node k (Opt.Some c) → Heads s c h.depth h.env r → Projected s k h r
  unfolding part found-sem found-depth
  p-part {c} e F P R =
      let c-before = P.before in
      record {
        is = λ K. R.is K ∙ ap (found-sem (sem_n K s) h.depth (env_of h.env)) P.is ∙ sym (nth-sem (sem_n K s) h.depth (env_of h.env) k (children_of s h.node)) ∙ ap (λ x. part k (at K s h x)) (sym e);
        from =
            record {
              below = omega (arith, R.from.below, c-before);
              level = λ n L q a. R.from.level n L (omega (arith, q, c-before))
                  (subst (found-depth (depth_at s) (depth_at s h.node)) (sym P.is) (nth-depth (depth_at s) (depth_at s h.node) k (children_of s h.node) (level-at s n h.node (No.nrec (children_of s h.node)) L q (fine-at F e))) ∙ a);
              fine = R.from.fine;
            };
      }

-- ---- what the calls ask, and casts of what they answer
pub picks-cast : {s : List ℕ} {i k : ℕ} {r r' : Option ℕ} → ChildPost s i k r → r ≡ r' → ChildPost s i k r'
picks-cast {s} {i} {k} P e = subst (ChildPost s i k) e P

pub bound-cast : {s : List ℕ} {x : ℕ} {r r' : Binder} → BoundByPost s x r → r ≡ r' → BoundByPost s x r'
bound-cast {s} {x} B e = subst (BoundByPost s x) e B
