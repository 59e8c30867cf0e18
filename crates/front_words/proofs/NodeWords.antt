-- A node's word gives back its parts; the tree of some words depends only on the words below its end; a tree that lies in
-- the words is the tree that they hold.
use mathlib.Core.Path.{◌≡◌, refl, sym, ap, ap₂, ◌∙◌}
use mathlib.Core.List.{List}
use mathlib.Core.Bool.{Bool, true, false}
use Prim.Native.Nat.{ℕ, zero, suc, ◌+◌, ◌-◌, ◌*◌, ◌≤◌, ◌<◌, min}
use native.Mathlib.Omega.{arith}
use native.Mathlib.Nat.{add-zero, add_assoc}
use lib.ListN.{get_or, length, set}
use lib.Seq.{get_or-set_same}
use lib.Dec.{eqb, leb}
use borrow.Author.Tests.{le-leb, lt-leb, lt-ltb, le-ltb}
use Rattle.spec_calculus.specs.Lists.{pick}
use Rattle.spec_calculus.specs.Syntax.{choice, is_open, Term, Terms, Quals, num, truth, name, field, rec, bin, negate, app, comp, table, tnil, tcons, qnil, gen, bind, cond}
use Rattle.spec_calendar.specs.Hours.{Calendar}
use Rattle.spec_calculus.specs.Lending.{unlent}
use Rattle.spec_encoding.specs.Reader.{Kind, kinds, unknown, number, truth_k, name_k, field_k, record', not, table_k, comprehension, generator, binding, condition, choice_k, open_k, two_terms}
use Rattle.base_scratch.specs.Map.{nodes_at, binders_at, names}
use Rattle.front_words.specs.Binders.{binder_word}
use Rattle.front_words.specs.NodeWord.{node_kind_of, arg_of, start_of, depth_of, pack, node_word}
use Rattle.front_words.specs.NodeTree.{monoid_at, kind_at, arg_at, start_at, term_by, qual_by, tree_at, terms_at, quals_at}
use Rattle.base_syntax.specs.Numbers.{constant_of}
use Rattle.front_words.specs.LaidTree.{nodes, nodes_l, nodes_q, LaidNode, Laid, LaidL, LaidQ}

-- ---- unpacking a packed word
module _ (k a s d : ℕ) (hk : k < 32) (ha : a < 8589934592) (hs : s < 512) (hd : d < 64) where
  pub kind-pack : node_kind_of (pack k a s d) ≡ k
  kind-pack = omega arith

  pub arg-pack : arg_of (pack k a s d) ≡ a
  arg-pack = omega arith

  pub start-pack : start_of (pack k a s d) ≡ s
  start-pack = omega arith

  pub depth-pack : depth_of (pack k a s d) ≡ d
  depth-pack = omega arith

-- ---- the tree depends only on the words below its end
module _ (s s' : List ℕ) (b : ℕ) (some : 1 ≤ b) (same : (i : ℕ) → i < b → node_word s' i ≡ node_word s i) where
  kind-same : (i : ℕ) → i < b → kind_at s' i ≡ kind_at s i
  kind-same i h = ap (λ (w : ℕ). get_or kinds (node_kind_of w) unknown) (same i h)

  arg-same : (i : ℕ) → i < b → arg_at s' i ≡ arg_at s i
  arg-same i h = ap arg_of (same i h)

  start-same : (i : ℕ) → i < b → start_at s' i ≡ start_at s i
  start-same i h = ap (λ (w : ℕ). min (start_of w) i) (same i h)

  module _ {T T' : ℕ → Term} {L L' : ℕ → ℕ → Terms → Terms} {Q Q' : ℕ → ℕ → Quals → Quals} (h_t : (e : ℕ) → e ≤ b → T' e ≡ T e)
      (h_l : (lo e : ℕ) (ts : Terms) → e ≤ b → L' lo e ts ≡ L lo e ts) (h_q : (lo e : ℕ) (qs : Quals) → e ≤ b → Q' lo e qs ≡ Q lo e qs) where
    term-by-same : (i : ℕ) → i < b → (K : Kind) → term_by T' L' Q' s' i K ≡ term_by T L Q s i K
    term-by-same i h number = ap (λ (a : ℕ). num (constant_of a)) (arg-same i h)
    term-by-same i h truth_k = ap (λ (a : ℕ). truth (eqb a 1)) (arg-same i h)
    term-by-same i h name_k = ap name (arg-same i h)
    term-by-same i h field_k = ap₂ field (arg-same i h) (h_t i (omega arith))
    term-by-same i h record' = ap rec (ap (λ (a : ℕ). L' a i tnil) (start-same i h) ∙ h_l (start_at s i) i tnil (omega arith))
    term-by-same i h choice_k = ap (app choice) (ap (λ (a : ℕ). L' a i tnil) (start-same i h) ∙ h_l (start_at s i) i tnil (omega arith))
    term-by-same i h open_k = ap₂ (λ (n : ℕ) (ts : Terms). app (unlent n) ts) (arg-same i h) (ap (λ (a : ℕ). L' a i tnil) (start-same i h) ∙ h_l (start_at s i) i tnil (omega arith))
    term-by-same i h (two_terms o) = ap₂ (bin o) (ap T' (start-same (i - 1) (omega arith)) ∙ h_t (start_at s (i - 1)) (omega arith)) (h_t i (omega arith))
    term-by-same i h not = ap negate (h_t i (omega arith))
    term-by-same i h comprehension =
        let q : Q' (start_at s' i) (start_at s' (i - 1)) qnil ≡ Q (start_at s i) (start_at s (i - 1)) qnil =
        ap₂ (λ (a c : ℕ). Q' a c qnil) (start-same i h) (start-same (i - 1) (omega arith)) ∙ h_q (start_at s i) (start_at s (i - 1)) qnil (omega arith) in
        ap₂ (λ (m : Quals → Term → Term) (t : Term). m (Q' (start_at s' i) (start_at s' (i - 1)) qnil) t) (ap (λ (a : ℕ). comp (monoid_at a)) (arg-same i h)) (h_t i (omega arith)) ∙
        ap (λ (qs : Quals). comp (monoid_at (arg_at s i)) qs (T i)) q
    term-by-same i h table_k = ap table (arg-same i h)
    term-by-same i h generator = refl
    term-by-same i h binding = refl
    term-by-same i h condition = refl
    term-by-same i h unknown = refl

  module _ {T T' : ℕ → Term} (h_t : (e : ℕ) → e ≤ b → T' e ≡ T e) where
    qual-by-same : (i : ℕ) → i < b → (K : Kind) (qs : Quals) → qual_by T' s' i K qs ≡ qual_by T s i K qs
    qual-by-same i h number qs = refl
    qual-by-same i h truth_k qs = refl
    qual-by-same i h name_k qs = refl
    qual-by-same i h field_k qs = refl
    qual-by-same i h record' qs = refl
    qual-by-same i h choice_k qs = refl
    qual-by-same i h open_k qs = refl
    qual-by-same i h (two_terms o) qs = refl
    qual-by-same i h not qs = refl
    qual-by-same i h comprehension qs = refl
    qual-by-same i h table_k qs = refl
    qual-by-same i h generator qs = ap₂ (λ (x : ℕ) (t : Term). gen x t qs) (arg-same i h) (h_t i (omega arith))
    qual-by-same i h binding qs = ap₂ (λ (x : ℕ) (t : Term). bind x t qs) (arg-same i h) (h_t i (omega arith))
    qual-by-same i h condition qs = ap (λ (t : Term). cond t qs) (h_t i (omega arith))
    qual-by-same i h unknown qs = refl

  mutual
    unfolding tree_at

    pub tree-same : (f e : ℕ) → e ≤ b → tree_at f s' e ≡ tree_at f s e
    tree-same zero e h = refl
    tree-same (suc f) e h =
        ap (term_by (λ j. tree_at f s' j) (λ lo j ts. terms_at f s' lo j ts) (λ lo j qs. quals_at f s' lo j qs) s' (e - 1)) (kind-same (e - 1) (omega arith)) ∙
        term-by-same (λ j l. tree-same f j l) (λ lo j ts l. terms-same f lo j ts l) (λ lo j qs l. quals-same f lo j qs l) (e - 1) (omega arith) (kind_at s (e - 1))

    pub terms-same : (f lo e : ℕ) (ts : Terms) → e ≤ b → terms_at f s' lo e ts ≡ terms_at f s lo e ts
    terms-same zero lo e ts h = refl
    terms-same (suc f) lo e ts h =
        ap (pick (leb e lo) ts)
        (ap₂ (λ (a : ℕ) (t : Term). terms_at f s' lo a (tcons t ts)) (start-same (e - 1) (omega arith)) (tree-same f e h) ∙
        terms-same f lo (start_at s (e - 1)) (tcons (tree_at f s e) ts) (omega arith))

    pub quals-same : (f lo e : ℕ) (qs : Quals) → e ≤ b → quals_at f s' lo e qs ≡ quals_at f s lo e qs
    quals-same zero lo e qs h = refl
    quals-same (suc f) lo e qs h =
        let q : qual_by (λ j. tree_at f s' j) s' (e - 1) (kind_at s' (e - 1)) qs ≡ qual_by (λ j. tree_at f s j) s (e - 1) (kind_at s (e - 1)) qs =
        ap (λ (K : Kind). qual_by (λ j. tree_at f s' j) s' (e - 1) K qs) (kind-same (e - 1) (omega arith)) ∙
        qual-by-same (λ j l. tree-same f j l) (e - 1) (omega arith) (kind_at s (e - 1)) qs in
        ap (pick (leb e lo) qs)
        (ap₂ (λ (a : ℕ) (r : Quals). quals_at f s' lo a r) (start-same (e - 1) (omega arith)) q ∙
        quals-same f lo (start_at s (e - 1)) (qual_by (λ j. tree_at f s j) s (e - 1) (kind_at s (e - 1)) qs) (omega arith))

-- ---- a tree that lies in the words
pub node-same : {s s' : List ℕ} {d a i : ℕ} {K : Kind} → node_word s' i ≡ node_word s i → LaidNode s d a i K → LaidNode s' d a i K
node-same e N =
    record { kind = ap (λ (w : ℕ). get_or kinds (node_kind_of w) unknown) e ∙ N.kind; start = ap start_of e ∙ N.start; depth = ap depth_of e ∙ N.depth }

-- it lies there still where the words below its end are the same
module _ (s s' : List ℕ) (b : ℕ) (same : (i : ℕ) → i < b → node_word s' i ≡ node_word s i) where
  mutual
    unfolding nodes

    pub laid_same : (t : Term) (d a : ℕ) → a + nodes t ≤ b → Laid s d a t → Laid s' d a t
    laid_same (num z) d a h L = let e = same a (omega arith) in (node-same e L.0, ap (λ (w : ℕ). constant_of (arg_of w)) e ∙ L.1)
    laid_same (truth x) d a h L = let e = same a (omega arith) in (node-same e L.0, ap arg_of e ∙ L.1)
    laid_same (name x) d a h L = let e = same a (omega arith) in (node-same e L.0, ap arg_of e ∙ L.1)
    laid_same (field i t) d a h L =
        let e = same (a + nodes t) (omega arith) in (laid_same t d a (omega arith) L.0, node-same e L.1, ap arg_of e ∙ L.2)
    laid_same (rec ts) d a h L =
        let e = same (a + nodes_l ts) (omega arith) in (laid-same-terms ts d a (omega arith) L.0, node-same e L.1, ap arg_of e ∙ L.2)
    laid_same (app f ts) d a h L =
        let e = same (a + nodes_l ts) (omega arith) in (laid-same-terms ts d a (omega arith) L.0, node-same e L.1, ap arg_of e ∙ L.2, L.3)
    laid_same (bin o t u) d a h L =
        (laid_same t d a (omega arith) L.0, laid_same u d (a + nodes t) (omega arith) L.1, node-same (same (a + nodes t + nodes u) (omega arith)) L.2)
    laid_same (negate t) d a h L = (laid_same t d a (omega arith) L.0, node-same (same (a + nodes t) (omega arith)) L.1)
    laid_same (comp m qs t) d a h L =
        let e = same (a + nodes_q qs + nodes t) (omega arith) in (
          laid-same-quals qs (d + 1) a (omega arith) L.0,
          laid_same t (d + 1) (a + nodes_q qs) (omega arith) L.1,
          node-same e L.2,
          ap (λ (w : ℕ). monoid_at (arg_of w)) e ∙ L.3,
          omega (arith, L.4, ap arg_of e),
          omega (arith, L.5, ap arg_of e),
        )
    laid_same (table k) d a h L = let e = same a (omega arith) in (node-same e L.0, ap arg_of e ∙ L.1)

    pub laid-same-terms : (ts : Terms) (d a : ℕ) → a + nodes_l ts ≤ b → LaidL s d a ts → LaidL s' d a ts
    laid-same-terms tnil d a h L = tt
    laid-same-terms (tcons t ts) d a h L = (laid_same t d a (omega arith) L.0, laid-same-terms ts d (a + nodes t) (omega arith) L.1)

    pub laid-same-quals : (qs : Quals) (d a : ℕ) → a + nodes_q qs ≤ b → LaidQ s d a qs → LaidQ s' d a qs
    laid-same-quals qnil d a h L = tt
    laid-same-quals (gen x t qs) d a h L =
        let e = same (a + nodes t) (omega arith) in
        (laid_same t d a (omega arith) L.0, node-same e L.1, ap arg_of e ∙ L.2, laid-same-quals qs d (a + nodes t + 1) (omega arith) L.3)
    laid-same-quals (bind x t qs) d a h L =
        let e = same (a + nodes t) (omega arith) in
        (laid_same t d a (omega arith) L.0, node-same e L.1, ap arg_of e ∙ L.2, laid-same-quals qs d (a + nodes t + 1) (omega arith) L.3)
    laid-same-quals (cond t qs) d a h L =
        let e = same (a + nodes t) (omega arith) in
        (laid_same t d a (omega arith) L.0, node-same e L.1, laid-same-quals qs d (a + nodes t + 1) (omega arith) L.2)

pub some-nodes : (t : Term) → 1 ≤ nodes t
unfolding nodes
some-nodes (num z) = omega arith
some-nodes (truth b) = omega arith
some-nodes (name x) = omega arith
some-nodes (field i t) = omega arith
some-nodes (rec ts) = omega arith
some-nodes (app f ts) = omega arith
some-nodes (bin o t u) = omega arith
some-nodes (negate t) = omega arith
some-nodes (comp m qs h) = omega arith
some-nodes (table k) = omega arith

-- the node behind which a tree ends, and where it says that the tree begins
last-start : {s : List ℕ} {d a i : ℕ} {K : Kind} → LaidNode s d a i K → a ≤ i → (j : ℕ) → i ≡ j → start_at s j ≡ a
last-start {s} {i = i} N h j e = ap (λ (x : ℕ). min (start_of (node_word s x)) x) (sym e) ∙ omega (arith, N.start)

pub laid-start : (t : Term) (s : List ℕ) (d a : ℕ) → Laid s d a t → start_at s (a + nodes t - 1) ≡ a
unfolding nodes
laid-start (num z) s d a L = last-start L.0 (omega arith) _ (omega arith)
laid-start (truth b) s d a L = last-start L.0 (omega arith) _ (omega arith)
laid-start (name x) s d a L = last-start L.0 (omega arith) _ (omega arith)
laid-start (field i t) s d a L = last-start L.1 (omega arith) _ (omega arith)
laid-start (rec ts) s d a L = last-start L.1 (omega arith) _ (omega arith)
laid-start (app f ts) s d a L = last-start L.1 (omega arith) _ (omega arith)
laid-start (bin o t u) s d a L = last-start L.2 (omega arith) _ (omega arith)
laid-start (negate t) s d a L = last-start L.1 (omega arith) _ (omega arith)
laid-start (comp m qs h) s d a L = last-start L.2 (omega arith) _ (omega arith)
laid-start (table k) s d a L = last-start L.0 (omega arith) _ (omega arith)

-- a node's tree, by its kind
node-tree : {s : List ℕ} {d a i : ℕ} {K : Kind} {t : Term} → LaidNode s d a i K → (e : ℕ) → i + 1 ≡ e → (f : ℕ) → 0 < f →
    ((g : ℕ) → f ≡ suc g → term_by (λ j. tree_at g s j) (λ lo j ts. terms_at g s lo j ts) (λ lo j qs. quals_at g s lo j qs) s i K ≡ t) →
    tree_at f s e ≡ t
unfolding tree_at
node-tree N e p zero h k = absurd (omega arith)
node-tree {s} {i = i} N e p (suc g) h k =
    let q : e - 1 ≡ i = omega arith in
    rw (q, N.kind) (k g refl)

-- terms in front of others, and qualifiers
onto_l : Terms → Terms → Terms
onto_l tnil us = us
onto_l (tcons t ts) us = tcons t (onto_l ts us)

onto-nil : (ts : Terms) → onto_l ts tnil ≡ ts
unfolding onto_l
onto-nil tnil = refl
onto-nil (tcons t ts) = ap (tcons t) (onto-nil ts)

onto_q : Quals → Quals → Quals
onto_q qnil rs = rs
onto_q (gen x t qs) rs = gen x t (onto_q qs rs)
onto_q (bind x t qs) rs = bind x t (onto_q qs rs)
onto_q (cond t qs) rs = cond t (onto_q qs rs)

onto-qnil : (qs : Quals) → onto_q qs qnil ≡ qs
unfolding onto_q
onto-qnil qnil = refl
onto-qnil (gen x t qs) = ap (gen x t) (onto-qnil qs)
onto-qnil (bind x t qs) = ap (bind x t) (onto-qnil qs)
onto-qnil (cond t qs) = ap (cond t) (onto-qnil qs)

-- one step of the lists: what stands before the subtree that ends at e goes on where that subtree begins
terms-step : (s : List ℕ) (lo e : ℕ) (ts : Terms) {a : ℕ} {t : Term} {us : Terms} → lo < e → start_at s (e - 1) ≡ a → ((g : ℕ) → 2 * e ≤ g → tree_at g s e ≡ t) →
    ((g : ℕ) → 2 * e ≤ g → terms_at g s lo a (tcons t ts) ≡ us) → (f : ℕ) → 2 * e < f → terms_at f s lo e ts ≡ us
unfolding terms_at pick
terms-step s lo e ts l st tr k zero h = absurd (omega arith)
terms-step s lo e ts l st tr k (suc g) h = rw (lt-leb e lo l, st, tr g (omega arith)) (k g (omega arith))

quals-step : (s : List ℕ) (lo e i : ℕ) (qs : Quals) {a : ℕ} {K : Kind} {rs us : Quals} → lo < e → i + 1 ≡ e → start_at s i ≡ a → kind_at s i ≡ K →
    ((g : ℕ) → 2 * e ≤ g → qual_by (λ j. tree_at g s j) s i K qs ≡ rs) →
    ((g : ℕ) → 2 * e ≤ g → quals_at g s lo a rs ≡ us) → (f : ℕ) → 2 * e < f → quals_at f s lo e qs ≡ us
unfolding quals_at pick
quals-step s lo e i qs l p st kd tr k zero h = absurd (omega arith)
quals-step s lo e i qs l p st kd tr k (suc g) h =
    let q : e - 1 ≡ i = omega arith in
    rw (lt-leb e lo l, q, st, kd, tr g (omega arith)) (k g (omega arith))

terms-end : (s : List ℕ) (a : ℕ) (ts : Terms) (f : ℕ) → terms_at f s a a ts ≡ ts
unfolding terms_at pick
terms-end s a ts zero = refl
terms-end s a ts (suc f) = rw (le-leb a a (omega arith))

quals-end : (s : List ℕ) (a : ℕ) (qs : Quals) (f : ℕ) → quals_at f s a a qs ≡ qs
unfolding quals_at pick
quals-end s a qs zero = refl
quals-end s a qs (suc f) = rw (le-leb a a (omega arith))

pub truth-bit : (b : Bool) {x : ℕ} → x ≡ pick b 1 0 → eqb x 1 ≡ b
unfolding pick
truth-bit true e = rw e
truth-bit false e = rw e

pub three : {A B C D : Type 0} (f : A → B → C → D) {a a' : A} {b b' : B} {c c' : C} → a ≡ a' → b ≡ b' → c ≡ c' → f a b c ≡ f a' b' c'
three f p q r = cc

next : (a n m : ℕ) → a + (n + 1 + m) ≡ a + n + 1 + m
next a n m = omega arith

-- The tree that lies from a on is the one that the words hold, at any fuel from twice its end on: a term of a record takes
-- two steps down for a node.
mutual
  unfolding nodes onto_l onto_q

  pub laid-tree : (t : Term) (s : List ℕ) (d a : ℕ) → Laid s d a t → (f : ℕ) → 2 * (a + nodes t) ≤ f → tree_at f s (a + nodes t) ≡ t
  laid-tree (num z) s d a L f h = node-tree L.0 _ refl f (omega arith) (λ g p. ap num L.1)
  laid-tree (truth b) s d a L f h = node-tree L.0 _ refl f (omega arith) (λ g p. ap truth (truth-bit b L.1))
  laid-tree (name x) s d a L f h = node-tree L.0 _ refl f (omega arith) (λ g p. ap name L.1)
  laid-tree (field i t) s d a L f h = node-tree L.1 _ (omega arith) f (omega arith) (λ g p. ap₂ field L.2 (laid-tree t s d a L.0 g (omega arith)))
  laid-tree (rec ts) s d a L f h =
      node-tree L.1 _ (omega arith) f (omega arith)
      (λ g p. ap rec (ap (λ (x : ℕ). terms_at g s x (a + nodes_l ts) tnil) (last-start L.1 (omega arith) _ refl) ∙
      laid-terms ts s d a a (omega arith) L.0 tnil (λ k l. terms-end s a (onto_l ts tnil) k ∙ onto-nil ts) g (omega arith)))
  laid-tree (app choice ts) s d a L f h =
      node-tree L.1 _ (omega arith) f (omega arith)
      (λ g p. ap (app choice) (ap (λ (x : ℕ). terms_at g s x (a + nodes_l ts) tnil) (last-start L.1 (omega arith) _ refl) ∙
      laid-terms ts s d a a (omega arith) L.0 tnil (λ k l. terms-end s a (onto_l ts tnil) k ∙ onto-nil ts) g (omega arith)))
  laid-tree (app (is_open n c) ts) s d a L f h =
      node-tree L.1 _ (omega arith) f (omega arith)
      (λ g p. ap₂ (λ (x : ℕ) (us : Terms). app (unlent x) us) L.2 (ap (λ (x : ℕ). terms_at g s x (a + nodes_l ts) tnil) (last-start L.1 (omega arith) _ refl) ∙
      laid-terms ts s d a a (omega arith) L.0 tnil (λ k l. terms-end s a (onto_l ts tnil) k ∙ onto-nil ts) g (omega arith)) ∙ ap (λ (x : Calendar). app (is_open n x) ts) (sym L.3.0))
  laid-tree (bin o t u) s d a L f h =
      node-tree L.2 _ (omega arith) f (omega arith)
      (λ g p. ap₂ (bin o) (ap (λ (x : ℕ). tree_at g s x) (laid-start u s d (a + nodes t) L.1) ∙ laid-tree t s d a L.0 g (omega arith)) (laid-tree u s d (a + nodes t) L.1 g (omega arith)))
  laid-tree (negate t) s d a L f h = node-tree L.1 _ (omega arith) f (omega arith) (λ g p. ap negate (laid-tree t s d a L.0 g (omega arith)))
  laid-tree (comp m qs t) s d a L f h =
      node-tree L.2 _ (omega arith) f (omega arith)
      (λ g p. three comp L.3
      (ap₂ (λ (x y : ℕ). quals_at g s x y qnil) (last-start L.2 (omega arith) _ refl) (laid-start t s (d + 1) (a + nodes_q qs) L.1) ∙
      laid-quals qs s (d + 1) a a (omega arith) L.0 qnil (λ k l. quals-end s a (onto_q qs qnil) k ∙ onto-qnil qs) g (omega arith))
      (laid-tree t s (d + 1) (a + nodes_q qs) L.1 g (omega arith)))
  laid-tree (table k) s d a L f h = node-tree L.0 _ refl f (omega arith) (λ g p. ap table L.1)

  -- the terms between a and their end, read backwards from the end, in front of others
  laid-terms : (ts : Terms) (s : List ℕ) (d lo a : ℕ) → lo ≤ a → LaidL s d a ts → (us : Terms) {r : Terms} → ((g : ℕ) → 2 * a < g → terms_at g s lo a (onto_l ts us) ≡ r) →
      (f : ℕ) → 2 * (a + nodes_l ts) < f → terms_at f s lo (a + nodes_l ts) us ≡ r
  laid-terms tnil s d lo a l L us k f h = rw (add-zero a) (k f (omega arith))
  laid-terms (tcons t ts) s d lo a l L us k f h =
      let one = some-nodes t in
      rw (sym (add_assoc a (nodes t) (nodes_l ts)))
      (laid-terms ts s d lo (a + nodes t) (omega arith) L.1 us
      (terms-step s lo (a + nodes t) (onto_l ts us) (omega arith) (laid-start t s d a L.0) (λ g p. laid-tree t s d a L.0 g p) (λ g p. k g (omega arith)))
      f (omega arith))

  laid-quals : (qs : Quals) (s : List ℕ) (d lo a : ℕ) → lo ≤ a → LaidQ s d a qs → (rs : Quals) {r : Quals} → ((g : ℕ) → 2 * a < g → quals_at g s lo a (onto_q qs rs) ≡ r) →
      (f : ℕ) → 2 * (a + nodes_q qs) < f → quals_at f s lo (a + nodes_q qs) rs ≡ r
  laid-quals qnil s d lo a l L rs k f h = rw (add-zero a) (k f (omega arith))
  laid-quals (gen x t qs) s d lo a l L rs k f h =
      rw (next a (nodes t) (nodes_q qs))
      (laid-quals qs s d lo (a + nodes t + 1) (omega arith) L.3 rs
      (quals-step s lo (a + nodes t + 1) (a + nodes t) (onto_q qs rs) (omega arith) refl (last-start L.1 (omega arith) _ refl) L.1.kind
      (λ g p. ap₂ (λ (y : ℕ) (u : Term). gen y u (onto_q qs rs)) L.2 (laid-tree t s d a L.0 g (omega arith))) (λ g p. k g (omega arith)))
      f (omega arith))
  laid-quals (bind x t qs) s d lo a l L rs k f h =
      rw (next a (nodes t) (nodes_q qs))
      (laid-quals qs s d lo (a + nodes t + 1) (omega arith) L.3 rs
      (quals-step s lo (a + nodes t + 1) (a + nodes t) (onto_q qs rs) (omega arith) refl (last-start L.1 (omega arith) _ refl) L.1.kind
      (λ g p. ap₂ (λ (y : ℕ) (u : Term). bind y u (onto_q qs rs)) L.2 (laid-tree t s d a L.0 g (omega arith))) (λ g p. k g (omega arith)))
      f (omega arith))
  laid-quals (cond t qs) s d lo a l L rs k f h =
      rw (next a (nodes t) (nodes_q qs))
      (laid-quals qs s d lo (a + nodes t + 1) (omega arith) L.2 rs
      (quals-step s lo (a + nodes t + 1) (a + nodes t) (onto_q qs rs) (omega arith) refl (last-start L.1 (omega arith) _ refl) L.1.kind
      (λ g p. ap (λ (u : Term). cond u (onto_q qs rs)) (laid-tree t s d a L.0 g (omega arith))) (λ g p. k g (omega arith)))
      f (omega arith))

-- ---- reading and putting a node's word
module _ (s : List ℕ) (i k a b d : ℕ) (hk : k < 32) (ha : a < 8589934592) (hb : b < 512) (hd : d < 64) (room : nodes_at + i < length s) where
  put_word : node_word (set s (nodes_at + i) (pack k a b d)) i ≡ pack k a b d
  put_word = get_or-set_same s (nodes_at + i) (pack k a b d) 0 room

  pub put_is : LaidNode (set s (nodes_at + i) (pack k a b d)) d b i (get_or kinds k unknown)
  put_is =
      record {
        kind = ap (λ (w : ℕ). get_or kinds (node_kind_of w) unknown) put_word ∙ ap (λ (x : ℕ). get_or kinds x unknown) (kind-pack k a b d hk ha hb hd);
        start = ap start_of put_word ∙ start-pack k a b d hk ha hb hd;
        depth = ap depth_of put_word ∙ depth-pack k a b d hk ha hb hd;
      }

  pub put-arg : arg_at (set s (nodes_at + i) (pack k a b d)) i ≡ a
  put-arg = ap arg_of put_word ∙ arg-pack k a b d hk ha hb hd

-- ---- the binders of names
pub far-binder : (s : List ℕ) (x : ℕ) → names ≤ x → 0 ≡ binder_word s x
unfolding binder_word pick
far-binder s x h = rw (le-ltb x names h)

pub binder-at : (s : List ℕ) (x : ℕ) → x < names → get_or s (binders_at + x) 0 ≡ binder_word s x
unfolding binder_word pick
binder-at s x h = rw (lt-ltb x names h)
