-- Words in which a question lies are read as a table that holds it.
use mathlib.Core.Path.{◌≡◌, refl, sym, ap, ap₂, subst, ◌∙◌}
use mathlib.Core.List.{List, [], ◌∷◌, ◌++◌, append_assoc, append-nil}
use mathlib.Core.Bool.{Bool, true, false}
use Prim.Native.Nat.{ℕ, suc, ◌+◌, ◌-◌, ◌<◌, ◌≤◌}
use native.Mathlib.Omega.{arith}
use lib.Dec.{eqb, ltb}
use borrow.Author.Tests.{lt-ltb, le-leb, eqb-true}
use Rattle.spec_calendar.specs.Hours.{Calendar}
use Rattle.spec_calculus.specs.Lists.{pick, upd}
use Rattle.spec_calculus.specs.Syntax.{Fun, choice, is_open, Term, Terms, Quals, num, truth, name, field, rec, bin, negate, app, comp, table, tnil, tcons, qnil, gen, bind, cond, Question, as_term}
use Rattle.spec_calculus.proofs.Truths.{both}
use Rattle.spec_checks.specs.Scope.{Scope, in_scope, in_scopes, in_scope_q, distinct, binders, names_hold}
use Rattle.spec_encoding.specs.Reader.{Kind, record', comprehension}
use Rattle.front_words.specs.NodeTree.{monoid_at, arg_at, start_at}
use Rattle.base_syntax.specs.Numbers.{constant_of}
use Rattle.front_words.specs.LaidTree.{nodes, nodes_l, nodes_q, count_l, operator, argued, AsRead, LaidNode, Laid, LaidL, LaidQ}
use Rattle.front_words.proofs.NodeWords.{some-nodes, laid-start, truth-bit}
use Rattle.front_theory.specs.NodeTable as No
use Rattle.front_theory.specs.NodeForms.{levels}
use Rattle.front_theory.specs.QuestionNodes.{Slot, Slots, slot, no_names, first_of, rest_of, behind, Holds, HoldsL, HoldsQ}
use Rattle.front_words.specs.Binders.{binder_word}
use Rattle.base_scratch.specs.Map.{most_nodes}
use Rattle.front_nodes.specs.NodeTable.{depth_at, count_of, count_at, siblings, children_of, chain, qualifiers_of, above, name_by, node_by, nodes_of}
use Rattle.front_nodes.specs.QuestionTree.{BindersAt, BindersAtL, BindersAtQ, BindersRight, nesting, nesting_l, nesting_q}
use Rattle.front_nodes.proofs.PostOrder.{by-pick}
use Rattle.front_nodes.proofs.QualifierChain.{chain-none, chain_more}

-- ---- a node that lies there
pub node-is : {s : List ℕ} {d a i : ℕ} {K : Kind} → LaidNode s d a i K → i < most_nodes → nodes_of s i ≡ node_by s i K
unfolding nodes_of pick
node-is {s} {i = i} N h = rw (lt-ltb i most_nodes h) (ap (node_by s i) N.kind)

pub up : (i : ℕ) (n : No.Node) → 0 < i → above i n ≡ n
unfolding above pick
up i n h = rw (lt-ltb 0 i h)

start_is : {s : List ℕ} {d a i : ℕ} {K : Kind} → LaidNode s d a i K → a ≤ i → start_at s i ≡ a
start_is N h = omega (arith, N.start)

-- ---- the children of a record, the qualifiers of a comprehension
unfoldable pub lasts_l : ℕ → Terms → List ℕ
lasts_l a tnil = []
lasts_l a (tcons t ts) = (a + nodes t - 1) ∷ lasts_l (a + nodes t) ts

unfoldable pub lasts_q : ℕ → Quals → List ℕ
lasts_q a qnil = []
lasts_q a (gen x t qs) = (a + nodes t) ∷ lasts_q (a + nodes t + 1) qs
lasts_q a (bind x t qs) = (a + nodes t) ∷ lasts_q (a + nodes t + 1) qs
lasts_q a (cond t qs) = (a + nodes t) ∷ lasts_q (a + nodes t + 1) qs

laid-siblings : (ts : Terms) (s : List ℕ) (d a : ℕ) → LaidL s d a ts → (m : ℕ) (cs : List ℕ) → siblings s (m + count_l ts) (a + nodes_l ts) cs ≡ siblings s m a (lasts_l a ts ++ cs)
unfolding siblings nodes count_l lasts_l
laid-siblings tnil s d a L m cs =
    let p : m + 0 ≡ m = omega arith in
    let q : a + 0 ≡ a = omega arith in
    ap₂ (λ (n e : ℕ). siblings s n e cs) p q
laid-siblings (tcons t ts) s d a L m cs =
    let l = lasts_l (a + nodes t) ts ++ cs in
    let p : m + suc (count_l ts) ≡ suc m + count_l ts = omega arith in
    let q : a + (nodes t + nodes_l ts) ≡ a + nodes t + nodes_l ts = omega arith in
    ap₂ (λ (n e : ℕ). siblings s n e cs) p q ∙ laid-siblings ts s d (a + nodes t) L.1 (suc m) cs
    ∙ ap (λ (b : ℕ). siblings s m b ((a + nodes t - 1) ∷ l)) (laid-start t s d a L.0)

one_more : {s : List ℕ} {d a y : ℕ} {K : Kind} (lo : ℕ) → lo ≤ a → a ≤ y → LaidNode s d a y K → chain s lo (y + 1) ≡ chain s lo a ++ (y ∷ [])
one_more {s} {a = a} {y} lo p q N =
    let e : y + 1 - 1 ≡ y = omega arith in
    chain_more s lo (y + 1) (omega arith) ∙ ap (λ (j : ℕ). chain s lo (start_at s j) ++ (j ∷ [])) e ∙ ap (λ (b : ℕ). chain s lo b ++ (y ∷ [])) (start_is N q)

-- one qualifier at y, then the others
chain-step : {s : List ℕ} {d a y : ℕ} {K : Kind} (lo : ℕ) (qs : Quals) (n : ℕ) → lo ≤ a → a ≤ y → LaidNode s d a y K → n ≡ y + 1 + nodes_q qs → chain s lo (y + 1 + nodes_q qs) ≡ chain s lo (y + 1) ++ lasts_q (y + 1) qs
    → chain s lo n ≡ chain s lo a ++ (y ∷ lasts_q (y + 1) qs)
chain-step {s} {a = a} {y} lo qs n p q N e h =
    ap (chain s lo) e ∙ h ∙ ap (λ (l : List ℕ). l ++ lasts_q (y + 1) qs) (one_more lo p q N) ∙ append_assoc (chain s lo a) (y ∷ []) (lasts_q (y + 1) qs)

laid-chain : (qs : Quals) (s : List ℕ) (d lo a : ℕ) → LaidQ s d a qs → lo ≤ a → chain s lo (a + nodes_q qs) ≡ chain s lo a ++ lasts_q a qs
unfolding nodes lasts_q
laid-chain qnil s d lo a L p = ap (chain s lo) (omega arith) ∙ sym (append-nil (chain s lo a))
laid-chain (gen x t qs) s d lo a L p =
    chain-step lo qs (a + nodes_q (gen x t qs)) p (omega arith) L.1 (omega arith) (laid-chain qs s d lo (a + nodes t + 1) L.3 (omega arith))
laid-chain (bind x t qs) s d lo a L p =
    chain-step lo qs (a + nodes_q (bind x t qs)) p (omega arith) L.1 (omega arith) (laid-chain qs s d lo (a + nodes t + 1) L.3 (omega arith))
laid-chain (cond t qs) s d lo a L p =
    chain-step lo qs (a + nodes_q (cond t qs)) p (omega arith) L.1 (omega arith) (laid-chain qs s d lo (a + nodes t + 1) L.2 (omega arith))

-- how many they are
pub counted : (ts : Terms) {s : List ℕ} {d a i : ℕ} → LaidNode s d a i record' → arg_at s i ≡ count_l ts → count_at s i ≡ count_l ts
counted ts {s} {i = i} N e = ap (λ (K : Kind). count_of K (arg_at s i)) N.kind ∙ e

pub counted-op : (f : Fun) (ts : Terms) {s : List ℕ} {d a i : ℕ} → LaidNode s d a i (operator f) → arg_at s i ≡ argued f ts → AsRead f ts → count_at s i ≡ count_l ts
counted-op choice ts {s} {i = i} N e r = ap (λ (K : Kind). count_of K (arg_at s i)) N.kind ∙ e
counted-op (is_open n c) ts {s} {i = i} N e r = ap (λ (K : Kind). count_of K (arg_at s i)) N.kind ∙ sym r.1

-- the node of an operator
node-op : (f : Fun) (ts : Terms) (s : List ℕ) (i : ℕ) → arg_at s i ≡ argued f ts → AsRead f ts → node_by s i (operator f) ≡ No.napp f (children_of s i)
node-op choice ts s i e r = refl
node-op (is_open n c) ts s i e r = ap₂ (λ (m : ℕ) (x : Calendar). No.napp (is_open m x) (children_of s i)) e (sym r.0)

pub children-are : (ts : Terms) (s : List ℕ) (d a : ℕ) → LaidL s d a ts → count_at s (a + nodes_l ts) ≡ count_l ts → children_of s (a + nodes_l ts) ≡ lasts_l a ts
unfolding siblings nodes count_l lasts_l pick
children-are tnil s d a L e =
    by-pick (λ (l : List ℕ). l ≡ []) (ltb 0 (a + 0)) (siblings s (count_at s (a + 0)) (a + 0) []) [] (λ t. ap (λ (n : ℕ). siblings s n (a + 0) []) e) (λ t. refl)
children-are (tcons t ts) s d a L e =
    let us = tcons t ts in
    let i = a + nodes_l us in
    let z : count_l us ≡ 0 + count_l us = omega arith in
    rw (lt-ltb 0 i (omega (arith, some-nodes t)))
    (ap (λ (n : ℕ). siblings s n i []) (e ∙ z) ∙ laid-siblings us s d a L 0 [] ∙ append-nil (lasts_l a us))

pub qualifiers-are : (qs : Quals) (h : Term) (s : List ℕ) (d D a i : ℕ) → LaidQ s d a qs → Laid s d (a + nodes_q qs) h → LaidNode s D a i comprehension → i ≡ a + nodes_q qs + nodes h → qualifiers_of s i ≡ lasts_q a qs
qualifiers-are qs h s d D a i L H N e =
    let one = some-nodes h in
    let b : i - 1 ≡ a + nodes_q qs + nodes h - 1 = omega arith in
    ap₂ (chain s) (start_is N (omega arith)) (ap (start_at s) b ∙ laid-start h s d (a + nodes_q qs) H) ∙ laid-chain qs s d a a L (omega arith) ∙ ap (λ (l : List ℕ). l ++ lasts_q a qs) (chain-none s a a (omega arith))

-- ---- names that hold
-- name x, bound as o says, holds before node a: its binder stands there, and the words say so
record Known (s : List ℕ) (a : ℕ) (o : Slot) (x : ℕ) : Type 0 where
  before : o.by < a
  word : binder_word s x ≡ o.by + 1
  depth : depth_at s o.by ≡ o.level
  level : 1 ≤ o.level

Agrees : List ℕ → ℕ → Slots → Scope → Type 0
Agrees s a S σ = (x : ℕ) → σ x ≡ true → Known s a (S x) x

later : (s : List ℕ) (a b : ℕ) (S : Slots) (σ : Scope) → a ≤ b → Agrees s a S σ → Agrees s b S σ
unfolding Agrees
later s a b S σ h A x p = let k = A x p in record { before = omega arith; word = k.word; depth = k.depth; level = k.level }

name-holds : (s : List ℕ) (i : ℕ) (o : Slot) (x : ℕ) → Known s i o x → name_by s i (binder_word s x) ≡ No.nname o.by (o.level - 1)
unfolding name_by pick
name-holds s i o x k =
    let y = o.by in
    let p : y + 1 - 1 ≡ y = omega arith in
    ap (name_by s i) k.word ∙ rw (lt-ltb 0 (y + 1) (omega arith), le-leb (y + 1) i (omega arith), p, k.depth, lt-ltb 0 o.level (omega arith))

-- a qualifier at y binds x
binds : (s : List ℕ) (a b y D x : ℕ) (S : Slots) (σ : Scope) → a ≤ b → y < b → binder_word s x ≡ y + 1 → depth_at s y ≡ suc D → Agrees s a S σ → Agrees s b (upd x (slot y D) S) (upd x true σ)
unfolding Agrees upd
binds s a b y D x S σ l h w d A z = go (eqb x z) refl
  where
    go : (c : Bool) → eqb x z ≡ c → upd x true σ z ≡ true → Known s b (upd x (slot y D) S z) z
    go true p = rw (p, upd) (λ q. record { before = h; word = ap (binder_word s) (sym (eqb-true x z p)) ∙ w; depth = d; level = omega arith })
    go false p = rw (p, upd) (λ q. later s a b S σ l A z q)

-- ---- the whole
pub node_at_lem : {s : List ℕ} {d a i j : ℕ} {K : Kind} → j ≡ i → LaidNode s d a j K → LaidNode s d a i K
node_at_lem {s} {d} {a} {K = K} e N = subst (λ (x : ℕ). LaidNode s d a x K) e N

abbrev HoldsT : List ℕ → Term → ℕ → ℕ → Slots → Type 0
HoldsT s t i D S = Holds (nodes_of s) (depth_at s) t i D S

-- what holds behind qualifiers: the scope in which k was asked
abbrev Behind : List ℕ → ℕ → Slots → (Scope → Bool) → Type 0
Behind s a S k = (τ : Scope) × (k τ ≡ true) × Agrees s a S τ

mutual
  unfolding Holds nodes in_scope nesting lasts_l lasts_q behind first_of rest_of Agrees

  holds : (t : Term) (s : List ℕ) (D a i : ℕ) (S : Slots) (σ : Scope) → Laid s D a t → i + 1 ≡ a + nodes t → i < most_nodes → D + nesting t ≤ levels → BindersAt s a t → in_scope t σ ≡ true → Agrees s a S σ → HoldsT s t i D S
  holds (num z) s D a i S σ L e h n B I A =
      let q : a ≡ i = omega arith in
      node-is (node_at_lem q L.0) h ∙ ap (λ (j : ℕ). No.nnum (constant_of (arg_at s j))) (sym q) ∙ ap No.nnum L.1
  holds (truth b) s D a i S σ L e h n B I A =
      let q : a ≡ i = omega arith in
      node-is (node_at_lem q L.0) h ∙ ap (λ (j : ℕ). No.ntruth (eqb (arg_at s j) 1)) (sym q) ∙ ap No.ntruth (truth-bit b L.1)
  holds (name x) s D a i S σ L e h n B I A =
      let q : a ≡ i = omega arith in
      let k = later s a i S σ (omega arith) A x I in
      let l = k.level in
      let p : (S x).level ≡ suc ((S x).level - 1) = omega arith in
      ((S x).level - 1, node-is (node_at_lem q L.0) h ∙ ap (λ (j : ℕ). name_by s i (binder_word s (arg_at s j))) (sym q) ∙ ap (λ (j : ℕ). name_by s i (binder_word s j)) L.1 ∙ name-holds s i (S x) x k, p)
  holds (field k t) s D a i S σ L e h n B I A =
      let q : a + nodes t ≡ i = omega arith in
      let one = some-nodes t in
      let g : arg_at s i ≡ k = ap (arg_at s) (sym q) ∙ L.2 in (
        i - 1,
        node-is (node_at_lem q L.1) h ∙ up i (No.nfield (arg_at s i) (i - 1)) (omega arith) ∙ ap (λ (x : ℕ). No.nfield x (i - 1)) g,
        holds t s D a (i - 1) S σ L.0 (omega arith) (omega arith) n B I A,
      )
  holds (rec ts) s D a i S σ L e h n B I A =
      let q : a + nodes_l ts ≡ i = omega arith in
      (lasts_l a ts, node-is (node_at_lem q L.1) h ∙ ap No.nrec (ap (children_of s) (sym q) ∙ children-are ts s D a L.0 (counted ts L.1 L.2)), holds_l ts s D a i S σ L.0 (omega arith) h n B I A)
  holds (app f ts) s D a i S σ L e h n B I A =
      let q : a + nodes_l ts ≡ i = omega arith in
      (lasts_l a ts, node-is (node_at_lem q L.1) h ∙ node-op f ts s i (ap (arg_at s) (sym q) ∙ L.2) L.3 ∙ ap (No.napp f) (ap (children_of s) (sym q) ∙ children-are ts s D a L.0 (counted-op f ts L.1 L.2 L.3)), holds_l ts s D a i S σ L.0 (omega arith) h n B I A)
  holds (bin o t u) s D a i S σ L e h n B I A =
      let q : a + nodes t + nodes u ≡ i = omega arith in
      let one = some-nodes t in
      let two = some-nodes u in
      let r : i - 1 ≡ a + nodes t + nodes u - 1 = omega arith in
      let b : start_at s (i - 1) ≡ a + nodes t = ap (start_at s) r ∙ laid-start u s D (a + nodes t) L.1 in
      let w = both (in_scope t σ) (in_scope u σ) I in (
        a + nodes t - 1,
        i - 1,
        node-is (node_at_lem q L.2) h ∙ up i (No.nbin o (start_at s (i - 1) - 1) (i - 1)) (omega arith) ∙ ap (λ (x : ℕ). No.nbin o (x - 1) (i - 1)) b,
        holds t s D a (a + nodes t - 1) S σ L.0 (omega arith) (omega arith) (omega arith) B.0 w.0 A,
        holds u s D (a + nodes t) (i - 1) S σ L.1 (omega arith) (omega arith) (omega arith) B.1 w.1 (later s a (a + nodes t) S σ (omega arith) A),
      )
  holds (negate t) s D a i S σ L e h n B I A =
      let q : a + nodes t ≡ i = omega arith in
      let one = some-nodes t in
      (i - 1, node-is (node_at_lem q L.1) h ∙ up i (No.nnegate (i - 1)) (omega arith), holds t s D a (i - 1) S σ L.0 (omega arith) (omega arith) n B I A)
  holds (comp m qs t) s D a i S σ L e h n B I A =
      let q : a + nodes_q qs + nodes t ≡ i = omega arith in
      let one = some-nodes t in
      let g : monoid_at (arg_at s i) ≡ m = ap (λ (j : ℕ). monoid_at (arg_at s j)) (sym q) ∙ L.3 in
      let z : D + 1 ≡ suc D = omega arith in
      let N = node_at_lem q L.2 in
      let Q = holds_q qs s D a i S σ (λ τ. in_scope t τ) L.0 (omega arith) h (omega arith) B.0 I A in (
        lasts_q a qs,
        i - 1,
        node-is N h ∙ up i (No.ncomp (monoid_at (arg_at s i)) (qualifiers_of s i) (i - 1)) (omega arith) ∙ ap₂ (λ x l. No.ncomp x l (i - 1)) g (qualifiers-are qs t s (D + 1) D a i L.0 L.1 N (sym q)),
        omega arith,
        Q.0,
        subst (λ (d : ℕ). HoldsT s t (i - 1) d (behind qs (lasts_q a qs) D S)) z
            (holds t s (D + 1) (a + nodes_q qs) (i - 1) (behind qs (lasts_q a qs) D S) Q.1.0 L.1 (omega arith) (omega arith) (omega arith) B.1 Q.1.1 Q.1.2),
      )
  holds (table k) s D a i S σ L e h n B I A =
      let q : a ≡ i = omega arith in
      node-is (node_at_lem q L.0) h ∙ ap (λ (j : ℕ). No.ntable (arg_at s j)) (sym q) ∙ ap No.ntable L.1

  holds_l : (ts : Terms) (s : List ℕ) (D a i : ℕ) (S : Slots) (σ : Scope) → LaidL s D a ts → a + nodes_l ts ≤ i → i < most_nodes → D + nesting_l ts ≤ levels → BindersAtL s a ts → in_scopes ts σ ≡ true → Agrees s a S σ → HoldsL (nodes_of s) (depth_at s) ts (lasts_l a ts) D S
  holds_l tnil s D a i S σ L e h n B I A = refl
  holds_l (tcons t ts) s D a i S σ L e h n B I A =
      let one = some-nodes t in
      let w = both (in_scope t σ) (in_scopes ts σ) I in (
        a + nodes t - 1,
        lasts_l (a + nodes t) ts,
        refl,
        holds t s D a (a + nodes t - 1) S σ L.0 (omega arith) (omega arith) (omega arith) B.0 w.0 A,
        holds_l ts s D (a + nodes t) i S σ L.1 (omega arith) h (omega arith) B.1 w.1 (later s a (a + nodes t) S σ (omega arith) A),
      )

  holds_q : (qs : Quals) (s : List ℕ) (D a i : ℕ) (S : Slots) (σ : Scope) (k : Scope → Bool) → LaidQ s (D + 1) a qs → a + nodes_q qs ≤ i → i < most_nodes → D + 1 + nesting_q qs ≤ levels → BindersAtQ s a qs → in_scope_q qs k σ ≡ true
      → Agrees s a S σ → HoldsQ (nodes_of s) (depth_at s) qs (lasts_q a qs) D S × Behind s (a + nodes_q qs) (behind qs (lasts_q a qs) D S) k
  holds_q qnil s D a i S σ k L e h n B I A = (refl, (σ, I, later s a (a + 0) S σ (omega arith) A))
  holds_q (gen x t qs) s D a i S σ k L e h n B I A =
      let one = some-nodes t in
      let y = a + nodes t in
      let z : D + 1 ≡ suc D = omega arith in
      let w = both (in_scope t σ) (in_scope_q qs k (upd x true σ)) I in
      let R = holds_q qs s D (y + 1) i (upd x (slot y D) S) (upd x true σ) k L.3 (omega arith) h (omega arith) B.2 w.1
      (binds s a (y + 1) y D x S σ (omega arith) (omega arith) B.1 (L.1.depth ∙ z) A) in (
        (
          y - 1,
          refl,
          node-is L.1 (omega arith) ∙ up y (No.ngen (y - 1)) (omega arith),
          L.1.depth ∙ z,
          subst (λ (d : ℕ). HoldsT s t (y - 1) d S) z (holds t s (D + 1) a (y - 1) S σ L.0 (omega arith) (omega arith) (omega arith) B.0 w.0 A),
          R.0,
        ),
        (R.1.0, R.1.1, later s (y + 1 + nodes_q qs) (a + nodes_q (gen x t qs)) _ R.1.0 (omega arith) R.1.2),
      )
  holds_q (bind x t qs) s D a i S σ k L e h n B I A =
      let one = some-nodes t in
      let y = a + nodes t in
      let z : D + 1 ≡ suc D = omega arith in
      let w = both (in_scope t σ) (in_scope_q qs k (upd x true σ)) I in
      let R = holds_q qs s D (y + 1) i (upd x (slot y D) S) (upd x true σ) k L.3 (omega arith) h (omega arith) B.2 w.1
      (binds s a (y + 1) y D x S σ (omega arith) (omega arith) B.1 (L.1.depth ∙ z) A) in (
        (
          y - 1,
          refl,
          node-is L.1 (omega arith) ∙ up y (No.nbind (y - 1)) (omega arith),
          L.1.depth ∙ z,
          subst (λ (d : ℕ). HoldsT s t (y - 1) d S) z (holds t s (D + 1) a (y - 1) S σ L.0 (omega arith) (omega arith) (omega arith) B.0 w.0 A),
          R.0,
        ),
        (R.1.0, R.1.1, later s (y + 1 + nodes_q qs) (a + nodes_q (bind x t qs)) _ R.1.0 (omega arith) R.1.2),
      )
  holds_q (cond t qs) s D a i S σ k L e h n B I A =
      let one = some-nodes t in
      let y = a + nodes t in
      let z : D + 1 ≡ suc D = omega arith in
      let w = both (in_scope t σ) (in_scope_q qs k σ) I in
      let R = holds_q qs s D (y + 1) i S σ k L.2 (omega arith) h (omega arith) B.1 w.1 (later s a (y + 1) S σ (omega arith) A) in (
        (
          y - 1,
          refl,
          node-is L.1 (omega arith) ∙ up y (No.ncond (y - 1)) (omega arith),
          L.1.depth ∙ z,
          subst (λ (d : ℕ). HoldsT s t (y - 1) d S) z (holds t s (D + 1) a (y - 1) S σ L.0 (omega arith) (omega arith) (omega arith) B.0 w.0 A),
          R.0,
        ),
        (R.1.0, R.1.1, later s (y + 1 + nodes_q qs) (a + nodes_q (cond t qs)) _ R.1.0 (omega arith) R.1.2),
      )

-- A question of at most 256 nodes and 32 levels that lies in the words from node 0 on, whose names hold and whose binders'
-- words are right: its last node holds it.
pub laid-holds : (s : List ℕ) (q : Question) → Laid s 0 0 (as_term q) → nodes (as_term q) ≤ most_nodes → nesting (as_term q) ≤ levels → names_hold q ≡ true → BindersRight s q
    → Holds (nodes_of s) (depth_at s) (as_term q) (nodes (as_term q) - 1) 0 no_names
unfolding names_hold Agrees
laid-holds s q L h n I B =
    let t = as_term q in
    let one = some-nodes t in
    holds t s 0 0 (nodes t - 1) no_names (λ x. false) L (omega arith) (omega arith) (omega arith) B (both (in_scope t (λ x. false)) (distinct (binders t)) I).0 (λ x p. let z : ◌≡◌ {A = ℕ} 0 1 = cc in absurd (omega arith))
