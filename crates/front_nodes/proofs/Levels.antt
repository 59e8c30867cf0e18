-- Words in which a question lies give a table whose depths agree.
use mathlib.Core.Path.{◌≡◌, sym, ap, subst, ◌∙◌}
use mathlib.Core.List.{List}
use Prim.Native.Nat.{ℕ, suc, ◌+◌, ◌-◌, ◌<◌, ◌≤◌}
use native.Mathlib.Omega.{arith}
use lib.Dec.{ltb, leb}
use borrow.Author.Tests.{ltb-true, ltb-false}
use Rattle.spec_calculus.specs.Lists.{pick}
use Rattle.spec_calculus.specs.Syntax.{choice, is_open, Term, Terms, Quals, num, truth, name, field, rec, bin, negate, app, comp, table, tnil, tcons, qnil, gen, bind, cond}
use Rattle.base_signed.proofs.SignedWords.{by-test}
use Rattle.spec_encoding.specs.Reader.{Kind, comprehension}
use Rattle.front_words.specs.NodeTree.{monoid_at, arg_at, start_at}
use Rattle.front_words.specs.LaidTree.{nodes, nodes_l, nodes_q, LaidNode, Laid, LaidL, LaidQ}
use Rattle.front_words.proofs.NodeWords.{laid-start}
use Rattle.front_theory.specs.NodeTable as No
use Rattle.front_words.specs.Binders.{binder_word}
use Rattle.base_scratch.specs.Map.{most_nodes}
use Rattle.front_nodes.specs.NodeTable.{depth_at, children_of, qualifiers_of, above, name_by, node_by, nodes_of}
use Rattle.front_nodes.specs.Levels.{AllAt, Level, Levelled}
use Rattle.front_nodes.proofs.PostOrder.{by-pick}
use Rattle.front_nodes.proofs.TableHolds.{node-is, node_at_lem, lasts_l, lasts_q, counted, counted-op, children-are, qualifiers-are}

-- the depth of a tree's last node
depth-at : {s : List ℕ} {d a i : ℕ} {K : Kind} → LaidNode s d a i K → (j : ℕ) → i ≡ j → depth_at s j ≡ d
depth-at {s} N j e = ap (depth_at s) (sym e) ∙ N.depth

laid-depth : (t : Term) (s : List ℕ) (d a : ℕ) → Laid s d a t → depth_at s (a + nodes t - 1) ≡ d
unfolding nodes
laid-depth (num z) s d a L = depth-at L.0 _ (omega arith)
laid-depth (truth b) s d a L = depth-at L.0 _ (omega arith)
laid-depth (name x) s d a L = depth-at L.0 _ (omega arith)
laid-depth (field i t) s d a L = depth-at L.1 _ (omega arith)
laid-depth (rec ts) s d a L = depth-at L.1 _ (omega arith)
laid-depth (app f ts) s d a L = depth-at L.1 _ (omega arith)
laid-depth (bin o t u) s d a L = depth-at L.2 _ (omega arith)
laid-depth (negate t) s d a L = depth-at L.1 _ (omega arith)
laid-depth (comp m qs h) s d a L = depth-at L.2 _ (omega arith)
laid-depth (table k) s d a L = depth-at L.0 _ (omega arith)

all-terms : (ts : Terms) (s : List ℕ) (d a : ℕ) → LaidL s d a ts → AllAt (depth_at s) d (lasts_l a ts)
unfolding AllAt lasts_l
all-terms tnil s d a L = tt
all-terms (tcons t ts) s d a L = (laid-depth t s d a L.0, all-terms ts s d (a + nodes t) L.1)

all-quals : (qs : Quals) (s : List ℕ) (d a : ℕ) → LaidQ s d a qs → AllAt (depth_at s) d (lasts_q a qs)
unfolding AllAt lasts_q
all-quals qnil s d a L = tt
all-quals (gen x t qs) s d a L = (L.1.depth, all-quals qs s d (a + nodes t + 1) L.3)
all-quals (bind x t qs) s d a L = (L.1.depth, all-quals qs s d (a + nodes t + 1) L.3)
all-quals (cond t qs) s d a L = (L.1.depth, all-quals qs s d (a + nodes t + 1) L.2)

-- a name knows its binder's depth in every scratch
name-level : (s : List ℕ) (D i w : ℕ) → Level (depth_at s) D (name_by s i w)
unfolding name_by
name-level s D i w =
    let d = depth_at s (w - 1) in
    let y = No.nname (w - 1) (d - 1) in
    let P = Level (depth_at s) D in
    by-pick P (ltb 0 w) (pick (leb w i) (pick (ltb 0 d) y No.nbad) No.nbad) No.nbad
    (λ a. by-pick P (leb w i) (pick (ltb 0 d) y No.nbad) No.nbad (λ b. by-pick P (ltb 0 d) y No.nbad (λ c. omega (arith, ltb-true 0 d c)) (λ c. tt)) (λ b. tt))
    (λ a. tt)

abbrev LevelOf : List ℕ → ℕ → Type 0
LevelOf s j = Level (depth_at s) (depth_at s j) (nodes_of s j)

-- a node that lies there, by its kind
level_by : {s : List ℕ} {d a i : ℕ} {K : Kind} → LaidNode s d a i K → (j : ℕ) → i ≡ j → j < most_nodes → Level (depth_at s) d (node_by s j K) → LevelOf s j
level_by {s} {d} {K = K} N j e h l =
    subst (Level (depth_at s) (depth_at s j)) (sym (node-is (node_at_lem e N) h)) (subst (λ (D : ℕ). Level (depth_at s) D (node_by s j K)) (sym (depth-at N j e)) l)

level-above : (s : List ℕ) (D i : ℕ) (n : No.Node) → Level (depth_at s) D n → Level (depth_at s) D (above i n)
unfolding above
level-above s D i n l = by-pick (Level (depth_at s) D) (ltb 0 i) n No.nbad (λ t. l) (λ t. tt)

-- by whether a node stands before a place, or is the last before the next one
either : (s : List ℕ) (j y : ℕ) → (j < y → LevelOf s j) → (y ≤ j → LevelOf s j) → LevelOf s j
either s j y p q = by-test (ltb j y) (λ t. p (ltb-true j y t)) (λ t. q (ltb-false j y t))

upto : (s : List ℕ) (j y : ℕ) → j < y + 1 → (j < y → LevelOf s j) → (y ≡ j → LevelOf s j) → LevelOf s j
upto s j y h p q = either s j y p (λ l. q (omega arith))

-- the child that ends where node j stands has the depth d
child-depth : (t : Term) (s : List ℕ) (d a j : ℕ) → Laid s d a t → a + nodes t ≡ j → depth_at s (j - 1) ≡ d
child-depth t s d a j L e = ap (λ (x : ℕ). depth_at s (x - 1)) (sym e) ∙ laid-depth t s d a L

two-depths : (t u : Term) (s : List ℕ) (d a j : ℕ) → Laid s d a t → Laid s d (a + nodes t) u → a + nodes t + nodes u ≡ j → (depth_at s (start_at s (j - 1) - 1) ≡ d) × (depth_at s (j - 1) ≡ d)
two-depths t u s d a j L M e =
    let b : start_at s (j - 1) ≡ a + nodes t = ap (λ (x : ℕ). start_at s (x - 1)) (sym e) ∙ laid-start u s d (a + nodes t) M in
    (ap (λ (x : ℕ). depth_at s (x - 1)) b ∙ laid-depth t s d a L, child-depth u s d (a + nodes t) j M e)

comp-depths : (qs : Quals) (h : Term) (s : List ℕ) (d a j : ℕ) → LaidQ s (d + 1) a qs → Laid s (d + 1) (a + nodes_q qs) h → LaidNode s d a j comprehension → a + nodes_q qs + nodes h ≡ j
    → AllAt (depth_at s) (suc d) (qualifiers_of s j) × (depth_at s (j - 1) ≡ suc d)
comp-depths qs h s d a j L M N e =
    let z : d + 1 ≡ suc d = omega arith in (
      subst (AllAt (depth_at s) (suc d)) (sym (qualifiers-are qs h s (d + 1) d a j L M N (sym e))) (subst (λ (x : ℕ). AllAt (depth_at s) x (lasts_q a qs)) z (all-quals qs s (d + 1) a L)),
      child-depth h s (d + 1) (a + nodes_q qs) j M e ∙ z,
    )

mutual
  unfolding nodes

  levels : (t : Term) (s : List ℕ) (d a : ℕ) → Laid s d a t → a + nodes t ≤ most_nodes → (j : ℕ) → a ≤ j → j < a + nodes t → LevelOf s j
  levels (num z) s d a L m j p q = level_by L.0 j (omega arith) (omega arith) tt
  levels (truth b) s d a L m j p q = level_by L.0 j (omega arith) (omega arith) tt
  levels (name x) s d a L m j p q = level_by L.0 j (omega arith) (omega arith) (name-level s d j (binder_word s (arg_at s j)))
  levels (field k t) s d a L m j p q =
      upto s j (a + nodes t) (omega arith) (λ l. levels t s d a L.0 (omega arith) j p l)
      (λ e. level_by L.1 j e (omega arith) (level-above s d j (No.nfield (arg_at s j) (j - 1)) (child-depth t s d a j L.0 e)))
  levels (rec ts) s d a L m j p q =
      upto s j (a + nodes_l ts) (omega arith) (λ l. levels_l ts s d a L.0 (omega arith) j p l)
      (λ e. level_by L.1 j e (omega arith) (subst (AllAt (depth_at s) d) (sym (ap (children_of s) (sym e) ∙ children-are ts s d a L.0 (counted ts L.1 L.2))) (all-terms ts s d a L.0)))
  levels (app choice ts) s d a L m j p q =
      upto s j (a + nodes_l ts) (omega arith) (λ l. levels_l ts s d a L.0 (omega arith) j p l)
      (λ e. level_by L.1 j e (omega arith) (subst (AllAt (depth_at s) d) (sym (ap (children_of s) (sym e) ∙ children-are ts s d a L.0 (counted-op choice ts L.1 L.2 L.3))) (all-terms ts s d a L.0)))
  levels (app (is_open n c) ts) s d a L m j p q =
      upto s j (a + nodes_l ts) (omega arith) (λ l. levels_l ts s d a L.0 (omega arith) j p l)
      (λ e. level_by L.1 j e (omega arith) (subst (AllAt (depth_at s) d) (sym (ap (children_of s) (sym e) ∙ children-are ts s d a L.0 (counted-op (is_open n c) ts L.1 L.2 L.3))) (all-terms ts s d a L.0)))
  levels (bin o t u) s d a L m j p q =
      upto s j (a + nodes t + nodes u) (omega arith)
      (λ l. either s j (a + nodes t) (λ k. levels t s d a L.0 (omega arith) j p k) (λ k. levels u s d (a + nodes t) L.1 (omega arith) j k l))
      (λ e. level_by L.2 j e (omega arith) (level-above s d j (No.nbin o (start_at s (j - 1) - 1) (j - 1)) (two-depths t u s d a j L.0 L.1 e)))
  levels (negate t) s d a L m j p q =
      upto s j (a + nodes t) (omega arith) (λ l. levels t s d a L.0 (omega arith) j p l)
      (λ e. level_by L.1 j e (omega arith) (level-above s d j (No.nnegate (j - 1)) (child-depth t s d a j L.0 e)))
  levels (comp m qs t) s d a L h j p q =
      upto s j (a + nodes_q qs + nodes t) (omega arith)
      (λ l. either s j (a + nodes_q qs) (λ k. levels_q qs s (d + 1) a L.0 (omega arith) j p k) (λ k. levels t s (d + 1) (a + nodes_q qs) L.1 (omega arith) j k l))
      (λ e. level_by L.2 j e (omega arith) (level-above s d j (No.ncomp (monoid_at (arg_at s j)) (qualifiers_of s j) (j - 1)) (comp-depths qs t s d a j L.0 L.1 (node_at_lem e L.2) e)))
  levels (table k) s d a L m j p q = level_by L.0 j (omega arith) (omega arith) tt

  levels_l : (ts : Terms) (s : List ℕ) (d a : ℕ) → LaidL s d a ts → a + nodes_l ts ≤ most_nodes → (j : ℕ) → a ≤ j → j < a + nodes_l ts → LevelOf s j
  levels_l tnil s d a L m j p q = absurd (omega arith)
  levels_l (tcons t ts) s d a L m j p q = either s j (a + nodes t) (λ k. levels t s d a L.0 (omega arith) j p k) (λ k. levels_l ts s d (a + nodes t) L.1 (omega arith) j k (omega arith))

  levels_q : (qs : Quals) (s : List ℕ) (d a : ℕ) → LaidQ s d a qs → a + nodes_q qs ≤ most_nodes → (j : ℕ) → a ≤ j → j < a + nodes_q qs → LevelOf s j
  levels_q qnil s d a L m j p q = absurd (omega arith)
  levels_q (gen x t qs) s d a L m j p q =
      either s j (a + nodes t + 1)
      (λ k. upto s j (a + nodes t) k (λ l. levels t s d a L.0 (omega arith) j p l) (λ e. level_by L.1 j e (omega arith) (level-above s d j (No.ngen (j - 1)) (child-depth t s d a j L.0 e))))
      (λ k. levels_q qs s d (a + nodes t + 1) L.3 (omega arith) j k (omega arith))
  levels_q (bind x t qs) s d a L m j p q =
      either s j (a + nodes t + 1)
      (λ k. upto s j (a + nodes t) k (λ l. levels t s d a L.0 (omega arith) j p l) (λ e. level_by L.1 j e (omega arith) (level-above s d j (No.nbind (j - 1)) (child-depth t s d a j L.0 e))))
      (λ k. levels_q qs s d (a + nodes t + 1) L.3 (omega arith) j k (omega arith))
  levels_q (cond t qs) s d a L m j p q =
      either s j (a + nodes t + 1)
      (λ k. upto s j (a + nodes t) k (λ l. levels t s d a L.0 (omega arith) j p l) (λ e. level_by L.1 j e (omega arith) (level-above s d j (No.ncond (j - 1)) (child-depth t s d a j L.0 e))))
      (λ k. levels_q qs s d (a + nodes t + 1) L.2 (omega arith) j k (omega arith))

-- The depths of all nodes of a question that lies in the words agree.
pub laid-levelled : (s : List ℕ) (t : Term) → Laid s 0 0 t → nodes t ≤ most_nodes → Levelled (nodes_of s) (depth_at s) (nodes t)
laid-levelled s t L h i l = levels t s 0 0 L (omega arith) i (omega arith) (omega arith)

-- the last node of a tree has the tree's depth
pub last-depth : (s : List ℕ) (t : Term) → Laid s 0 0 t → depth_at s (nodes t - 1) ≡ 0
last-depth s t L = let e : nodes t - 1 ≡ 0 + nodes t - 1 = omega arith in ap (depth_at s) e ∙ laid-depth t s 0 0 L
