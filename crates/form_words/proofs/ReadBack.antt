-- Where scratch holds the words of a form, the form is read there. The words are no more than the nodes that refusal 27
-- counts.
use mathlib.Core.Path.{◌≡◌, refl, ap, ap₂, subst, ◌∙◌}
use mathlib.Core.Bool.{Bool, true, false}
use mathlib.Core.List.{List, [], ◌∷◌, ◌++◌}
use Prim.Native.Nat.{ℕ, zero, suc, pred, min, ◌+◌, ◌-◌, ◌*◌, ◌%◌, ◌^◌, ◌≤◌, ◌<◌}
use native.Mathlib.Omega.{arith}
use borrow.Author.Tests.{lt-ltb, le-ltb, le-leb, lt-leb}
use lib.Dec.{leb, eqb}
use lib.ListN.{length, length-append}
use lib.IntN.{ℤ, pos, negsuc}
use lib.Signed.{mag}
use Rattle.spec_calculus.specs.Lists.{pick}
use Rattle.spec_calculus.specs.Syntax.{Monoid, Bin, Fun}
use Rattle.spec_normal_form.specs.Form.{Form, Forms, Clauses, num, truth, row, cell, rec, bin, negate, app, comp, fnil, fcons, done, gen, cond}
use Rattle.spec_normal_form.specs.Size.{nodes, nodes_f, nodes_c}
use Rattle.base_syntax.proofs.Numbers.{op-back, fun-back, monoid-back}
use Rattle.base_syntax.specs.Numbers.{op_arg, op_at, fun_arg, fun_at, monoid_arg, monoid_at, constant_of}
use Rattle.form_words.specs.declared.FormNode.{FormNode}
use Rattle.form_words.specs.declared.FormNode.TheVariants.{Number, Truth, Row, Cell, Record, Binary, Negation, Operator, Comprehension, Generator, Condition}
use Rattle.form_words.specs.declared.Clause.TheVariants as Cl
use Rattle.form_words.specs.NodeWord.{word_at, form_kind_of, below_of, arg_of, pack, next, node_of, node_at}
use Rattle.form_words.specs.FormTree.{clause_of, form_tree, forms_tree, clauses_tree, head_tree, left}
use Rattle.base_windows.specs.KeptCalendars.{calendar_in}
use Rattle.form_words.specs.FormWords.{CalendarsIn, CalendarsInAll, CalendarsInClauses, size, size_f, size_c, number_arg, flat, flat_f, flat_c, Fits, FitsF, FitsC, Holds}
use Rattle.base_scratch.specs.Map.{form_words}
use Rattle.form_words.proofs.NodeWords.{kind-pack, below-pack, arg-pack, form_node, clauses_node, head_node}

-- ---- how many words
mutual
  unfolding flat size

  pub length-flat : (t : Form) → length (flat t) ≡ size t
  length-flat (num z) = refl
  length-flat (truth b) = refl
  length-flat (row g) = refl
  length-flat (cell c g) = refl
  length-flat (rec ts) = ap suc (length-flat_f ts)
  length-flat (bin o s t) = ap suc (length-append (flat s) (flat t) ∙ ap₂ ◌+◌ (length-flat s) (length-flat t))
  length-flat (negate t) = ap suc (length-flat t)
  length-flat (app f ts) = ap suc (length-flat_f ts)
  length-flat (comp m q h) = ap suc (length-append (flat_c q) (flat h) ∙ ap₂ ◌+◌ (length-flat_c q) (length-flat h))

  pub length-flat_f : (ts : Forms) → length (flat_f ts) ≡ size_f ts
  length-flat_f fnil = refl
  length-flat_f (fcons t ts) = length-append (flat t) (flat_f ts) ∙ ap₂ ◌+◌ (length-flat t) (length-flat_f ts)

  pub length-flat_c : (q : Clauses) → length (flat_c q) ≡ size_c q
  length-flat_c done = refl
  length-flat_c (gen g k q) = ap suc (length-flat_c q)
  length-flat_c (cond t q) = ap suc (length-append (flat t) (flat_c q) ∙ ap₂ ◌+◌ (length-flat t) (length-flat_c q))

mutual
  unfolding size nodes

  size-nodes : (t : Form) → size t ≤ nodes t
  size-nodes (num z) = omega arith
  size-nodes (truth b) = omega arith
  size-nodes (row g) = omega arith
  size-nodes (cell c g) = omega arith
  size-nodes (rec ts) = omega (arith, size-nodes_f ts)
  size-nodes (bin o s t) = omega (arith, size-nodes s, size-nodes t)
  size-nodes (negate t) = omega (arith, size-nodes t)
  size-nodes (app f ts) = omega (arith, size-nodes_f ts)
  size-nodes (comp m q h) = omega (arith, size-nodes_c q, size-nodes h)

  size-nodes_f : (ts : Forms) → size_f ts ≤ nodes_f ts
  size-nodes_f fnil = omega arith
  size-nodes_f (fcons t ts) = omega (arith, size-nodes t, size-nodes_f ts)

  size-nodes_c : (q : Clauses) → size_c q ≤ nodes_c q
  size-nodes_c done = omega arith
  size-nodes_c (gen g k q) = omega (arith, size-nodes_c q)
  size-nodes_c (cond t q) = omega (arith, size-nodes t, size-nodes_c q)

-- no more words than nodes: where 27 does not refuse, at most 512
pub words-nodes : (t : Form) → length (flat t) ≤ nodes t
words-nodes t = omega (arith, length-flat t, size-nodes t)

pub size-some : (t : Form) → 0 < size t
unfolding size
size-some (num z) = omega arith
size-some (truth b) = omega arith
size-some (row g) = omega arith
size-some (cell c g) = omega arith
size-some (rec ts) = omega arith
size-some (bin o s t) = omega arith
size-some (negate t) = omega arith
size-some (app f ts) = omega arith
size-some (comp m q h) = omega arith

-- ---- words held
module _ (s : List ℕ) where
  pub holds-first : (a b : List ℕ) (i : ℕ) → Holds s i (a ++ b) → Holds s i a
  holds-first [] b i h = tt
  holds-first (w ∷ a) b i h = (h.0, holds-first a b (i + 1) h.1)

  pub holds-second : (a b : List ℕ) (i j : ℕ) → j ≡ i + length a → Holds s i (a ++ b) → Holds s j b
  holds-second [] b i j e h = subst (λ x. Holds s x b) (omega arith) h
  holds-second (w ∷ a) b i j e h = holds-second a b (i + 1) j (omega arith) h.1

  -- words that stay as they are
  pub holds_kept : (r : List ℕ) (l : List ℕ) (i : ℕ) → ((j : ℕ) → i ≤ j → j < i + length l → word_at r j ≡ word_at s j) → Holds s i l → Holds r i l
  holds_kept r [] i k h = tt
  holds_kept r (w ∷ l) i k h = (k i (omega arith) (omega arith) ∙ h.0, holds_kept r l (i + 1) (λ j p q. k j (omega arith) (omega arith)) h.1)

-- ---- arguments read back
number-back : (z : ℤ) → mag z < 2 ^ 31 → constant_of (number_arg z) ≡ z
number-back (pos n) p = simp (le-ltb (0x80000000 + n) 0x80000000 (omega arith), constant_of) (ap pos (omega arith))
number-back (negsuc n) p = simp (lt-ltb (0x7fffffff - n) 0x80000000 (omega arith), constant_of) (ap negsuc (omega arith))

truth-back : (b : Bool) → eqb (pick b 1 0) 1 ≡ b
unfolding pick
truth-back true = refl
truth-back false = refl

monoid-low : (m : Monoid) → monoid_arg m % 8 ≡ monoid_arg m
monoid-low m = omega arith

-- ---- nodes read back
-- the node of a form at i
abbrev pub node : List ℕ → ℕ → Form → FormNode
node s i (num z) = Number z
node s i (truth b) = Truth b
node s i (row g) = Row g
node s i (cell c g) = Cell c g
node s i (rec ts) = Record (next s i)
node s i (bin o t u) = Binary (op_at (op_arg o)) (next s (i + 1))
node s i (negate t) = Negation
node s i (app f ts) = Operator (fun_at (fun_arg f)) (next s i)
node s i (comp m q h) = Comprehension (monoid_at (monoid_arg m))

module _ (s : List ℕ) where
  module _ (i k b a : ℕ) (h : word_at s i ≡ pack k b a) (hk : k < 16) (hi : i + b < form_words) where
    node-found : node_at s i ≡ node_of s i k a
    unfolding node_at pick
    node-found = rw (lt-leb form_words i (omega arith)) (ap₂ (node_of s i) (ap form_kind_of h ∙ kind-pack k b a hk (omega arith)) (ap arg_of h ∙ arg-pack k b a hk (omega arith)))

    next-found : next s i ≡ i + suc b
    unfolding next
    next-found = ap (λ x. min (i + 1 + x) form_words) (ap below_of h ∙ below-pack k b a hk (omega arith)) ∙ omega arith

  pub node-is : (t : Form) (i : ℕ) → Fits t → i + size t ≤ form_words → Holds s i (flat t) → node_at s i ≡ node s i t
  unfolding flat size node_of
  node-is (num z) i w l h = node-found i 1 0 (number_arg z) h.0 (omega arith) (omega arith) ∙ ap Number (number-back z w)
  node-is (truth b) i w l h = node-found i 2 0 (pick b 1 0) h.0 (omega arith) (omega arith) ∙ ap Truth (truth-back b)
  node-is (row g) i w l h = node-found i 3 0 g h.0 (omega arith) (omega arith) ∙ ap Row (omega arith)
  node-is (cell c g) i w l h = node-found i 4 0 (1024 * c + g) h.0 (omega arith) (omega arith) ∙ ap₂ Cell (omega arith) (omega arith)
  node-is (rec ts) i w l h = node-found i 5 (size_f ts) 0 h.0 (omega arith) (omega arith)
  node-is (bin o t u) i w l h = node-found i 6 (size t + size u) (op_arg o) h.0 (omega arith) (omega arith)
  node-is (negate t) i w l h = node-found i 7 (size t) 0 h.0 (omega arith) (omega arith)
  node-is (app f ts) i w l h = node-found i 11 (size_f ts) (fun_arg f) h.0 (omega arith) (omega arith)
  node-is (comp m q u) i w l h = node-found i 8 (size_c q + size u) (monoid_arg m) h.0 (omega arith) (omega arith) ∙ ap (λ a. Comprehension (monoid_at a)) (monoid-low m)

  pub next-is : (t : Form) (i : ℕ) → i + size t ≤ form_words → Holds s i (flat t) → next s i ≡ i + size t
  unfolding flat size
  next-is (num z) i l h = next-found i 1 0 (number_arg z) h.0 (omega arith) (omega arith)
  next-is (truth b) i l h = next-found i 2 0 (pick b 1 0) h.0 (omega arith) (omega arith)
  next-is (row g) i l h = next-found i 3 0 g h.0 (omega arith) (omega arith)
  next-is (cell c g) i l h = next-found i 4 0 (1024 * c + g) h.0 (omega arith) (omega arith)
  next-is (rec ts) i l h = next-found i 5 (size_f ts) 0 h.0 (omega arith) (omega arith)
  next-is (bin o t u) i l h = next-found i 6 (size t + size u) (op_arg o) h.0 (omega arith) (omega arith)
  next-is (negate t) i l h = next-found i 7 (size t) 0 h.0 (omega arith) (omega arith)
  next-is (app f ts) i l h = next-found i 11 (size_f ts) (fun_arg f) h.0 (omega arith) (omega arith)
  next-is (comp m q u) i l h = next-found i 8 (size_c q + size u) (monoid_arg m) h.0 (omega arith) (omega arith)

  -- a generator's node; a condition's, and where it ends
  pub gen-node : (g k : ℕ) (q : Clauses) (i : ℕ) → FitsC (gen g k q) → i < form_words → Holds s i (flat_c (gen g k q)) → node_at s i ≡ Generator g k
  unfolding flat node_of
  gen-node g k q i w l h = node-found i 9 0 (1024 * g + k) h.0 (omega arith) (omega arith) ∙ ap₂ Generator (omega arith) (omega arith)

  module _ (t : Form) (q : Clauses) (i : ℕ) (l : i + size t < form_words) (h : Holds s i (flat_c (cond t q))) where
    pub cond-node : node_at s i ≡ Condition (next s i)
    unfolding flat node_of
    cond-node = node-found i 10 (size t) 0 h.0 (omega arith) l

    pub cond-next : next s i ≡ i + suc (size t)
    unfolding flat
    cond-next = next-found i 10 (size t) 0 h.0 (omega arith) l

  -- a form's node ends the clauses
  pub head-node : (t : Form) (i : ℕ) → clause_of (node s i t) ≡ Cl.Head
  head-node (num z) i = refl
  head-node (truth b) i = refl
  head-node (row g) i = refl
  head-node (cell c g) i = refl
  head-node (rec ts) i = refl
  head-node (bin o t u) i = refl
  head-node (negate t) i = refl
  head-node (app f ts) i = refl
  head-node (comp m q u) i = refl

  -- ---- trees, one step
  form-at : (f i : ℕ) → 0 < f → form_tree f s i ≡ form_node (pred f) s i (node_at s i)
  unfolding form_tree
  form-at zero i p = absurd (omega arith)
  form-at (suc f) i p = refl

  clauses-at : (f i : ℕ) → 0 < f → clauses_tree f s i ≡ clauses_node (pred f) s i (clause_of (node_at s i))
  unfolding form_tree
  clauses-at zero i p = absurd (omega arith)
  clauses-at (suc f) i p = refl

  head_at : (f i : ℕ) → 0 < f → head_tree f s i ≡ head_node (pred f) s i (clause_of (node_at s i))
  unfolding form_tree
  head_at zero i p = absurd (omega arith)
  head_at (suc f) i p = refl

  forms-at : (f i e : ℕ) → 0 < f → forms_tree f s i e ≡ pick (leb e i) fnil (fcons (form_tree (pred f) s i) (forms_tree (pred f) s (next s i) e))
  unfolding form_tree
  forms-at zero i e p = absurd (omega arith)
  forms-at (suc f) i e p = refl

  opened : (t : Form) (f i : ℕ) → Fits t → i + size t ≤ form_words → Holds s i (flat t) → 0 < f → form_tree f s i ≡ form_node (pred f) s i (node s i t)
  opened t f i w l h p = form-at f i p ∙ ap (form_node (pred f) s i) (node-is t i w l h)

  -- ---- trees read back
  -- the head at e behind clauses, where it is read back
  module _ (u : Form) (e : ℕ) (v : Fits u) (l : e + size u ≤ form_words) (k : Holds s e (flat u)) (r : (f : ℕ) → 2 * size u ≤ f → form_tree f s e ≡ u) where
    read_h : (q : Clauses) (f i : ℕ) → FitsC q → Holds s i (flat_c q) → e ≡ i + size_c q → 2 * (size_c q + size u) < f → head_tree f s i ≡ u
    unfolding flat size
    read_h done f i w h p m =
        subst (λ x. head_tree f s x ≡ u) (omega arith)
        (head_at f e (omega arith) ∙ ap (head_node (pred f) s e) (ap clause_of (node-is u e v l k) ∙ head-node u e) ∙ r (pred f) (omega arith))
    read_h (gen g t q) f i w h p m =
        head_at f i (omega arith) ∙ ap (head_node (pred f) s i) (ap clause_of (gen-node g t q i w (omega arith) h))
        ∙ read_h q (pred f) (i + 1) w.2 h.1 (omega arith) (omega arith)
    read_h (cond t q) f i w h p m =
        let n = cond-next t q i (omega arith) h in
        head_at f i (omega arith) ∙ ap (head_node (pred f) s i) (ap clause_of (cond-node t q i (omega arith) h))
        ∙ read_h q (pred f) (next s i) w.1 (holds-second s (flat t) (flat_c q) (i + 1) (next s i) (omega (arith, length-flat t)) h.1) (omega arith) (omega arith)

  mutual
    unfolding flat size pick node_of

    pub read : (t : Form) (f i : ℕ) → Fits t → CalendarsIn (calendar_in s) t → i + size t ≤ form_words → Holds s i (flat t) → 2 * size t ≤ f → form_tree f s i ≡ t
    read (num z) f i w y l h m = opened (num z) f i w l h (omega arith)
    read (truth b) f i w y l h m = opened (truth b) f i w l h (omega arith)
    read (row g) f i w y l h m = opened (row g) f i w l h (omega arith)
    read (cell c g) f i w y l h m = opened (cell c g) f i w l h (omega arith)
    read (rec ts) f i w y l h m =
        opened (rec ts) f i w l h (omega arith)
        ∙ ap rec (read_f ts (pred f) (i + 1) (next s i) w y (omega arith) h.1 (omega arith) (next-is (rec ts) i l h ∙ omega arith))
    read (bin o t u) f i w y l h m =
        let h₁ = holds-first s (flat t) (flat u) (i + 1) h.1 in
        let e = next-is t (i + 1) (omega arith) h₁ in
        opened (bin o t u) f i w l h (omega arith)
        ∙ ap (λ (x : Bin). bin x (form_tree (pred f) s (i + 1)) (form_tree (pred f) s (next s (i + 1)))) (op-back o)
        ∙ ap₂ (bin o) (read t (pred f) (i + 1) w.0 y.0 (omega arith) h₁ (omega arith))
        (read u (pred f) (next s (i + 1)) w.1 y.1 (omega arith) (holds-second s (flat t) (flat u) (i + 1) (next s (i + 1)) (omega (arith, length-flat t)) h.1) (omega arith))
    read (negate t) f i w y l h m = opened (negate t) f i w l h (omega arith) ∙ ap negate (read t (pred f) (i + 1) w y (omega arith) h.1 (omega arith))
    read (app g ts) f i w y l h m =
        opened (app g ts) f i w l h (omega arith)
        ∙ ap (λ (x : Fun). app x (forms_tree (pred f) s (i + 1) (next s i))) (fun-back (calendar_in s) g w.0 y.0)
        ∙ ap (app g) (read_f ts (pred f) (i + 1) (next s i) w.1 y.1 (omega arith) h.1 (omega arith) (next-is (app g ts) i l h ∙ omega arith))
    read (comp m q u) f i w y l h n =
        let h₁ = holds-first s (flat_c q) (flat u) (i + 1) h.1 in
        let h₂ = holds-second s (flat_c q) (flat u) (i + 1) (i + 1 + size_c q) (omega (arith, length-flat_c q)) h.1 in
        opened (comp m q u) f i w l h (omega arith)
        ∙ ap (λ (x : Monoid). comp x (clauses_tree (pred f) s (i + 1)) (head_tree (pred f) s (i + 1))) (monoid-back m)
        ∙ ap₂ (comp m) (read_c q u (pred f) (i + 1) (i + 1 + size_c q) w.0 y.0 w.1 (omega arith) h₁ h₂ refl (omega arith))
        (read_h u (i + 1 + size_c q) w.1 (omega arith) h₂ (λ g x. read u g (i + 1 + size_c q) w.1 y.1 (omega arith) h₂ x) q (pred f) (i + 1) w.0 h₁ refl (omega arith))

    pub read_f : (ts : Forms) (f i e : ℕ) → FitsF ts → CalendarsInAll (calendar_in s) ts → i + size_f ts ≤ form_words → Holds s i (flat_f ts) → 2 * size_f ts < f → e ≡ i + size_f ts → forms_tree f s i e ≡ ts
    read_f fnil f i e w y l h m p = forms-at f i e (omega arith) ∙ rw (le-leb e i (omega arith))
    read_f (fcons t ts) f i e w y l h m p =
        let h₁ = holds-first s (flat t) (flat_f ts) i h in
        let n = next-is t i (omega arith) h₁ in
        forms-at f i e (omega arith) ∙ rw (lt-leb e i (omega (arith, size-some t)))
        (ap₂ fcons (read t (pred f) i w.0 y.0 (omega arith) h₁ (omega arith))
        (read_f ts (pred f) (next s i) e w.1 y.1 (omega arith) (holds-second s (flat t) (flat_f ts) i (next s i) (omega (arith, length-flat t)) h) (omega (arith, size-some t)) (omega arith)))

    -- clauses, with the words of a form at e behind them
    pub read_c : (q : Clauses) (u : Form) (f i e : ℕ) → FitsC q → CalendarsInClauses (calendar_in s) q → Fits u → e + size u ≤ form_words → Holds s i (flat_c q) → Holds s e (flat u) → e ≡ i + size_c q → 2 * size_c q < f → clauses_tree f s i ≡ q
    read_c done u f i e w y v l h k p m =
        clauses-at f i (omega arith)
        ∙ ap (clauses_node (pred f) s i) (subst (λ x. clause_of (node_at s x) ≡ Cl.Head) (omega arith) (ap clause_of (node-is u e v l k) ∙ head-node u e))
    read_c (gen g t q) u f i e w y v l h k p m =
        clauses-at f i (omega arith) ∙ ap (clauses_node (pred f) s i) (ap clause_of (gen-node g t q i w (omega arith) h))
        ∙ ap (gen g t) (read_c q u (pred f) (i + 1) e w.2 y v l h.1 k (omega arith) (omega arith))
    read_c (cond t q) u f i e w y v l h k p m =
        let h₁ = holds-first s (flat t) (flat_c q) (i + 1) h.1 in
        let n = cond-next t q i (omega arith) h in
        clauses-at f i (omega arith) ∙ ap (clauses_node (pred f) s i) (ap clause_of (cond-node t q i (omega arith) h))
        ∙ ap₂ cond (read t (pred f) (i + 1) w.0 y.0 (omega arith) h₁ (omega arith))
        (read_c q u (pred f) (next s i) e w.1 y.1 v l (holds-second s (flat t) (flat_c q) (i + 1) (next s i) (omega (arith, length-flat t)) h.1) k (omega arith) (omega arith))

-- Where scratch holds the words of a form from place i on, and the calendars that it was lent, the form is read there, at every fuel that is enough.
pub read_back : (t : Form) (s : List ℕ) (i : ℕ) → Fits t → CalendarsIn (calendar_in s) t → i + length (flat t) ≤ form_words → Holds s i (flat t) → (f : ℕ) → left i < f → form_tree f s i ≡ t
read_back t s i w y l h f m = read s t f i w y (omega (arith, length-flat t)) h (omega (arith, length-flat t))
