-- Laws of the words of a normal form: what is packed is unpacked, where the next place lies, what each node is, and how a
-- tree is read from its node.
use mathlib.Core.Path.{◌≡◌, refl, sym, ap, ap₂, subst, ◌∙◌}
use mathlib.Core.Bool.{Bool, true, false, cond}
use mathlib.Core.List.{List, [], ◌∷◌}
use Prim.Native.Nat.{ℕ, zero, suc, ◌+◌, ◌-◌, ◌/◌, ◌%◌, ◌^◌, ◌≤◌, ◌<◌}
use native.Mathlib.Omega.{arith}
use borrow.Author.Tests.{le-leb, lt-leb}
use lib.Dec.{ltb, leb, eqb}
use lib.ListN.{get_or}
use lib.IntN.{ℤ, pos, negsuc, nat_abs, ◌-ℤ◌}
use mir.Syntax.{w64}
use mir.Val.{SFits, to_z, of_z}
use mir.Facts.{to_z-of_z}
use Rattle.spec_calculus.specs.Lists.{pick}
use Rattle.spec_normal_form.specs.Form.{Form, Clauses, fnil, fcons}
use Rattle.base_syntax.specs.declared.Monoid.{Monoid}
use Rattle.base_signed.proofs.SignedWords.{fits, up, mag-sub}
use Rattle.base_syntax.specs.declared.BinOp.{BinOp}
use Rattle.base_syntax.specs.declared.Fun.{Fun}
use Rattle.base_syntax.specs.Numbers.{op_at, fun_at, monoid_at, constant_of}
use Rattle.form_words.specs.declared.FormNode.{FormNode}
use Rattle.form_words.specs.declared.FormNode.TheVariants.{Number, Truth, Row, Cell, Record, Binary, Negation, Operator, Comprehension, Generator, Condition, Nothing}
use Rattle.form_words.specs.declared.Leaf.{Leaf}
use Rattle.form_words.specs.declared.Leaf.TheVariants as Le
use Rattle.std.specs.declared.option.Option.TheVariants as Opt
use Rattle.form_words.specs.declared.Clause.{Clause}
use Rattle.form_words.specs.declared.Clause.TheVariants as Cl
use Rattle.form_words.specs.NodeWord.{word_at, form_kind_of, below_of, arg_of, pack, next, kinds, node_of, node_at}
use Rattle.base_scratch.specs.Map.{form_words}
use Rattle.base_windows.specs.KeptCalendars.{calendar_in}
use Rattle.form_words.specs.FormTree.{form_by, clause_of, clauses_by, head_by, form_tree, forms_tree, clauses_tree, head_tree}
use Rattle.form_words.specs.HeadPlace as Hd
use Rattle.form_words.specs.Look.{Inside, Looks, leaf_of, LeafAtPost, monoid_in, MonoidOfPost, LooksC}

-- ---- packing
module _ (k b a : ℕ) (hk : k < 16) (hb : b < 1024) where
  pub kind-pack : form_kind_of (pack k b a) ≡ k
  kind-pack = omega arith

  pub below-pack : below_of (pack k b a) ≡ b
  below-pack = omega arith

  pub arg-pack : arg_of (pack k b a) ≡ a
  arg-pack = omega arith

-- ---- places
module _ (s : List ℕ) (i : ℕ) where
  pub next-most : next s i ≤ form_words
  unfolding next
  next-most = omega arith

  pub next_past : i < form_words → i < next s i
  unfolding next
  next_past p = omega arith

  pub next-out : form_words ≤ i → form_words ≡ next s i
  unfolding next
  next-out p = omega arith

-- ---- arguments
distance : (a : ℕ) → pos a -ℤ pos 0x80000000 ≡ constant_of a
distance a = go (ltb a 0x80000000)
  where
    go : (t : Bool) → cond t (negsuc (0x80000000 - suc a)) (pos (a - 0x80000000)) ≡ elim t [ true ↦ negsuc (0x7fffffff - a) | false ↦ pos (a - 0x80000000) ]
    go true = ap negsuc (omega arith)
    go false = refl

module _ {a : ℕ} (p : a < 2 ^ 50) where
  pub number_ok : SFits w64 (to_z w64 a -ℤ pos 0x80000000)
  number_ok = rw (up {x = a} (omega arith)) (fits (omega (arith, mag-sub (pos a) (pos 0x80000000))))

  pub number_is : to_z w64 (of_z w64 (to_z w64 a -ℤ pos 0x80000000)) ≡ constant_of a
  number_is = to_z-of_z number_ok ∙ ap (λ (z : ℤ). z -ℤ pos 0x80000000) (up {x = a} (omega arith)) ∙ distance a

  number_small : nat_abs (constant_of a) < 2 ^ 50
  number_small = go (ltb a 0x80000000)
    where
      go : (t : Bool) → nat_abs (elim t [ true ↦ negsuc (0x7fffffff - a) | false ↦ pos (a - 0x80000000) ]) < 2 ^ 50
      go true = omega arith
      go false = omega arith

-- ---- nodes
-- P of each node of a list whose place, counted from j on, may be k
abbrev Each : (FormNode → Type 0) → ℕ → ℕ → List FormNode → Type 0
Each P k j [] = Unit {0}
Each P k j (n ∷ l) = (k ≡ j → P n) × Each P k (suc j) l

each_at : (P : FormNode → Type 0) (l : List FormNode) (k i j : ℕ) → k ≡ j + i → P Nothing → Each P k j l → P (get_or l i Nothing)
each_at P [] k i j e z h = z
each_at P (n ∷ l) k zero j e z h = h.0 (omega arith)
each_at P (n ∷ l) k (suc i) j e z h = each_at P l k i (suc j) (omega arith) z h.1

-- what holds of nothing, and of the node of each of the eleven kinds that the word w at a place may have
pub node_by : (P : FormNode → Type 0) (s : List ℕ) (i : ℕ) {w : ℕ} → w ≡ word_at s i → P Nothing →
    (form_kind_of w ≡ 1 → P (Number (constant_of (arg_of w)))) → (form_kind_of w ≡ 2 → P (Truth (eqb (arg_of w) 1))) → (form_kind_of w ≡ 3 → P (Row (arg_of w % 1024))) →
    (form_kind_of w ≡ 4 → P (Cell (arg_of w / 1024 % 1024) (arg_of w % 1024))) → (form_kind_of w ≡ 5 → P (Record (next s i))) →
    (form_kind_of w ≡ 6 → P (Binary (op_at (arg_of w)) (next s (i + 1)))) → (form_kind_of w ≡ 7 → P Negation) →
    (form_kind_of w ≡ 8 → P (Comprehension (monoid_at (arg_of w % 8)))) → (form_kind_of w ≡ 9 → P (Generator (arg_of w / 1024 % 1024) (arg_of w % 1024))) →
    (form_kind_of w ≡ 10 → P (Condition (next s i))) → (form_kind_of w ≡ 11 → P (Operator (fun_at (arg_of w)) (next s i))) → P (node_at s i)
unfolding node_at node_of pick
node_by P s i {w} e z h1 h2 h3 h4 h5 h6 h7 h8 h9 h10 h11 = subst (λ x. P (pick (leb form_words i) Nothing (node_of s i (form_kind_of x) (arg_of x)))) e (go (leb form_words i))
  where
    go : (b : Bool) → P (pick b Nothing (node_of s i (form_kind_of w) (arg_of w)))
    go true = z
    go false = each_at P (kinds s i (arg_of w)) (form_kind_of w) (form_kind_of w) 0 (omega arith) z ((λ q. z), (h1, (h2, (h3, (h4, (h5, (h6, (h7, (h8, (h9, (h10, (h11, tt))))))))))))

pub look-out : {s : List ℕ} {i : ℕ} → form_words ≤ i → Looks s i Nothing
unfolding node_at pick
look-out {s} {i} p = record { is = rw (le-leb form_words i p); inside = tt }

-- w: the word; a and k: its argument and its kind, as they were read
module _ {s : List ℕ} {i w a k : ℕ} (p : i < form_words) (e : w ≡ word_at s i) (A : (a ≡ arg_of w) × (a < 2 ^ 50)) (K : k ≡ form_kind_of w) where
  look-by : {n : FormNode} → Inside i n → n ≡ node_of s i k a → Looks s i n
  unfolding node_at pick
  look-by q h = record { is = rw (lt-leb form_words i p) (h ∙ ap₂ (node_of s i) K A.0 ∙ ap (λ x. node_of s i (form_kind_of x) (arg_of x)) e); inside = q }

  pub look-number : {z : ℤ} → k ≡ 1 → z ≡ constant_of (a) → Looks s i (Number z)
  unfolding node_of
  look-number l q = look-by (rw q (number_small A.1)) (rw (l, q))

  pub look-truth : {b : Bool} → k ≡ 2 → b ≡ eqb (a) 1 → Looks s i (Truth b)
  unfolding node_of
  look-truth l q = look-by tt (rw (l, q))

  pub look-row : {g : ℕ} → k ≡ 3 → (g ≡ a % 1024) × (g < 1024) → Looks s i (Row g)
  unfolding node_of
  look-row l q = look-by q.1 (rw (l, q.0))

  pub look-cell : {c g : ℕ} → k ≡ 4 → (c ≡ a / 1024 % 1024) × (c < 1024) → (g ≡ a % 1024) × (g < 1024) → Looks s i (Cell c g)
  unfolding node_of
  look-cell l q r = look-by (q.1, r.1) (rw (l, q.0, r.0))

  pub look-record : {j : ℕ} → k ≡ 5 → j ≡ next s i → Looks s i (Record j)
  unfolding node_of
  look-record l q = look-by (rw q (next_past s i p), rw q (next-most s i)) (rw (l, q))

  pub look-binary : {o : BinOp} {j : ℕ} → k ≡ 6 → o ≡ op_at (a) → j ≡ next s (i + 1) → Looks s i (Binary o j)
  unfolding node_of next
  look-binary l q r = look-by (omega arith, omega arith) (rw (l, q, r))

  pub look-negation : k ≡ 7 → Looks s i Negation
  unfolding node_of
  look-negation l = look-by p (rw l)

  pub look-comprehension : {m : Monoid} → k ≡ 8 → m ≡ monoid_at (a % 8) → Looks s i (Comprehension m)
  unfolding node_of
  look-comprehension l q = look-by p (rw (l, q))

  pub look-generator : {g t : ℕ} → k ≡ 9 → (g ≡ a / 1024 % 1024) × (g < 1024) → (t ≡ a % 1024) × (t < 1024) → Looks s i (Generator g t)
  unfolding node_of
  look-generator l q r = look-by (p, q.1, r.1) (rw (l, q.0, r.0))

  pub look-condition : {j : ℕ} → k ≡ 10 → j ≡ next s i → Looks s i (Condition j)
  unfolding node_of
  look-condition l q = look-by (rw q (next_past s i p), rw q (next-most s i)) (rw (l, q))

  pub look-operator : {f : Fun} {j : ℕ} → k ≡ 11 → f ≡ fun_at (a) → j ≡ next s i → Looks s i (Operator f j)
  unfolding node_of
  look-operator l q r = look-by (rw r (next_past s i p), rw r (next-most s i)) (rw (l, q, r))

-- a kind that is none of the eleven
pub look-rest : {s : List ℕ} {i w k : ℕ} → w ≡ word_at s i → k ≡ form_kind_of w →
    (k ≡ 1 → ⊥) → (k ≡ 2 → ⊥) → (k ≡ 3 → ⊥) → (k ≡ 4 → ⊥) → (k ≡ 5 → ⊥) → (k ≡ 6 → ⊥) →
    (k ≡ 7 → ⊥) → (k ≡ 8 → ⊥) → (k ≡ 9 → ⊥) → (k ≡ 10 → ⊥) → (k ≡ 11 → ⊥) → Looks s i Nothing
look-rest {s} {i} e K n1 n2 n3 n4 n5 n6 n7 n8 n9 n10 n11 = record {
  is = node_by (λ n. Nothing ≡ n) s i e refl (λ q. absurd (n1 (K ∙ q))) (λ q. absurd (n2 (K ∙ q))) (λ q. absurd (n3 (K ∙ q))) (λ q. absurd (n4 (K ∙ q))) (λ q. absurd (n5 (K ∙ q))) (λ q. absurd (n6 (K ∙ q))) (λ q. absurd (n7 (K ∙ q))) (λ q. absurd (n8 (K ∙ q))) (λ q. absurd (n9 (K ∙ q))) (λ q. absurd (n10 (K ∙ q))) (λ q. absurd (n11 (K ∙ q)));
  inside = tt;
}

-- the monoid of a comprehension, read off its word
pub monoid-word : (s : List ℕ) (i : ℕ) {w : ℕ} {m : Monoid} → w ≡ word_at s i → node_at s i ≡ Comprehension m → monoid_at (arg_of w % 8) ≡ m
monoid-word s i {w} {m} e = node_by (λ n. n ≡ Comprehension m → monoid_at (arg_of w % 8) ≡ m) s i e (λ q. cc q) (λ _ q. cc q) (λ _ q. cc q) (λ _ q. cc q) (λ _ q. cc q) (λ _ q. cc q) (λ _ q. cc q) (λ _ q. cc q) (λ _ q. cc q) (λ _ q. cc q) (λ _ q. cc q) (λ _ q. cc q)

-- ---- leaves
pub leaf-out : {s : List ℕ} {i : ℕ} → form_words ≤ i → LeafAtPost s i Le.Other
leaf-out p = record { is = ap leaf_of (look-out p).is }

module _ {s : List ℕ} {i w a k : ℕ} (p : i < form_words) (e : w ≡ word_at s i) (A : (a ≡ arg_of w) × (a < 2 ^ 50)) (K : k ≡ form_kind_of w) where
  pub leaf-number : {z : ℤ} → k ≡ 1 → z ≡ constant_of a → LeafAtPost s i (Le.Number z)
  leaf-number l q = record { is = ap leaf_of (look-number p e A K l q).is }

  pub leaf-cell : {c g : ℕ} → k ≡ 4 → (c ≡ a / 1024 % 1024) × (c < 1024) → (g ≡ a % 1024) × (g < 1024) → LeafAtPost s i (Le.Cell c g)
  leaf-cell l q r = record { is = ap leaf_of (look-cell p e A K l q r).is }

-- a kind that is neither a number's nor a cell's
pub leaf-rest : {s : List ℕ} {i w k : ℕ} → w ≡ word_at s i → k ≡ form_kind_of w → (k ≡ 1 → ⊥) → (k ≡ 4 → ⊥) → LeafAtPost s i Le.Other
leaf-rest {s} {i} e K n1 n4 = record {
  is = node_by (λ n. Le.Other ≡ leaf_of n) s i e refl (λ q. absurd (n1 (K ∙ q))) (λ q. refl) (λ q. refl) (λ q. absurd (n4 (K ∙ q))) (λ q. refl) (λ q. refl) (λ q. refl) (λ q. refl) (λ q. refl) (λ q. refl) (λ q. refl);
}

-- the node that a leaf was read from
abbrev LeafIs : FormNode → Leaf → Type 0
LeafIs n (Le.Number z) = n ≡ Number z
LeafIs n (Le.Cell c g) = n ≡ Cell c g
LeafIs n Le.Other = Unit {0}

pub record LeafHere (s : List ℕ) (i : ℕ) (r : Leaf) : Type 0 where
  pub is : LeafIs (node_at s i) r

leaf-node : (n : FormNode) → LeafIs n (leaf_of n)
leaf-node (Number z) = refl
leaf-node (Truth b) = tt
leaf-node (Row g) = tt
leaf-node (Cell c g) = refl
leaf-node (Record e) = tt
leaf-node (Binary o j) = tt
leaf-node Negation = tt
leaf-node (Operator f e) = tt
leaf-node (Comprehension m) = tt
leaf-node (Generator g k) = tt
leaf-node (Condition j) = tt
leaf-node Nothing = tt

pub leaf-recast : {s : List ℕ} {i : ℕ} {r n : Leaf} → LeafAtPost s i r → r ≡ n → LeafHere s i n
leaf-recast {s} {i} H e = record { is = subst (LeafIs (node_at s i)) (sym H.is ∙ e) (leaf-node (node_at s i)) }

-- ---- the monoid of a comprehension
pub monoid-out : {s : List ℕ} {i : ℕ} → form_words ≤ i → MonoidOfPost s i Opt.None
monoid-out p = record { is = ap monoid_in (look-out p).is }

pub monoid-is : {s : List ℕ} {i w a k : ℕ} {m : Monoid} → i < form_words → w ≡ word_at s i → (a ≡ arg_of w) × (a < 2 ^ 50) → k ≡ form_kind_of w → k ≡ 8 → m ≡ monoid_at (a % 8) → MonoidOfPost s i (Opt.Some m)
monoid-is p e A K l q = record { is = ap monoid_in (look-comprehension p e A K l q).is }

pub monoid-rest : {s : List ℕ} {i w k : ℕ} → w ≡ word_at s i → k ≡ form_kind_of w → (k ≡ 8 → ⊥) → MonoidOfPost s i Opt.None
monoid-rest {s} {i} e K n8 = record {
  is = node_by (λ n. Opt.None ≡ monoid_in n) s i e refl (λ q. refl) (λ q. refl) (λ q. refl) (λ q. refl) (λ q. refl) (λ q. refl) (λ q. refl) (λ q. absurd (n8 (K ∙ q))) (λ q. refl) (λ q. refl) (λ q. refl);
}

-- ---- clauses
pub clause-out : {s : List ℕ} {i : ℕ} → form_words ≤ i → LooksC s i Cl.Head
unfolding node_at pick
clause-out {s} {i} p = record { is = rw (le-leb form_words i p); inside = tt }

module _ {s : List ℕ} {i w a k : ℕ} (p : i < form_words) (e : w ≡ word_at s i) (A : (a ≡ arg_of w) × (a < 2 ^ 50)) (K : k ≡ form_kind_of w) where
  pub clause-generator : {g t : ℕ} → k ≡ 9 → (g ≡ a / 1024 % 1024) × (g < 1024) → (t ≡ a % 1024) × (t < 1024) → LooksC s i (Cl.Generator g t)
  clause-generator l q r = let L = look-generator p e A K l q r in record { is = ap clause_of L.is; inside = L.inside }

  pub clause-condition : {j : ℕ} → k ≡ 10 → j ≡ next s i → LooksC s i (Cl.Condition j)
  clause-condition l q = let L = look-condition p e A K l q in record { is = ap clause_of L.is; inside = L.inside }

-- a kind that is neither a generator's nor a condition's
pub clause-head : {s : List ℕ} {i w k : ℕ} → w ≡ word_at s i → k ≡ form_kind_of w → (k ≡ 9 → ⊥) → (k ≡ 10 → ⊥) → LooksC s i Cl.Head
clause-head {s} {i} e K n9 n10 = record {
  is = node_by (λ n. Cl.Head ≡ clause_of n) s i e refl (λ q. refl) (λ q. refl) (λ q. refl) (λ q. refl) (λ q. refl) (λ q. refl) (λ q. refl) (λ q. refl) (λ q. absurd (n9 (K ∙ q))) (λ q. absurd (n10 (K ∙ q))) (λ q. refl);
  inside = tt;
}

-- ---- trees, by the node that was looked at; one law each, to be used at every fuel
abbrev pub form_node : ℕ → List ℕ → ℕ → FormNode → Form
form_node f s i n = form_by (calendar_in s) (λ j. form_tree f s j) (λ j e. forms_tree f s j e) (λ j. clauses_tree f s j) (λ j. head_tree f s j) i n

abbrev pub clauses_node : ℕ → List ℕ → ℕ → Clause → Clauses
clauses_node f s i n = clauses_by (λ j. form_tree f s j) (λ j. clauses_tree f s j) i n

abbrev pub head_node : ℕ → List ℕ → ℕ → Clause → Form
head_node f s i n = head_by (λ j. form_tree f s j) (λ j. head_tree f s j) i n

pub recast : {s : List ℕ} {i : ℕ} {r n : FormNode} → Looks s i r → r ≡ n → Looks s i n
recast {s} {i} H e = subst (Looks s i) e H

pub recast_c : {s : List ℕ} {i : ℕ} {r n : Clause} → LooksC s i r → r ≡ n → LooksC s i n
recast_c {s} {i} H e = subst (LooksC s i) e H

module _ {s : List ℕ} {i : ℕ} {n : FormNode} (H : Looks s i n) (f : ℕ) where
  pub form-is : form_tree (suc f) s i ≡ form_node f s i n
  unfolding form_tree
  form-is = ap (form_node f s i) (sym H.is)

module _ {s : List ℕ} {i : ℕ} {n : Clause} (H : LooksC s i n) (f : ℕ) where
  pub clauses-is : clauses_tree (suc f) s i ≡ clauses_node f s i n
  unfolding form_tree
  clauses-is = ap (clauses_node f s i) (sym H.is)

  pub head-is : head_tree (suc f) s i ≡ head_node f s i n
  unfolding form_tree
  head-is = ap (head_node f s i) (sym H.is)

  pub head-node-is : Hd.head_node (suc f) s i ≡ Hd.head_by (λ j. Hd.head_node f s j) i n
  unfolding Hd.head_node
  head-node-is = ap (Hd.head_by (λ j. Hd.head_node f s j) i) (sym H.is)

module _ (f : ℕ) (s : List ℕ) (i e : ℕ) where
  pub forms-end : e ≤ i → forms_tree (suc f) s i e ≡ fnil
  unfolding form_tree pick
  forms-end p = rw (le-leb e i p)

  pub forms-more : i < e → forms_tree (suc f) s i e ≡ fcons (form_tree f s i) (forms_tree f s (next s i) e)
  unfolding form_tree pick
  forms-more p = rw (lt-leb e i p)
