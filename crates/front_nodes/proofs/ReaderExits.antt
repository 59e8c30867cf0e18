-- Laws of the readers, one for each way out.
use mathlib.Core.Path.{◌≡◌, refl, sym, ap, ap₂, subst, ◌∙◌}
use mathlib.Core.List.{List, [], ◌∷◌}
use mathlib.Core.Bool.{Bool, true, false, cond}
use mathlib.Core.Logic.{◌⊎◌, inl, inr}
use Prim.Native.Nat.{ℕ, zero, suc, ◌+◌, ◌-◌, ◌^◌, ◌<◌, ◌≤◌}
use native.Mathlib.Omega.{arith}
use lib.Dec.{ltb, eqb}
use lib.ListN.{drop, get_or, get_or-eq_default}
use lib.Signed.{mag}
use lib.IntN.{ℤ, pos, negsuc, ◌-ℤ◌}
use types.Run.{OneOf, miss}
use denote.Enum.Declared.{tag_of}
use Rattle.front_nodes.specs.contracts.QueryNode as node
use mir.Syntax.{w64}
use mir.Val.{SFits, to_z, of_z}
use mir.Facts.{to_z_pos, to_z-of_z}
use borrow.Author.Tests.{ltb-true, ltb-false, lt-ltb, le-ltb, lt-leb, le-leb, eqb-true, eqb-false}
use Rattle.spec_calculus.specs.Lists.{pick}
use Rattle.spec_calculus.specs.Lending.{unlent}
use Rattle.base_signed.proofs.SignedWords.{by-test, fits}
use Rattle.spec_encoding.specs.Reader.{kinds, unknown}
use Rattle.spec_encoding.specs.Reader as Re
use Rattle.base_syntax.specs.declared.Monoid.{Monoid}
use Rattle.base_syntax.specs.MonoidWord.{monoid_of}
use Rattle.base_scratch.specs.Map.{most_nodes}
use Rattle.front_words.specs.NodeWord.{node_kind_of, arg_of, node_word}
use Rattle.front_words.specs.NodeTree.{monoid_at, kind_at, arg_at, start_at}
use Rattle.base_syntax.specs.Numbers.{constant_of, bin_of}
use Rattle.front_theory.specs.NodeTable as No
use Rattle.front_theory.specs.NodeTable.{Inside}
use Rattle.base_syntax.specs.declared.BinOp.{BinOp}
use Rattle.base_syntax.specs.declared.Fun.TheVariants.{Choice, Open}
use Rattle.front_nodes.specs.declared.Kind.{Kind}
use Rattle.front_nodes.specs.declared.QueryNode.{QueryNode}
use Rattle.front_nodes.specs.declared.QueryNode.TheVariants.{Number, Truth, Name, Field, Record, Two, Not, Comp, Table, Gen, Bind, Cond, Operator, Bad}
use Rattle.std.proofs.Common.{Some, None}
use Rattle.front_nodes.specs.declared.Binder.TheVariants as Bi
use Rattle.front_nodes.specs.NodeTable.{children_of, depth_at, count_of, count_at, siblings, qualifiers_of, above, name_by, node_by, nodes_of}
use Rattle.front_nodes.specs.Look.{kind_named, node_named, SmallNode, LookPost, NamedPost, RaisedPost, nth, ChildPost, Unbinding, BoundByPost}
use Rattle.front_words.specs.Binders.{binder_word}
use Rattle.front_nodes.proofs.PostOrder.{by-pick, post-order}

-- ---- kinds, monoids, numbers
pub kind-at : {k j : ℕ} → k ≡ j → get_or kinds j unknown ≡ get_or kinds k unknown
kind-at e = ap (λ (x : ℕ). get_or kinds x unknown) (sym e)

-- a match says of a number that it is none of b + 1 .. b + n
abbrev pub Missed : ℕ → ℕ → ℕ → Type 0
Missed b k zero = Unit {0}
Missed b k (suc n) = Missed b k n × (k ≡ b + suc n → ⊥)

past_all : (b k n : ℕ) → b < k → Missed b k n → b + n < k
past_all b k zero h m = omega arith
past_all b k (suc n) h m = let q = past_all b k n h m.0 in let r = m.1 in omega arith

twenty-two : (k : ℕ) → (k ≡ 20) ⊎ (22 ≤ k) → unknown ≡ get_or kinds k unknown
twenty-two k (inl e) = kind-at e
twenty-two k (inr h) = sym (get_or-eq_default kinds unknown h)

pub no_kind : (k : ℕ) → Missed 0 k 19 × (k ≡ 21 → ⊥) → unknown ≡ get_or kinds k unknown
no_kind zero m = refl
no_kind (suc k) m = let h : 20 ≤ suc k = omega (arith, past_all 0 (suc k) 19 (omega arith) m.0) in twenty-two (suc k) (go (eqb (suc k) 20) refl h m.1)
  where
    go : (b : Bool) → eqb (suc k) 20 ≡ b → 20 ≤ suc k → (suc k ≡ 21 → ⊥) → (suc k ≡ 20) ⊎ (22 ≤ suc k)
    go true t h n = inl (eqb-true (suc k) 20 t)
    go false t h n = inr (omega (arith, eqb-false (suc k) 20 t))

-- how many terms
pub count-open : (k a : ℕ) → k ≡ 21 → 1 ≡ count_of (get_or kinds k unknown) a
count-open k a e = sym (ap (λ (x : ℕ). count_of (get_or kinds x unknown) a) e)

pub count-plain : (k a : ℕ) → (k ≡ 21 → ⊥) → a ≡ count_of (get_or kinds k unknown) a
count-plain zero a n = refl
count-plain (suc zero) a n = refl
count-plain (suc (suc zero)) a n = refl
count-plain (suc (suc (suc zero))) a n = refl
count-plain (suc (suc (suc (suc zero)))) a n = refl
count-plain (suc (suc (suc (suc (suc zero))))) a n = refl
count-plain (suc (suc (suc (suc (suc (suc zero)))))) a n = refl
count-plain (suc (suc (suc (suc (suc (suc (suc zero))))))) a n = refl
count-plain (suc (suc (suc (suc (suc (suc (suc (suc zero)))))))) a n = refl
count-plain (suc (suc (suc (suc (suc (suc (suc (suc (suc zero))))))))) a n = refl
count-plain (suc (suc (suc (suc (suc (suc (suc (suc (suc (suc zero)))))))))) a n = refl
count-plain (suc (suc (suc (suc (suc (suc (suc (suc (suc (suc (suc zero))))))))))) a n = refl
count-plain (suc (suc (suc (suc (suc (suc (suc (suc (suc (suc (suc (suc zero)))))))))))) a n = refl
count-plain (suc (suc (suc (suc (suc (suc (suc (suc (suc (suc (suc (suc (suc zero))))))))))))) a n = refl
count-plain (suc (suc (suc (suc (suc (suc (suc (suc (suc (suc (suc (suc (suc (suc zero)))))))))))))) a n = refl
count-plain (suc (suc (suc (suc (suc (suc (suc (suc (suc (suc (suc (suc (suc (suc (suc zero))))))))))))))) a n = refl
count-plain (suc (suc (suc (suc (suc (suc (suc (suc (suc (suc (suc (suc (suc (suc (suc (suc zero)))))))))))))))) a n = refl
count-plain (suc (suc (suc (suc (suc (suc (suc (suc (suc (suc (suc (suc (suc (suc (suc (suc (suc zero))))))))))))))))) a n = refl
count-plain (suc (suc (suc (suc (suc (suc (suc (suc (suc (suc (suc (suc (suc (suc (suc (suc (suc (suc zero)))))))))))))))))) a n = refl
count-plain (suc (suc (suc (suc (suc (suc (suc (suc (suc (suc (suc (suc (suc (suc (suc (suc (suc (suc (suc zero))))))))))))))))))) a n = refl
count-plain (suc (suc (suc (suc (suc (suc (suc (suc (suc (suc (suc (suc (suc (suc (suc (suc (suc (suc (suc (suc zero)))))))))))))))))))) a n = refl
count-plain (suc (suc (suc (suc (suc (suc (suc (suc (suc (suc (suc (suc (suc (suc (suc (suc (suc (suc (suc (suc (suc zero))))))))))))))))))))) a n = absurd (n refl)
count-plain (suc (suc (suc (suc (suc (suc (suc (suc (suc (suc (suc (suc (suc (suc (suc (suc (suc (suc (suc (suc (suc (suc k)))))))))))))))))))))) a n = refl

small-number : (a : ℕ) → a < 8589934592 → mag (constant_of a) < 2 ^ 33
small-number a h = go (ltb a 0x80000000)
  where
    go : (b : Bool) → mag (elim b [ true ↦ negsuc (0x7fffffff - a) | false ↦ pos (a - 0x80000000) ]) < 2 ^ 33
    go true = omega arith
    go false = omega arith

below-zero : (a : ℕ) → a < 8589934592 → pos a -ℤ pos 2147483648 ≡ constant_of a
below-zero a h = go (ltb a 2147483648) refl
  where
    go : (b : Bool) → ltb a 2147483648 ≡ b → cond b (negsuc (2147483648 - suc a)) (pos (a - 2147483648)) ≡ elim b [ true ↦ negsuc (0x7fffffff - a) | false ↦ pos (a - 0x80000000) ]
    go true t = let q : 2147483648 - suc a ≡ 2147483647 - a = omega (arith, ltb-true a 2147483648 t) in ap negsuc q
    go false t = refl

pub number_ok : (a : ℕ) → a < 8589934592 → SFits w64 (to_z w64 a -ℤ pos 2147483648)
number_ok a h = rw (to_z_pos w64 {n = a} (omega arith)) (rw (below-zero a h) (fits (omega (arith, small-number a h))))

pub number_is : (a : ℕ) → a < 8589934592 → to_z w64 (of_z w64 (to_z w64 a -ℤ pos 2147483648)) ≡ constant_of a
number_is a h = to_z-of_z (number_ok a h) ∙ ap (λ (z : ℤ). z -ℤ pos 2147483648) (to_z_pos w64 {n = a} (omega arith)) ∙ below-zero a h

-- ---- a name
is_some : (w : ℕ) → (w ≡ 0 → ⊥) → ltb 0 w ≡ true
is_some w h = lt-ltb 0 w (omega arith)

module _ {s : List ℕ} {i w : ℕ} where
  pub name-unbound : w ≡ 0 → NamedPost s i w Bad
  unfolding name_by pick
  name-unbound e = record { is = rw e; small = tt }

  module _ {x : ℕ} (y : w ≡ 0 → ⊥) (e : x ≡ w - 1) where
    pub name-behind : i ≤ x → NamedPost s i w Bad
    unfolding name_by pick
    name-behind h = record { is = rw (is_some w y, lt-leb w i (omega arith)); small = tt }

    module _ (h : x < i) {d : ℕ} (p : d ≡ depth_at s x) where
      pub name-outside : d ≡ 0 → NamedPost s i w Bad
      unfolding name_by pick
      name-outside z = let q : depth_at s (w - 1) ≡ d = sym (p ∙ ap (depth_at s) e) in record { is = rw (is_some w y, le-leb w i (omega arith), q, z); small = tt }

      pub name-bound : (d ≡ 0 → ⊥) → NamedPost s i w (Name x (d - 1))
      unfolding name_by pick
      name-bound z =
          let q : depth_at s (w - 1) ≡ d = sym (p ∙ ap (depth_at s) e) in
          record { is = rw (is_some w y, le-leb w i (omega arith), q, is_some d z, sym e); small = omega arith }

-- ---- a node by its kind
module _ (s : List ℕ) (i : ℕ) where
  pub kind-is : {w k : ℕ} {r x : Kind} → w ≡ node_word s i → k ≡ node_kind_of w → kind_named r ≡ get_or kinds k unknown → r ≡ x → kind_at s i ≡ kind_named x
  kind-is p q e t = ap (λ (a : ℕ). get_or kinds (node_kind_of a) unknown) (sym p) ∙ kind-at q ∙ sym e ∙ ap kind_named t

  pub arg_is : {w a : ℕ} → w ≡ node_word s i → a ≡ arg_of w → a ≡ arg_at s i
  arg_is p q = q ∙ ap arg_of p

-- how many terms it has
pub count-is : (s : List ℕ) (i : ℕ) {w n : ℕ} → w ≡ node_word s i → n ≡ count_of (get_or kinds (node_kind_of w) unknown) (arg_of w) → n ≡ count_at s i
count-is s i p q = q ∙ ap (λ (x : ℕ). count_of (get_or kinds (node_kind_of x) unknown) (arg_of x)) p

pub look-far : {s : List ℕ} {i : ℕ} → most_nodes ≤ i → LookPost s i Bad
unfolding nodes_of pick
look-far {s} {i} h = record { is = rw (le-ltb i most_nodes h); small = tt }

module _ {s : List ℕ} {i : ℕ} (l : i < most_nodes) where
  plainly : (K : Re.Kind) (n : QueryNode) → kind_at s i ≡ K → node_by s i K ≡ node_named s i n → SmallNode n → LookPost s i n
  unfolding nodes_of pick
  plainly K n e q m = record { is = rw (lt-ltb i most_nodes l) (ap (node_by s i) e ∙ q); small = m }

  pub raised_by : (K : Re.Kind) (n : QueryNode) {r : QueryNode} → kind_at s i ≡ K → node_by s i K ≡ above i (node_named s i n) → SmallNode n → RaisedPost i n r → LookPost s i r
  unfolding above pick
  raised_by K n e q m R = plainly K _ e (q ∙ go (ltb 0 i) ∙ ap (node_named s i) (sym R.is)) (subst SmallNode (sym R.is) (by-pick SmallNode (ltb 0 i) n Bad (λ t. m) (λ t. tt)))
    where
      go : (b : Bool) → pick b (node_named s i n) No.nbad ≡ node_named s i (pick b n Bad)
      go true = refl
      go false = refl

  module _ {a : ℕ} (A : a ≡ arg_at s i) where
    pub look-number : {z : ℤ} → kind_at s i ≡ Re.number → z ≡ constant_of a → LookPost s i (Number z)
    look-number {z} e q =
        plainly Re.number (Number z) e (ap No.nnum (ap constant_of (sym A) ∙ sym q)) (subst (λ (x : ℤ). mag x < 2 ^ 33) (sym q) (small-number a (omega arith)))

    pub look-truth : kind_at s i ≡ Re.truth_k → LookPost s i (Truth (eqb a 1))
    look-truth e = plainly Re.truth_k (Truth (eqb a 1)) e (ap (λ (x : ℕ). No.ntruth (eqb x 1)) (sym A)) tt

    pub look-name : {w : ℕ} {r : QueryNode} → kind_at s i ≡ Re.name_k → w ≡ binder_word s a → NamedPost s i w r → LookPost s i r
    look-name {w} {r} e q R = plainly Re.name_k r e (ap (λ (x : ℕ). name_by s i (binder_word s x)) (sym A) ∙ ap (name_by s i) (sym q) ∙ R.is) R.small

    pub look-table : kind_at s i ≡ Re.table_k → LookPost s i (Table a)
    look-table e = plainly Re.table_k (Table a) e (ap No.ntable (sym A)) (omega arith)

    module _ {c : ℕ} (C : c ≡ i - 1) {r : QueryNode} where
      pub look-field : kind_at s i ≡ Re.field_k → RaisedPost i (Field a c) r → LookPost s i r
      look-field e R = raised_by Re.field_k (Field a c) e (ap₂ (λ (x y : ℕ). above i (No.nfield x y)) (sym A) (sym C)) (omega arith) R

      pub look-comp : {m : Monoid} → kind_at s i ≡ Re.comprehension → monoid_of m ≡ monoid_at a → RaisedPost i (Comp m c) r → LookPost s i r
      look-comp {m} e q R =
          raised_by Re.comprehension (Comp m c) e
          (ap₂ (λ (x y : ℕ). above i (No.ncomp (monoid_at x) (qualifiers_of s i) y)) (sym A) (sym C) ∙ ap (λ x. above i (No.ncomp x (qualifiers_of s i) c)) (sym q)) tt R

  pub look-record : kind_at s i ≡ Re.record' → LookPost s i Record
  look-record e = plainly Re.record' Record e refl tt

  pub look-choice : kind_at s i ≡ Re.choice_k → LookPost s i (Operator Choice)
  look-choice e = plainly Re.choice_k (Operator Choice) e refl tt

  pub look-open : {a : ℕ} → a ≡ arg_at s i → kind_at s i ≡ Re.open_k → LookPost s i (Operator (Open a))
  look-open {a} A e = plainly Re.open_k (Operator (Open a)) e (ap (λ (n : ℕ). No.napp (unlent n) (children_of s i)) (sym A)) tt

  module _ {c : ℕ} (C : c ≡ i - 1) {r : QueryNode} where
    pub look-two : {o : BinOp} {b a : ℕ} → kind_at s i ≡ Re.two_terms (bin_of o) → b ≡ start_at s c → a ≡ b - 1 → RaisedPost i (Two o a c) r → LookPost s i r
    look-two {o} {b} {a} e q p R =
        raised_by (Re.two_terms (bin_of o)) (Two o a c) e
        (ap (λ (x : ℕ). above i (No.nbin (bin_of o) (start_at s x - 1) x)) (sym C) ∙ ap (λ (x : ℕ). above i (No.nbin (bin_of o) x c)) (sym (p ∙ ap (λ (x : ℕ). x - 1) q))) tt R

    pub look-not : kind_at s i ≡ Re.not → RaisedPost i (Not c) r → LookPost s i r
    look-not e R = raised_by Re.not (Not c) e (ap (λ (x : ℕ). above i (No.nnegate x)) (sym C)) tt R

    pub look-gen : kind_at s i ≡ Re.generator → RaisedPost i (Gen c) r → LookPost s i r
    look-gen e R = raised_by Re.generator (Gen c) e (ap (λ (x : ℕ). above i (No.ngen x)) (sym C)) tt R

    pub look-bind : kind_at s i ≡ Re.binding → RaisedPost i (Bind c) r → LookPost s i r
    look-bind e R = raised_by Re.binding (Bind c) e (ap (λ (x : ℕ). above i (No.nbind x)) (sym C)) tt R

    pub look-cond : kind_at s i ≡ Re.condition → RaisedPost i (Cond c) r → LookPost s i r
    look-cond e R = raised_by Re.condition (Cond c) e (ap (λ (x : ℕ). above i (No.ncond x)) (sym C)) tt R

  pub look-bad : kind_at s i ≡ Re.unknown → LookPost s i Bad
  look-bad e = plainly Re.unknown Bad e refl tt

module _ {s : List ℕ} {i : ℕ} where
  pub recast : {n m : QueryNode} → LookPost s i n → n ≡ m → LookPost s i m
  recast H e = subst (LookPost s i) e H

  -- what a node that was read refers to stands before it
  pub looked-inside : {n : QueryNode} → LookPost s i n → Inside i (node_named s i n)
  looked-inside H = subst (Inside i) H.is (post-order s i)

-- ---- the terms of a record
-- where the walk back from e is after n steps
pub back : List ℕ → ℕ → ℕ → ℕ
back s zero e = e
back s (suc n) e = back s n (start_at s (e - 1))

nth-behind : (s : List ℕ) (n e : ℕ) (cs : List ℕ) (j : ℕ) → nth (n + j) (siblings s n e cs) ≡ nth j cs
unfolding siblings nth
nth-behind s zero e cs j = ap (λ (k : ℕ). nth k cs) (omega arith)
nth-behind s (suc n) e cs j =
    let l = siblings s n (start_at s (e - 1)) ((e - 1) ∷ cs) in
    let q : suc n + j ≡ n + suc j = omega arith in
    ap (λ (k : ℕ). nth k l) q ∙ nth-behind s n (start_at s (e - 1)) ((e - 1) ∷ cs) (suc j)

nth-siblings : (s : List ℕ) (n e : ℕ) (cs : List ℕ) (k : ℕ) → k < n → nth k (siblings s n e cs) ≡ Some (back s (n - 1 - k) e - 1)
unfolding siblings nth back
nth-siblings s zero e cs k h = absurd (omega arith)
nth-siblings s (suc n) e cs k h =
    let l = siblings s n (start_at s (e - 1)) ((e - 1) ∷ cs) in
    by-test (ltb k n)
    (λ t. let l = ltb-true k n t in
    let q : suc (n - 1 - k) ≡ suc n - 1 - k = omega arith in
    nth-siblings s n (start_at s (e - 1)) ((e - 1) ∷ cs) k (omega arith) ∙ ap (λ (j : ℕ). Some (back s j e - 1)) q)
    (λ t. let m = ltb-false k n t in
    let p : k ≡ n + 0 = omega arith in
    let q : 0 ≡ suc n - 1 - k = omega arith in
    ap (λ (j : ℕ). nth j l) p ∙ nth-behind s n (start_at s (e - 1)) ((e - 1) ∷ cs) 0 ∙ ap (λ (j : ℕ). Some (back s j e - 1)) q)

back-least : (s : List ℕ) (n e i : ℕ) → e ≤ i → back s n e ≤ i
unfolding back
back-least s zero e i h = h
back-least s (suc n) e i h = back-least s n (start_at s (e - 1)) i (omega arith)

module _ {s : List ℕ} {i k : ℕ} where
  pub child-first : i ≡ 0 → ChildPost s i k None
  unfolding pick nth
  child-first e = record { is = rw e; before = tt }

  pub child-past : {n : ℕ} → n ≡ count_at s i → n ≤ k → ChildPost s i k None
  unfolding pick nth
  child-past {n} e h = record { is = sym (by-pick (λ (l : List ℕ). nth k l ≡ None) (ltb 0 i) (siblings s (count_at s i) i []) [] (λ t. past) (λ t. refl)); before = tt }
    where
      past : nth k (siblings s (count_at s i) i []) ≡ None
      past = let q : k ≡ count_at s i + (k - count_at s i) = omega arith in
          ap (λ (j : ℕ). nth j (siblings s (count_at s i) i [])) q ∙ nth-behind s (count_at s i) i [] (k - count_at s i)

-- the walk from i, of m steps, is at e when g of them are done
pub record Walks (s : List ℕ) (i m g e : ℕ) : Type 0 where
  pub is : back s (m - g) e ≡ back s m i

module _ {s : List ℕ} {i m : ℕ} where
  pub walk-begins : Walks s i m 0 i
  walk-begins = record { is = ap (λ (j : ℕ). back s j i) (omega arith) }

  pub walk-on : {g e b a : ℕ} → Walks s i m g e → g < m → b ≡ e - 1 → a ≡ start_at s b → Walks s i m (g + 1) a
  unfolding back
  walk-on {g} {e} {b} {a} W h p q =
      let l : m - g ≡ suc (m - (g + 1)) = omega arith in
      record { is = ap (back s (m - (g + 1))) (q ∙ ap (start_at s) p) ∙ ap (λ (j : ℕ). back s j e) (sym l) ∙ W.is }

pub child-at : {s : List ℕ} {i k n g e c : ℕ} → (i ≡ 0 → ⊥) → n ≡ count_at s i → k < n → Walks s i (n - 1 - k) g e → n - 1 - k ≤ g → c ≡ e - 1 → ChildPost s i k (Some c)
unfolding pick back
child-at {s} {i} {k} {n} {g} {e} {c} y p h W z q =
    let zl : n - 1 - k - g ≡ 0 = omega arith in
    let w : e ≡ back s (n - 1 - k) i = ap (λ (j : ℕ). back s j e) (sym zl) ∙ W.is in
    let d : nth k (siblings s n i []) ≡ Some (back s (n - 1 - k) i - 1) = nth-siblings s n i [] k h in
    record {
      is = rw (is_some i y) (ap Some (q ∙ ap (λ (x : ℕ). x - 1) w) ∙ sym d ∙ ap (λ (x : ℕ). nth k (siblings s x i [])) p);
      before = omega (arith, back-least s (n - 1 - k) i i (omega arith));
    }

-- ---- a node that has a child, a binder
pub raised-bad : {i : ℕ} {n : QueryNode} → i ≡ 0 → RaisedPost i n Bad
unfolding pick
raised-bad e = record { is = rw e }

pub raised-same : {i : ℕ} {n : QueryNode} → (i ≡ 0 → ⊥) → RaisedPost i n n
unfolding pick
raised-same {i} h = record { is = rw (is_some i h) }

-- the variants of a node but generator and binding
abbrev pub others : List ℕ
others = 0 ∷ 1 ∷ 2 ∷ 3 ∷ 4 ∷ 5 ∷ 6 ∷ 7 ∷ 8 ∷ 11 ∷ 12 ∷ 13 ∷ []

module _ {s : List ℕ} {x c : ℕ} where
  pub bound-gen : LookPost s x (Gen c) → BoundByPost s x (Bi.Gen c)
  bound-gen H = record { is = (H.is, looked-inside H) }

  pub bound-bind : LookPost s x (Bind c) → BoundByPost s x (Bi.Bind c)
  bound-bind H = record { is = (H.is, looked-inside H) }

-- every other node
other-node : (s : List ℕ) (x : ℕ) (n : QueryNode) → OneOf others (tag_of node.the_type n) → Unbinding (node_named s x n)
other-node s x (Number z) h = tt
other-node s x (Truth b) h = tt
other-node s x (Name y d) h = tt
other-node s x (Field k c) h = tt
other-node s x Record h = tt
other-node s x (Two o a b) h = tt
other-node s x (Not c) h = tt
other-node s x (Comp m c) h = tt
other-node s x (Table k) h = tt
other-node s x (Gen c) h = absurd (miss others 9 tt h)
other-node s x (Bind c) h = absurd (miss others 10 tt h)
other-node s x (Cond c) h = tt
other-node s x (Operator f) h = tt
other-node s x Bad h = tt

pub bound-other : {s : List ℕ} {x : ℕ} {n : QueryNode} → LookPost s x n → OneOf others (tag_of node.the_type n) → BoundByPost s x Bi.Other
bound-other {s} {x} {n} H h = record { is = subst Unbinding (sym H.is) (other-node s x n h) }

-- the children of a record one by one
pub nth-at : (k : ℕ) (cs : List ℕ) {c : ℕ} → Some c ≡ nth k cs → drop k cs ≡ c ∷ drop (suc k) cs
unfolding nth
nth-at zero [] e = let z : ◌≡◌ {A = ℕ} 0 1 = cc in absurd (omega arith)
nth-at (suc k) [] e = let z : ◌≡◌ {A = ℕ} 0 1 = cc in absurd (omega arith)
nth-at zero (c ∷ cs) e = cc
nth-at (suc k) (c ∷ cs) e = nth-at k cs e
