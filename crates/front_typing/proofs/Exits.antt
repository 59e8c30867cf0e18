-- Laws of the check's code, one for each way out of a function.
use mathlib.Core.Path.{◌≡◌, refl, sym, ap, ◌∙◌}
use mathlib.Core.List.{List, [], ◌∷◌, ◌++◌, append_assoc}
use mathlib.Core.Bool.{Bool, true, false, ◌&&◌, and-true, and-false, and_assoc}
use Prim.Native.Nat.{ℕ, zero, suc, ◌+◌, ◌-◌, ◌≤◌, ◌<◌}
use native.Mathlib.Numerals.{add-one}
use native.Mathlib.Omega.{arith}
use lib.ListN.{length, get_or, set as put, length-set}
use borrow.Author.Tests.{lt-ltb}
use Rattle.spec_calculus.specs.Lists.{pick}
use Rattle.spec_calculus.specs.Syntax.{list, bag, set}
use Rattle.spec_calculus.specs.Syntax as Sy
use Rattle.std.proofs.Common.{Option, Some, None}
use Rattle.front_nodes.specs.NodeTable.{count_of, siblings, children_of, chain, qualifiers_of, nodes_of}
use Rattle.front_nodes.specs.Look.{nth, ChildPost}
use Rattle.spec_encoding.specs.Reader.{kinds, unknown}
use Rattle.front_nodes.proofs.ReaderExits.{count-is}
use Rattle.front_nodes.proofs.QualifierChain.{chain-none, chain_more}
use Rattle.front_theory.specs.NodeTable.{Nodes}
use Rattle.base_scratch.specs.Map.{shapes_at}
use Rattle.front_words.specs.NodeWord.{node_kind_of, arg_of, node_word}
use Rattle.front_words.specs.NodeTree.{start_at}
use Rattle.front_typing.specs.declared.TypeHead.{TypeHead}
use Rattle.front_typing.specs.declared.TypeHead.TheVariants.{Wrong}
use Rattle.front_typing.specs.NodeTypes.{StandsRule}
use Rattle.front_typing.specs.Shapes.{Known, fits, is_number, is_truth, part_shape, truth_shape, alike_shape, choice_shape, choice_of, open_shape, open_of, all_fit, qual_fits, quals_fit}
use Rattle.front_typing.specs.ShapeWords.{shapes_in, collection_by, known_in, shape_word, shape_of, shaped, shaped_up_to}

-- ---- monoids
pub list_by : (c : ℕ) → (c ≡ 2 → ⊥) → (c ≡ 3 → ⊥) → collection_by c ≡ list
list_by zero a b = refl
list_by (suc zero) a b = refl
list_by (suc (suc zero)) a b = absurd (a refl)
list_by (suc (suc (suc zero))) a b = absurd (b refl)
list_by (suc (suc (suc (suc c)))) a b = refl

-- ---- the terms of a record or an operator
same_at : (d c : ℕ) → ◌≡◌ {A = Option ℕ} (Some d) (Some c) → c ≡ d
same_at d c e = cc

pub nth_at : (σ : ℕ → TypeHead) (k : ℕ) (cs : List ℕ) (c : ℕ) → nth k cs ≡ Some c → σ c ≡ part_shape σ k cs
unfolding nth part_shape
nth_at σ k [] c e = absurd (let z : ◌≡◌ {A = ℕ} 0 1 = cc in omega arith)
nth_at σ zero (d ∷ cs) c e = ap σ (same_at d c e)
nth_at σ (suc k) (d ∷ cs) c e = nth_at σ k cs c e

pub nth_none : (σ : ℕ → TypeHead) (k : ℕ) (cs : List ℕ) → nth k cs ≡ None → Wrong ≡ part_shape σ k cs
unfolding nth part_shape
nth_none σ k [] e = refl
nth_none σ zero (d ∷ cs) e = absurd (let z : ◌≡◌ {A = ℕ} 0 1 = cc in omega arith)
nth_none σ (suc k) (d ∷ cs) e = nth_none σ k cs e

either_way : {A : Type 0} (b : Bool) (x : A) → pick b x x ≡ x
unfolding pick
either_way true x = refl
either_way false x = refl

no_third : (a b : TypeHead) → choice_shape a b Wrong ≡ Wrong
unfolding choice_shape alike_shape truth_shape pick
no_third a b =
    ap (λ x. pick (is_truth a) x Wrong) (ap (λ x. pick (is_number b) Wrong x) (either_way (is_truth b) Wrong) ∙ either_way (is_number b) Wrong) ∙ either_way (is_truth a) Wrong

four-terms : (σ : ℕ → TypeHead) (cs : List ℕ) (c : ℕ) → nth 3 cs ≡ Some c → Wrong ≡ choice_of σ cs
unfolding nth choice_of
four-terms σ [] c e = refl
four-terms σ (x ∷ []) c e = refl
four-terms σ (x ∷ y ∷ []) c e = refl
four-terms σ (x ∷ y ∷ z ∷ []) c e = absurd (let q : ◌≡◌ {A = ℕ} 0 1 = cc in omega arith)
four-terms σ (x ∷ y ∷ z ∷ w ∷ cs) c e = refl

three-terms : (σ : ℕ → TypeHead) (cs : List ℕ) → nth 3 cs ≡ None → choice_shape (part_shape σ 0 cs) (part_shape σ 1 cs) (part_shape σ 2 cs) ≡ choice_of σ cs
unfolding nth choice_of part_shape
three-terms σ [] e = no_third Wrong Wrong
three-terms σ (x ∷ []) e = no_third (σ x) Wrong
three-terms σ (x ∷ y ∷ []) e = no_third (σ x) (σ y)
three-terms σ (x ∷ y ∷ z ∷ []) e = refl
three-terms σ (x ∷ y ∷ z ∷ w ∷ cs) e = absurd (let q : ◌≡◌ {A = ℕ} 0 1 = cc in omega arith)

module _ {s : List ℕ} {i : ℕ} {f : Option ℕ} (C : ChildPost s i 3 f) where
  pub choice-many : {c : ℕ} → f ≡ Some c → Wrong ≡ choice_of (shapes_in s) (children_of s i)
  choice-many {c} q = four-terms (shapes_in s) (children_of s i) c (sym C.is ∙ q)

  pub choice-three : f ≡ None → {a b c r : TypeHead} → a ≡ part_shape (shapes_in s) 0 (children_of s i) → b ≡ part_shape (shapes_in s) 1 (children_of s i) →
      c ≡ part_shape (shapes_in s) 2 (children_of s i) → r ≡ choice_shape a b c → r ≡ choice_of (shapes_in s) (children_of s i)
  choice-three q ea eb ec h = h ∙ rw (ea, eb, ec) (three-terms (shapes_in s) (children_of s i) (sym C.is ∙ q))

two_terms : (σ : ℕ → TypeHead) (cs : List ℕ) (c : ℕ) → nth 1 cs ≡ Some c → Wrong ≡ open_of σ cs
unfolding nth open_of
two_terms σ [] c e = refl
two_terms σ (x ∷ []) c e = absurd (let q : ◌≡◌ {A = ℕ} 0 1 = cc in omega arith)
two_terms σ (x ∷ y ∷ cs) c e = refl

one-term : (σ : ℕ → TypeHead) (cs : List ℕ) → nth 1 cs ≡ None → open_shape (part_shape σ 0 cs) ≡ open_of σ cs
unfolding nth open_of part_shape pick
one-term σ [] e = refl
one-term σ (x ∷ []) e = refl
one-term σ (x ∷ y ∷ cs) e = absurd (let q : ◌≡◌ {A = ℕ} 0 1 = cc in omega arith)

module _ {s : List ℕ} {i : ℕ} {f : Option ℕ} (C : ChildPost s i 1 f) where
  pub open-many : {c : ℕ} → f ≡ Some c → Wrong ≡ open_of (shapes_in s) (children_of s i)
  open-many {c} q = two_terms (shapes_in s) (children_of s i) c (sym C.is ∙ q)

  pub open-one : f ≡ None → {a r : TypeHead} → a ≡ part_shape (shapes_in s) 0 (children_of s i) → r ≡ open_shape a → r ≡ open_of (shapes_in s) (children_of s i)
  open-one q e h = h ∙ ap open_shape e ∙ one-term (shapes_in s) (children_of s i) (sym C.is ∙ q)

-- ---- the parts of a record
siblings-front : (s : List ℕ) (n e : ℕ) (cs : List ℕ) → siblings s n e cs ≡ siblings s n e [] ++ cs
unfolding siblings
siblings-front s zero e cs = refl
siblings-front s (suc n) e cs =
    siblings-front s n (start_at s (e - 1)) ((e - 1) ∷ cs) ∙ sym (append_assoc (siblings s n (start_at s (e - 1)) []) ((e - 1) ∷ []) cs) ∙
    ap (λ l. l ++ cs) (sym (siblings-front s n (start_at s (e - 1)) ((e - 1) ∷ [])))

all_append : (σ : ℕ → TypeHead) (l m : List ℕ) → all_fit σ (l ++ m) ≡ all_fit σ l && all_fit σ m
unfolding all_fit
all_append σ [] m = refl
all_append σ (c ∷ l) m = ap (λ b. fits (σ c) && b) (all_append σ l m) ∙ sym (and_assoc (fits (σ c)) (all_fit σ l) (all_fit σ m))

-- what is left to look at: so many parts that end at e
pub record Parts (s : List ℕ) (i left e : ℕ) : Type 0 where
  pub is : all_fit (shapes_in s) (children_of s i) ≡ all_fit (shapes_in s) (siblings s left e [])

part-next : (s : List ℕ) (left e : ℕ) → 0 < left → all_fit (shapes_in s) (siblings s left e []) ≡ all_fit (shapes_in s) (siblings s (left - 1) (start_at s (e - 1)) []) && fits (shapes_in s (e - 1))
unfolding siblings all_fit
part-next s zero e h = absurd (omega arith)
part-next s (suc n) e h =
    let p : suc n - 1 ≡ n = omega arith in
    rw p (ap (all_fit (shapes_in s)) (siblings-front s n (start_at s (e - 1)) ((e - 1) ∷ [])) ∙ all_append (shapes_in s) (siblings s n (start_at s (e - 1)) []) ((e - 1) ∷ []) ∙
    ap (λ b. all_fit (shapes_in s) (siblings s n (start_at s (e - 1)) []) && b) (and-true (fits (shapes_in s (e - 1)))))

pub no-parts : (s : List ℕ) (i : ℕ) → i ≡ 0 → true ≡ all_fit (shapes_in s) (children_of s i)
unfolding pick all_fit
no-parts s i e = rw e

module _ {s : List ℕ} {i : ℕ} where
  pub parts-begin : (i ≡ 0 → ⊥) → {w n : ℕ} → w ≡ node_word s i → n ≡ count_of (get_or kinds (node_kind_of w) unknown) (arg_of w) → {m : ℕ} → m ≡ n → Parts s i m i
  unfolding pick
  parts-begin h {w} {n} p q z =
      record { is = rw (lt-ltb 0 i (omega arith)) (ap (λ x. all_fit (shapes_in s) (siblings s x i [])) (sym (z ∙ count-is s i p q))) }

  module _ {left e c : ℕ} {a : TypeHead} {b : Bool} (W : Parts s i left e) (l : 0 < left) (pc : c ≡ e - 1) (pa : a ≡ shapes_in s c) (pb : b ≡ fits a) where
    test-is : fits (shapes_in s (e - 1)) ≡ b
    test-is = ap (λ x. fits (shapes_in s x)) (sym pc) ∙ ap fits (sym pa) ∙ sym pb

    pub parts-on : b ≡ true → {d : ℕ} → d ≡ start_at s c → {m : ℕ} → m ≡ left - 1 → Parts s i m d
    parts-on t {d} pd z =
        record {
          is = rw z (W.is ∙ part-next s left e l ∙ ap (λ x. all_fit (shapes_in s) (siblings s (left - 1) (start_at s (e - 1)) []) && x) (test-is ∙ t) ∙ and-true (all_fit (shapes_in s) (siblings s (left - 1) (start_at s (e - 1)) [])) ∙
              ap (λ x. all_fit (shapes_in s) (siblings s (left - 1) x [])) (sym (pd ∙ ap (start_at s) pc)));
        }

    pub parts-off : b ≡ false → false ≡ all_fit (shapes_in s) (children_of s i)
    parts-off t = sym (W.is ∙ part-next s left e l ∙ ap (λ x. all_fit (shapes_in s) (siblings s (left - 1) (start_at s (e - 1)) []) && x) (test-is ∙ t) ∙ and-false (all_fit (shapes_in s) (siblings s (left - 1) (start_at s (e - 1)) [])))

  pub parts-end : {left e : ℕ} → Parts s i left e → left ≤ 0 → true ≡ all_fit (shapes_in s) (children_of s i)
  unfolding siblings all_fit
  parts-end {left} {e} W h = let z : left ≡ 0 = omega arith in sym (W.is ∙ ap (λ x. all_fit (shapes_in s) (siblings s x e [])) z)

-- ---- the qualifiers of a comprehension
module _ (J : StandsRule) (I : Known) (N : Nodes) (σ : ℕ → TypeHead) (m : Sy.Monoid) where
  quals-append : (l r : List ℕ) → quals_fit J I N σ m (l ++ r) ≡ quals_fit J I N σ m l && quals_fit J I N σ m r
  unfolding quals_fit
  quals-append [] r = refl
  quals-append (c ∷ l) r = ap (λ b. qual_fits J I N σ m (N c) && b) (quals-append l r) ∙ sym (and_assoc (qual_fits J I N σ m (N c)) (quals_fit J I N σ m l) (quals_fit J I N σ m r))

abbrev pub fitting : StandsRule → List ℕ → Sy.Monoid → List ℕ → Bool
fitting J s m l = quals_fit J (known_in s) (nodes_of s) (shapes_in s) m l

-- what is left to look at: the qualifiers that end at e
pub record Quals (J : StandsRule) (s : List ℕ) (m : Sy.Monoid) (i e : ℕ) : Type 0 where
  pub is : fitting J s m (qualifiers_of s i) ≡ fitting J s m (chain s (start_at s i) e)

module _ {J : StandsRule} {s : List ℕ} {m : Sy.Monoid} {i : ℕ} where
  pub quals-begin : {c e : ℕ} → c ≡ i - 1 → e ≡ start_at s c → Quals J s m i e
  quals-begin p q = record { is = ap (λ x. fitting J s m (chain s (start_at s i) x)) (sym (q ∙ ap (start_at s) p)) }

  module _ {first e : ℕ} {b : Bool} (W : Quals J s m i e) (pf : first ≡ start_at s i) (l : first < e) (pb : b ≡ qual_fits J (known_in s) (nodes_of s) (shapes_in s) m (nodes_of s (e - 1))) where
    next : fitting J s m (chain s (start_at s i) e) ≡ fitting J s m (chain s (start_at s i) (start_at s (e - 1))) && b
    unfolding quals_fit
    next =
        ap (fitting J s m) (chain_more s (start_at s i) e (omega arith)) ∙ quals-append J (known_in s) (nodes_of s) (shapes_in s) m (chain s (start_at s i) (start_at s (e - 1))) ((e - 1) ∷ []) ∙
        ap (λ x. fitting J s m (chain s (start_at s i) (start_at s (e - 1))) && x) (and-true (qual_fits J (known_in s) (nodes_of s) (shapes_in s) m (nodes_of s (e - 1))) ∙ sym pb)

    pub quals-on : b ≡ true → {d : ℕ} → d ≡ start_at s (e - 1) → Quals J s m i d
    quals-on t {d} pd =
        record {
          is = W.is ∙ next ∙ ap (λ x. fitting J s m (chain s (start_at s i) (start_at s (e - 1))) && x) t ∙ and-true (fitting J s m (chain s (start_at s i) (start_at s (e - 1)))) ∙
              ap (λ x. fitting J s m (chain s (start_at s i) x)) (sym pd);
        }

    pub quals-off : b ≡ false → false ≡ fitting J s m (qualifiers_of s i)
    quals-off t = sym (W.is ∙ next ∙ ap (λ x. fitting J s m (chain s (start_at s i) (start_at s (e - 1))) && x) t ∙ and-false (fitting J s m (chain s (start_at s i) (start_at s (e - 1)))))

  pub quals-end : {first e : ℕ} → Quals J s m i e → first ≡ start_at s i → e ≤ first → true ≡ fitting J s m (qualifiers_of s i)
  unfolding quals_fit
  quals-end {first} {e} W pf h = sym (W.is ∙ ap (fitting J s m) (chain-none s (start_at s i) e (omega arith)))

-- ---- the nodes in turn
pub shaped-next : (b : Bool) (s : List ℕ) (i : ℕ) {t u : List ℕ} {w : ℕ} {a : TypeHead} → t ≡ shaped_up_to b s i → a ≡ shape_of b t i → w ≡ shape_word a → u ≡ put t (shapes_at + i) w → u ≡ shaped_up_to b s (i + 1)
unfolding shaped_up_to shaped
shaped-next b s i {t} e p q r = rw (add-one i, ← e) (r ∙ ap (put t (shapes_at + i)) (q ∙ ap shape_word p))

pub shaped-length : (b : Bool) (s : List ℕ) (n : ℕ) → length (shaped_up_to b s n) ≡ length s
unfolding shaped_up_to shaped
shaped-length b s zero = refl
shaped-length b s (suc n) = length-set (shaped_up_to b s n) (shapes_at + n) (shape_word (shape_of b (shaped_up_to b s n) n)) ∙ shaped-length b s n
