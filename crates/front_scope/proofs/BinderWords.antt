-- The words of the binders.
use mathlib.Core.Path.{◌≡◌, refl, sym, ap, ap₂, ◌∙◌}
use mathlib.Core.List.{List}
use mathlib.Core.Bool.{Bool, true, false, ◌&&◌, and-false}
use Prim.Native.Nat.{ℕ, zero, suc, ◌+◌, ◌≤◌, ◌<◌}
use native.Mathlib.Omega.{arith}
use native.Mathlib.Numerals.{add-one}
use lib.Dec.{ltb, eqb}
use lib.ListN.{length, get_or, set, length-set}
use lib.Seq.{get_or-set_same, get_or-set_other}
use borrow.Author.Tests.{lt-ltb, le-ltb, ltb-true, ltb-false, eqb-true, eqb-false, eq-eqb, ne_eqb}
use Rattle.spec_calculus.specs.Lists.{pick}
use Rattle.spec_encoding.specs.Reader.{Kind, kinds, unknown, number, truth_k, name_k, field_k, record', not, table_k, comprehension, generator, binding, condition, choice_k, open_k, two_terms}
use Rattle.base_scratch.specs.Map.{nodes_at, binders_at, shapes_at}
use Rattle.front_words.specs.NodeWord.{node_kind_of, arg_of, node_word}
use Rattle.front_words.specs.NodeTree.{kind_at, arg_at}
use Rattle.front_scope.specs.Binders.{binds_name, cleared, noted, noted_up_to, binders_of}
use Rattle.front_scope.proofs.KindNumbers.{code, two-code, code_of, kind-outside}

-- ---- one node
binds-not : (K : Kind) → (16 ≤ code K → code K ≤ 17 → ⊥) → binds_name K ≡ false
binds-not generator h = absurd (h (omega arith) (omega arith))
binds-not binding h = absurd (h (omega arith) (omega arith))
binds-not number h = refl
binds-not truth_k h = refl
binds-not name_k h = refl
binds-not field_k h = refl
binds-not record' h = refl
binds-not choice_k h = refl
binds-not open_k h = refl
binds-not not h = refl
binds-not table_k h = refl
binds-not comprehension h = refl
binds-not condition h = refl
binds-not unknown h = refl
binds-not (two_terms o) h = refl

binds-so : (K : Kind) → 16 ≤ code K → code K ≤ 17 → binds_name K ≡ true
binds-so generator h l = refl
binds-so binding h l = refl
binds-so number h l = absurd (omega arith)
binds-so truth_k h l = absurd (omega arith)
binds-so name_k h l = absurd (omega arith)
binds-so field_k h l = absurd (omega arith)
binds-so record' h l = absurd (omega arith)
binds-so choice_k h l = absurd (omega arith)
binds-so open_k h l = absurd (omega arith)
binds-so not h l = absurd (omega arith)
binds-so table_k h l = absurd (omega arith)
binds-so comprehension h l = absurd (omega arith)
binds-so condition h l = absurd (omega arith)
binds-so unknown h l = absurd (omega arith)
binds-so (two_terms o) h l = let t = two-code o in absurd (omega arith)

module _ (s : List ℕ) (i : ℕ) {k x : ℕ} (ek : k ≡ node_kind_of (node_word s i)) (ex : x ≡ arg_at s i) where
  pub noted-not : (16 ≤ k → k ≤ 17 → ⊥) → s ≡ noted s i
  unfolding noted pick
  noted-not h = rw (binds-not (kind_at s i) (kind-outside s i ek 16 17 (omega arith) h))

  pub noted-beyond : 256 ≤ x → s ≡ noted s i
  unfolding noted pick
  noted-beyond h = rw (le-ltb (arg_at s i) 256 (omega arith), and-false (binds_name (kind_at s i)))

  pub noted_here : 16 ≤ k → k ≤ 17 → x < 256 → {t : List ℕ} → t ≡ set s (binders_at + x) (i + 1) → t ≡ noted s i
  unfolding noted pick
  noted_here a b h e =
      let z = code_of (node_kind_of (node_word s i)) (omega arith) in
      rw (binds-so (kind_at s i) (omega arith) (omega arith), lt-ltb (arg_at s i) 256 (omega arith), ← ex) e

-- ---- one turn of a loop
pub cleared-next : (s : List ℕ) (k : ℕ) {t u : List ℕ} → t ≡ cleared s k → u ≡ set t (binders_at + k) 0 → u ≡ cleared s (k + 1)
unfolding cleared
cleared-next s k e h = rw (add-one k, ← e) h

pub noted-next : (s : List ℕ) (i : ℕ) {t u : List ℕ} → t ≡ noted_up_to s i → u ≡ noted t i → u ≡ noted_up_to s (i + 1)
unfolding noted_up_to
noted-next s i e h = rw (add-one i, ← e) h

pub cleared-length : (s : List ℕ) (k : ℕ) → length (cleared s k) ≡ length s
unfolding cleared
cleared-length s zero = refl
cleared-length s (suc k) = length-set (cleared s k) (binders_at + k) 0 ∙ cleared-length s k

noted-length : (s : List ℕ) (i : ℕ) → length (noted s i) ≡ length s
unfolding noted pick
noted-length s i = go (binds_name (kind_at s i) && ltb (arg_at s i) 256)
  where
    go : (b : Bool) → length (pick b (set s (binders_at + arg_at s i) (i + 1)) s) ≡ length s
    go true = length-set s (binders_at + arg_at s i) (i + 1)
    go false = refl

pub noted-up-length : (s : List ℕ) (n : ℕ) → length (noted_up_to s n) ≡ length s
unfolding noted_up_to
noted-up-length s zero = refl
noted-up-length s (suc n) = noted-length (noted_up_to s n) n ∙ noted-up-length s n

-- ---- the other words stay
module _ (j : ℕ) (apart : (y : ℕ) → y < 256 → j ≡ binders_at + y → ⊥) where
  cleared-apart : (s : List ℕ) (k : ℕ) → k ≤ 256 → get_or (cleared s k) j 0 ≡ get_or s j 0
  unfolding cleared
  cleared-apart s zero h = refl
  cleared-apart s (suc k) h = get_or-set_other (cleared s k) (binders_at + k) j 0 0 (apart k (omega arith)) ∙ cleared-apart s k (omega arith)

  noted-apart : (s : List ℕ) (i : ℕ) → get_or (noted s i) j 0 ≡ get_or s j 0
  unfolding noted pick
  noted-apart s i = go (binds_name (kind_at s i)) (ltb (arg_at s i) 256) refl
    where
      go : (a b : Bool) → ltb (arg_at s i) 256 ≡ b → get_or (pick (a && b) (set s (binders_at + arg_at s i) (i + 1)) s) j 0 ≡ get_or s j 0
      go true true e = get_or-set_other s (binders_at + arg_at s i) j (i + 1) 0 (apart (arg_at s i) (ltb-true (arg_at s i) 256 e))
      go true false e = refl
      go false b e = refl

  noted-up-apart : (s : List ℕ) (n : ℕ) → get_or (noted_up_to s n) j 0 ≡ get_or s j 0
  unfolding noted_up_to
  noted-up-apart s zero = refl
  noted-up-apart s (suc n) = noted-apart (noted_up_to s n) n ∙ noted-up-apart s n

  pub binders-apart : (s : List ℕ) (n : ℕ) → get_or (binders_of s n) j 0 ≡ get_or s j 0
  binders-apart s n = noted-up-apart (cleared s 256) n ∙ cleared-apart s 256 (omega arith)

pub nodes-kept : (s : List ℕ) (n i : ℕ) → i < 256 → node_word (binders_of s n) i ≡ node_word s i
nodes-kept s n i h = binders-apart (nodes_at + i) (λ y l e. omega arith) s n

-- ---- the last binder of x among the first n nodes, from 1
unfoldable pub binder_of : List ℕ → ℕ → ℕ → ℕ
binder_of s x zero = 0
binder_of s x (suc n) = pick (binds_name (kind_at s n) && eqb (arg_at s n) x) (n + 1) (binder_of s x n)

word_set : (l : List ℕ) (i j v : ℕ) → i < length l → get_or (set l i v) j 0 ≡ pick (eqb i j) v (get_or l j 0)
unfolding pick
word_set l i j v h = go (eqb i j) refl
  where
    go : (b : Bool) → eqb i j ≡ b → get_or (set l i v) j 0 ≡ pick b v (get_or l j 0)
    go true e = let q : i ≡ j = eqb-true i j e in rw (← q) (get_or-set_same l i v 0 h)
    go false e = get_or-set_other l i j v 0 (λ q. eqb-false i j e (sym q))

shifted : (x y : ℕ) → eqb (binders_at + x) (binders_at + y) ≡ eqb x y
shifted x y = go (eqb x y) refl
  where
    go : (b : Bool) → eqb x y ≡ b → eqb (binders_at + x) (binders_at + y) ≡ b
    go true e = let q : x ≡ y = eqb-true x y e in eq-eqb (binders_at + x) (binders_at + y) (omega arith)
    go false e = ne_eqb (binders_at + x) (binders_at + y) (λ p. eqb-false x y e (omega arith))

module _ (x : ℕ) (small : x < 256) where
  cleared-word : (s : List ℕ) → shapes_at ≤ length s → (k : ℕ) → x < k → k ≤ 256 → get_or (cleared s k) (binders_at + x) 0 ≡ 0
  unfolding cleared pick
  cleared-word s long zero h l = absurd (omega arith)
  cleared-word s long (suc k) h l =
      word_set (cleared s k) (binders_at + k) (binders_at + x) 0 (omega (arith, cleared-length s k)) ∙ ap (λ b. pick b 0 (get_or (cleared s k) (binders_at + x) 0)) (shifted k x) ∙
      go (eqb k x) refl (λ p. cleared-word s long k p (omega arith))
    where
      go : (b : Bool) → eqb k x ≡ b → (x < k → get_or (cleared s k) (binders_at + x) 0 ≡ 0) → pick b 0 (get_or (cleared s k) (binders_at + x) 0) ≡ 0
      go true e w = refl
      go false e w = let q = eqb-false k x e in w (omega arith)

  noted-word : (s : List ℕ) → shapes_at ≤ length s → (i : ℕ) → get_or (noted s i) (binders_at + x) 0 ≡ pick (binds_name (kind_at s i) && eqb (arg_at s i) x) (i + 1) (get_or s (binders_at + x) 0)
  unfolding noted pick
  noted-word s long i = go (binds_name (kind_at s i)) (ltb (arg_at s i) 256) refl
    where
      go : (a b : Bool) → ltb (arg_at s i) 256 ≡ b →
          get_or (pick (a && b) (set s (binders_at + arg_at s i) (i + 1)) s) (binders_at + x) 0 ≡ pick (a && eqb (arg_at s i) x) (i + 1) (get_or s (binders_at + x) 0)
      go true true e =
          let q = ltb-true (arg_at s i) 256 e in
          word_set s (binders_at + arg_at s i) (binders_at + x) (i + 1) (omega arith) ∙ ap (λ b. pick b (i + 1) (get_or s (binders_at + x) 0)) (shifted (arg_at s i) x)
      go true false e = let q = ltb-false (arg_at s i) 256 e in rw (ne_eqb (arg_at s i) x (λ p. omega arith))
      go false b e = refl

  -- the word of x
  pub binder-word : (s : List ℕ) → shapes_at ≤ length s → (n : ℕ) → n ≤ 256 → get_or (binders_of s n) (binders_at + x) 0 ≡ binder_of s x n
  unfolding noted_up_to binder_of
  binder-word s long zero h = cleared-word s long 256 small (omega arith)
  binder-word s long (suc n) h =
      let kept = nodes-kept s n n (omega arith) in
      noted-word (binders_of s n) (omega (arith, noted-up-length (cleared s 256) n, cleared-length s 256)) n ∙
      ap₂ (λ b w. pick b (n + 1) w) (ap (λ w. binds_name (get_or kinds (node_kind_of w) unknown) && eqb (arg_of w) x) kept) (binder-word s long n (omega arith))
