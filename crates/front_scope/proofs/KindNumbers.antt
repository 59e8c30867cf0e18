-- A node's kind by its number.
use mathlib.Core.Path.{◌≡◌, refl, sym, ap, ◌∙◌}
use mathlib.Core.List.{List, [], ◌∷◌}
use Prim.Native.Nat.{ℕ, zero, suc, ◌+◌, ◌-◌, ◌≤◌, ◌<◌}
use native.Mathlib.Omega.{arith}
use lib.ListN.{length, get_or}
use Rattle.spec_calculus.specs.Syntax.{Bin, plus, minus, times, equal, less, and, or}
use Rattle.spec_encoding.specs.Reader.{Kind, kinds, unknown, number, truth_k, name_k, field_k, record', not, table_k, comprehension, generator, binding, condition, choice_k, open_k, two_terms}
use Rattle.front_words.specs.NodeWord.{node_kind_of, node_word}
use Rattle.front_words.specs.NodeTree.{kind_at}

pub kind-is : (s : List ℕ) (i : ℕ) {k : ℕ} (m : ℕ) → k ≡ node_kind_of (node_word s i) → k ≡ m → kind_at s i ≡ get_or kinds m unknown
kind-is s i m e h = ap (λ x. get_or kinds x unknown) (sym e ∙ h)

-- a kind of two terms
pub two-kind : (k : ℕ) → 6 ≤ k → k ≤ 12 → (o : Bin) × (get_or kinds k unknown ≡ two_terms o)
two-kind k h l = go (k - 6) k (omega arith) (omega arith)
  where
    go : (j k : ℕ) → j ≤ 6 → k ≡ 6 + j → (o : Bin) × (get_or kinds k unknown ≡ two_terms o)
    go zero k l e = (plus, ap (λ x. get_or kinds x unknown) e)
    go (suc zero) k l e = (minus, ap (λ x. get_or kinds x unknown) e)
    go (suc (suc zero)) k l e = (times, ap (λ x. get_or kinds x unknown) e)
    go (suc (suc (suc zero))) k l e = (equal, ap (λ x. get_or kinds x unknown) e)
    go (suc (suc (suc (suc zero)))) k l e = (less, ap (λ x. get_or kinds x unknown) e)
    go (suc (suc (suc (suc (suc zero))))) k l e = (and, ap (λ x. get_or kinds x unknown) e)
    go (suc (suc (suc (suc (suc (suc zero)))))) k l e = (or, ap (λ x. get_or kinds x unknown) e)
    go (suc (suc (suc (suc (suc (suc (suc j))))))) k l e = absurd (omega arith)

-- the number of a kind
abbrev pub code : Kind → ℕ
code unknown = 0
code number = 1
code truth_k = 2
code name_k = 3
code field_k = 4
code record' = 5
code (two_terms plus) = 6
code (two_terms minus) = 7
code (two_terms times) = 8
code (two_terms equal) = 9
code (two_terms less) = 10
code (two_terms and) = 11
code (two_terms or) = 12
code not = 13
code comprehension = 14
code table_k = 15
code generator = 16
code binding = 17
code condition = 18
code choice_k = 19
code open_k = 21

pub two-code : (o : Bin) → (6 ≤ code (two_terms o)) × (code (two_terms o) ≤ 12)
two-code plus = omega arith
two-code minus = omega arith
two-code times = omega arith
two-code equal = omega arith
two-code less = omega arith
two-code and = omega arith
two-code or = omega arith

-- a fact of every number's kind, from the facts of the entries
abbrev Entries : (ℕ → Kind → Type 0) → List Kind → Type 0
Entries P [] = Unit {0}
Entries P (K ∷ l) = P 0 K × Entries (λ k. P (suc k)) l

entry : (P : ℕ → Kind → Type 0) (l : List Kind) → Entries P l → ((k : ℕ) → length l ≤ k → P k unknown) → (k : ℕ) → P k (get_or l k unknown)
entry P [] h d k = d k (omega arith)
entry P (K ∷ l) h d zero = h.0
entry P (K ∷ l) h d (suc k) = entry (λ j. P (suc j)) l h.1 (λ j p. d (suc j) (omega arith)) k

-- only the number m has the kind of code m
pub code_is : (m k : ℕ) → 1 ≤ m → code (get_or kinds k unknown) ≡ m → k ≡ m
code_is m k l =
    entry (λ j K. code K ≡ m → j ≡ m) kinds
    (same, (same, (same, (same, (same, (same, (same, (same, (same, (same, (same, (same, (same, (same, (same, (same, (same, (same, (same, (same, (λ e. absurd (omega arith), (same, tt)))))))))))))))))))))) (λ j p e. absurd (omega arith)) k
  where
    same : {A : Type 0} → A → A
    same a = a

module _ (s : List ℕ) (i : ℕ) {k : ℕ} (e : k ≡ node_kind_of (node_word s i)) where
  -- another kind than that of code m
  pub kind-not : (m : ℕ) → 1 ≤ m → (k ≡ m → ⊥) → code (kind_at s i) ≡ m → ⊥
  kind-not m l h p = h (e ∙ code_is m (node_kind_of (node_word s i)) l p)

  -- a kind outside a range of codes
  pub kind-outside : (a b : ℕ) → 1 ≤ a → (a ≤ k → k ≤ b → ⊥) → a ≤ code (kind_at s i) → code (kind_at s i) ≤ b → ⊥
  kind-outside a b l h p q = let z = code_is (code (kind_at s i)) (node_kind_of (node_word s i)) (omega arith) refl in h (omega arith) (omega arith)

  pub two-kind-at : (k ≡ 3 → ⊥) → (k ≡ 4 → ⊥) → (k ≡ 5 → ⊥) → 3 ≤ k → k < 13 → (o : Bin) × (kind_at s i ≡ two_terms o)
  two-kind-at a b c l h = let t = two-kind k (omega arith) (omega arith) in (t.0, kind-is s i k e refl ∙ t.1)

  pub kind-above : (k ≡ 13 → ⊥) → (k ≡ 14 → ⊥) → 13 ≤ k → 3 ≤ code (kind_at s i) → code (kind_at s i) ≤ 14 → ⊥
  kind-above a b l = kind-outside 3 14 (omega arith) (λ p q. omega arith)

-- a known kind has its own number
pub code_of : (k : ℕ) → k < 20 → code (get_or kinds k unknown) ≡ k
code_of =
    entry (λ j K. j < 20 → code K ≡ j) kinds
    (own, (own, (own, (own, (own, (own, (own, (own, (own, (own, (own, (own, (own, (own, (own, (own, (own, (own, (own, (own, (λ l. absurd (omega arith), (λ l. absurd (omega arith), tt)))))))))))))))))))))) (λ j p l. absurd (omega arith))
  where
    own : {A : Type 0} {k : ℕ} → A → k ≡ k
    own a = refl
