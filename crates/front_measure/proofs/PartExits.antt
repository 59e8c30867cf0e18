-- The answers of the code's parts.
use mathlib.Core.Path.{◌≡◌, refl, sym, ap, ap₂, ◌∙◌}
use mathlib.Core.List.{List, [], ◌∷◌, ◌++◌}
use Prim.Native.Nat.{ℕ, zero, suc, ◌+◌, ◌-◌, ◌<◌, ◌≤◌}
use native.Mathlib.Omega.{arith}
use lib.Dec.{ltb}
use lib.ListN.{length, take}
use Rattle.front_words.specs.NodeTree.{kind_at, arg_at, start_at}
use Rattle.spec_encoding.specs.Reader.{Kind, unknown, number, truth_k, name_k, field_k, record', not, table_k, comprehension, generator, binding, condition, choice_k, open_k, two_terms}
use Rattle.front_sizes.specs.declared.FormSize.{FormSize}
use Rattle.front_sizes.specs.SizeWords.{term_count}
use Rattle.front_nodes.proofs.PostOrder.{by-pick}
use Rattle.std.proofs.Common.{Some, None}
use Rattle.front_nodes.specs.NodeTable.{count_of, count_at, siblings, children_of}
use Rattle.front_nodes.specs.Look.{nth, ChildPost}
use Rattle.front_measure.specs.Measure.{beside, none, total}
use Rattle.front_measure.proofs.AnyEnvironment.{total-append}

-- ---- the terms of a record
-- the first k are summed
pub record Summed (s : List ℕ) (i : ℕ) (t : FormSize) (k : ℕ) : Type 0 where
  pub is : t ≡ total (term_count s) none (take k (children_of s i))
  pub within : k ≤ length (children_of s i)

take_at : (k c : ℕ) (cs : List ℕ) → Some c ≡ nth k cs → (suc k ≤ length cs) × (take (suc k) cs ≡ take k cs ++ (c ∷ []))
unfolding nth
take_at k c [] p = let z : ◌≡◌ {A = ℕ} 0 1 = cc in absurd (omega arith)
take_at zero c (d ∷ cs) p = (omega arith, ap (λ (x : ℕ). x ∷ []) (cc))
take_at (suc k) c (d ∷ cs) p = let q = take_at k c cs p in (omega (arith, q.0), ap (λ (l : List ℕ). d ∷ l) q.1)

take_past : (k : ℕ) (cs : List ℕ) → None ≡ nth k cs → take k cs ≡ cs
unfolding nth
take_past zero [] p = refl
take_past (suc k) [] p = refl
take_past zero (d ∷ cs) p = let z : ◌≡◌ {A = ℕ} 0 1 = cc in absurd (omega arith)
take_past (suc k) (d ∷ cs) p = ap (λ (l : List ℕ). d ∷ l) (take_past k cs p)

siblings-long : (s : List ℕ) (n e : ℕ) (cs : List ℕ) → length (siblings s n e cs) ≡ n + length cs
unfolding siblings
siblings-long s zero e cs = omega arith
siblings-long s (suc n) e cs = siblings-long s n (start_at s (e - 1)) ((e - 1) ∷ cs) ∙ omega arith

-- the argument of a record's word has 33 bits
count_small : (K : Kind) (a : ℕ) → a < 8589934592 → count_of K a < 8589934592
count_small open_k a h = omega arith
count_small number a h = h
count_small truth_k a h = h
count_small name_k a h = h
count_small field_k a h = h
count_small record' a h = h
count_small choice_k a h = h
count_small (two_terms o) a h = h
count_small not a h = h
count_small comprehension a h = h
count_small table_k a h = h
count_small generator a h = h
count_small binding a h = h
count_small condition a h = h
count_small unknown a h = h

pub few-terms : (s : List ℕ) (i : ℕ) → length (children_of s i) < 8589934592
few-terms s i = by-pick (λ (l : List ℕ). length l < 8589934592) (ltb 0 i) (siblings s (count_at s i) i []) [] (λ t. omega (arith, siblings-long s (count_at s i) i [], count_small (kind_at s i) (arg_at s i) (omega arith))) (λ t. omega arith)

pub terms-none : (s : List ℕ) (i : ℕ) → Summed s i none 0
unfolding total
terms-none s i = record { is = refl; within = omega arith }

module _ {s : List ℕ} {i k : ℕ} {t : FormSize} (S : Summed s i t k) where
  pub terms-next : {c : ℕ} {x r : FormSize} → ChildPost s i k (Some c) → x ≡ term_count s c → r ≡ beside t x → Summed s i r (k + 1)
  unfolding total
  terms-next {c} {x} {r} H p q =
      let l = children_of s i in
      let a = take_at k c l H.is in
      let n : suc k ≡ k + 1 = omega arith in
      record {
        is = q ∙ ap₂ beside S.is p ∙ sym (total-append (term_count s) none (take k l) (c ∷ [])) ∙ ap (total (term_count s) none) (sym a.1) ∙ ap (λ (j : ℕ). total (term_count s) none (take j l)) n;
        within = omega (arith, a.0);
      }

  pub terms-within : {c : ℕ} → ChildPost s i k (Some c) → suc k ≤ length (children_of s i)
  terms-within {c} H = (take_at k c (children_of s i) H.is).0

  pub terms-end : ChildPost s i k None → t ≡ total (term_count s) none (children_of s i)
  terms-end H = S.is ∙ ap (total (term_count s) none) (take_past k (children_of s i) H.is)
