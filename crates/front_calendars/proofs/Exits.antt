-- One law for each way out of the functions that look at the nodes one by one.
use mathlib.Core.Path.{◌≡◌, sym, ap, ◌∙◌}
use mathlib.Core.List.{List}
use mathlib.Core.Bool.{Bool, true, false, ◌&&◌}
use Prim.Native.Nat.{ℕ, suc, ◌+◌, ◌-◌, ◌≤◌, ◌<◌}
use native.Mathlib.Omega.{arith}
use lib.Dec.{ltb}
use borrow.Author.Tests.{eq-eqb, ne_eqb}
use Rattle.spec_calculus.specs.Lists.{pick}
use Rattle.front_words.specs.NodeWord.{node_kind_of, arg_of, node_word}
use Rattle.front_words.specs.NodeTree.{arg_at}
use Rattle.front_calendars.specs.LentNodes.{lent_at, lent_from}

-- ---- one node
module _ (k : ℕ) (s : List ℕ) (i : ℕ) {w x : ℕ} (ew : w ≡ node_word s i) (ex : x ≡ node_kind_of w) where
  pub lent-open : x ≡ 21 → {a : ℕ} {r : Bool} → a ≡ arg_of w → r ≡ ltb a k → r ≡ lent_at k s i
  unfolding lent_at pick
  lent-open h {a} ea er =
      er ∙ ap (λ (y : ℕ). ltb y k) (ea ∙ ap arg_of ew)
      ∙ sym (ap (λ (b : Bool). pick b (ltb (arg_at s i) k) true) (eq-eqb (node_kind_of (node_word s i)) 21 (sym (ex ∙ ap node_kind_of ew) ∙ h)))

  pub lent_other : (x ≡ 21 → ⊥) → true ≡ lent_at k s i
  unfolding lent_at pick
  lent_other h = sym (ap (λ (b : Bool). pick b (ltb (arg_at s i) k) true) (ne_eqb (node_kind_of (node_word s i)) 21 (λ e. h (ex ∙ ap node_kind_of ew ∙ e))))

-- ---- those from the loop's on decide, as long as all before it pass
module _ (k : ℕ) (s : List ℕ) (n : ℕ) where
  pub record Passing (i : ℕ) : Type 0 where
    pub rest : lent_from k s 0 n ≡ lent_from k s i (n - i)

  pub pass-first : Passing 0
  pass-first = record { rest = ap (lent_from k s 0) (omega arith) }

  module _ {i : ℕ} (P : Passing i) where
    module _ (l : i < n) {b : Bool} (e : b ≡ lent_at k s i) where
      step : lent_from k s 0 n ≡ (b && lent_from k s (i + 1) (n - (i + 1)))
      unfolding lent_from
      step = let q : n - i ≡ suc (n - (i + 1)) = omega arith in P.rest ∙ ap (lent_from k s i) q ∙ ap (λ (c : Bool). c && lent_from k s (i + 1) (n - (i + 1))) (sym e)

      pub pass-stops : b ≡ false → false ≡ lent_from k s 0 n
      pass-stops h = sym (step ∙ ap (λ (c : Bool). c && lent_from k s (i + 1) (n - (i + 1))) h)

      pub pass-again : b ≡ true → Passing (i + 1)
      pass-again h = record { rest = step ∙ ap (λ (c : Bool). c && lent_from k s (i + 1) (n - (i + 1))) h }

    pub pass-last : n ≤ i → true ≡ lent_from k s 0 n
    unfolding lent_from
    pass-last h = sym (P.rest ∙ ap (lent_from k s i) (let q : n - i ≡ 0 = omega arith in q))
