-- The qualifiers of a comprehension, without fuel: those before the last, then the last.
use mathlib.Core.Path.{◌≡◌, refl, sym, ap, ◌∙◌}
use mathlib.Core.List.{List, [], ◌∷◌, ◌++◌}
use Prim.Native.Nat.{ℕ, zero, suc, ◌-◌, ◌<◌, ◌≤◌}
use native.Mathlib.Omega.{arith}
use lib.Dec.{leb}
use borrow.Author.Tests.{le-leb, lt-leb}
use Rattle.spec_calculus.specs.Lists.{pick}
use Rattle.front_words.specs.NodeTree.{start_at}
use Rattle.front_nodes.specs.NodeTable.{chain_upto, chain}

module _ (s : List ℕ) (lo : ℕ) where
  chain-zero : (f : ℕ) → chain_upto f s lo 0 ≡ []
  unfolding chain_upto pick
  chain-zero zero = refl
  chain-zero (suc f) = rw (le-leb 0 lo (omega arith))

  -- any fuel from the place on
  pub chain-upto : (f g e : ℕ) → e ≤ f → e ≤ g → chain_upto f s lo e ≡ chain_upto g s lo e
  unfolding chain_upto
  chain-upto zero g e p q = let z : e ≡ 0 = omega arith in sym (ap (chain_upto g s lo) z ∙ chain-zero g)
  chain-upto (suc f) zero e p q = let z : e ≡ 0 = omega arith in ap (chain_upto (suc f) s lo) z ∙ chain-zero (suc f)
  chain-upto (suc f) (suc g) e p q = ap (λ (l : List ℕ). pick (leb e lo) [] (l ++ ((e - 1) ∷ []))) (chain-upto f g (start_at s (e - 1)) (omega arith) (omega arith))

  pub chain-none : (e : ℕ) → e ≤ lo → chain s lo e ≡ []
  unfolding chain_upto pick
  chain-none e h = chain-upto e (suc e) e (omega arith) (omega arith) ∙ rw (le-leb e lo h)

  pub chain_more : (e : ℕ) → lo < e → chain s lo e ≡ chain s lo (start_at s (e - 1)) ++ ((e - 1) ∷ [])
  unfolding chain_upto pick
  chain_more e h =
      chain-upto e (suc e) e (omega arith) (omega arith) ∙ rw (lt-leb e lo h)
      (ap (λ (l : List ℕ). l ++ ((e - 1) ∷ [])) (chain-upto e (start_at s (e - 1)) (start_at s (e - 1)) (omega arith) (omega arith)))
