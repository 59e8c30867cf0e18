-- Runs of stores one behind the other, and beside each other. Assumes nothing.
use mathlib.Core.Path.{◌≡◌, refl, sym, ap, ◌∙◌}
use mathlib.Core.List.{List, [], ◌∷◌, ◌++◌}
use Prim.Native.Nat.{ℕ, suc, ◌+◌, ◌≤◌}
use native.Mathlib.Omega.{arith}
use lib.ListN.{length, set, drop, length-append}
use lib.Seq.{sets, sets-eq, set_comm}

module _ {A : Type 0} where
  pub sets-append : (o : List A) (i : ℕ) (l m : List A) → sets o i (l ++ m) ≡ sets (sets o i l) (i + length l) m
  sets-append o i [] m = let e : i ≡ i + 0 = omega arith in ap (λ (k : ℕ). sets o k m) e
  sets-append o i (a ∷ l) m =
      let e : suc i + length l ≡ i + length (a ∷ l) = omega arith in
      sets-append (set o i a) (suc i) l m ∙ ap (λ (k : ℕ). sets (sets (set o i a) (suc i) l) k m) e

  pub one-behind : (o : List A) (i : ℕ) (l m : List A) {j : ℕ} → j ≡ i + length l → sets o i (l ++ m) ≡ sets (sets o i l) j m
  one-behind o i l m e = sets-append o i l m ∙ ap (λ (k : ℕ). sets (sets o i l) k m) (sym e)

  -- a store behind a run
  set-behind : (o : List A) (j : ℕ) (b : A) (i : ℕ) (l : List A) → i + length l ≤ j → sets (set o j b) i l ≡ set (sets o i l) j b
  set-behind o j b i [] h = refl
  set-behind o j b i (a ∷ l) h =
      ap (λ o. sets o (suc i) l) (set_comm o j i b a (λ e. omega (arith, e, h))) ∙ set-behind (set o i a) j b (suc i) l (omega arith)

  -- two runs that do not meet
  pub sets-comm : (o : List A) (j : ℕ) (m : List A) (i : ℕ) (l : List A) → i + length l ≤ j → sets (sets o j m) i l ≡ sets (sets o i l) j m
  sets-comm o j [] i l h = refl
  sets-comm o j (b ∷ m) i l h =
      sets-comm (set o j b) (suc j) m i l (omega arith) ∙ ap (λ o. sets o (suc j) m) (set-behind o j b i l h)

  -- from the front on: what is written, and what stood behind it
  pub sets-front : (o l : List A) → length l ≤ length o → sets o 0 l ≡ l ++ drop (length l) o
  sets-front o l h = let e : 0 + length l ≡ length l = omega arith in sets-eq l o 0 (omega arith) ∙ ap (λ (k : ℕ). l ++ drop k o) e

-- three pieces of two parts each, one behind the other; their first parts are written first
module _ {A : Type 0} (o h p k f g s : List A) {a y b z c : ℕ}
    (ea : a ≡ length h) (ey : y ≡ a + length p) (eb : b ≡ y + length k) (ez : z ≡ b + length f) (ec : c ≡ z + length g) where
  abbrev heads : List A
  heads = sets (sets (sets o 0 h) y k) z g

  -- the first two pieces' first parts, and all of the first
  abbrev three : List A
  three = sets (sets (sets o 0 h) a p) y k

  in-turn : sets o 0 ((h ++ p) ++ ((k ++ f) ++ (g ++ s))) ≡ sets (sets (sets three b f) z g) c s
  in-turn =
      one-behind o 0 (h ++ p) ((k ++ f) ++ (g ++ s)) (omega (arith, ea, ey, length-append h p))
      ∙ ap (λ x. sets x y ((k ++ f) ++ (g ++ s))) (one-behind o 0 h p (omega (arith, ea)))
      ∙ one-behind (sets (sets o 0 h) a p) y (k ++ f) (g ++ s) (omega (arith, eb, ez, length-append k f))
      ∙ ap (λ x. sets x z (g ++ s)) (one-behind (sets (sets o 0 h) a p) y k f eb)
      ∙ one-behind (sets three b f) z g s ec

  pub three-pieces : sets (sets (sets heads a p) b f) c s ≡ sets o 0 ((h ++ p) ++ ((k ++ f) ++ (g ++ s)))
  three-pieces =
      ap (λ x. sets (sets x b f) c s)
      (sets-comm (sets (sets o 0 h) y k) z g a p (omega (arith, ey, eb, ez)) ∙ ap (λ x. sets x z g) (sets-comm (sets o 0 h) y k a p (omega (arith, ey))))
      ∙ ap (λ x. sets x c s) (sets-comm three z g b f (omega (arith, ez)))
      ∙ sym in-turn
