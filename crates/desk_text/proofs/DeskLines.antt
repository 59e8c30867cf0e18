-- The lines that the desk adds to a plan's.
use mathlib.Core.Path.{◌≡◌, sym, ap, ◌∙◌}
use mathlib.Core.List.{List, [], ◌∷◌, ◌++◌, append_assoc, append-nil}
use Prim.Native.Nat.{ℕ, ◌+◌, ◌*◌, ◌≤◌, ◌<◌}
use native.Mathlib.Numerals.{add-one}
use native.Mathlib.Omega.{arith}
use lib.ListN.{length, get_or, take, length-append}
use lib.Seq.{take_all, take-suc}
use lib.IntN.{ℤ, pos}
use mir.Syntax.{w64}
use mir.Val.{SFits}
use Rattle.spec_plan.specs.Lines.{ascii, digits, signed_decimal}
use Rattle.base_text.specs.LaidText.{Lays, Text}
use Rattle.base_text.proofs.LaidText.{lays-two, lays-as}
use Rattle.base_text.proofs.Decimals.{decimal-text, word-most}
use Rattle.spec_desk.specs.Desk.{spaced, answer_line, refusal_line}

spaced-one : (a : List ℤ) (z : ℤ) → spaced a ++ (ascii " " ++ signed_decimal z) ≡ spaced (a ++ (z ∷ []))
unfolding spaced
spaced-one [] z = ap (λ (t : List ℕ). ascii " " ++ t) (sym (append-nil (signed_decimal z)))
spaced-one (y ∷ a) z =
    append_assoc (ascii " ") (signed_decimal y ++ spaced a) (ascii " " ++ signed_decimal z)
    ∙ ap (λ (t : List ℕ). ascii " " ++ t) (append_assoc (signed_decimal y) (spaced a) (ascii " " ++ signed_decimal z) ∙ ap (λ (t : List ℕ). signed_decimal y ++ t) (spaced-one a z))

take_more : (ws : List ℤ) (i : ℕ) → i < length ws → take (i + 1) ws ≡ take i ws ++ (get_or ws i (pos 0) ∷ [])
take_more ws i l = ap (λ (k : ℕ). take k ws) (add-one i) ∙ take-suc ws i (pos 0) l

pub spaced-more : (ws : List ℤ) (i : ℕ) {lim p q r t : ℕ} {o o₁ o₂ o₃ : List ℕ} → i < length ws → Lays lim (spaced (take i ws)) o p o₁ q → Lays lim (ascii " ") o₁ q o₂ r → Lays lim (signed_decimal (get_or ws i (pos 0))) o₂ r o₃ t → Lays lim (spaced (take (i + 1) ws)) o p o₃ t
spaced-more ws i l X Y Z = lays-as (spaced-one (take i ws) (get_or ws i (pos 0)) ∙ ap spaced (sym (take_more ws i l))) (lays-two X (lays-two Y Z))

pub spaced-all : (ws : List ℤ) (i : ℕ) {lim p q : ℕ} {o o₁ : List ℕ} → length ws ≤ i → Lays lim (spaced (take i ws)) o p o₁ q → Lays lim (spaced ws) o p o₁ q
spaced-all ws i l X = lays-as (ap spaced (take_all i ws l)) X

-- each word has a space, a sign and 19 digits at most
pub spaced-longer : (ws : List ℤ) (i : ℕ) → i < length ws → SFits w64 (get_or ws i (pos 0)) → length (spaced (take i ws)) ≤ 21 * i → length (spaced (take (i + 1) ws)) ≤ 21 * (i + 1)
unfolding ascii
spaced-longer ws i l f h = omega (
  arith,
  ap length (sym (spaced-one (take i ws) (get_or ws i (pos 0)) ∙ ap spaced (sym (take_more ws i l)))),
  length-append (spaced (take i ws)) (ascii " " ++ signed_decimal (get_or ws i (pos 0))),
  word-most (get_or ws i (pos 0)) f,
)

pub spaced-most : (ws : List ℤ) (i : ℕ) → i ≤ length ws → length ws ≤ i → length (spaced (take i ws)) ≤ 21 * i → length (spaced ws) ≤ 21 * length ws
spaced-most ws i l h k = omega (arith, ap length (ap spaced (take_all i ws h)))

pub answer-most : (ws : List ℤ) → length (spaced ws) ≤ 21 * length ws → length (answer_line ws) ≤ 7 + 21 * length ws
unfolding answer_line ascii
answer-most ws l = omega (arith, length-append (spaced ws) (ascii "\n"))

pub answer-is : (ws : List ℤ) {lim p q r t : ℕ} {o o₁ o₂ o₃ : List ℕ} → Lays lim (ascii "answer") o p o₁ q → Lays lim (spaced ws) o₁ q o₂ r → Lays lim (ascii "\n") o₂ r o₃ t → Lays lim (answer_line ws) o p o₃ t
unfolding answer_line
answer-is ws X Y Z = lays-two X (lays-two Y Z)

pub refusal_is : {n lim q r t : ℕ} {o o₁ o₂ o₃ : List ℕ} → Lays lim (ascii "refused ") o 0 o₁ q → Text n (λ f. digits f n) lim o₁ q o₂ r → Lays lim (ascii "\n") o₂ r o₃ t → Lays lim (refusal_line n) o 0 o₃ t
unfolding refusal_line
refusal_is X Y Z = lays-two X (lays-two (decimal-text Y) Z)
