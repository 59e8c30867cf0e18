-- Words laid into scratch: where they end, what stays as it was, and that a word may be laid after those behind it.
use mathlib.Core.Path.{◌≡◌, refl, sym, ap, ◌∙◌}
use mathlib.Core.List.{List, [], ◌∷◌}
use Prim.Native.Nat.{ℕ, ◌+◌, ◌<◌, ◌≤◌}
use native.Mathlib.Omega.{arith}
use lib.ListN.{length, get_or, set}
use lib.Seq.{get_or-set_other, set_comm}
use Rattle.front_theory.specs.FormWords.{Word}
use Rattle.front_theory.specs.Writer.{Writer, state, puts}
use Rattle.base_scratch.specs.Map.{form_at}
use Rattle.front_emit.specs.WriterResult.{packed, Buffer, buffer, put}

-- ---- words one behind the other
pub puts-place : (l : List Word) (b : Buffer) → (puts put l b).place ≡ b.place + length l
unfolding puts put
puts-place [] b = omega arith
puts-place (x ∷ l) b = puts-place l (put x b) ∙ omega arith

-- no other word changes
pub puts-kept : (l : List Word) (b : Buffer) (j : ℕ) → (form_at + b.place ≤ j → j < form_at + b.place + length l → ⊥) → get_or (puts put l b).words j 0 ≡ get_or b.words j 0
unfolding puts put
puts-kept [] b j n = refl
puts-kept (x ∷ l) b j n =
    puts-kept l (put x b) j (λ p q. n (omega arith) (omega arith)) ∙ get_or-set_other b.words (form_at + b.place) j (packed x) 0 (λ e. n (omega arith) (omega arith))

-- ---- a word at p that is laid late
abbrev late : ℕ → ℕ → Buffer → Buffer
late p w b = buffer (set b.words (form_at + p) w) b.place

abbrev pub late_s : ℕ → ℕ → Writer Buffer → Writer Buffer
late_s p w S = state (late p w S.buffer) S.next

module _ (p w : ℕ) where
  pub put-late : (x : Word) (b : Buffer) → p < b.place → put x (late p w b) ≡ late p w (put x b)
  unfolding put
  put-late x b h = ap (λ (l : List ℕ). buffer l (b.place + 1)) (set_comm b.words (form_at + p) (form_at + b.place) w (packed x) (λ e. omega arith))

  puts-late : (l : List Word) (b : Buffer) → p < b.place → puts put l (late p w b) ≡ late p w (puts put l b)
  unfolding puts put
  puts-late [] b h = refl
  puts-late (x ∷ l) b h = ap (puts put l) (put-late x b h) ∙ puts-late l (put x b) (omega arith)

  pub laid-late : (l : List Word) (n : ℕ) (S R : Writer Buffer) → p < S.buffer.place → R ≡ state (puts put l S.buffer) (S.next + n)
      → late_s p w R ≡ state (puts put l (late p w S.buffer)) (S.next + n)
  laid-late l n S R h e = ap (late_s p w) e ∙ ap (λ (b : Buffer). state b (S.next + n)) (sym (puts-late l S.buffer h))
