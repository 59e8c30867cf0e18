-- "Else it prints "refused" and the number": the numbers that the desk prints there. 11 is none of them, for its data are whole
-- records of kind 20; nor are 31 and 33, nor 41, for it lends no calendar. Assumes nothing.
use mathlib.Core.Path.{◌≡◌, refl, sym, ap, subst, ◌∙◌}
use mathlib.Core.Bool.{Bool, true, false, true≢false}
use mathlib.Core.List.{List, [], ◌∷◌, ◌++◌}
use Prim.Native.Nat.{ℕ, zero, suc, ◌+◌, ◌-◌, ◌*◌, ◌/◌, ◌%◌}
use native.Mathlib.Omega.{arith}
use lib.Dec.{ltb, leb}
use lib.ListN.{length, take, drop}
use Rattle.spec_calculus.specs.Lists.{pick}
use Rattle.spec_calculus.proofs.Lists.{All}
use Rattle.spec_encoding.specs.Record.{Bytes, Result, refused, got, and_then, require, byte}
use Rattle.spec_encoding.proofs.Refusals.{Only}
use Rattle.spec_checks.specs.Scope.{member}
use Rattle.spec_plan.specs.Plan.{Plan, plan}
use Rattle.spec_plan.specs.Planner.{plan_of}
use Rattle.spec_plan.specs.Lines.{ascii, digits, decimal, lines}
use Rattle.spec_outcome.specs.WrittenForm.{words}
use Rattle.spec_outcome.specs.Acceptance.{Accepted, examine}
use Rattle.spec_outcome.specs.Outcome.{G, looped}
use Rattle.spec_desk.specs.TablesEnd.{tables_end}
use Rattle.spec_desk.specs.Desk.{alone, answer_line, refusal_line, plan_and_answer, or_refusal, asked, desk}
use Rattle.desk_text.proofs.NeverEleven.{split-only}

-- ---- a line's number
-- the number that digits show behind one that was read
unfoldable shown : ℕ → Bytes → ℕ
shown n [] = n
shown n (b ∷ l) = shown (10 * n + (b - 48)) l

shown-append : (n : ℕ) (l r : Bytes) → shown n (l ++ r) ≡ shown (shown n l) r
unfolding shown
shown-append n [] r = refl
shown-append n (b ∷ l) r = shown-append (10 * n + (b - 48)) l r

digits-show : (f n : ℕ) → shown 0 (digits f n) ≡ n
unfolding shown digits
digits-show zero n = omega arith
digits-show (suc f) n = go (digits-show f (n / 10)) (ltb n 10)
  where
    go : shown 0 (digits f (n / 10)) ≡ n / 10 → (t : Bool) → shown 0 (elim t [ true ↦ (48 + n) ∷ [] | false ↦ digits f (n / 10) ++ ((48 + n % 10) ∷ []) ]) ≡ n
    go h true = omega arith
    go h false = omega (arith, h, shown-append 0 (digits f (n / 10)) ((48 + n % 10) ∷ []))

-- byte 10 behind the digits shows 0
line-shows : (n : ℕ) → shown 0 (drop 8 (refusal_line n)) ≡ 10 * n
unfolding refusal_line decimal ascii shown
line-shows n = shown-append 0 (digits n n) (10 ∷ []) ∙ omega (arith, digits-show n n)

one_number : (m n : ℕ) → refusal_line m ≡ refusal_line n → m ≡ n
one_number m n e = omega (arith, line-shows m, line-shows n, ap (λ (t : Bytes). shown 0 (drop 8 t)) e)

-- ---- other texts are no refusals
no-refusal : (t : Bytes) {A : Type 0} (n : ℕ) → (byte t 0 ≡ 114 → ⊥) → t ≡ refusal_line n → A
unfolding refusal_line ascii
no-refusal t n k e = absurd (k (ap (λ (x : Bytes). byte x 0) e))

plan-first : (p : Plan) (l : Bytes) → byte (lines p ++ l) 0 ≡ 111
unfolding lines ascii
plan-first (plan os m h c) l = refl

-- ---- what is printed
-- the numbers of whoever packs the data but 11, of whoever types the question, and of a G over 4,096
abbrev pub desk_numbers : List ℕ
desk_numbers = 12 ∷ 13 ∷ 43 ∷ 50 ∷ 51 ∷ 21 ∷ 22 ∷ 23 ∷ 24 ∷ 25 ∷ 42 ∷ 26 ∷ 27 ∷ 28 ∷ 32 ∷ []

module _ (b : Bytes) (n : ℕ) where
  abbrev Told : ℕ → Type 0
  Told m = refusal_line m ≡ refusal_line n → member n desk_numbers ≡ true

  told : (m : ℕ) → member m desk_numbers ≡ true → Told m
  told m h e = subst (λ (k : ℕ). member k desk_numbers ≡ true) (one_number m n e) h

  reply-number : (x : Result Accepted) → Only Told x → or_refusal (and_then x plan_and_answer) ≡ refusal_line n → member n desk_numbers ≡ true
  unfolding and_then or_refusal plan_and_answer require member
  reply-number (refused m) h e = h e
  reply-number (got a) h e = go (leb (G a) 4096) (lines (plan_of a.form) ++ answer_line (words (looped a))) (plan-first (plan_of a.form) (answer_line (words (looped a)))) e
    where
      go : (t : Bool) (text : Bytes) → byte text 0 ≡ 111 → or_refusal (require 32 t (got text)) ≡ refusal_line n → member n desk_numbers ≡ true
      go true text o e = no-refusal text n (λ h. omega (arith, h, o)) e
      go false text o e = told 32 refl e

  asked-number : asked (take (tables_end b) b) (drop (tables_end b) b) ≡ refusal_line n → member n desk_numbers ≡ true
  unfolding asked member
  asked-number = reply-number (examine (take (tables_end b) b) (alone (drop (tables_end b) b))) (split-only Told (told 12 refl) (told 13 refl) (told 43 refl) (told 50 refl) (told 51 refl)
      (told 21 refl, (told 22 refl, (told 23 refl, (told 24 refl, (told 25 refl, (told 42 refl, (told 26 refl, (told 27 refl, (told 28 refl, tt))))))))) b)

  -- A refusal that is printed is by one of these numbers.
  pub printed-number : desk b ≡ refusal_line n → member n desk_numbers ≡ true
  unfolding desk pick ascii
  printed-number = go (leb (length b) 65536)
    where
      go : (t : Bool) → pick t (asked (take (tables_end b) b) (drop (tables_end b) b)) (ascii "too long\n") ≡ refusal_line n → member n desk_numbers ≡ true
      go true = asked-number
      go false = no-refusal (ascii "too long\n") n (λ h. omega (arith, h))

-- Whatever is read, "refused 11", "refused 31", "refused 33" and "refused 41" are not what is printed.
pub never-printed : (b : Bytes) → All (λ n. desk b ≡ refusal_line n → ⊥) (11 ∷ 31 ∷ 33 ∷ 41 ∷ [])
unfolding member
never-printed b = (not-one 11 refl, (not-one 31 refl, (not-one 33 refl, (not-one 41 refl, tt))))
  where
    not-one : (n : ℕ) → member n desk_numbers ≡ false → desk b ≡ refusal_line n → ⊥
    not-one n h e = true≢false (sym (printed-number b n e) ∙ h)
