-- Demand 3, the value half: both ways of answering give the same.
use mathlib.Core.Path.{◌≡◌, refl, ap, subst, fun_ext, ◌∙◌}
use mathlib.Core.List.{List, [], ◌∷◌, ◌++◌}
use mathlib.Core.Bool.{Bool, true, false}
use Prim.Native.Nat.{ℕ, zero, suc, ◌-◌, ◌≤◌, ◌<◌}
use native.Mathlib.Omega.{arith}
use borrow.Author.Tests.{ltb-true, ltb-false, lt-ltb, le-ltb}
use lib.Dec.{ltb, leb}
use lib.ListN.{length, take, drop, replicate, length-append, length-replicate}
use lib.IntN.{ℤ, pos}
use Rattle.spec_calculus.specs.Value.{Value, kind_of}
use Rattle.spec_calculus.specs.Monoid.{canonical}
use Rattle.spec_calculus.specs.Meaning.{meaning}
use Rattle.spec_calculus.proofs.Lists.{All}
use Rattle.spec_encoding.specs.Record.{Bytes, Result, refused, got, and_then, require}
use Rattle.spec_encoding.proofs.Refusals.{Only, only_then, only-require}
use Rattle.spec_normal_form.specs.Normal.{normal}
use Rattle.spec_normal_form.proofs.Meaning.{normal-keeps}
use Rattle.spec_normal_form.proofs.GeneratorNumbers.{normal-numbered}
use Rattle.spec_plan.specs.Planner.{plan_of}
use Rattle.spec_plan.specs.Operators.{plan_value}
use Rattle.spec_plan.proofs.NumberedIsScoped.{unnesting-numbered}
use Rattle.spec_outcome.specs.WrittenForm.{words}
use Rattle.spec_outcome.specs.Acceptance.{Lent, Accepted, examine}
use Rattle.spec_outcome.specs.Outcome.{Outcome, Answer, scratch_words, settled, with_scratch, G, written, answered, looped, by_loops, planned, by_plan}
use Rattle.spec_outcome.proofs.Checks.{got-is, passed, Passed, examined, numbers, examine-only}

-- For an accepted question over well formed tables, the plan's value under the operators' own definitions equals the value
-- of the question as typed.
pub same-value : (a : Accepted) → Passed a → plan_value canonical a.tables (plan_of a.form) ≡ meaning canonical a.tables a.question
same-value a p =
    let n = normal-numbered (kind_of a.tables) a.question p.names in
    ap (λ f. plan_value canonical a.tables (plan_of f)) p.form-is
    ∙ unnesting-numbered canonical a.tables (normal (kind_of a.tables) a.question) n
    ∙ normal-keeps a.tables a.question p.generators

-- what comes behind the checks may use what they showed
after : {B : Type 0} (r : Result Accepted) (j k : Accepted → Result B) → ((a : Accepted) → r ≡ got a → j a ≡ k a) → and_then r j ≡ and_then r k
unfolding and_then
after (refused n) j k h = refl
after (got a) j k h = h a refl

-- Whatever was lent, both ways of answering have the same outcome: number, length, buffer and scratch.
pub same_outcome : (d : Bytes) (l : Lent) (s : List ℕ) (b : List ℤ) → by_plan d l s b ≡ by_loops d l s b
unfolding by_plan by_loops answered written
same_outcome d l s b = ap (with_scratch scratch_words s b) (after (examine d l) (written planned b) (written looped b) (λ a e.
    ap (λ v. require 32 (leb (G a) (length b)) (got (record { size = length (words v); front = words v ++ replicate (G a - length (words v)) (pos 0) }))) (same-value a (examined d l a e))))

-- "Demand 3's answer words are the first G of the answer buffer; a refusal has none."
unfoldable pub words_of : Result Accepted → ℕ
words_of (refused n) = 0
words_of (got a) = G a

-- two outcomes that a caller cannot tell apart by number, length and answer words
pub record SameAnswer (g : ℕ) (o p : Outcome ℤ) : Type 0 where
  pub numbers : o.number ≡ p.number
  pub sizes : o.size ≡ p.size
  pub answers : o.number ≡ 0 → take g o.buffer ≡ take g p.buffer

-- what stands at the front does not depend on what is behind it
front_same : (g : ℕ) (f x y : List ℤ) → g ≤ length f → take g (f ++ x) ≡ take g (f ++ y)
front_same zero f x y h = refl
front_same (suc g) [] x y h = absurd (omega arith)
front_same (suc g) (w ∷ f) x y h = ap (λ l. w ∷ l) (front_same g f x y (omega arith))

-- an outcome depends on the buffer and the scratch only through their lengths
settled_same : (s s' : List ℕ) (b b' : List ℤ) (g : ℕ) (r : Result (Answer ℤ)) → Only (λ n. n ≡ 0 → ⊥) r → ((a : Answer ℤ) → r ≡ got a → g ≤ length a.front) → SameAnswer g (settled scratch_words s b r) (settled scratch_words s' b' r)
unfolding settled
settled_same s s' b b' g (refused n) k h = record { numbers = refl; sizes = refl; answers = λ e. absurd (k e) }
settled_same s s' b b' g (got a) k h = record { numbers = refl; sizes = refl; answers = λ e. front_same g a.front (drop (length a.front) b) (drop (length a.front) b') (h a refl) }

-- 31, or what stands behind it
pub scratch-short : {A : Type 0} {least : ℕ} (s : List ℕ) (b : List A) (r : Result (Answer A)) → length s < least → with_scratch least s b r ≡ record { number = 31; size = 0; buffer = b; scratch = s }
unfolding with_scratch
scratch-short {least = least} s b r h = rw (lt-ltb (length s) least h, with_scratch)

pub scratch-long : {A : Type 0} {least : ℕ} (s : List ℕ) (b : List A) (r : Result (Answer A)) → least ≤ length s → with_scratch least s b r ≡ settled least s b r
unfolding with_scratch
scratch-long {least = least} s b r h = rw (le-ltb (length s) least h, with_scratch)

scratch-same : (s s' : List ℕ) (b b' : List ℤ) (g : ℕ) (r : Result (Answer ℤ)) → length s ≡ length s' → SameAnswer g (settled scratch_words s b r) (settled scratch_words s' b' r) → SameAnswer g (with_scratch scratch_words s b r) (with_scratch scratch_words s' b' r)
scratch-same s s' b b' g r e h = go (ltb (length s) scratch_words) refl
  where
    go : (c : Bool) → ltb (length s) scratch_words ≡ c → SameAnswer g (with_scratch scratch_words s b r) (with_scratch scratch_words s' b' r)
    go true p = let l = ltb-true (length s) scratch_words p in rw (scratch-short s b r l, scratch-short {least = scratch_words} s' b' r (omega (arith, e, l))) (record { numbers = refl; sizes = refl; answers = λ z. absurd (omega (arith, z)) })
    go false p = let l = ltb-false (length s) scratch_words p in rw (scratch-long s b r l, scratch-long {least = scratch_words} s' b' r (omega (arith, e, l))) h

-- what an answer writes reaches up to G
front-reaches : (g : ℕ) (ws : List ℤ) → g ≤ length (ws ++ replicate (g - length ws) (pos 0))
front-reaches g ws = omega (arith, length-append ws (replicate (g - length ws) (pos 0)), length-replicate (g - length ws) (pos 0))

written-reaches : (v : Accepted → Value) (b : List ℤ) (a : Accepted) (x : Answer ℤ) → written v b a ≡ got x → G a ≤ length x.front
unfolding written
written-reaches v b a x e =
    let ws = words (v a) in
    let y : Answer ℤ = record { size = length ws; front = ws ++ replicate (G a - length ws) (pos 0) } in
    subst (λ (z : Answer ℤ). G a ≤ length z.front) (got-is y x (passed 32 (leb (G a) (length b)) (got y) x e).1) (front-reaches (G a) ws)

answer-reaches : (v : Accepted → Value) (b : List ℤ) (r : Result Accepted) (x : Answer ℤ) → and_then r (written v b) ≡ got x → words_of r ≤ length x.front
unfolding and_then words_of
answer-reaches v b (refused n) x e = omega arith
answer-reaches v b (got a) x e = written-reaches v b a x e

written-only : (v : Accepted → Value) (b : List ℤ) (r : Result Accepted) → Only (λ n. n ≡ 0 → ⊥) r → Only (λ n. n ≡ 0 → ⊥) (and_then r (written v b))
unfolding written
written-only v b r h = only_then (λ n. n ≡ 0 → ⊥) r (written v b) h (λ a. only-require (λ n. n ≡ 0 → ⊥) 32 _ _ (λ e. absurd (omega arith)) tt)

not-zero : All (λ n. n ≡ 0 → ⊥) numbers
not-zero = (λ e. absurd (omega arith), (λ e. absurd (omega arith), (λ e. absurd (omega arith), (λ e. absurd (omega arith), (λ e. absurd (omega arith), (λ e. absurd (omega arith), (λ e. absurd (omega arith), (λ e. absurd (omega arith), (λ e. absurd (omega arith), (λ e. absurd (omega arith), (λ e. absurd (omega arith), (λ e. absurd (omega arith), (λ e. absurd (omega arith), (λ e. absurd (omega arith), (λ e. absurd (omega arith), (λ e. absurd (omega arith), tt))))))))))))))))

answered-same : (v : Accepted → Value) (d : Bytes) (l : Lent) (s s' : List ℕ) (b b' : List ℤ) → length s ≡ length s' → length b ≡ length b' → SameAnswer (words_of (examine d l)) (answered scratch_words v d l s b) (answered scratch_words v d l s' b')
unfolding answered
answered-same v d l s s' b b' e f =
    let g = words_of (examine d l) in
    let r = and_then (examine d l) (written v b) in
    subst (λ x. SameAnswer g (with_scratch scratch_words s b r) (with_scratch scratch_words s' b' (and_then (examine d l) x))) (fun_ext λ a. by_length a)
    (scratch-same s s' b b' g r e (settled_same s s' b b' g r (written-only v b (examine d l) (examine-only (λ n. n ≡ 0 → ⊥) not-zero d l)) (answer-reaches v b (examine d l))))
  where
    by_length : (a : Accepted) → written v b a ≡ written v b' a
    by_length a = unfold written in ap (λ n. require 32 (leb (G a) n) (got (record { size = length (words (v a)); front = words (v a) ++ replicate (G a - length (words (v a))) (pos 0) }))) f

-- Demand 3: for all answer buffers of one length and all scratch of one length, whatever they held before, answering by plan
-- and answering by loops give the same number, 0 or a refusal's, the same length and the same answer words.
pub outcomes-agree : (d : Bytes) (l : Lent) (s s' : List ℕ) (b b' : List ℤ) → length s ≡ length s' → length b ≡ length b' → SameAnswer (words_of (examine d l)) (by_plan d l s b) (by_loops d l s' b')
unfolding by_loops
outcomes-agree d l s s' b b' e f = rw (same_outcome d l s b) (answered-same (λ a. meaning canonical a.tables a.question) d l s s' b b' e f)
