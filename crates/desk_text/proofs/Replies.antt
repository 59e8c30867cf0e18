-- From the outcomes of the calls to what the desk prints.
use mathlib.Core.Path.{◌≡◌, refl, sym, ap, subst, ◌∙◌}
use mathlib.Core.Bool.{Bool, true, false}
use mathlib.Core.List.{List, [], ◌++◌, append_assoc}
use Prim.Native.Nat.{ℕ, ◌+◌, ◌-◌, ◌*◌, ◌≤◌, ◌<◌}
use native.Mathlib.Omega.{arith}
use borrow.Author.Tests.{le-leb, lt-leb}
use lib.Dec.{leb}
use lib.ListN.{length, take, drop, replicate, length-append, length-drop}
use lib.Seq.{take_all, length-take-le, take-append_seam, drop-drop}
use lib.IntN.{ℤ, pos}
use Rattle.spec_calculus.specs.Lists.{pick}
use Rattle.spec_calculus.proofs.Lists.{All}
use Rattle.spec_encoding.specs.Record.{Bytes, Result, refused, got, and_then, require}
use Rattle.spec_encoding.proofs.Refusals.{Only}
use Rattle.spec_plan.specs.Planner.{plan_of}
use Rattle.spec_plan.specs.Lines.{ascii, decimal, lines}
use Rattle.spec_outcome.proofs.Agreement.{scratch-long}
use Rattle.spec_outcome.specs.WrittenForm.{words}
use Rattle.spec_outcome.specs.Acceptance.{Accepted, examine}
use Rattle.spec_outcome.specs.Outcome.{Outcome, Answer, scratch_words, settled, written, answered, looped, by_loops, printed, plan_lines, G}
use Rattle.spec_outcome.proofs.Checks.{numbers, examine-only}
use Rattle.spec_outcome.specs.Gives.{Gives}
use Rattle.base_text.specs.LaidText.{text_limit, Lays}
use Rattle.base_text.proofs.LaidText.{lays-behind, lays-reach}
use Rattle.base_text.proofs.Decimals.{decimal-most}
use Rattle.spec_desk.specs.Desk.{alone, answer_line, refusal_line, plan_and_answer, or_refusal, asked, desk, text_bytes}
use Rattle.spec_desk.specs.TablesEnd.{tables_end}
use Rattle.spec_desk.specs.TextInBuffer.{Prints, FrontLength}
use Rattle.desk_text.proofs.LinesFit.{plan-room}

-- ---- a text that was laid
pub prints-front : (x t : Bytes) {lim r : ℕ} {t' : Bytes} → Lays lim x t 0 t' r → lim ≡ length t → length x ≤ length t → length t < text_limit → Prints x t t' r
prints-front x t X e l b = record { size = lays-reach X (omega arith) ∙ omega arith; text = lays-behind [] t X (omega (arith, e)) (omega (arith, e)) l }

-- behind one that stands there already
pub prints-behind : (x y t : Bytes) {lim m r : ℕ} {t' t'' : Bytes} → t' ≡ x ++ drop (length x) t → m ≡ length x → Lays lim y t' m t'' r → lim ≡ length t → length x + length y ≤ length t → length t < text_limit → Prints (x ++ y) t t'' r
prints-behind x y t {lim} {m} {r} {t'} {t''} p q X e l b = record {
  size = lays-reach X (omega (arith, q)) ∙ omega (arith, q, length-append x y);
  text =
      let both : length x + length y ≡ length (x ++ y) = omega (arith, length-append x y) in
      let Y : Lays lim y (x ++ drop (length x) t) (length x) t'' r = subst (λ (k : ℕ). Lays lim y (x ++ drop (length x) t) k t'' r) q (subst (λ (o : Bytes). Lays lim y o m t'' r) p X) in
      lays-behind x (drop (length x) t) Y (omega (arith, e)) (omega (arith, e)) (omega (arith, length-drop (length x) t))
      ∙ sym (append_assoc x y (drop (length y) (drop (length x) t)))
      ∙ ap (λ (o : Bytes). (x ++ y) ++ o) (drop-drop (length y) (length x) t ∙ ap (λ (k : ℕ). drop k t) both);
}

-- ---- the numbers of refusals
abbrev Number : ℕ → Type 0
Number n = (0 < n) × (n < 100)

checks-count : (d l : Bytes) (n : ℕ) → examine d (alone l) ≡ refused n → Number n
checks-count d l n e = subst (Only Number) e (examine-only Number all d (alone l))
  where
    all : All Number numbers
    all = ((omega arith, omega arith), ((omega arith, omega arith), ((omega arith, omega arith), ((omega arith, omega arith), ((omega arith, omega arith), ((omega arith, omega arith), ((omega arith, omega arith), ((omega arith, omega arith), ((omega arith, omega arith), ((omega arith, omega arith), ((omega arith, omega arith), ((omega arith, omega arith), ((omega arith, omega arith), ((omega arith, omega arith), ((omega arith, omega arith), ((omega arith, omega arith), tt))))))))))))))))

-- ---- what the answering call says
pub record Refuses (d l : Bytes) (k : ℕ) : Type 0 where
  pub is : asked d l ≡ refusal_line k
  pub small : k < 100

pub record Answers (d l : Bytes) (n : ℕ) (b : List ℤ) : Type 0 where
  pub accepted : Accepted
  pub is : examine d (alone l) ≡ got accepted
  pub fits : leb (G accepted) 4096 ≡ true
  pub size : n ≡ length (words (looped accepted))
  pub front : take n b ≡ words (looped accepted)
  pub within : n ≤ length b

-- the answer of an accepted question
abbrev answer_in : Accepted → Answer ℤ
answer_in a = record { size = length (words (looped a)); front = words (looped a) ++ replicate (G a - length (words (looped a))) (pos 0) }

module _ (d l : Bytes) (s : List ℕ) (b : List ℤ) {s' : List ℕ} {b' : List ℤ} {k n : ℕ} (room : scratch_words ≤ length s) (long : length b ≡ 4096) (X : Gives (by_loops d (alone l) s b) k n b' s') where
  outcome : Gives (settled scratch_words s b (and_then (examine d (alone l)) (written looped b))) k n b' s'
  unfolding by_loops answered
  outcome = subst (λ (o : Outcome ℤ). Gives o k n b' s') (scratch-long s b (and_then (examine d (alone l)) (written looped b)) room) X

  -- by what the checks say, and by whether the answer fits
  by-checks : (Q : Type 0) →
      ((m : ℕ) → k ≡ m → Number m → asked d l ≡ refusal_line m → Q) →
      ((a : Accepted) → examine d (alone l) ≡ got a → leb (G a) 4096 ≡ true → Gives (settled scratch_words s b (got (answer_in a))) k n b' s' → Q) → Q
  unfolding asked and_then written require settled or_refusal plan_and_answer
  by-checks Q refusal answer = go (examine d (alone l)) refl outcome
    where
      fits : (a : Accepted) → examine d (alone l) ≡ got a → (t : Bool) → leb (G a) 4096 ≡ t → Gives (settled scratch_words s b (require 32 t (got (answer_in a)))) k n b' s' → Q
      fits a e true q Y = answer a e q Y
      fits a e false q Y = refusal 32 Y.number (omega arith, omega arith) (ap (λ (x : Result Accepted). or_refusal (and_then x plan_and_answer)) e ∙ ap (λ (t : Bool). or_refusal (require 32 t (got (lines (plan_of a.form) ++ answer_line (words (looped a)))))) q)

      go : (x : Result Accepted) → examine d (alone l) ≡ x → Gives (settled scratch_words s b (and_then x (written looped b))) k n b' s' → Q
      go (refused m) e Y = refusal m Y.number (checks-count d l m e) (ap (λ (x : Result Accepted). or_refusal (and_then x plan_and_answer)) e)
      go (got a) e Y = fits a e (leb (G a) 4096) refl (subst (λ (w : ℕ). Gives (settled scratch_words s b (require 32 (leb (G a) w) (got (answer_in a)))) k n b' s') long Y)

  pub refuses : (k ≡ 0 → ⊥) → Refuses d l k
  unfolding settled
  refuses ne = by-checks (Refuses d l k)
      (λ m e c h. record { is = h ∙ ap refusal_line (sym e); small = omega (arith, e, c.1) })
      (λ a e q Y. absurd (ne Y.number))

  pub answers : k ≡ 0 → Answers d l n b'
  unfolding settled
  answers z = by-checks (Answers d l n b')
      (λ m e c h. absurd (omega (arith, z, e, c.0)))
      (λ a e q Y. let ws = words (looped a) in let rest = replicate (G a - length ws) (pos 0) in let p = Y.buffer ∙ append_assoc ws rest (drop (length (ws ++ rest)) b) in record {
        accepted = a;
        is = e;
        fits = q;
        size = Y.size;
        front = ap (take n) p ∙ ap (λ (i : ℕ). take i (ws ++ (rest ++ drop (length (ws ++ rest)) b))) Y.size ∙ take-append_seam ws (rest ++ drop (length (ws ++ rest)) b);
        within = omega (arith, Y.size, ap length p, length-append ws (rest ++ drop (length (ws ++ rest)) b));
      })

-- "refused" and the number
pub prints-refusal : {d l t t' : Bytes} {lim k r : ℕ} → Refuses d l k → Lays lim (refusal_line k) t 0 t' r → lim ≡ length t → text_bytes ≤ length t → length t < text_limit → Prints (asked d l) t t' r
unfolding refusal_line ascii
prints-refusal {d} {l} {t} {t'} {lim} {k} {r} R X e h b =
    subst (λ (x : Bytes). Prints x t t' r) (sym R.is) (prints-front (refusal_line k) t X e (omega (arith, length-append (decimal k) (ascii "\n"), decimal-most 1 k R.small)) b)

-- the plan and answer
module _ {d l : Bytes} {n : ℕ} {b : List ℤ} (A : Answers d l n b) where
  abbrev plan : Bytes
  plan = lines (plan_of A.accepted.form)

  asked_is : asked d l ≡ plan ++ answer_line (take n b)
  unfolding asked and_then require or_refusal plan_and_answer
  asked_is =
      ap (λ (x : Result Accepted). or_refusal (and_then x plan_and_answer)) A.is
      ∙ ap (λ (t : Bool). or_refusal (require 32 t (got (plan ++ answer_line (words (looped A.accepted)))))) A.fits
      ∙ ap (λ (ws : List ℤ). plan ++ answer_line ws) (sym A.front)

  module _ (s : List ℕ) (t : Bytes) {s' : List ℕ} {t' : Bytes} {k m : ℕ} (room : scratch_words ≤ length s) (h : text_bytes ≤ length t) (Y : Gives (plan_lines d (alone l) s t) k m t' s') where
    plan-given : Gives (settled scratch_words s t (got (record { size = length plan; front = plan }))) k m t' s'
    unfolding plan_lines and_then printed require
    plan-given =
        subst (λ (x : Bool). Gives (settled scratch_words s t (require 33 x (got (record { size = length plan; front = plan })))) k m t' s') (le-leb (length plan) (length t) (omega (arith, plan-room d (alone l) A.accepted A.is, h)))
        (subst (λ (x : Result Accepted). Gives (settled scratch_words s t (and_then x (printed t))) k m t' s') A.is
        (subst (λ (o : Outcome ℕ). Gives o k m t' s') (scratch-long s t (and_then (examine d (alone l)) (printed t)) room) Y))

    pub prints-answer : {lim r : ℕ} {t'' : Bytes} → Lays lim (answer_line (take n b)) t' m t'' r → length (answer_line (take n b)) ≤ 7 + 21 * length (take n b) → length b ≡ 4096 → lim ≡ length t → length t < text_limit → Prints (asked d l) t t'' r
    unfolding settled
    prints-answer {lim} {r} {t''} X most long e g = subst (λ (x : Bytes). Prints x t t'' r) (sym asked_is)
        (prints-behind plan (answer_line (take n b)) t plan-given.buffer plan-given.size X e (omega (arith, most, h, plan-room d (alone l) A.accepted A.is, ap length A.front, A.size, A.within, long)) g)

-- ---- the whole: "over 65,536 bytes it prints "too long""
pub prints-counts : {x t t' : Bytes} {r : ℕ} → Prints x t t' r → FrontLength r t'
prints-counts {x} {t} {t'} {r} P = (within, sym (length-take-le r t' within))
  where
    within : r ≤ length t'
    within = omega (arith, P.size, ap length P.text, length-append x (drop (length x) t))

module _ (b t : Bytes) {t' : Bytes} {r : ℕ} where
  pub desk-long : {lim : ℕ} → 65536 < length b → Lays lim (ascii "too long\n") t 0 t' r → lim ≡ length t → text_bytes ≤ length t → length t < text_limit → Prints (desk b) t t' r
  unfolding desk pick ascii
  desk-long l X e h g = rw (lt-leb (length b) 65536 l) (prints-front (ascii "too long\n") t X e (omega arith) g)

  pub desk-asks : {p : ℕ} → length b ≤ 65536 → p ≡ tables_end b → Prints (asked (take p b) (take (length b - p) (drop p b))) t t' r → Prints (desk b) t t' r
  unfolding desk pick
  desk-asks {p} l e P = rw (le-leb (length b) 65536 l) (subst (λ (k : ℕ). Prints (asked (take k b) (drop k b)) t t' r) e (subst (λ (q : Bytes). Prints (asked (take p b) q) t t' r) (take_all (length b - p) (drop p b) (omega (arith, length-drop p b))) P))
