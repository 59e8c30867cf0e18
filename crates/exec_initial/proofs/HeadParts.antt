-- Where a place that no generator has is a part of a head, the comprehension with its mark is.
use native.Mathlib.Omega.{arith}
use mathlib.Core.Path.{◌≡◌, refl, sym, ap, ◌∙◌}
use mathlib.Core.Logic.{inl, inr}
use mathlib.Core.Bool.{true, ◌||◌, or-false}
use mathlib.Core.List.{List}
use Prim.Native.Nat.{ℕ, zero, suc, ◌+◌, ◌≤◌}
use borrow.Author.Tests.{eqb-true}
use lib.Dec.{eqb}
use Rattle.spec_normal_form.specs.Form.{Form, Forms, num, truth, row, cell, rec, bin, negate, app, comp, fnil, fcons}
use Rattle.form_words.specs.FormWords.{size}
use Rattle.base_signed.proofs.SignedWords.{by-test, no}
use Rattle.spec_plan.specs.Planner as P
use Rattle.plan_marks.specs.Marks.{mark_at, slot_by}
use Rattle.plan_marks.proofs.FormMarks.{Marked, MarkedF}
use Rattle.plan_marks.proofs.MarksArePlaces.{slots_by}
use Rattle.plan_machine.specs.AnswerText.{parts, parts_l, is_place, among}
use Rattle.plan_machine.proofs.HeadOrder.{among-append}
use Rattle.exec_terms.proofs.PartsBefore.{PartAt, PartAtF}
use Rattle.exec_initial.proofs.TopComprehensions.{TopAt, TopAtF}

slot-part : (m n : ℕ) → among n (parts (slot_by m)) ≡ true → m ≡ suc n
unfolding slot_by parts among is_place
slot-part zero n e = no (sym e)
slot-part (suc k) n e = ap suc (sym (eqb-true n k (sym (or-false (eqb n k)) ∙ e)))

-- the part with mark n + 1
pub record MarkedPart (s : List ℕ) (n : ℕ) (A B : ℕ → Type 0) : Type 0 where
  pub node : ℕ
  pub part : A node
  pub top : B node
  pub mark : mark_at s node ≡ suc n

module _ (s : List ℕ) (c : ℕ → ℕ) (n : ℕ) (low : (g : ℕ) → c g ≤ n) where
  mutual
    unfolding P.term parts among is_place

    pub found : (t : Form) (i k : ℕ) → Marked s i t c k → among n (parts (P.term t (slots_by c) k)) ≡ true → MarkedPart s n (PartAt i t) (TopAt i t)
    found (num z) i k w e = no (sym e)
    found (truth z) i k w e = no (sym e)
    found (row g) i k w e = absurd (omega (arith, low g, slot-part (c g) n e))
    found (cell x g) i k w e = no (sym e)
    found (rec ts) i k w e = founds ts (i + 1) k w e
    found (app f ts) i k w e = no (sym e)
    found (bin o t u) i k w e = no (sym e)
    found (negate t) i k w e = no (sym e)
    found (comp m q u) i k w e = record { node = i; part = refl; top = refl; mark = w.0 ∙ ap suc (sym (eqb-true n k (sym (or-false (eqb n k)) ∙ e))) }

    founds : (ts : Forms) (i k : ℕ) → MarkedF s i ts c k → among n (parts_l (P.terms ts (slots_by c) k)) ≡ true → MarkedPart s n (PartAtF i ts) (TopAtF i ts)
    founds fnil i k w e = no (sym e)
    founds (fcons t ts) i k w e =
        let first = parts (P.term t (slots_by c) k) in
        let rest = parts_l (P.terms ts (slots_by c) (P.next t k)) in
        by-test (among n first)
        (λ h. let f = found t i k w.0 h in record { node = f.node; part = inl f.part; top = inl f.top; mark = f.mark })
        (λ h. let f = founds ts (i + size t) (P.next t k) w.1 (sym (ap (λ b. b || among n rest) h) ∙ sym (among-append n first rest) ∙ e) in
        record { node = f.node; part = inr f.part; top = inr f.top; mark = f.mark })
