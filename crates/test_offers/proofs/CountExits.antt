-- One law for each way out of the loop that counts rows: n rows have been offered, and no fewer are due in all.
use native.Mathlib.Omega.{arith}
use mathlib.Core.Path.{◌≡◌, refl, sym, ap, subst, ◌∙◌}
use mathlib.Core.List.{List}
use Prim.Native.Nat.{ℕ, zero, suc, ◌+◌, ◌≤◌, ◌<◌}
use lib.ListN.{length}
use lib.IntN.{ℤ}
use Rattle.spec_encoding.specs.Record.{Bytes}
use Rattle.plan_machine.specs.Machine.{State, run, answer, due}
use Rattle.plan_machine.proofs.Moves.{move-waits}
use Rattle.plan_machine.proofs.OffersDue.{none-due, portion, run-run}
use Rattle.plan_machine.proofs.StateInvariant.{to-done}
use Rattle.form_env.specs.Environment.{tables_in}
use Rattle.exec_simulation.specs.SimulationRelation.{LinkedPlan, ProgramKept, Waits, over, waits}
use Rattle.exec_simulation.specs.RowReads.{Readable}
use Rattle.exec_batch.specs.Contract.{Waiting, PortionPost}
use Rattle.exec_answer.proofs.WholeBuffer.{written_none}
use Rattle.test_offers.specs.OfferedRows.{longest}
use Rattle.test_offers.specs.Contract.{CountPost}

-- ---- what a code says
positive : (n : ℕ) → (n ≡ 0 → ⊥) → 1 ≤ n
positive zero h = absurd (h refl)
positive (suc n) h = omega arith

module _ {d : Bytes} (Q : LinkedPlan d) {s : List ℕ} {o : List ℤ} {limit code : ℕ} {S : State} where
  stays : Waits Q s o limit code S → ProgramKept Q.base s
  stays (over z O) = O.stands.kept
  stays (waits i z O) = O.stands.kept

  none_left : Waits Q s o limit code S → code ≡ 1 → due (tables_in d) S ≡ 0
  unfolding due
  none_left (over z O) e = ap (due (tables_in d)) (to-done O.wanting)
  none_left (waits i z O) e = absurd (omega (arith, e, z))

  some_left : Waits Q s o limit code S → (code ≡ 1 → ⊥) → 1 ≤ due (tables_in d) S
  some_left (over z O) h = absurd (h z)
  some_left (waits i z O) h =
      positive (due (tables_in d) S)
      (λ n. move-waits (tables_in d) Q.program O.path O.source O.condition O.behind O.words O.more (answer (tables_in d) S) (O.wanting.is ∙ none-due (tables_in d) S n))

-- with limit 0 nothing is written
unwritten : {d : Bytes} (Q : LinkedPlan d) {s : List ℕ} {o : List ℤ} {code : ℕ} {S : State} → Waits Q s o 0 code S → o ≡ Q.lent
unwritten Q (over z O) = written_none O.wanting.text
unwritten Q (waits i z O) = written_none O.wanting.text

-- ---- the loop
pub record Turned {d : Bytes} (Q : LinkedPlan d) (S : State) (t : List ℕ) (p : List ℤ) (at n : ℕ) : Type 0 where
  pub waits : Waits Q t p 0 at (run (tables_in d) n S)
  pub upto : n ≤ due (tables_in d) S

pub record Counting (d : Bytes) (s : List ℕ) (o : List ℤ) (code : ℕ) (t : List ℕ) (p : List ℤ) (at n : ℕ) : Type 0 where
  pub long : length t ≡ length s
  pub wide : length p ≡ length o
  pub few : n ≤ longest
  pub is : (Q : LinkedPlan d) → Readable Q → (S : State) → Waits Q s o 0 code S → Turned Q S t p at n

pub count-begins : (d : Bytes) (s : List ℕ) (o : List ℤ) (code : ℕ) → Counting d s o code s o code 0
unfolding run
count-begins d s o code = record { long = refl; wide = refl; few = omega arith; is = λ Q R S N. record { waits = N; upto = omega arith } }

module _ {d : Bytes} {s t : List ℕ} {o p : List ℤ} {code at n : ℕ} (I : Counting d s o code t p at n) where
  same-buffer : Waiting d s o 0 code → p ≡ o
  same-buffer K = let Q = K.question in unwritten Q (I.is Q K.readable K.state K.waits).waits ∙ sym (unwritten Q K.waits)

  pub count-over : Waiting d s o 0 code → at ≡ 1 → CountPost d s o code t p n
  count-over K e = record {
    is = λ Q R S N.
        let W = I.is Q R S N in
        record { kept = stays Q W.waits; rows = omega (arith, I.few, W.upto, none_left Q W.waits e, (portion (tables_in d) n S).1) };
    buffer = same-buffer K;
  }

  pub count-spent : Waiting d s o 0 code → longest ≤ n → CountPost d s o code t p longest
  count-spent K l = record {
    is = λ Q R S N.
        let W = I.is Q R S N in
        record { kept = stays Q W.waits; rows = omega (arith, I.few, W.upto, l) };
    buffer = same-buffer K;
  }

  pub count-again : (at ≡ 1 → ⊥) → n < longest → {t' : List ℕ} {p' : List ℤ} {r : ℕ} → PortionPost d t p 0 at 1 t' p' r → length t' ≡ length t → length p' ≡ length p → Counting d s o code t' p' r (n + 1)
  count-again h l {t'} {p'} {r} F lt lp = record {
    long = lt ∙ I.long;
    wide = lp ∙ I.wide;
    few = omega (arith, l);
    is = λ Q R S N.
        let W = I.is Q R S N in
        let T = tables_in d in
        record {
          waits = subst (Waits Q t' p' 0 r) (run-run T n 1 S) (F.is Q R (run T n S) W.waits);
          upto = omega (arith, some_left Q W.waits h, (portion T n S).1);
        };
  }
