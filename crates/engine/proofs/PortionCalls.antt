-- From the parts of the calls that answer in portions to their outcomes.
use native.Mathlib.Omega.{arith}
use mathlib.Core.Path.{◌≡◌, refl, sym, ap, subst, ◌∙◌}
use mathlib.Core.Bool.{Bool, true, false}
use mathlib.Core.List.{List, []}
use Prim.Native.Nat.{ℕ, zero, suc, ◌≤◌, ◌<◌}
use borrow.Author.Tests.{eq-eqb, ne_eqb, lt-ltb, le-ltb}
use lib.Dec.{ltb}
use lib.ListN.{length, get_or}
use lib.IntN.{ℤ}
use Rattle.spec_calculus.specs.Lists.{pick}
use Rattle.base_signed.proofs.SignedWords.{no}
use Rattle.spec_encoding.specs.Record.{Bytes, Result, refused, got, and_then}
use Rattle.spec_outcome.specs.Acceptance.{Lent, Accepted, examine}
use Rattle.spec_outcome.specs.Outcome.{scratch_words, cleared, checked, written, answered, planned}
use Rattle.spec_outcome.proofs.Checks.{got-is}
use Rattle.spec_outcome.proofs.CheckOrder.{judged-as}
use Rattle.spec_outcome.specs.Gives.{Gives, Settles}
use Rattle.front_end.specs.PrepareContract.{Accepts}
use Rattle.exec_portions.specs.Run.{begun}
use Rattle.exec_portions.specs.RunInvariant.{Pending, task, Asks}
use Rattle.base_scratch.specs.Map.{stage_at}
use Rattle.exec_portions.specs.UnfinishedQuestion.{idle, Unfinished, Continues, Finishes, AdvancedBy, AdvancePost}
use Rattle.exec_portions.specs.UnfinishedQuestion as Un
use Rattle.exec_portions.specs.declared.Progress.{Progress}
use Rattle.exec_portions.specs.declared.Progress.TheVariants as Progress
use Rattle.exec_portions.proofs.PortionStep.{spares_then}
use Rattle.engine.specs.Replies.{AdmitPost, Replies}
use Rattle.engine.specs.Portions.{BeginPost, outside, refusal, Says, PortionPost, EndedPost}
use Rattle.std.specs.declared.result.Result.{Result as Res}
use Rattle.std.specs.declared.result.Result.TheVariants.{Ok, Err}
use Rattle.engine.specs.declared.Reply.{Reply}
use Rattle.engine.specs.declared.Portioned.{Portioned}
use Rattle.engine.proofs.Calls.{apart-spares, replied, accepts, refuses, check-accepted}

-- ---- beginning
module _ {d : Bytes} {l : Lent} {s t : List ℕ} {x : Res (Unit {0}) Reply} (B : AdmitPost d l s t x) where
  pub begin-refused : {r : Reply} → x ≡ Err r → BeginPost scratch_words d l s t r
  unfolding checked
  begin-refused e =
      let p = refuses B e in
      record { number = p.0.number; size = p.0.size; refused = λ n. p.0.scratch; begins = λ z. absurd (p.1 z); spares = λ z. absurd (p.1 z) }

  pub begin-accepted : {z : Unit {0}} → x ≡ Ok z → {u : List ℕ} → Un.BeginPost t u → (r : Reply) → r.number ≡ 0 → r.length ≡ 0 → BeginPost scratch_words d l s u r
  unfolding checked
  begin-accepted e {u} P r en ez = record {
    number = en ∙ C.number;
    size = ez ∙ C.size;
    refused = λ h. absurd (h en);
    begins = λ z a g lent b.
        subst (λ (a : Accepted). let q : Pending = record { asked = l; accepted = a; lent = lent } in Unfinished d q u lent (begun (task d q))) (got-is Y.accepted a (sym Y.is ∙ g))
        (P.is d (record { asked = l; accepted = Y.accepted; lent = lent }) Y.read Y.prepared b);
    spares = λ z. spares_then (apart-spares (accepts B e).1.away) (P.spares d Y.accepted Y.prepared);
  }
    where
      Y : Accepts d l t
      Y = (accepts B e).1.is

      C : Gives (checked d l s) 0 0 [] (cleared scratch_words t)
      C = check-accepted B e {r = record { number = 0; length = 0 }} (record { number = refl; length = refl; scratch = refl })

-- ---- which refusal a portion has
module _ (n : ℕ) where
  outside-none : n ≡ 0 → outside n ≡ true
  unfolding outside pick
  outside-none h = rw (eq-eqb n 0 h)

  module _ (some : n ≡ 0 → ⊥) where
    outside_above : 65535 < n → outside n ≡ true
    unfolding outside pick
    outside_above h = rw (ne_eqb n 0 some) (lt-ltb 65535 n h)

    inside : n ≤ 65535 → outside n ≡ false
    unfolding outside pick
    inside h = rw (ne_eqb n 0 some) (le-ltb 65535 n h)

pub inside-some : (n : ℕ) → outside n ≡ false → 0 < n
inside-some zero h = no (sym (outside-none 0 refl) ∙ h)
inside-some (suc n) h = omega arith

module _ (least n : ℕ) (s : List ℕ) where
  refusal-by : {a c e : Bool} → outside n ≡ a → ltb (length s) least ≡ c → idle (get_or s stage_at 0) ≡ e → refusal least n s ≡ pick a 47 (pick c 31 (pick e 48 0))
  unfolding refusal
  refusal-by {a} {c} {e} p q r =
      ap (λ (x : Bool). pick x 47 (pick (ltb (length s) least) 31 (pick (idle (get_or s stage_at 0)) 48 0))) p
      ∙ ap (λ (x : Bool). pick a 47 (pick x 31 (pick (idle (get_or s stage_at 0)) 48 0))) q
      ∙ ap (λ (x : Bool). pick a 47 (pick c 31 (pick x 48 0))) r

  pub outside-refused : outside n ≡ true → refusal least n s ≡ 47
  unfolding pick
  outside-refused h = refusal-by h refl refl

  module _ (room : least ≤ length s) where
    pub no-question : idle (get_or s stage_at 0) ≡ true → refusal least n s ≡ pick (outside n) 47 48
    unfolding pick
    no-question h = refusal-by refl (le-ltb (length s) least room) h

    pub no-refusal : idle (get_or s stage_at 0) ≡ false → refusal least n s ≡ pick (outside n) 47 0
    unfolding pick
    no-refusal h = refusal-by refl (le-ltb (length s) least room) h

module _ (n : ℕ) (s : List ℕ) where
  pub no_rows : n ≡ 0 → refusal scratch_words n s ≡ 47
  no_rows h = outside-refused scratch_words n s (outside-none n h)

  module _ (some : n ≡ 0 → ⊥) where
    pub many-rows : 65535 < n → refusal scratch_words n s ≡ 47
    many-rows h = outside-refused scratch_words n s (outside_above n some h)

    module _ (few : n ≤ 65535) where
      pub scant-scratch : length s < scratch_words → refusal scratch_words n s ≡ 31
      unfolding pick
      scant-scratch h = refusal-by scratch_words n s (inside n some few) (lt-ltb (length s) scratch_words h) refl

-- ---- a portion that is refused
pub portion-refused : {d : Bytes} {n k : ℕ} {s : List ℕ} {o : List ℤ} {r : Portioned} → refusal scratch_words n s ≡ k → (k ≡ 0 → ⊥) → Says r 0 0 k 0 → PortionPost scratch_words d n s o s o r
portion-refused {r = r} e h S = record {
  within = (omega (arith, S.offered), omega (arith, S.size));
  refused = λ g. (subst (λ (k : ℕ). Says r 0 0 k 0) (sym e) S, (refl, refl));
  unended = λ z. absurd (h (sym e ∙ z));
  ended = λ z. absurd (h (sym e ∙ z));
}

-- ---- a portion
-- the checks accepted the question
asks-examined : {d : Bytes} {q : Pending} {first : ℕ} → Asks d q first → examine d q.asked ≡ got q.accepted
asks-examined {d} {q} X = judged-as d q.asked X.ready.tables X.read ∙ X.ready.judged

module _ {d : Bytes} (n : ℕ) (s : List ℕ) {s' : List ℕ} {o o' : List ℤ} {x : Progress} (A : AdvancePost d n s o s' o' x) (some : n ≡ 0 → ⊥) (few : n ≤ 65535) (room : scratch_words ≤ length s) where
  by : {y : Progress} → x ≡ y → AdvancedBy d n s o s' o' y
  by e = subst (AdvancedBy d n s o s' o') e A.is

  sized : (k : ℕ) → pick (outside n) 47 k ≡ k
  unfolding pick
  sized k = ap (λ (b : Bool). pick b 47 k) (inside n some few)

  pub portion-nothing : x ≡ Progress.Nothing → {r : Portioned} → Says r 0 0 48 0 → PortionPost scratch_words d n s o s' o' r
  portion-nothing e {r} S =
      let p = by e in
      let P : PortionPost scratch_words d n s o s o r = portion-refused (no-question scratch_words n s room p.0 ∙ sized 48) (λ z. omega (arith, z)) S in
      subst (λ (y : List ℤ). PortionPost scratch_words d n s o s' y r) (sym p.1.1) (subst (λ (y : List ℕ). PortionPost scratch_words d n s o y o r) (sym p.1.0) P)

  pub portion-on : x ≡ Progress.Unfinished → {r : Portioned} → Says r 0 n 0 0 → PortionPost scratch_words d n s o s' o' r
  portion-on e {r} S =
      let p = by e in
      let C : Continues d n s o s' o' = p.1 in
      record {
        within = (omega (arith, S.offered), omega (arith, S.size));
        refused = λ h. absurd (h (no-refusal scratch_words n s room p.0 ∙ sized 0));
        unended = λ z q R U l. record { says = S; unfinished = C.is q R U; spares = C.spares q R U };
        ended = λ z q R U l. absurd (omega (arith, l, C.fewer q R U));
      }

  portion-ends : idle (get_or s stage_at 0) ≡ false → {k a b : ℕ} → k ≤ n → b ≤ length o' → Finishes d n s o s' o' k a b → {u : List ℕ} {r : Portioned} → EndedPost s' u k a b r → PortionPost scratch_words d n s o u o' r
  unfolding answered and_then
  portion-ends h {k} {a} {b} few-rows fits F {u} {r} E = record {
    within = (omega (arith, E.offered, few-rows), omega (arith, E.replies.length, fits));
    refused = λ g. absurd (g (no-refusal scratch_words n s room h ∙ sized 0));
    unended = λ z q R U l. absurd (omega (arith, l, F.enough q R U));
    ended = λ z q R U l. record {
      end = E.end;
      offered = E.offered ∙ F.rows q R U;
      gives = replied room (F.spares q R U) E.replies
          (subst (λ (y : Result Accepted). Settles (and_then y (written planned q.lent)) q.lent a b o') (sym (asks-examined U.asks)) (F.is q R U));
    };
  }

  pub portion-short : {k : ℕ} → x ≡ Progress.Short k → {u : List ℕ} {r : Portioned} → EndedPost s' u k 32 0 r → PortionPost scratch_words d n s o u o' r
  portion-short e E = let p = by e in portion-ends p.0 p.1.0 (omega arith) p.1.1 E

  pub portion-full : {k m : ℕ} → x ≡ Progress.Length k m → {u : List ℕ} {r : Portioned} → EndedPost s' u k 0 m r → PortionPost scratch_words d n s o u o' r
  portion-full e E = let p = by e in portion-ends p.0 p.1.0 p.1.1.0 p.1.1.1 E
