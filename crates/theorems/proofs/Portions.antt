-- Questions answered in portions, over the contracts of the open calls: any portions of a question end as a single call does, after
-- exactly the rows that it is offered, and however the portions of several interleave, each ends as it does alone.
use native.Mathlib.Omega.{arith}
use mathlib.Core.Path.{◌≡◌, refl, sym, ap, subst, ◌∙◌}
use mathlib.Core.Bool.{Bool, true, false}
use mathlib.Core.List.{List, [], ◌∷◌, ◌++◌}
use Prim.Native.Nat.{ℕ, ◌+◌, ◌-◌, ◌≤◌, ◌<◌}
use borrow.Author.Tests.{leb-true, leb-false, ltb-true, ltb-false, eqb-true, eqb-false}
use lib.Dec.{eqb, leb, ltb}
use lib.ListN.{length, get_or, drop, replicate, length-append, length-replicate, get_or-replicate, get_or-append}
use lib.IntN.{ℤ}
use Rattle.spec_calculus.specs.Lists.{pick}
use Rattle.spec_calculus.specs.Value.{Tables}
use Rattle.spec_calculus.specs.Monoid.{raw}
use Rattle.spec_calculus.proofs.Lists.{All}
use Rattle.spec_encoding.specs.Record.{Bytes, Result, refused, got, and_then}
use Rattle.spec_encoding.specs.Data.{read_data}
use Rattle.spec_plan.specs.Planner.{plan_of}
use Rattle.plan_machine.specs.Machine.{State}
use Rattle.plan_machine.specs.Offers.{plan_offers}
use Rattle.spec_outcome.specs.Acceptance.{Lent, Accepted, examine}
use Rattle.spec_outcome.specs.Outcome.{Outcome, Answer, scratch_words, cleared, settled, G, checked_with, written, answered, planned, by_plan}
use Rattle.spec_outcome.proofs.Agreement.{scratch-short, scratch-long}
use Rattle.spec_outcome.proofs.Checks.{handed}
use Rattle.spec_encoding.proofs.Refusals.{only_then}
use Rattle.spec_outcome.specs.Gives.{Spares}
use Rattle.base_signed.proofs.SignedWords.{by-test}
use Rattle.base_signed.specs.Limit.{number_limit}
use Rattle.exec_portions.specs.Run.{Run, counting, begun, portion, rows_due}
use Rattle.exec_portions.specs.RunInvariant.{Pending, task}
use Rattle.base_scratch.specs.Map.{stage_at}
use Rattle.exec_portions.specs.UnfinishedQuestion.{idle, Unfinished}
use Rattle.exec_portions.proofs.AnyPortions.{portion-due, portion-portion, rows-in-all}
use Rattle.exec_portions.proofs.PortionStep.{long-unfinished, unfinished-stage, unfinished-live, unwritten}
use Rattle.form_env.specs.Environment.{tables_in}
use Rattle.form_env.proofs.BoundRows.{tables-in}
use Rattle.engine.specs.Portions.{rows_in_all, BeginPost, outside, refusal, Says, Unended, Ended, PortionPost}
use Rattle.engine.specs.declared.Reply.{Reply}
use Rattle.engine.specs.declared.Portioned.{Portioned}
use Rattle.engine.proofs.Calls.{cleared-same}
use Rattle.engine.proofs.Outcomes.{answers, checks-only}
use Rattle.engine.proofs.PortionCalls.{inside-some, outside-refused, no-question, no-refusal}

-- ---- portions of one question, one behind another over one scratch and one buffer
-- a portion, and what it said
pub record Call : Type 0 where
  pub rows : ℕ
  pub said : Portioned

abbrev pub Portions : ℕ → Bytes → List Call → List ℕ → List ℤ → List ℕ → List ℤ → Type 0
Portions least d [] s o s' o' = (s' ≡ s) × (o' ≡ o)
Portions least d (c ∷ cs) s o s' o' = (t : List ℕ) × ((p : List ℤ) × (PortionPost least d c.rows s o t p c.said × Portions least d cs t p s' o'))

-- the rows that they are given, but for those that are refused
abbrev pub counted : ℕ → ℕ
counted n = pick (outside n) 0 n

unfoldable pub given : List Call → ℕ
given [] = 0
given (c ∷ cs) = counted c.rows + given cs

-- Those before the last offer fewer rows than are due, and each says that it is unfinished and offered what it was given; the last
-- offers the rest, and says so, with number and length of the outcome; for those behind it no question is unfinished. A portion of 0 or
-- above 65,535 is refused, wherever it stands. Buffer and scratch are the outcome's in the end.
pub record EndsAsOne (due : ℕ) (cs : List Call) (x : Outcome ℤ) (s' : List ℕ) (o' : List ℤ) : Type 0 where
  pub before : List Call
  pub last : Call
  pub after : List Call
  pub is : cs ≡ before ++ (last ∷ after)
  pub fewer : 0 < given before → given before < due
  pub sized : outside last.rows ≡ false
  pub enough : due ≤ given before + last.rows
  pub unfinished : All (λ c. Says c.said 0 (counted c.rows) (pick (outside c.rows) 47 0) 0) before
  pub finished : Says last.said 1 (due - given before) x.number x.size
  pub later : All (λ c. Says c.said 0 0 (pick (outside c.rows) 47 48) 0) after
  pub buffer : o' ≡ x.buffer
  pub scratch : s' ≡ x.scratch

-- ---- a scratch of 0
module _ (least : ℕ) (s : List ℕ) where
  pub cleared-stage : stage_at < least → idle (get_or (cleared least s) stage_at 0) ≡ true
  unfolding idle pick
  cleared-stage h = ap idle (get_or-append (replicate least 0) (drop least s) 0 stage_at (omega (arith, h, length-replicate {A = ℕ} least 0)) ∙ get_or-replicate least stage_at 0 0 h)

  pub cleared-long : least ≤ length (cleared least s)
  cleared-long = omega (arith, length-append (replicate least 0) (drop least s), length-replicate {A = ℕ} least 0)

-- there a portion is 48, if it is not 47, and changes nothing
pub never : (b : Bool) {k : ℕ} → k ≡ pick b 47 48 → k ≡ 0 → ⊥
unfolding pick
never true e z = omega (arith, e, z)
never false e z = omega (arith, e, z)

pub none_left : (least : ℕ) (d : Bytes) (cs : List Call) (s : List ℕ) (o : List ℤ) (s' : List ℕ) (o' : List ℤ) → least ≤ length s → idle (get_or s stage_at 0) ≡ true → Portions least d cs s o s' o'
    → All (λ c. Says c.said 0 0 (pick (outside c.rows) 47 48) 0) cs × ((s' ≡ s) × (o' ≡ o))
none_left least d [] s o s' o' b z P = (tt, P)
none_left least d (c ∷ cs) s o s' o' b z (t, (p, (F, P))) =
    let e = no-question least c.rows s b z in
    let N = F.refused (λ y. never (outside c.rows) e y) in
    let rest = none_left least d cs s o s' o' b z (subst (λ (y : List ℤ). Portions least d cs s y s' o') N.1.1 (subst (λ (y : List ℕ). Portions least d cs y p s' o') N.1.0 P)) in
    ((subst (λ (k : ℕ). Says c.said 0 0 k 0) e N.0, rest.0), rest.1)

-- ---- the outcome does not turn on what scratch held
settled_same : (s t : List ℕ) (b : List ℤ) (x : Result (Answer ℤ)) → cleared scratch_words t ≡ cleared scratch_words s → settled scratch_words t b x ≡ settled scratch_words s b x
unfolding settled
settled_same s t b (refused n) e = ap (λ (u : List ℕ). record { number = n; size = 0; buffer = b; scratch = u }) e
settled_same s t b (got a) e = ap (λ (u : List ℕ). record { number = 0; size = a.size; buffer = a.front ++ drop (length a.front) b; scratch = u }) e

same_outcome : (d : Bytes) (l : Lent) {s t : List ℕ} (b : List ℤ) → scratch_words ≤ length s → Spares scratch_words s t → by_plan d l t b ≡ by_plan d l s b
unfolding by_plan answered
same_outcome d l {s} {t} b r S =
    let x : Result (Answer ℤ) = and_then (examine d l) (written planned b) in
    scratch-long {least = scratch_words} t b x (omega (arith, r, S.long)) ∙ settled_same s t b x (cleared-same S) ∙ sym (scratch-long s b x r)

pub outcome-scratch : {least : ℕ} (d : Bytes) (l : Lent) (s : List ℕ) (b : List ℤ) → least ≤ length s → (answered least planned d l s b).scratch ≡ cleared least s
unfolding answered settled
outcome-scratch {least} d l s b r = ap (λ (y : Outcome ℤ). y.scratch) (scratch-long s b (and_then (examine d l) (written planned b)) r) ∙ go (and_then (examine d l) (written planned b))
  where
    go : (x : Result (Answer ℤ)) → (settled least s b x).scratch ≡ cleared least s
    go (refused n) = refl
    go (got a) = refl

-- ---- an unfinished question
-- its portions are refused by 47 alone: by 48 never
pub unrefused : {d : Bytes} {q : Pending} {s : List ℕ} {o : List ℤ} {R : Run} → Unfinished d q s o R → (n : ℕ) → outside n ≡ false → refusal scratch_words n s ≡ 0
unfolding pick
unrefused {s = s} U n h = no-refusal scratch_words n s (long-unfinished U) (unfinished-stage U) ∙ ap (λ (b : Bool). pick b 47 0) h

-- "32 is found before the first word is written"
pub unwritten-yet : {d : Bytes} {q : Pending} {s : List ℕ} {o : List ℤ} {S : State} → Unfinished d q s o (counting S) → o ≡ q.lent
unwritten-yet {S = S} U = unwritten U S refl

-- ---- any portions of it
module _ (c : Call) (cs : List Call) where
  given-none : outside c.rows ≡ true → given (c ∷ cs) ≡ given cs
  unfolding given pick
  given-none h = ap (λ (b : Bool). pick b 0 c.rows + given cs) h ∙ omega arith

  given-some : outside c.rows ≡ false → given (c ∷ cs) ≡ c.rows + given cs
  unfolding given pick
  given-some h = ap (λ (b : Bool). pick b 0 c.rows + given cs) h

-- what each says before the last
module _ (c : Call) where
  says_some : outside c.rows ≡ false → Says c.said 0 c.rows 0 0 → Says c.said 0 (counted c.rows) (pick (outside c.rows) 47 0) 0
  unfolding pick
  says_some h Y = subst (λ (b : Bool). Says c.said 0 (pick b 0 c.rows) (pick b 47 0) 0) (sym h) Y

  says-refused : outside c.rows ≡ true → Says c.said 0 0 47 0 → Says c.said 0 (counted c.rows) (pick (outside c.rows) 47 0) 0
  unfolding pick
  says-refused h Y = subst (λ (b : Bool). Says c.said 0 (pick b 0 c.rows) (pick b 47 0) 0) (sym h) Y

fewer-given : (due n m : ℕ) → n < due → (0 < m → m < due - n) → n + m < due
fewer-given due n m l h = by-test (ltb 0 m) (λ e. omega (arith, l, h (ltb-true 0 m e))) (λ e. omega (arith, l, ltb-false 0 m e))

-- one that is refused
ends-past : (c : Call) (cs : List Call) {due : ℕ} {x : Outcome ℤ} {s' : List ℕ} {o' : List ℤ} → outside c.rows ≡ true → Says c.said 0 0 47 0 → EndsAsOne due cs x s' o' → EndsAsOne due (c ∷ cs) x s' o'
unfolding pick
ends-past c cs h Y W =
    let g : given (c ∷ W.before) ≡ given W.before = given-none c W.before h in
    record {
      before = c ∷ W.before;
      last = W.last;
      after = W.after;
      is = ap (λ (y : List Call). c ∷ y) W.is;
      fewer = λ l. omega (arith, g, W.fewer (omega (arith, g, l)));
      sized = W.sized;
      enough = omega (arith, g, W.enough);
      unfinished = (says-refused c h Y, W.unfinished);
      finished = record { end = W.finished.end; offered = W.finished.offered ∙ omega (arith, g); number = W.finished.number; size = W.finished.size };
      later = W.later;
      buffer = W.buffer;
      scratch = W.scratch;
    }

module _ (d : Bytes) (q : Pending) where
  abbrev Due : Run → ℕ
  Due R = rows_due (task d q) R

  abbrev Next : ℕ → Run → Run
  Next n R = portion (task d q) n R

  abbrev Result' : List ℕ → Outcome ℤ
  Result' s = by_plan d q.asked s q.lent

  module _ (c : Call) (cs : List Call) {s t s' : List ℕ} {o p o' : List ℤ} {R : Run} (U : Unfinished d q s o R) where
    -- the last
    ends-here : outside c.rows ≡ false → Due R ≤ c.rows → Ended scratch_words d q R s t p c.said → Portions scratch_words d cs t p s' o' → EndsAsOne (Due R) (c ∷ cs) (Result' s) s' o'
    unfolding given by_plan
    ends-here sized h E P =
        let z : t ≡ cleared scratch_words s = E.gives.scratch ∙ outcome-scratch d q.asked s q.lent (long-unfinished U) in
        let N = none_left scratch_words d cs t p s' o' (subst (λ (y : List ℕ). scratch_words ≤ length y) (sym z) (cleared-long scratch_words s)) (ap (λ (y : List ℕ). idle (get_or y stage_at 0)) z ∙ cleared-stage scratch_words s (omega arith)) P in
        record {
          before = [];
          last = c;
          after = cs;
          is = refl;
          fewer = λ l. absurd (omega (arith, l));
          sized = sized;
          enough = omega (arith, h);
          unfinished = tt;
          finished = record { end = E.end; offered = E.offered ∙ omega arith; number = E.gives.number; size = E.gives.size };
          later = N.0;
          buffer = N.1.1 ∙ E.gives.buffer;
          scratch = N.1.0 ∙ E.gives.scratch;
        }

    -- one before the last
    ends-later : outside c.rows ≡ false → c.rows < Due R → Unended scratch_words d c.rows q R s t p c.said → EndsAsOne (Due R - c.rows) cs (Result' t) s' o' → EndsAsOne (Due R) (c ∷ cs) (Result' s) s' o'
    unfolding pick
    ends-later sized h Y W =
        let e : Result' t ≡ Result' s = same_outcome d q.asked q.lent (long-unfinished U) Y.spares in
        let g : given (c ∷ W.before) ≡ c.rows + given W.before = given-some c W.before sized in
        record {
          before = c ∷ W.before;
          last = W.last;
          after = W.after;
          is = ap (λ (y : List Call). c ∷ y) W.is;
          fewer = λ l. omega (arith, g, fewer-given (Due R) c.rows (given W.before) h W.fewer);
          sized = W.sized;
          enough = omega (arith, g, W.enough);
          unfinished = (says_some c sized Y.says, W.unfinished);
          finished = record {
            end = W.finished.end;
            offered = W.finished.offered ∙ omega (arith, g);
            number = W.finished.number ∙ ap (λ (y : Outcome ℤ). y.number) e;
            size = W.finished.size ∙ ap (λ (y : Outcome ℤ). y.size) e;
          };
          later = W.later;
          buffer = W.buffer ∙ ap (λ (y : Outcome ℤ). y.buffer) e;
          scratch = W.scratch ∙ ap (λ (y : Outcome ℤ). y.scratch) e;
        }

  ends : (cs : List Call) {s s' : List ℕ} {o o' : List ℤ} {R : Run} → Unfinished d q s o R → Due R ≤ given cs → 0 < given cs → Portions scratch_words d cs s o s' o' → EndsAsOne (Due R) cs (Result' s) s' o'
  ends [] U e l P = unfold given in absurd (omega (arith, l))
  ends (c ∷ cs) {s} {s'} {o} {o'} {R} U e l (t, (p, (F, P))) = sorted (outside c.rows) refl (λ m n N. ends cs U m n N) (λ Y m n. ends cs Y m n P)
    where
      go : outside c.rows ≡ false → (b : Bool) → leb (Due R) c.rows ≡ b → (Unfinished d q t p (Next c.rows R) → Due (Next c.rows R) ≤ given cs → 0 < given cs → EndsAsOne (Due (Next c.rows R)) cs (Result' t) s' o') → EndsAsOne (Due R) (c ∷ cs) (Result' s) s' o'
      go h true k f = let m = leb-true (Due R) c.rows k in ends-here c cs U h m (F.ended (unrefused U c.rows h) q R U m) P
      go h false k f =
          let m = leb-false (Due R) c.rows k in
          let Y = F.unended (unrefused U c.rows h) q R U m in
          let z : Due (Next c.rows R) ≡ Due R - c.rows = portion-due (task d q) c.rows R (unfinished-live U) in
          let g : given (c ∷ cs) ≡ c.rows + given cs = given-some c cs h in
          ends-later c cs U h m Y (subst (λ (n : ℕ). EndsAsOne n cs (Result' t) s' o') z (f Y.unfinished (omega (arith, z, e, g)) (omega (arith, z, e, m, g))))

      sorted : (b : Bool) → outside c.rows ≡ b → (Due R ≤ given cs → 0 < given cs → Portions scratch_words d cs s o s' o' → EndsAsOne (Due R) cs (Result' s) s' o') → (Unfinished d q t p (Next c.rows R) → Due (Next c.rows R) ≤ given cs → 0 < given cs → EndsAsOne (Due (Next c.rows R)) cs (Result' t) s' o') → EndsAsOne (Due R) (c ∷ cs) (Result' s) s' o'
      sorted true h f k =
          let r : refusal scratch_words c.rows s ≡ 47 = outside-refused scratch_words c.rows s h in
          let N = F.refused (λ y. omega (arith, r, y)) in
          let g : given (c ∷ cs) ≡ given cs = given-none c cs h in
          ends-past c cs h (subst (λ (k : ℕ). Says c.said 0 0 k 0) r N.0)
          (f (omega (arith, e, g)) (omega (arith, l, g)) (subst (λ (y : List ℤ). Portions scratch_words d cs s y s' o') N.1.1 (subst (λ (y : List ℕ). Portions scratch_words d cs y p s' o') N.1.0 P)))
      sorted false h f k = go h (leb (Due R) c.rows) refl k

  -- As long as fewer rows are offered than are due, each says so, and the question stands where they have brought it.
  pub so_far : (cs : List Call) {s s' : List ℕ} {o o' : List ℤ} {R : Run} → Unfinished d q s o R → (0 < given cs → given cs < Due R) → Portions scratch_words d cs s o s' o'
      → All (λ c. Says c.said 0 (counted c.rows) (pick (outside c.rows) 47 0) 0) cs × Unfinished d q s' o' (Next (given cs) R)
  so_far [] {s} {s'} {o} {o'} {R} U l P = unfold given portion in (tt, subst (λ (y : List ℤ). Unfinished d q s' y R) (sym P.1) (subst (λ (y : List ℕ). Unfinished d q y o R) (sym P.0) U))
  so_far (c ∷ cs) {s} {s'} {o} {o'} {R} U l (t, (p, (F, P))) = sorted (outside c.rows) refl (λ m N. so_far cs U m N) (λ Y m. so_far cs Y m P)
    where
      sorted : (b : Bool) → outside c.rows ≡ b
          → ((0 < given cs → given cs < Due R) → Portions scratch_words d cs s o s' o' → All (λ c. Says c.said 0 (counted c.rows) (pick (outside c.rows) 47 0) 0) cs × Unfinished d q s' o' (Next (given cs) R))
          → (Unfinished d q t p (Next c.rows R) → (0 < given cs → given cs < Due (Next c.rows R)) → All (λ c. Says c.said 0 (counted c.rows) (pick (outside c.rows) 47 0) 0) cs × Unfinished d q s' o' (Next (given cs) (Next c.rows R)))
          → All (λ c. Says c.said 0 (counted c.rows) (pick (outside c.rows) 47 0) 0) (c ∷ cs) × Unfinished d q s' o' (Next (given (c ∷ cs)) R)
      sorted true h f k =
          let r : refusal scratch_words c.rows s ≡ 47 = outside-refused scratch_words c.rows s h in
          let N = F.refused (λ y. omega (arith, r, y)) in
          let g : given (c ∷ cs) ≡ given cs = given-none c cs h in
          let rest = f (λ y. omega (arith, g, l (omega (arith, g, y)))) (subst (λ (y : List ℤ). Portions scratch_words d cs s y s' o') N.1.1 (subst (λ (y : List ℕ). Portions scratch_words d cs y p s' o') N.1.0 P)) in
          ((says-refused c h (subst (λ (k : ℕ). Says c.said 0 0 k 0) r N.0), rest.0), subst (λ (n : ℕ). Unfinished d q s' o' (Next n R)) (sym g) rest.1)
      sorted false h f k =
          let g : given (c ∷ cs) ≡ c.rows + given cs = given-some c cs h in
          let m : given (c ∷ cs) < Due R = l (omega (arith, g, inside-some c.rows h)) in
          let Y = F.unended (unrefused U c.rows h) q R U (omega (arith, g, m)) in
          let z : Due (Next c.rows R) ≡ Due R - c.rows = portion-due (task d q) c.rows R (unfinished-live U) in
          let rest = k Y.unfinished (λ y. omega (arith, g, m, z)) in
          ((says_some c h Y.says, rest.0), subst (λ (n : ℕ). Unfinished d q s' o' (Next n R)) (sym g) (subst (Unfinished d q s' o') (portion-portion (task d q) c.rows (given cs) R) rest.1))

-- ---- from its beginning on
-- all rows that it is offered
all-due : (d : Bytes) (l : Lent) (a : Accepted) (lent : List ℤ) → read_data d ≡ got a.tables → let q : Pending = record { asked = l; accepted = a; lent = lent } in rows_due (task d q) (begun (task d q)) ≡ rows_in_all a lent
unfolding rows_in_all
all-due d l a lent e =
    rows-in-all (tables_in d) a.form (leb (G a) (length lent))
    ∙ ap (λ (T : Tables). plan_offers raw T (plan_of a.form) + pick (leb (G a) (length lent)) (plan_offers raw T (plan_of a.form)) 0) (tables-in d e)

module _ (least : ℕ) (d : Bytes) (l : Lent) (s : List ℕ) (e : (checked_with least d l s).number ≡ 0) where
  -- the checks accept a question that was begun
  pub accepted-begun : (a : Accepted) × (examine d l ≡ got a)
  accepted-begun =
      let k : Accepted → Result (Answer ℕ) = λ a. got (record { size = 0; front = [] }) in
      let g = answers least s [] (and_then (examine d l) k) (only_then (λ n. n ≡ 0 → ⊥) (examine d l) k (checks-only d l) (λ a. tt)) e in
      let h = handed (examine d l) k g.answer g.is in
      (h.0, h.1.0)

  -- the scratch of a call that was not 31
  pub long-begun : least ≤ length s
  long-begun = by-test (ltb (length s) least)
      (λ h. absurd (omega (arith, e, ap (λ (y : Outcome ℕ). y.number) (scratch-short s [] (and_then (examine d l) (λ a. got (record { size = 0; front = [] }))) (ltb-true (length s) least h)))))
      (λ h. ltb-false (length s) least h)

-- Any portions of a question that was begun, enough for all its rows: "each ends with the words and refusal of a single call", after
-- exactly the rows of one pass where 32 follows, and of two where it does not.
pub record InPortions (d : Bytes) (l : Lent) (s₀ : List ℕ) (lent : List ℤ) (cs : List Call) (s' : List ℕ) (o' : List ℤ) : Type 0 where
  pub accepted : Accepted
  pub is : examine d l ≡ got accepted
  pub whole : rows_in_all accepted lent ≤ given cs → EndsAsOne (rows_in_all accepted lent) cs (by_plan d l s₀ lent) s' o'

pub in-portions : (d : Bytes) (l : Lent) {s₀ s : List ℕ} {b : Reply} → BeginPost scratch_words d l s₀ s b → b.number ≡ 0 → (lent : List ℤ) → length lent < number_limit → (cs : List Call) → 0 < given cs → {s' : List ℕ} {o' : List ℤ} → Portions scratch_words d cs s lent s' o'
    → InPortions d l s₀ lent cs s' o'
in-portions d l {s₀} {s} {b} B z lent short cs some {s'} {o'} P =
    let n : (checked_with scratch_words d l s₀).number ≡ 0 = sym B.number ∙ z in
    let A = accepted-begun scratch_words d l s₀ n in
    let q : Pending = record { asked = l; accepted = A.0; lent = lent } in
    let U : Unfinished d q s lent (begun (task d q)) = B.begins z A.0 A.1 lent short in
    let e : rows_due (task d q) (begun (task d q)) ≡ rows_in_all A.0 lent = all-due d l A.0 lent U.asks.ready.tables in
    record {
      accepted = A.0;
      is = A.1;
      whole = λ m.
          subst (λ (x : Outcome ℤ). EndsAsOne (rows_in_all A.0 lent) cs x s' o') (same_outcome d l lent (long-begun scratch_words d l s₀ n) (B.spares z))
          (subst (λ (k : ℕ). EndsAsOne k cs (by_plan d l s lent) s' o') e (ends d q cs U (omega (arith, e, m)) some P));
    }

-- ---- several questions, each at a seat with its own scratch and buffer, over the same tables
-- a portion at a seat, or another call that was lent the scratch and buffer of a seat
pub data Turn : Type 0 where
  portion-at : ℕ → Call → Turn
  another-at : ℕ → Turn

abbrev pub seat_of : Turn → ℕ
seat_of (portion-at i c) = i
seat_of (another-at i) = i

-- what a portion leaves at its seat
abbrev pub Leaves : Bytes → Turn → List ℕ → List ℤ → List ℕ → List ℤ → Type 0
Leaves d (portion-at i c) s o s' o' = PortionPost scratch_words d c.rows s o s' o' c.said
Leaves d (another-at i) s o s' o' = Unit {0}

-- no call changes what another seat has
abbrev pub Interleaved : Bytes → List Turn → (ℕ → List ℕ) → (ℕ → List ℤ) → (ℕ → List ℕ) → (ℕ → List ℤ) → Type 0
Interleaved d [] s o s' o' = (i : ℕ) → (s' i ≡ s i) × (o' i ≡ o i)
Interleaved d (c ∷ cs) s o s' o' =
    (t : ℕ → List ℕ)
    × ((p : ℕ → List ℤ)
    × (Leaves d c (s (seat_of c)) (o (seat_of c)) (t (seat_of c)) (p (seat_of c))
    × (((i : ℕ) → (i ≡ seat_of c → ⊥) → (t i ≡ s i) × (p i ≡ o i))
    × Interleaved d cs t p s' o')))

-- the portions of a seat
abbrev pub own : ℕ → Turn → List Call → List Call
own i (portion-at j c) cs = pick (eqb i j) (c ∷ cs) cs
own i (another-at j) cs = cs

unfoldable pub portions_of : ℕ → List Turn → List Call
portions_of i [] = []
portions_of i (c ∷ cs) = own i c (portions_of i cs)

-- and it is lent to nothing else: take the turns from behind its begin
abbrev pub Undisturbed : ℕ → List Turn → Type 0
Undisturbed i [] = Unit {0}
Undisturbed i (portion-at j c ∷ cs) = Undisturbed i cs
Undisturbed i (another-at j ∷ cs) = (i ≡ j → ⊥) × Undisturbed i cs

-- "However their portions interleave", the portions of each seat are those of its question alone.
pub alone : (d : Bytes) (cs : List Turn) (s : ℕ → List ℕ) (o : ℕ → List ℤ) (s' : ℕ → List ℕ) (o' : ℕ → List ℤ) → Interleaved d cs s o s' o' → (i : ℕ) → Undisturbed i cs → Portions scratch_words d (portions_of i cs) (s i) (o i) (s' i) (o' i)
unfolding portions_of pick
alone d [] s o s' o' I i u = I i
alone d (portion-at j c ∷ cs) s o s' o' (t, (p, (F, (N, I)))) i u = go (eqb i j) refl (alone d cs t p s' o' I i u)
  where
    go : (b : Bool) → eqb i j ≡ b → Portions scratch_words d (portions_of i cs) (t i) (p i) (s' i) (o' i) → Portions scratch_words d (pick b (c ∷ portions_of i cs) (portions_of i cs)) (s i) (o i) (s' i) (o' i)
    go true h rest = (t i, (p i, (subst (λ (k : ℕ). PortionPost scratch_words d c.rows (s k) (o k) (t k) (p k) c.said) (sym (eqb-true i j h)) F, rest)))
    go false h rest =
        let n = N i (eqb-false i j h) in
        subst (λ (y : List ℤ). Portions scratch_words d (portions_of i cs) (s i) y (s' i) (o' i)) n.1 (subst (λ (y : List ℕ). Portions scratch_words d (portions_of i cs) y (p i) (s' i) (o' i)) n.0 rest)
alone d (another-at j ∷ cs) s o s' o' (t, (p, (F, (N, I)))) i (h, u) =
    let n = N i h in
    subst (λ (y : List ℤ). Portions scratch_words d (portions_of i cs) (s i) y (s' i) (o' i)) n.1 (subst (λ (y : List ℕ). Portions scratch_words d (portions_of i cs) y (p i) (s' i) (o' i)) n.0 (alone d cs t p s' o' I i u))

-- "However their portions interleave, each ends with the words and refusal of a single call alone."
pub interleaved : (d : Bytes) (l : Lent) (i : ℕ) (cs : List Turn) {s₀ : List ℕ} {b : Reply} (s : ℕ → List ℕ) (o : ℕ → List ℤ) (s' : ℕ → List ℕ) (o' : ℕ → List ℤ) → BeginPost scratch_words d l s₀ (s i) b → b.number ≡ 0 → length (o i) < number_limit
    → Interleaved d cs s o s' o' → Undisturbed i cs → 0 < given (portions_of i cs) → InPortions d l s₀ (o i) (portions_of i cs) (s' i) (o' i)
interleaved d l i cs s o s' o' B z short I u some = in-portions d l B z (o i) short (portions_of i cs) some (alone d cs s o s' o' I i u)
