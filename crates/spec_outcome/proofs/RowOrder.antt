-- "Survey order must not show" (document 02, E14), over the outcomes.
use mathlib.Core.Path.{◌≡◌, refl, sym, ap, ap₂, subst, ◌∙◌, fun_ext}
use mathlib.Core.List.{List, [], ◌∷◌, ◌++◌, append_assoc}
use mathlib.Core.Bool.{Bool, true, false, true≢false}
use Prim.Native.Nat.{ℕ, zero, suc, ◌-◌, ◌≤◌}
use native.Mathlib.Omega.{arith}
use borrow.Author.Tests.{ltb-true, ltb-false, le-leb}
use lib.Dec.{eqb, ltb, leb}
use lib.ListN.{length, get_or, take, drop, replicate}
use lib.Seq.{take_at}
use lib.IntN.{ℤ, pos}
use Rattle.spec_calculus.specs.Syntax.{Collection, list, bag, set, Monoid, of, Question, as_term}
use Rattle.spec_calculus.specs.Value.{Value, junk, coll, from_list, Tables, no_table, kind_of, columns_of, bound_of, rows_of}
use Rattle.spec_calculus.specs.Order.{le_v}
use Rattle.spec_calculus.specs.Monoid.{canonical, raw}
use Rattle.spec_calculus.specs.Meaning.{meaning}
use Rattle.spec_calculus.specs.Rearrangement.{Rearranged, reorder, Alike}
use Rattle.spec_calculus.proofs.Sorting.{rearranged-path, insert-rearranged}
use Rattle.spec_calculus.proofs.Folds.{alike-arranged, canonical-of}
use Rattle.spec_calculus.proofs.StoredTables.{eval-same}
use Rattle.spec_encoding.specs.Record.{Bytes, Result, refused, got, and_then, require}
use Rattle.spec_encoding.specs.Data.{read_data}
use Rattle.spec_encoding.proofs.Refusals.{Only}
use Rattle.spec_checks.specs.Scope.{names_hold}
use Rattle.spec_checks.specs.Calendars.{calendars_lent}
use Rattle.spec_checks.specs.Types.{wrong, type_of, may_stand, is_typed, types_fit, generators_fit}
use Rattle.spec_checks.proofs.StoredTables.{type-same}
use Rattle.spec_normal_form.specs.Form.{NormalForm, as_form, normal_value}
use Rattle.spec_normal_form.specs.Normal.{normal}
use Rattle.spec_normal_form.specs.Size.{size_fits}
use Rattle.spec_normal_form.specs.Bound.{numbers_fit}
use Rattle.spec_normal_form.proofs.StoredTables.{sorted, value-sorted}
use Rattle.spec_plan.specs.Planner.{plan_of}
use Rattle.spec_plan.specs.Lines.{lines}
use Rattle.spec_outcome.specs.WrittenForm.{words}
use Rattle.spec_outcome.specs.Acceptance.{Lent, Posed, read_lent, Accepted, judge, examine}
use Rattle.spec_outcome.specs.Outcome.{Outcome, Answer, scratch_words, settled, with_scratch, G, written, answered, looped, by_loops, by_plan, checked, printed, plan_lines}
use Rattle.spec_outcome.specs.RowOrder.{Reordered, Restated, Restates, Rereads, Way, looping, planning, by, SameWords}
use Rattle.spec_outcome.proofs.AnswerLength.{Keeping, kept-length}
use Rattle.spec_outcome.proofs.CheckOrder.{data-refused, unread, judged-as}
use Rattle.spec_outcome.proofs.Checks.{examine-only}
use Rattle.spec_outcome.proofs.Agreement.{same_outcome, words_of, scratch-short, scratch-long}

-- ---- two states of the tables, by number
reordered-alike : (c : Collection) (l m : List Value) → Reordered c l m → Alike c l m
reordered-alike list l m h = h
reordered-alike bag l m h = h
reordered-alike set l m h = reorder h

pub reordered-restates : (T U : Tables) → Restates Reordered T U → Restates Alike T U
reordered-restates [] [] h = tt
reordered-restates [] (u ∷ U) h = h
reordered-restates (t ∷ T) [] h = h
reordered-restates (t ∷ T) (u ∷ U) h = (record { kind = h.0.kind; columns = h.0.columns; bounds = h.0.bounds; rows = reordered-alike t.kind t.rows u.rows h.0.rows }, reordered-restates T U h.1)

module _ (R : Collection → List Value → List Value → Type 0) (none : R list [] []) where
  restated-at : (T U : Tables) → Restates R T U → (k : ℕ) → Restated R (get_or T k no_table) (get_or U k no_table)
  restated-at [] [] h k = record { kind = refl; columns = refl; bounds = refl; rows = none }
  restated-at [] (u ∷ U) h k = absurd h
  restated-at (t ∷ T) [] h k = absurd h
  restated-at (t ∷ T) (u ∷ U) h zero = h.0
  restated-at (t ∷ T) (u ∷ U) h (suc k) = restated-at T U h.1 k

-- ---- G
sorted-keeps : Keeping sorted
unfolding sorted
sorted-keeps c v l = insert-rearranged le_v v l

-- The raw value is as long in both states.
raw-length : (T U : Tables) → ((k : ℕ) → Rearranged (rows_of T k) (rows_of U k)) → (f : NormalForm) → length (words (normal_value raw T f)) ≡ length (words (normal_value raw U f))
unfolding normal_value
raw-length T U rows f = sym (kept-length sorted sorted-keeps T f) ∙ ap (λ v. length (words v)) (value-sorted T U rows (as_form f) (λ g. junk)) ∙ kept-length sorted sorted-keeps U f

-- ---- the checks: both states pass or fail them alike
-- what the checks hand on of a question over tables
abbrev pub accepted : Tables → Posed → Accepted
accepted T p = record { tables = T; lent = p.lent; question = p.question; form = normal (kind_of T) p.question }

abbrev tests : Bool → Bool → Bool → Bool → Bool → Bool → Accepted → Result Accepted
tests n t c g z m a = require 24 n (require 25 t (require 42 c (require 26 g (require 27 z (require 28 m (got a))))))

module _ (T U : Tables) (S : Restates Alike T U) where
  kinds-same : (k : ℕ) → kind_of T k ≡ kind_of U k
  unfolding kind_of
  kinds-same k = (restated-at Alike refl T U S k).kind

  columns-same : (k : ℕ) → columns_of T k ≡ columns_of U k
  unfolding columns_of
  columns-same k = (restated-at Alike refl T U S k).columns

  bounds-same : bound_of T ≡ bound_of U
  unfolding bound_of
  bounds-same = fun_ext λ k. fun_ext λ i. ap (λ b. get_or b i 0) (restated-at Alike refl T U S k).bounds

  rows_alike : (k : ℕ) → Alike (kind_of T k) (rows_of T k) (rows_of U k)
  unfolding kind_of rows_of
  rows_alike k = (restated-at Alike refl T U S k).rows

  form-same : (q : Question) → normal (kind_of T) q ≡ normal (kind_of U) q
  form-same q = ap (λ K. normal K q) (fun_ext kinds-same)

  -- A question's value is the same in both states.
  pub value_same : (q : Question) → meaning canonical T q ≡ meaning canonical U q
  unfolding meaning
  value_same q = eval-same T U (λ k.
      canonical-of (kind_of T k) (rows_of T k)
      ∙ ap (λ l. coll (from_list l)) (alike-arranged (kind_of T k) (rows_of T k) (rows_of U k) (rows_alike k))
      ∙ sym (canonical-of (kind_of T k) (rows_of U k))
      ∙ ap (λ c. canonical (of c) (rows_of U k)) (kinds-same k)) (as_term q) (λ x. junk)

  pub typed-same : (J : Collection → Monoid → Bool) (q : Question) → type_of J T (as_term q) (λ x. wrong) ≡ type_of J U (as_term q) (λ x. wrong)
  typed-same J q = type-same J T U kinds-same columns-same (as_term q) (λ x. wrong)

  judge-as : (p : Posed) → let q = p.question in judge U p.lent q ≡ tests (names_hold q) (types_fit T q) (calendars_lent p.lent q) (generators_fit T q) (size_fits (normal (kind_of T) q)) (numbers_fit (bound_of T) (normal (kind_of T) q)) (accepted U p)
  unfolding judge types_fit generators_fit
  judge-as p =
      let q = p.question in
      let c = calendars_lent p.lent q in
      sym (
      ap (λ b. tests (names_hold q) b c (generators_fit T q) (size_fits (normal (kind_of T) q)) (numbers_fit (bound_of T) (normal (kind_of T) q)) (accepted U p)) (ap is_typed (typed-same (λ c m. true) q))
      ∙ ap (λ b. tests (names_hold q) (types_fit U q) c b (size_fits (normal (kind_of T) q)) (numbers_fit (bound_of T) (normal (kind_of T) q)) (accepted U p)) (ap is_typed (typed-same may_stand q))
      ∙ ap (λ f. tests (names_hold q) (types_fit U q) c (generators_fit U q) (size_fits f) (numbers_fit (bound_of T) f) (accepted U p)) (form-same q)
      ∙ ap (λ B. tests (names_hold q) (types_fit U q) c (generators_fit U q) (size_fits (normal (kind_of U) q)) (numbers_fit B (normal (kind_of U) q)) (accepted U p)) bounds-same)

  -- what holds of equal refusals and of what k and k' make of an accepted question holds of what they make of any
  module _ {A : Type 0} (P : Result A → Result A → Type 0) (refusals : (n : ℕ) → P (refused n) (refused n)) (k k' : Accepted → Result A) (h : (p : Posed) → P (k (accepted T p)) (k' (accepted U p))) where
    tests-both : (n t c g z m : Bool) (x y : Accepted) → P (k x) (k' y) → P (and_then (tests n t c g z m x) k) (and_then (tests n t c g z m y) k')
    unfolding and_then require
    tests-both false t c g z m x y p = refusals 24
    tests-both true false c g z m x y p = refusals 25
    tests-both true true false g z m x y p = refusals 42
    tests-both true true true false z m x y p = refusals 26
    tests-both true true true true false m x y p = refusals 27
    tests-both true true true true true false x y p = refusals 28
    tests-both true true true true true true x y p = p

    judged-both : (p : Posed) → P (and_then (judge T p.lent p.question) k) (and_then (judge U p.lent p.question) k')
    unfolding judge
    judged-both p =
        let q = p.question in
        subst (λ r. P (and_then (judge T p.lent q) k) (and_then r k')) (sym (judge-as p))
        (tests-both (names_hold q) (types_fit T q) (calendars_lent p.lent q) (generators_fit T q) (size_fits (normal (kind_of T) q)) (numbers_fit (bound_of T) (normal (kind_of T) q)) (accepted T p) (accepted U p) (h p))

-- ---- data that are refused alike, or read as tables in two states
module _ (R : Collection → List Value → List Value → Type 0) (R-alike : (T U : Tables) → Restates R T U → Restates Alike T U) {A : Type 0} (P : Result A → Result A → Type 0) (refusals : (n : ℕ) → P (refused n) (refused n))
    (k k' : Accepted → Result A) (h : (T U : Tables) → Restates R T U → (p : Posed) → P (k (accepted T p)) (k' (accepted U p))) (d d' : Bytes) (l : Lent) where
  read-both : {T U : Tables} → read_data d ≡ got T → read_data d' ≡ got U → Restates R T U → P (and_then (examine d l) k) (and_then (examine d' l) k')
  unfolding and_then
  read-both {T} {U} t u S = go (read_lent l) refl
    where
      go : (r : Result Posed) → read_lent l ≡ r → P (and_then (examine d l) k) (and_then (examine d' l) k')
      go (refused n) e = rw (unread d l t e, unread d' l u e) (refusals n)
      go (got p) e = rw (judged-as d l t e, judged-as d' l u e) (judged-both T U (R-alike T U S) P refusals k k' (h T U S) p)

  examined-both : Rereads R (read_data d) (read_data d') → P (and_then (examine d l) k) (and_then (examine d' l) k')
  unfolding and_then
  examined-both = go (read_data d) (read_data d') refl refl
    where
      go : (x y : Result Tables) → read_data d ≡ x → read_data d' ≡ y → Rereads R x y → P (and_then (examine d l) k) (and_then (examine d' l) k')
      go (refused m) (refused n) t u e = rw (data-refused d l t, data-refused d' l u, e) (refusals n)
      go (refused m) (got U) t u e = absurd e
      go (got T) (refused n) t u e = absurd e
      go (got T) (got U) t u S = read-both t u S

-- ---- "Show that rearranging the rows of any bag or set table changes no answer word or refusal, by loops or by plan"
module _ (T U : Tables) (S : Restates Reordered T U) where
  rows-rearranged : (k : ℕ) → Rearranged (rows_of T k) (rows_of U k)
  unfolding rows_of
  rows-rearranged k = let r = restated-at Reordered refl T U S k in go (get_or T k no_table).kind r.rows
    where
      go : (c : Collection) {l m : List Value} → Reordered c l m → Rearranged l m
      go list e = rearranged-path e
      go bag e = e
      go set e = e

  pub G-same : (p : Posed) → G (accepted T p) ≡ G (accepted U p)
  unfolding G
  G-same p = raw-length T U rows-rearranged (normal (kind_of T) p.question) ∙ ap (λ f. length (words (normal_value raw U f))) (form-same T U (reordered-restates T U S) p.question)

  written_same : (b : List ℤ) (p : Posed) → written looped b (accepted T p) ≡ written looped b (accepted U p)
  unfolding written
  written_same b p = ap₂ (λ v g. require 32 (leb g (length b)) (got (record { size = length (words v); front = words v ++ replicate (g - length (words v)) (pos 0) })))
      (value_same T U (reordered-restates T U S) p.question) (G-same p)

  printed-same : (b : List ℕ) (p : Posed) → printed b (accepted T p) ≡ printed b (accepted U p)
  unfolding printed
  printed-same b p = ap (λ f. require 33 (leb (length (lines (plan_of f))) (length b)) (got (record { size = length (lines (plan_of f)); front = lines (plan_of f) }))) (form-same T U (reordered-restates T U S) p.question)

-- Whatever else is lent, number, length, buffer and scratch are the same, by loops, by plan, from the checker and from the plan call.
module _ (d d' : Bytes) (l : Lent) (S : Rereads Reordered (read_data d) (read_data d')) where
  pub same-results : {A : Type 0} (k : Accepted → Result A) → ((T U : Tables) → Restates Reordered T U → (p : Posed) → k (accepted T p) ≡ k (accepted U p)) → and_then (examine d l) k ≡ and_then (examine d' l) k
  same-results k h = examined-both Reordered reordered-restates (λ x y. x ≡ y) (λ n. refl) k k h d d' l S

  loops-ordered : (s : List ℕ) (b : List ℤ) → by_loops d l s b ≡ by_loops d' l s b
  unfolding by_loops answered
  loops-ordered s b = ap (with_scratch scratch_words s b) (same-results (written looped b) (λ T U R. written_same T U R b))

  pub any_order : (w : Way) (s : List ℕ) (b : List ℤ) → by w d l s b ≡ by w d' l s b
  any_order looping s b = loops-ordered s b
  any_order planning s b = same_outcome d l s b ∙ loops-ordered s b ∙ sym (same_outcome d' l s b)

  pub any-order-checked : (s : List ℕ) → checked d l s ≡ checked d' l s
  unfolding checked
  any-order-checked s = ap (with_scratch scratch_words s []) (same-results (λ a. got (record { size = 0; front = [] })) (λ T U R q. refl))

  pub any-order-lines : (s b : List ℕ) → plan_lines d l s b ≡ plan_lines d' l s b
  unfolding plan_lines
  any-order-lines s b = ap (with_scratch scratch_words s b) (same-results (printed b) (λ T U R. printed-same T U R b))

-- ---- "and that repeating a row of a set table, within 1,024 rows, changes neither the answer's length nor a word before it, where the
-- buffer suffices in both states"
-- two results that are one refusal, or answers of one length with the same words before it
abbrev SameAnswer : Result (Answer ℤ) → Result (Answer ℤ) → Type 0
SameAnswer (refused m) (refused n) = m ≡ n
SameAnswer (refused m) (got y) = ⊥
SameAnswer (got x) (refused n) = ⊥
SameAnswer (got x) (got y) = (x.size ≡ y.size) × ((c c' : List ℤ) → take x.size (x.front ++ c) ≡ take y.size (y.front ++ c'))

abbrev Suffices : Result (Answer ℤ) → Type 0
Suffices r = Only (λ n. n ≡ 32 → ⊥) r

written-answers : (v : Accepted → Value) (b b' : List ℤ) (x y : Accepted) → v x ≡ v y → Suffices (written v b x) → Suffices (written v b' y) → SameAnswer (written v b x) (written v b' y)
unfolding written require
written-answers v b b' x y e = go (leb (G x) (length b)) (leb (G y) (length b'))
  where
    front : Value → ℕ → List ℤ
    front w g = words w ++ replicate (g - length (words w)) (pos 0)

    whole : (w : Value) (g : ℕ) (c : List ℤ) → take (length (words w)) (front w g ++ c) ≡ words w
    whole w g c = ap (take (length (words w))) (append_assoc (words w) (replicate (g - length (words w)) (pos 0)) c) ∙ take_at (words w) (replicate (g - length (words w)) (pos 0) ++ c) (length (words w)) refl

    go : (p q : Bool)
        → Suffices (require 32 p (got (record { size = length (words (v x)); front = front (v x) (G x) }))) → Suffices (require 32 q (got (record { size = length (words (v y)); front = front (v y) (G y) })))
        → SameAnswer (require 32 p (got (record { size = length (words (v x)); front = front (v x) (G x) }))) (require 32 q (got (record { size = length (words (v y)); front = front (v y) (G y) })))
    go false q h k = absurd (h refl)
    go true false h k = absurd (k refl)
    go true true h k = (ap (λ w. length (words w)) e, λ c c'. whole (v x) (G x) c ∙ ap words e ∙ sym (whole (v y) (G y) c'))

settled-words : (s s' : List ℕ) (b b' : List ℤ) (x y : Result (Answer ℤ)) → (Suffices x → Suffices y → SameAnswer x y)
    → ((settled scratch_words s b x).number ≡ 32 → ⊥) → ((settled scratch_words s' b' y).number ≡ 32 → ⊥) → SameWords (settled scratch_words s b x) (settled scratch_words s' b' y)
unfolding settled
settled-words s s' b b' (refused m) (refused n) a h k = record { numbers = a h k; sizes = refl; answers = refl }
settled-words s s' b b' (refused m) (got y) a h k = absurd (a h tt)
settled-words s s' b b' (got x) (refused n) a h k = absurd (a tt k)
settled-words s s' b b' (got x) (got y) a h k = let p = a tt tt in record { numbers = refl; sizes = p.0; answers = p.1 (drop (length x.front) b) (drop (length y.front) b') }

scratch-words : (s s' : List ℕ) (b b' : List ℤ) (x y : Result (Answer ℤ)) → length s ≡ length s' → (Suffices x → Suffices y → SameAnswer x y)
    → ((with_scratch scratch_words s b x).number ≡ 32 → ⊥) → ((with_scratch scratch_words s' b' y).number ≡ 32 → ⊥) → SameWords (with_scratch scratch_words s b x) (with_scratch scratch_words s' b' y)
scratch-words s s' b b' x y e a = go (ltb (length s) scratch_words) refl
  where
    go : (c : Bool) → ltb (length s) scratch_words ≡ c → ((with_scratch scratch_words s b x).number ≡ 32 → ⊥) → ((with_scratch scratch_words s' b' y).number ≡ 32 → ⊥) → SameWords (with_scratch scratch_words s b x) (with_scratch scratch_words s' b' y)
    go true p = let m = ltb-true (length s) scratch_words p in rw (scratch-short s b x m, scratch-short {least = scratch_words} s' b' y (omega (arith, e, m))) (λ h k. record { numbers = refl; sizes = refl; answers = refl })
    go false p = let m = ltb-false (length s) scratch_words p in rw (scratch-long s b x m, scratch-long {least = scratch_words} s' b' y (omega (arith, e, m))) (settled-words s s' b b' x y a)

-- a buffer of G words or more is not refused by 32
module _ (d : Bytes) (l : Lent) (s : List ℕ) (b : List ℤ) (g : words_of (examine d l) ≤ length b) where
  written-else : (r : Result Accepted) → words_of r ≤ length b → Only (λ n. eqb n 32 ≡ false) r → Only (λ n. eqb n 32 ≡ false) (and_then r (written looped b))
  unfolding and_then written words_of require
  written-else (refused n) h o = o
  written-else (got a) h o = rw (le-leb (G a) (length b) h) tt

  settled-else : (x : Result (Answer ℤ)) → Only (λ n. eqb n 32 ≡ false) x → eqb (settled scratch_words s b x).number 32 ≡ false
  unfolding settled
  settled-else (refused n) o = o
  settled-else (got a) o = refl

  loops-suffice : (by_loops d l s b).number ≡ 32 → ⊥
  unfolding by_loops answered
  loops-suffice e = true≢false (sym (ap (λ n. eqb n 32) e) ∙ go (ltb (length s) scratch_words) refl)
    where
      other : Only (λ n. eqb n 32 ≡ false) (and_then (examine d l) (written looped b))
      other = written-else (examine d l) g (examine-only (λ n. eqb n 32 ≡ false) (refl, (refl, (refl, (refl, (refl, (refl, (refl, (refl, (refl, (refl, (refl, (refl, (refl, (refl, (refl, (refl, tt)))))))))))))))) d l)

      go : (c : Bool) → ltb (length s) scratch_words ≡ c → eqb (with_scratch scratch_words s b (and_then (examine d l) (written looped b))).number 32 ≡ false
      go true p = ap (λ (o : Outcome ℤ). eqb o.number 32) (scratch-short s b (and_then (examine d l) (written looped b)) (ltb-true (length s) scratch_words p))
      go false p = ap (λ (o : Outcome ℤ). eqb o.number 32) (scratch-long s b (and_then (examine d l) (written looped b)) (ltb-false (length s) scratch_words p)) ∙ settled-else (and_then (examine d l) (written looped b)) other

-- The buffers may be of any two lengths, if each has room for its state's G words.
module _ (d d' : Bytes) (l : Lent) (S : Rereads Alike (read_data d) (read_data d')) (s s' : List ℕ) (b b' : List ℤ) (e : length s ≡ length s') (g : words_of (examine d l) ≤ length b) (g' : words_of (examine d' l) ≤ length b') where
  loops-repeated : SameWords (by_loops d l s b) (by_loops d' l s' b')
  unfolding by_loops answered
  loops-repeated = scratch-words s s' b b' (and_then (examine d l) (written looped b)) (and_then (examine d' l) (written looped b')) e
      (examined-both Alike (λ T U R. R) (λ x y. Suffices x → Suffices y → SameAnswer x y) (λ n h k. refl) (written looped b) (written looped b')
      (λ T U R p. written-answers looped b b' (accepted T p) (accepted U p) (value_same T U R p.question)) d d' l S)
      (loops-suffice d l s b g) (loops-suffice d' l s' b' g')

  pub any-repeats : (w : Way) → SameWords (by w d l s b) (by w d' l s' b')
  any-repeats looping = loops-repeated
  any-repeats planning = rw (same_outcome d l s b, same_outcome d' l s' b') loops-repeated
