-- From a question prepared in scratch to the outcome of answering with a tariff.
use mathlib.Core.Path.{◌≡◌, refl, sym, ap, ap₂, subst, ◌∙◌}
use mathlib.Core.Bool.{Bool, true, false, ◌&&◌}
use mathlib.Core.List.{List, [], ◌∷◌, ◌++◌, map}
use Prim.Native.Nat.{ℕ, suc, ◌+◌, ◌*◌, ◌^◌, ◌≤◌, ◌<◌, min}
use native.Mathlib.Omega.{arith}
use borrow.Author.Tests.{le-leb, lt-leb}
use lib.ListN.{length, drop}
use lib.IntN.{ℤ}
use Rattle.std.specs.Prelude.{Ok, Err}
use Rattle.spec_calculus.specs.Syntax.{of, bag}
use Rattle.spec_calculus.specs.Value.{Value, from_list, as_int, nth, field_of, elems}
use Rattle.spec_calculus.specs.Value as Va
use Rattle.spec_calculus.specs.Monoid.{canonical, raw}
use Rattle.spec_calculus.proofs.Lists.{All}
use Rattle.spec_calculus.proofs.Folds.{to-from}
use Rattle.spec_encoding.specs.Record.{Bytes, got, require}
use Rattle.spec_checks.specs.Types.{Ty, coll}
use Rattle.spec_checks.proofs.Refold.{arrange_as}
use Rattle.spec_normal_form.specs.Form.{as_form, normal_value}
use Rattle.spec_normal_form.proofs.RawArranged.{normal-arranged}
use Rattle.spec_outcome.specs.WrittenForm.{words}
use Rattle.spec_outcome.specs.Acceptance.{Lent, read_lent, posed_of, Accepted}
use Rattle.spec_outcome.specs.Outcome.{G, looped}
use Rattle.spec_outcome.specs.Gives.{Settles}
use Rattle.spec_tariff.specs.Tariff.{Tariff, last_upper, in_reach}
use Rattle.spec_tariff.specs.Dues.{draught_of, draughts_fit, ship_due, dues}
use Rattle.spec_tariff.specs.WithTariff.{charged}
use Rattle.spec_tariff.proofs.OrderUnseen.{bag-draughts, bag-dues}
use Rattle.base_signed.specs.Limit.{number_limit}
use Rattle.base_refusals.specs.declared.Refusal.TheVariants.{NotShipsAndDraughts, AnswerTooShort, DraughtOutOfRange}
use Rattle.base_signed.proofs.Limit.{bump-min}
use Rattle.form_words.specs.FormTree.{form_tree, left}
use Rattle.form_env.specs.Environment.{env_of, tables_in}
use Rattle.form_prepared.specs.PreparedQuestion.{Prepared}
use Rattle.form_prepared.specs.AnswerContract.{Asked}
use Rattle.form_prepared.proofs.SettledOutcome.{settles-refused, settles-got}
use Rattle.answer_writer.specs.LaidWords.{bump, cut_words}
use Rattle.answer_writer.specs.RecordFields.{filled}
use Rattle.answer_types.specs.Columns.{columns}
use Rattle.answer_types.specs.Shape.{type_of}
use Rattle.answer_types.specs.TypedValues.{Of, a_collection}
use Rattle.answer_types.proofs.RawValueType.{normal-of, to-all}
use Rattle.answer_canonical.proofs.ArrangedValues.{arrange-type}
use Rattle.answer_settle.proofs.PreparedQuestion.{held, form-is, well-formed, no-empty, solid}
use Rattle.answer_ships.specs.Contract.{ShipsPost}
use Rattle.answer_ships.proofs.PreparedShips.{ship_type, prepared-rooted, ships-asked, ships-at, ships-collection}
use Rattle.answer_dues.specs.Contract.{SettleDuesPost}
use Rattle.answer_dues.proofs.Laws.{ship-of, arrange-ships, ships-size}
use Rattle.loop_scalar.specs.Contract.{value_at, heads_at}
use Rattle.loop_collect.specs.Contract.{WritePre, WritePost, CollectPre}
use Rattle.loop_collect.proofs.Exits.{ready-collect}
use Rattle.loop_collect.proofs.ShapeMeanings.{shape-means}
use Rattle.loop_collect.proofs.TwoRuns.{laid-full}
use Rattle.loop_answer.proofs.ByLoopsOutcome.{asked-ready, raw-value-is, value-is}
use Rattle.loop_draughts.specs.declared.Judged.{Judged}
use Rattle.loop_draughts.specs.Contract.{second_word, Verdict, verdict, verdict_of, judge, judges, JudgePost}
use Rattle.loop_dues.specs.Contract.{DuesPost}

-- ---- what is judged of ships
-- a ship's second word is its draught
second-draught : (v : Value) → Of ship_type v → second_word v ≡ draught_of v
unfolding cut_words field_of nth as_int
second-draught v h = let S = ship-of v h in subst (λ (w : Value). second_word w ≡ draught_of w) (sym S.is) refl

count_in : Verdict → ℕ
count_in (verdict n b) = n

within_in : Verdict → Bool
within_in (verdict n b) = b

judged-count : (h : ℕ) (l : List Value) (n : ℕ) (b : Bool) → n ≤ number_limit → count_in (judges h l (verdict n b)) ≡ min (n + length l) number_limit
unfolding judges judge count_in
judged-count h [] n b k = omega arith
judged-count h (v ∷ l) n b k = judged-count h l (bump n) (b && in_reach h (second_word v)) (omega (arith, bump-min n k)) ∙ omega (arith, bump-min n k)

and_assoc : (a b c : Bool) → (a && b) && c ≡ a && (b && c)
and_assoc true b c = refl
and_assoc false b c = refl

judged-within : (t : Tariff) (l : List Value) (n : ℕ) (b : Bool) → All (Of ship_type) l → within_in (judges (last_upper t.steps) l (verdict n b)) ≡ b && draughts_fit t l
unfolding judges judge within_in draughts_fit
judged-within t [] n true h = refl
judged-within t [] n false h = refl
judged-within t (v ∷ l) n b h =
    judged-within t l (bump n) (b && in_reach (last_upper t.steps) (second_word v)) h.1
    ∙ ap (λ (x : ℤ). (b && in_reach (last_upper t.steps) x) && draughts_fit t l) (second-draught v h.0)
    ∙ and_assoc b (in_reach (last_upper t.steps) (draught_of v)) (draughts_fit t l)

-- ---- what is asked
module _ {d : Bytes} {s : List ℕ} (A : Asked d s) {b : Bool} (B : ShipsPost s b) (e : b ≡ true) where
  pub ready-judge : CollectPre d s 2 1
  ready-judge = ready-collect (record { form = (asked-ready A).form; held = (asked-ready A).held; below = omega arith }) (ships-collection B e)

  -- how many are judged is at most 2^62
  pub few : {h : ℕ} {x r : Judged} {s' : List ℕ} → x.count ≡ 0 → JudgePost d h s 1 x s' r → r.count ≤ number_limit
  unfolding count_in
  few {h} {x} {r} z J =
      let R = ready-judge in
      omega (arith, ap count_in (J.heads.is R.fuel R.enough), judged-count h (heads_at (tables_in d) R.fuel s 1 (env_of (tables_in d) s)) x.count x.within (omega (arith, z)))

  pub ready-write : {g : ℕ} {s' : List ℕ} → s' ≡ s → g ≤ number_limit → WritePre d s' g 0
  ready-write {g} k l = subst (λ (x : List ℕ). WritePre d x g 0) (sym k) (record { form = (asked-ready A).form; held = (asked-ready A).held; below = l })

-- ---- a question that gives ships
module _ {d : Bytes} {a : Accepted} {s : List ℕ} (P : Prepared d a s) (q : Lent) (r : read_lent q ≡ got (posed_of a)) {b : Bool} (B : ShipsPost s b) where
  module _ (e : b ≡ true) where
    -- the heads, at enough fuel
    abbrev heads : List Value
    heads = heads_at (tables_in d) (suc (left 0)) s 1 (env_of (tables_in d) s)

    raw-heads : normal_value raw a.tables a.form ≡ Va.coll (from_list heads)
    unfolding form_tree
    raw-heads = sym (raw-value-is P (suc (suc (left 0))) (omega arith)) ∙ (shape-means (held P) 0 (ships-collection B e) (suc (left 0))).is

    ships-typed : type_of (columns s) (as_form a.form) ≡ coll bag ship_type
    ships-typed = ap (type_of (columns s)) (sym (form-is P (suc (left 0)) (omega arith))) ∙ ships-at B e (suc (left 0)) (omega arith)

    all-ships : All (Of ship_type) heads
    all-ships = go (subst (Of (coll bag ship_type)) raw-heads (subst (λ (t : Ty). Of t (normal_value raw a.tables a.form)) ships-typed (normal-of (well-formed P) (columns s) a.form (solid P q r) (prepared-rooted P))))
      where
        go : Of (coll bag ship_type) (Va.coll (from_list heads)) → All (Of ship_type) heads
        go (a_collection c h) = subst (All (Of ship_type)) (to-from heads) (to-all h)

    -- the value of the question as typed: the bag of the heads
    value-ships : looped a ≡ canonical (of bag) heads
    value-ships =
        sym (value-is P) ∙ normal-arranged a.tables a.form
        ∙ sym (arrange-type (columns s) (as_form a.form) (normal_value raw a.tables a.form))
        ∙ ap₂ (λ (t : Ty) (v : Value). arrange_as t v) ships-typed raw-heads ∙ arrange-ships heads

    -- "length = G = 1 + 2 rows"
    size-G : G a ≡ 1 + 2 * length heads
    unfolding G
    size-G = ap (λ (v : Value). length (words v)) raw-heads ∙ ships-size heads all-ships

    fit_is : (t : Tariff) → draughts_fit t (elems (looped a)) ≡ draughts_fit t heads
    fit_is t = ap (λ (v : Value). draughts_fit t (elems v)) value-ships ∙ bag-draughts t heads

    dues-is : (t : Tariff) → dues t (looped a) ≡ canonical (of bag) (map (ship_due t) heads)
    dues-is t = ap (dues t) value-ships ∙ bag-dues t heads

  -- ---- 45
  module _ (t : Tariff) (o : List ℤ) where
    settles-unfit : b ≡ false → Settles (charged o t a) o 45 0 o
    unfolding charged require
    settles-unfit e = rw (sym (ships-asked P B) ∙ e) (settles-refused 45 refl)

    module _ (e : b ≡ true) {x y : Judged} {s' : List ℕ} (z : x.count ≡ 0) (w : x.within ≡ true) (J : JudgePost d (last_upper t.steps) s 1 x s' y) where
      judged : verdict_of y ≡ judges (last_upper t.steps) (heads e) (verdict 0 true)
      judged = J.heads.is (suc (left 0)) (omega arith) ∙ ap₂ (λ (n : ℕ) (c : Bool). judges (last_upper t.steps) (heads e) (verdict n c)) z w

      count-is : y.count ≡ min (length (heads e)) number_limit
      unfolding count_in
      count-is = ap count_in judged ∙ judged-count (last_upper t.steps) (heads e) 0 true (omega arith) ∙ omega arith

      within-is : y.within ≡ draughts_fit t (elems (looped a))
      unfolding within_in
      within-is = ap within_in judged ∙ judged-within t (heads e) 0 true (all-ships e) ∙ sym (fit_is e t)

      -- ---- 32
      settles-short : length o < 1 + 2 * y.count → Settles (charged o t a) o 32 0 o
      unfolding charged require
      settles-short l = rw (sym (ships-asked P B) ∙ e, lt-leb (G a) (length o) (omega (arith, size-G e, count-is))) (settles-refused 32 refl)

      module _ (m : length o < 2 ^ 62) (l : 1 + 2 * y.count ≤ length o) where
        count-all : y.count ≡ length (heads e)
        count-all = omega (arith, count-is)

        room : G a ≤ length o
        room = omega (arith, size-G e, count-all)

        -- ---- 46
        settles-beyond : y.within ≡ false → Settles (charged o t a) o 46 0 o
        unfolding charged require
        settles-beyond f = rw (sym (ships-asked P B) ∙ e, le-leb (G a) (length o) room, sym within-is ∙ f) (settles-refused 46 refl)

        -- ---- the dues
        module _ (f : y.within ≡ true) {s₁ : List ℕ} {o₁ o₂ : List ℤ} {g k n : ℕ} (E : g ≡ 1 + 2 * y.count) (W : WritePost d g s o 0 0 s₁ o₁ k) (D : SettleDuesPost s t y.count o₁ o₂ n) where
          raw-words : o₁ ≡ words (Va.coll (from_list (heads e))) ++ drop (G a) o
          unfolding G
          raw-words =
              let v : value_at (tables_in d) (suc (left 0)) s 0 ≡ Va.coll (from_list (heads e)) = raw-value-is P (suc (left 0)) (omega arith) ∙ raw-heads e in
              laid-full (held P) (suc (left 0)) g o (ap filled (form-is P (suc (left 0)) (omega arith)) ∙ no-empty P q r)
              (omega (arith, E, count-all, ap (λ (u : Value). length (words u)) v, ships-size (heads e) (all-ships e))) (omega (arith, E)) (omega (arith, E)) (W.is (suc (left 0)) (omega arith))
              ∙ ap (λ (u : Value). words u ++ drop (length (words u)) o) v
              ∙ ap (λ (u : Value). words (Va.coll (from_list (heads e))) ++ drop (length (words u)) o) (sym (raw-heads e))

          settles-dues : Settles (charged o t a) o 0 n o₂
          unfolding charged require
          settles-dues =
              let (p, c, u) = D.is (suc (left 0)) (omega arith) (ships-at B e (suc (left 0)) (omega arith)) (heads e) (sym count-all) (all-ships e) (drop (G a) o) raw-words in
              let same = dues-is e t in
              let size : length (words (dues t (looped a))) ≡ G a = ap (λ (v : Value). length (words v)) same ∙ u ∙ ships-size (heads e) (all-ships e) ∙ sym (size-G e) in
              rw (sym (ships-asked P B) ∙ e, le-leb (G a) (length o) room, sym within-is ∙ f)
              (settles-got (record { size = length (words (dues t (looped a))); front = words (dues t (looped a)) })
              (c ∙ ap (λ (v : Value). length (words v)) (sym same))
              (p ∙ ap₂ (λ (v : Value) (j : ℕ). words v ++ drop j o) (sym same) (sym size)))

-- ---- the ways out
module _ (t : Tariff) {d : Bytes} {s : List ℕ} (o : List ℤ) {b : Bool} (B : ShipsPost s b) where
  pub answers-unfit : b ≡ false → DuesPost t d s o s o (Err NotShipsAndDraughts)
  answers-unfit e = record { is = λ q a r P. settles-unfit P q r B t o e; kept = refl }

  module _ (e : b ≡ true) {h : ℕ} (H : h ≡ last_upper t.steps) {x y : Judged} {s₁ : List ℕ} (z : x.count ≡ 0) (w : x.within ≡ true) (J : JudgePost d h s 1 x s₁ y) where
    by-tariff : JudgePost d (last_upper t.steps) s 1 x s₁ y
    by-tariff = subst (λ (k : ℕ). JudgePost d k s 1 x s₁ y) H J

    pub answers-short : length o < 1 + 2 * y.count → DuesPost t d s o s₁ o (Err AnswerTooShort)
    answers-short l = record { is = λ q a r P. settles-short P q r B t o e z w by-tariff l; kept = J.heads.kept }

    module _ (m : length o < 2 ^ 62) (l : 1 + 2 * y.count ≤ length o) where
      pub answers-beyond : y.within ≡ false → DuesPost t d s o s₁ o (Err DraughtOutOfRange)
      answers-beyond f = record { is = λ q a r P. settles-beyond P q r B t o e z w by-tariff m l f; kept = J.heads.kept }

      pub answers-dues : y.within ≡ true → {s₂ : List ℕ} {o₁ o₂ : List ℤ} {k n : ℕ} → WritePost d (1 + 2 * y.count) s₁ o 0 0 s₂ o₁ k → SettleDuesPost s₂ t y.count o₁ o₂ n → DuesPost t d s o s₂ o₂ (Ok n)
      answers-dues f {s₂} {o₁} {o₂} {k} {n} W D = record {
        is = λ q a r P. settles-dues P q r B t o e z w by-tariff m l f refl
            (subst (λ (x : List ℕ). WritePost d (1 + 2 * y.count) x o 0 0 s₂ o₁ k) J.heads.kept W)
            (subst (λ (x : List ℕ). SettleDuesPost x t y.count o₁ o₂ n) (W.kept ∙ J.heads.kept) D);
        kept = W.kept ∙ J.heads.kept;
      }
