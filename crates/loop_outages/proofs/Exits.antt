-- One law for each way out of the functions, and for what each call asks.
use mathlib.Core.Path.{◌≡◌, refl, sym, ap, ap₂, subst, ◌∙◌}
use mathlib.Core.List.{List, [], ◌∷◌}
use mathlib.Core.Bool.{Bool, true, false}
use Prim.Native.Nat.{ℕ, ◌+◌, ◌-◌, ◌^◌, ◌≤◌, ◌<◌}
use native.Mathlib.Nat.{pow-le-pow_right}
use native.Mathlib.Numerals.{add-one}
use native.Mathlib.Omega.{arith}
use borrow.Author.Tests.{leb-true}
use lib.Dec.{leb}
use lib.ListN.{length, get_or, set, drop, length-set}
use lib.Seq.{get_or-set_other, set-set}
use lib.IntN.{ℤ, pos, nat_abs}
use Rattle.std.specs.Prelude.{Option, Some, None, Ok, Err}
use Rattle.spec_calculus.specs.Lists.{pick}
use Rattle.spec_calculus.specs.Syntax as Sy
use Rattle.spec_calculus.specs.Value.{Tables, as_bool}
use Rattle.spec_encoding.specs.Record.{Bytes}
use Rattle.spec_outages.specs.Outages.{asks_truth}
use Rattle.base_signed.proofs.SignedWords.{no}
use Rattle.base_refusals.specs.declared.Refusal.TheVariants.{AnswerTooShort, NeitherSomeNorAll, OutageTableOutOfRange}
use Rattle.base_syntax.specs.declared.Monoid.{Monoid}
use Rattle.base_syntax.specs.MonoidWord.{monoid_of}
use Rattle.base_tables.specs.Description.{rows_in, subset_in, subset_rows, without_in, table_in, present_in}
use Rattle.form_words.specs.Look.{MonoidOfPost}
use Rattle.form_words.specs.FormTree.{left}
use Rattle.form_env.specs.Environment.{Held}
use Rattle.form_arith.specs.declared.Sort.{Sort}
use Rattle.form_arith.specs.declared.Sort.TheVariants.{Truth}
use Rattle.form_arith.specs.WordSorts.{is_same, sort_of, truth_word}
use Rattle.form_prepared.specs.AnswerContract.{Asked}
use Rattle.loop_scalar.specs.Contract.{value_at, Evaluable, ScalarPost}
use Rattle.loop_outages.specs.Contract.{truth_read, truth_asked, countable_in, leaving, HoldsPre, HoldsPost, count_to, TruthsPre, TruthsPost, CountPost}
use Rattle.loop_outages.proofs.Outcome.{settles-monoid, settles-table, settles-room, truths-pre, settles-counts}

-- ---- asks_truth
sorts-truth : (m : Sy.Monoid) → is_same (sort_of m) Truth ≡ asks_truth m
unfolding asks_truth
sorts-truth (Sy.of c) = refl
sorts-truth Sy.sum = refl
sorts-truth Sy.max = refl
sorts-truth Sy.min = refl
sorts-truth Sy.some = refl
sorts-truth Sy.all = refl

module _ {s : List ℕ} {r : Option Monoid} (M : MonoidOfPost s 0 r) where
  pub asks-sort : {m : Monoid} {k : Sort} {b : Bool} → r ≡ Some m → k ≡ sort_of (monoid_of m) → b ≡ is_same k Truth → b ≡ truth_asked s
  unfolding truth_read
  asks-sort {m} e K B = B ∙ ap (λ (x : Sort). is_same x Truth) K ∙ sorts-truth (monoid_of m) ∙ ap truth_read (sym e ∙ M.is)

  pub asks_none : r ≡ None → false ≡ truth_asked s
  unfolding truth_read
  asks_none e = ap truth_read (sym e ∙ M.is)

-- ---- countable
module _ (s : List ℕ) (k : ℕ) {p : Bool} (e : p ≡ present_in s k) where
  pub few-rows : p ≡ true → {w n : ℕ} → w ≡ table_in s k → n ≡ rows_in w → leb n 12 ≡ countable_in s k
  unfolding countable_in pick
  few-rows h W N = ap (λ (x : ℕ). leb x 12) (N ∙ ap rows_in W) ∙ sym (ap (λ (b : Bool). pick b (leb (rows_in (table_in s k)) subset_rows) false) (sym e ∙ h))

  pub no_table : p ≡ false → false ≡ countable_in s k
  unfolding countable_in pick
  no_table h = sym (ap (λ (b : Bool). pick b (leb (rows_in (table_in s k)) subset_rows) false) (sym e ∙ h))

-- ---- subsets
pub power-low : (i : ℕ) → i ≤ 12 → 2 ^ i ≤ 4096
power-low i p = pow-le-pow_right {n = 2} (omega arith) p

-- ---- holds
bit-no : (b : Bool) → truth_word b ≡ pos 0 → ◌≡◌ {A = ℕ} 0 (pick b 1 0)
unfolding pick
bit-no true e = absurd (omega (arith, ap nat_abs e))
bit-no false e = refl

bit-yes : (b : Bool) → (truth_word b ≡ pos 0 → ⊥) → ◌≡◌ {A = ℕ} 1 (pick b 1 0)
unfolding pick
bit-yes true n = refl
bit-yes false n = absurd (n refl)

module _ (d : Bytes) (s : List ℕ) (k w m : ℕ) {v : ℕ} {s₁ : List ℕ} (e : v ≡ without_in w m) (f : s₁ ≡ set s (1 + k) v) where
  there : s₁ ≡ leaving s k w m
  there = f ∙ ap (set s (1 + k)) e

  pub holds-ready : HoldsPre d s k w m → Evaluable d s₁ 0
  holds-ready H = subst (λ (x : List ℕ). Evaluable d x 0) (sym there) H.form

  module _ {s₂ : List ℕ} {x : ℤ} (S : ScalarPost d s₁ 0 Truth s₂ x) where
    word-is : {T : Tables} → Held d T (leaving s k w m) → (g : ℕ) → left 0 < g → x ≡ truth_word (as_bool (value_at T g (leaving s k w m) 0))
    word-is {T} H g l = S.is (subst (Held d T) (sym there) H) g l ∙ ap (λ (y : List ℕ). truth_word (as_bool (value_at T g y 0))) there

    pub holds-no : x ≡ pos 0 → HoldsPost d s k w m s₂ 0
    holds-no z = record { is = λ {T} H g l. bit-no (as_bool (value_at T g (leaving s k w m) 0)) (sym (word-is H g l) ∙ z); most = omega arith; kept = S.kept ∙ there }

    pub holds-yes : (x ≡ pos 0 → ⊥) → HoldsPost d s k w m s₂ 1
    holds-yes n = record { is = λ {T} H g l. bit-yes (as_bool (value_at T g (leaving s k w m) 0)) (λ z. n (word-is H g l ∙ z)); most = omega arith; kept = S.kept ∙ there }

-- ---- truths
-- after the first m subsets
pub record Counting (d : Bytes) (s₀ : List ℕ) (k n w : ℕ) (s : List ℕ) (t m : ℕ) : Type 0 where
  pub is : (T : ℕ → Tables) → ((j : ℕ) → j < n → Held d (T j) (leaving s₀ k w j)) → (f : ℕ) → left 0 < f → t ≡ count_to (λ j. as_bool (value_at (T j) f (leaving s₀ k w j) 0)) m
  pub most : t ≤ m
  pub inside : m ≤ n
  pub back : (x : ℕ) → set s (1 + k) x ≡ set s₀ (1 + k) x
  pub long : length s ≡ length s₀

module _ {d : Bytes} {s₀ : List ℕ} {k n w : ℕ} where
  pub counting-first : Counting d s₀ k n w s₀ 0 0
  unfolding count_to
  counting-first = record { is = λ T H f l. refl; most = omega arith; inside = omega arith; back = λ x. refl; long = refl }

  module _ {s : List ℕ} {t m : ℕ} (I : Counting d s₀ k n w s t m) where
    pub counting-ready : w ≡ table_in s₀ k → TruthsPre d s₀ k n → m < n → HoldsPre d s k w m
    counting-ready e R l =
        let H = R.each m l in
        record {
          number = R.number;
          full = ap subset_in e ∙ H.full;
          bits = H.bits;
          form = subst (λ (x : List ℕ). Evaluable d x 0) (sym (I.back (without_in w m) ∙ ap (λ (x : ℕ). leaving s₀ k x m) e)) H.form;
        }

    module _ (l : m < n) {s₁ : List ℕ} {r : ℕ} (P : HoldsPost d s k w m s₁ r) where
      pub counting-again : Counting d s₀ k n w s₁ (t + r) (m + 1)
      unfolding count_to
      counting-again = record {
        is = λ T H f p. ap₂ ◌+◌ (I.is T H f p) (P.is (subst (Held d (T m)) (sym (I.back (without_in w m))) (H m l)) f p ∙ ap (λ (x : List ℕ). pick (as_bool (value_at (T m) f x 0)) 1 0) (I.back (without_in w m)))
            ∙ ap (count_to (λ j. as_bool (value_at (T j) f (leaving s₀ k w j) 0))) (sym (add-one m));
        most = omega (arith, I.most, P.most);
        inside = omega (arith, l);
        back = λ x. ap (λ (y : List ℕ). set y (1 + k) x) P.kept ∙ set-set s (1 + k) (without_in w m) x ∙ I.back x;
        long = ap (λ (y : List ℕ). length y) P.kept ∙ length-set s (1 + k) (without_in w m) ∙ I.long;
      }

    pub counting-last : w ≡ table_in s₀ k → TruthsPre d s₀ k n → n ≤ m → TruthsPost d s₀ k n s t
    counting-last e R l =
        let z : m ≡ n = omega (arith, I.inside, l) in
        record {
          is = λ T H f p. I.is T (λ j q. subst (λ (x : ℕ). Held d (T j) (leaving s₀ k x j)) (sym e) (H j q)) f p
              ∙ ap (λ (x : ℕ). count_to (λ j. as_bool (value_at (T j) f (leaving s₀ k x j) 0)) m) e ∙ ap (count_to (λ j. as_bool (value_at (T j) f (leaving s₀ k (table_in s₀ k) j) 0))) z;
          most = omega (arith, I.most, I.inside);
          long = I.long;
          above = λ j q. sym (get_or-set_other s (1 + k) j 0 0 (λ h. omega (arith, h, q, R.number))) ∙ ap (λ (y : List ℕ). get_or y j 0) (I.back 0) ∙ get_or-set_other s₀ (1 + k) j 0 0 (λ h. omega (arith, h, q, R.number));
        }

-- ---- count
countable-rows : (s : List ℕ) (k : ℕ) → countable_in s k ≡ true → rows_in (table_in s k) ≤ 12
unfolding countable_in pick
countable-rows s k = go (present_in s k)
  where
    go : (b : Bool) → pick b (leb (rows_in (table_in s k)) subset_rows) false ≡ true → rows_in (table_in s k) ≤ 12
    go true h = leb-true (rows_in (table_in s k)) 12 h
    go false h = no (sym h)

two-words : (o : List ℤ) → 2 ≤ length o → (x y : ℤ) → set (set o 0 x) 1 y ≡ x ∷ y ∷ drop 2 o
two-words [] l x y = absurd (omega arith)
two-words (a ∷ []) l x y = absurd (omega arith)
two-words (a ∷ b ∷ o) l x y = refl

module _ (d : Bytes) (s : List ℕ) (k : ℕ) (o : List ℤ) {b : Bool} (B : b ≡ truth_asked s) where
  pub count-monoid : b ≡ false → CountPost d s k o s o (Err NeitherSomeNorAll)
  count-monoid h = record { is = λ l a r P. settles-monoid P k o (sym B ∙ h); long = refl; above = λ j p. refl }

  module _ (h : b ≡ true) {c : Bool} (C : c ≡ countable_in s k) where
    pub count-table : c ≡ false → CountPost d s k o s o (Err OutageTableOutOfRange)
    count-table g = record { is = λ l a r P. settles-table P k o (sym B ∙ h) (sym C ∙ g); long = refl; above = λ j p. refl }

    module _ (g : c ≡ true) where
      pub count_room : length o < 2 → CountPost d s k o s o (Err AnswerTooShort)
      count_room l = record { is = λ q a r P. settles-room P k o (sym B ∙ h) (sym C ∙ g) l; long = refl; above = λ j p. refl }

      rows-said : {w r : ℕ} → w ≡ table_in s k → r ≡ rows_in w → r ≡ rows_in (table_in s k)
      rows-said W N = N ∙ ap rows_in W

      pub subsets-ready : {w r : ℕ} → w ≡ table_in s k → r ≡ rows_in w → r ≤ 12
      subsets-ready W N = omega (arith, rows-said W N, countable-rows s k (sym C ∙ g))

      module _ {w r n : ℕ} (W : w ≡ table_in s k) (N : r ≡ rows_in w) (E : (n ≡ 2 ^ r) × (n ≤ 4096)) where
        powers : n ≡ 2 ^ rows_in (table_in s k)
        powers = E.0 ∙ ap (λ (x : ℕ). 2 ^ x) (rows-said W N)

        pub truths-ready : Asked d s → TruthsPre d s k n
        truths-ready A = truths-pre A.prepared k o (sym B ∙ h) (sym C ∙ g) powers E.1

        pub count-written : 2 ≤ length o → {s₁ : List ℕ} {t : ℕ} → TruthsPost d s k n s₁ t → {x y : ℤ} → x ≡ pos t → y ≡ pos (n - t) → CountPost d s k o s₁ (set (set o 0 x) 1 y) (Ok 2)
        count-written l R ex ey = record {
          is = λ q a r P. settles-counts P k o (sym B ∙ h) (sym C ∙ g) l powers R (two-words o l _ _ ∙ ap₂ (λ (u v : ℤ). u ∷ v ∷ drop 2 o) ex ey);
          long = R.long;
          above = λ j p. R.above j (omega arith);
        }
