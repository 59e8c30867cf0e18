-- A prepared question in scratch, the word of one table leaving rows out: scratch holds the tables with the other rows, and the question can be answered.
use mathlib.Core.Path.{◌≡◌, refl, sym, ap, subst, ◌∙◌, fun_ext}
use mathlib.Core.List.{List}
use mathlib.Core.Bool.{true, false}
use Prim.Native.Nat.{ℕ, zero, suc, ◌+◌, ◌/◌, ◌^◌, ◌≤◌, ◌<◌}
use native.Mathlib.Numerals.{one-add}
use native.Mathlib.Nat.{pow-le-pow_right}
use native.Mathlib.Omega.{arith}
use borrow.Author.Tests.{lt-ltb, lt-leb, eqb-true, eqb-false}
use lib.Dec.{eqb, ltb, leb}
use lib.ListN.{length, get_or, set, length-set}
use lib.Seq.{get_or-set_same, get_or-set_other}
use Rattle.spec_calculus.specs.Lists.{pick}
use Rattle.spec_calculus.specs.Value.{Value, Tables, junk, as_bool, columns_of, is_there, bound_of, rows_of}
use Rattle.spec_calculus.specs.Monoid.{canonical, raw}
use Rattle.spec_calculus.specs.Meaning.{Env, meaning}
use Rattle.spec_calculus.proofs.WellFormed.{WellFormedRow, CellsWithin, WellFormed, number-few, rows-well-formed, rows-in-bounds}
use Rattle.spec_encoding.specs.Record.{Bytes}
use Rattle.spec_normal_form.specs.Form.{Form, as_form, value, normal_value}
use Rattle.spec_normal_form.specs.Bound.{Declared, within}
use Rattle.spec_normal_form.proofs.GeneratorTables as Ge
use Rattle.spec_outcome.specs.Acceptance.{Accepted}
use Rattle.spec_outcome.proofs.Checks.{form-within}
use Rattle.spec_outages.specs.Outages.{with_rows, countable}
use Rattle.spec_outages.proofs.WithRows.{with-length, with-other, with_rows_lem, with-kind, with-columns, with-there, with_bound, with-fit, truth-over}
use Rattle.base_signed.proofs.SignedWords.{by-test, no}
use Rattle.base_scratch.specs.Map.{form_at, env_at}
use Rattle.base_tables.specs.Description.{most_tables, rows_in, kind_in, subset_in, subset_rows, kept, without_in, table_in, description_in, Describes}
use Rattle.base_tables.proofs.TableWords.{present-is, none-left-out}
use Rattle.base_tables.proofs.TableCells.{described-same}
use Rattle.base_tables.proofs.Subsets.{kept-length, kept-each, height, described-subset}
use Rattle.base_checkpoints.specs.Checkpoints.{checkpoint_at, checkpoint_in, tall_in, checkpoint_of}
use Rattle.form_words.specs.FormTree.{form_tree, left}
use Rattle.form_env.specs.Environment.{slots, slot_of, row_span, env_of, Held, declared_in}
use Rattle.form_env.specs.NamedTables.{Rowless, table_of, Named}
use Rattle.form_env.proofs.SameForm.{form-same}
use Rattle.form_env.proofs.BoundRows.{held-read, rows_in_lem, named-declared, env-empty}
use Rattle.form_prepared.specs.PreparedQuestion.{Prepared}
use Rattle.answer_settle.proofs.PreparedQuestion.{passed, form-is}
use Rattle.loop_scalar.specs.Contract.{value_at, Evaluable}
use Rattle.loop_outages.specs.Contract.{countable_in, leaving, HoldsPre}

-- ---- the words of scratch where that of table k is another
module _ (s : List ℕ) (k x : ℕ) (l : k < most_tables) where
  abbrev t : List ℕ
  t = set s (1 + k) x

  word_else : (j : ℕ) → most_tables < j → get_or t j 0 ≡ get_or s j 0
  word_else j p = get_or-set_other s (1 + k) j x 0 (λ e. omega (arith, e))

  table_here : 1 + k < length s → table_in t k ≡ x
  unfolding table_in pick
  table_here p = rw (lt-ltb k most_tables l) (ap (λ (j : ℕ). get_or t j 0) (sym (one-add k)) ∙ get_or-set_same s (1 + k) x 0 p)

  table-else : (j : ℕ) → (j ≡ k → ⊥) → table_in t j ≡ table_in s j
  unfolding table_in pick
  table-else j n = ap (λ (w : ℕ). pick (ltb j most_tables) w 0) (get_or-set_other s (1 + k) (suc j) x 0 (λ e. n (omega (arith, e))))

  slot-else : (g : ℕ) → slot_of t g ≡ slot_of s g
  unfolding slot_of pick
  slot-else g = ap (λ (w : ℕ). pick (ltb g slots) w 0) (word_else (env_at + g) (omega arith))

  form-else : (f : ℕ) → form_tree f t 0 ≡ form_tree f s 0
  form-else f = form-same t s (λ i. word_else (form_at + i) (omega arith)) f 0

-- a table of few rows has no checkpoints
low-table : (w : ℕ) → rows_in w ≤ subset_rows → tall_in w ≡ false
unfolding tall_in pick
low-table w p = by-test (eqb (kind_in w) 1) (λ e. rw e (lt-leb 352 (rows_in w) (omega (arith, p)))) (λ e. rw e)

-- ---- the question that stands there
module _ {d : Bytes} {a : Accepted} {s : List ℕ} (P : Prepared d a s) where
  abbrev T : Tables
  T = a.tables

  held_all : Held d T s
  held_all = held-read P.tables P.stored P.checkpointed (omega (arith, P.long))

  module _ (k : ℕ) (there : is_there T k ≡ true) where
    described-all : Describes d T k (table_in s k)
    described-all = held_all.described k there

    pub rows-said : rows_in (table_in s k) ≡ length (rows_of T k)
    rows-said = described-all.rows

  -- whether outages of table k are counted
  pub countable-is : (k : ℕ) → countable_in s k ≡ countable T k
  unfolding countable_in countable pick
  countable-is k = by-test (is_there T k)
      (λ t. rw (present-is P.stored P.tables k ∙ t, t) (ap (λ (n : ℕ). leb n subset_rows) (rows-said k t)))
      (λ t. rw (present-is P.stored P.tables k ∙ t, t) refl)

  -- table k, of at most 12 rows
  module _ (k : ℕ) (there : is_there T k ≡ true) (few : length (rows_of T k) ≤ subset_rows) where
    abbrev rows : List Value
    rows = rows_of T k

    abbrev w : ℕ
    w = table_in s k

    pub number : k < most_tables
    number = number-few held_all.fit k there

    full : subset_in w ≡ 0
    full = none-left-out P.stored P.tables k

    module _ (m : ℕ) (l : m < 2 ^ length rows) where
      abbrev pub U : Tables
      U = with_rows T k (kept m rows)

      abbrev s' : List ℕ
      s' = leaving s k w m

      long-enough : 1 + k < length s
      long-enough = omega (arith, P.long, number)

      D : Describes d T k w
      D = described-all k there

      this : Describes d U k (table_in s' k)
      this = subst (Describes d (with_rows T k (kept m rows)) k) (sym (table_here s k (without_in w m) number long-enough))
          (described-subset D full few m l (with_rows T k (kept m rows)) (with-kind T k (kept m rows) k) (with-columns T k (kept m rows) k) (λ c. ap (λ (B : ℕ → ℕ → ℕ). B k c) (with_bound T k (kept m rows)))
          (with_rows_lem T k (kept m rows) (omega (arith, held_all.numbers, number))))

      fit : WellFormed U
      fit = with-fit T k (kept m rows) held_all.fit there (omega (arith, kept-length subset_rows m rows few l, few))
          (kept-each (WellFormedRow (columns_of T k)) m rows (rows-well-formed held_all.fit k)) (kept-each (CellsWithin (bound_of T k)) m rows (rows-in-bounds held_all.fit k))

      described : (j : ℕ) → is_there U j ≡ true → Describes d U j (table_in s' j)
      described j p = by-test (eqb j k)
          (λ e. subst (λ (i : ℕ). Describes d (with_rows T k (kept m rows)) i (table_in s' i)) (sym (eqb-true j k e)) this)
          (λ e. let n = eqb-false j k e in
          subst (Describes d (with_rows T k (kept m rows)) j) (sym (table-else s k (without_in w m) number j n))
          (described-same T (with_rows T k (kept m rows)) j j (sym (with-other T k (kept m rows) j n)) (held_all.described j (sym (with-there T k (kept m rows) j) ∙ p))))

      absent : (j : ℕ) → is_there U j ≡ false → table_in s' j ≡ 0
      absent j p = by-test (eqb j k)
          (λ e. no (sym there ∙ sym (ap (is_there T) (eqb-true j k e)) ∙ sym (with-there T k (kept m rows) j) ∙ p))
          (λ e. let n = eqb-false j k e in table-else s k (without_in w m) number j n ∙ held_all.absent j (sym (with-there T k (kept m rows) j) ∙ p))

      low : tall_in (table_in s' k) ≡ false
      low = low-table (table_in s' k) (omega (arith, ap rows_in (table_here s k (without_in w m) number long-enough), height D full few m l, kept-length subset_rows m rows few l, few))

      each : (n c : ℕ) → c < 8 → tall_in (description_in s' n) ≡ true → checkpoint_in s' n c ≡ checkpoint_of d (description_in s' n) c
      unfolding description_in
      each zero c h y = no (sym y ∙ low-table 0 (omega arith))
      each (suc j) c h y = by-test (eqb j k)
          (λ e. no (sym y ∙ ap (λ (i : ℕ). tall_in (table_in s' i)) (eqb-true j k e) ∙ low))
          (λ e. let E = table-else s k (without_in w m) number j (eqb-false j k e) in
          word_else s k (without_in w m) number (checkpoint_at (suc j) c) (omega arith) ∙ P.checkpointed.each (suc j) c h (ap tall_in (sym E) ∙ y) ∙ ap (λ (v : ℕ). checkpoint_of d v c) (sym E))

      pub held-subset : Held d U s'
      held-subset = record {
        fit = fit;
        numbers = with-length T k (kept m rows) ∙ held_all.numbers;
        described = described;
        absent = absent;
        checkpointed = record { each = each };
        long = omega (arith, P.long, length-set s (1 + k) (without_in w m));
      }

      -- ---- the form is the same, and no generator stands for a row
      form-here : (f : ℕ) → left 0 < f → form_tree f s' 0 ≡ as_form a.form
      form-here f p = form-else s k (without_in w m) number f ∙ form-is P f p

      named_here : Named (table_of s') (as_form a.form)
      named_here = subst (λ (C : ℕ → ℕ). Named C (as_form a.form)) (fun_ext λ g. ap (λ (e : ℕ). e / row_span) (sym (slot-else s k (without_in w m) number g))) P.named

      bounds-here : bound_of U ≡ bound_of T
      bounds-here = with_bound T k (kept m rows)

      -- "28: a number in the normal form with bound over 2^62": none
      pub evaluable : Evaluable d s' 0
      evaluable =
          let C : Declared = declared_in d s' in
          let e = form-here (suc (left 0)) (omega arith) in
          let N : Ge.Named C (bound_of U) (as_form a.form) = named-declared held-subset (as_form a.form) named_here in
          record {
            tables = U;
            columns = C;
            standing = record { held = held-subset; rows = rows_in_lem held-subset };
            fuel = suc (left 0);
            enough = omega arith;
            named = subst (Ge.Named C (bound_of U)) (sym e) N;
            small = ap (within C) e ∙ form-within (passed P) C (subst (λ (B : ℕ → ℕ → ℕ). Ge.Named C B (as_form a.form)) bounds-here N);
          }

      pub holds-pre : HoldsPre d s k w m
      holds-pre = record { number = number; full = full; bits = omega (arith, l, pow-le-pow_right {n = 2} (omega arith) few); form = evaluable }

      empty : env_of U s' ≡ (λ g. junk)
      empty = env-empty U s' fit (λ g. subst Rowless (sym (slot-else s k (without_in w m) number g)) (P.rowless g))

      -- The truth of the form there is that of the question as typed, over the subset.
      pub truth-is : (f : ℕ) → left 0 < f → as_bool (value_at U f s' 0) ≡ as_bool (meaning canonical (with_rows T k (kept m rows)) a.question)
      unfolding normal_value
      truth-is f p =
          ap (λ (t : Form). as_bool (value raw (with_rows T k (kept m rows)) t (env_of (with_rows T k (kept m rows)) s'))) (form-here f p)
          ∙ ap (λ (ρ : Env). as_bool (value raw (with_rows T k (kept m rows)) (as_form a.form) ρ)) empty
          ∙ sym (truth-over T k (kept m rows) (passed P) refl)
