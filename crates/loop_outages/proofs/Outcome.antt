-- From a question prepared in scratch to the outcome of counting outages.
use mathlib.Core.Path.{◌≡◌, refl, sym, ap, ap₂, ◌∙◌}
use mathlib.Core.List.{List, [], ◌∷◌}
use mathlib.Core.Bool.{true, false, and-eq-true_iff}
use Prim.Native.Nat.{ℕ, suc, ◌-◌, ◌^◌, ◌≤◌, ◌<◌}
use native.Mathlib.Omega.{arith}
use borrow.Author.Tests.{le-leb, lt-leb, leb-true}
use lib.Dec.{leb}
use lib.ListN.{length, drop}
use lib.IntN.{ℤ, pos}
use Rattle.spec_calculus.specs.Syntax.{Monoid}
use Rattle.spec_calculus.specs.Value.{Value, Tables, as_bool, is_there, rows_of}
use Rattle.spec_calculus.specs.Monoid.{canonical}
use Rattle.spec_calculus.specs.Meaning.{meaning}
use Rattle.spec_encoding.specs.Record.{Bytes, require}
use Rattle.spec_normal_form.specs.Form.{Form, Clauses, comp}
use Rattle.spec_normal_form.specs.Normal.{normal}
use Rattle.spec_outcome.specs.Acceptance.{Accepted}
use Rattle.spec_outcome.specs.Gives.{Settles}
use Rattle.spec_outages.specs.Outages.{with_rows, verdicts, trues, falses, asks_truth, countable, outages}
use Rattle.spec_outages.proofs.Subsets.{verdicts-count}
use Rattle.base_tables.specs.Description.{subset_rows, rows_in, table_in, kept}
use Rattle.form_words.specs.declared.FormNode.{FormNode}
use Rattle.form_words.specs.declared.FormNode.TheVariants as N
use Rattle.form_words.specs.NodeWord.{node_at}
use Rattle.form_words.specs.Look.{monoid_in}
use Rattle.form_words.specs.FormTree.{form_tree, left}
use Rattle.form_words.proofs.NodeWords.{form_node}
use Rattle.form_prepared.specs.PreparedQuestion.{Prepared}
use Rattle.form_prepared.proofs.SettledOutcome.{settles-refused, settles-got}
use Rattle.answer_settle.proofs.PreparedQuestion.{passed, form-is}
use Rattle.loop_outages.specs.Contract.{truth_read, truth_asked, countable_in, count_to, TruthsPre, TruthsPost}
use Rattle.loop_outages.proofs.SubsetCounts.{count_same, count-subsets}
use Rattle.loop_outages.proofs.SubsetTables.{countable-is, rows-said, number, held-subset, holds-pre, truth-is}

-- ---- "another monoid": that of the question as typed is that of the form in scratch
monoid-node : (s : List ℕ) (f : ℕ) (n : FormNode) {m : Monoid} {q : Clauses} {h : Form} → form_node f s 0 n ≡ comp m q h → truth_read (monoid_in n) ≡ asks_truth m
unfolding truth_read
monoid-node s f (N.Number z) e = cc
monoid-node s f (N.Truth b) e = cc
monoid-node s f (N.Row g) e = cc
monoid-node s f (N.Cell c g) e = cc
monoid-node s f (N.Record x) e = cc
monoid-node s f (N.Binary o j) e = cc
monoid-node s f N.Negation e = cc
monoid-node s f (N.Operator o x) e = cc
monoid-node s f (N.Comprehension m) e = ap asks_truth cc
monoid-node s f (N.Generator g k) e = cc
monoid-node s f (N.Condition j) e = cc
monoid-node s f N.Nothing e = cc

module _ {d : Bytes} {a : Accepted} {s : List ℕ} (P : Prepared d a s) where
  monoid-kept : a.form.monoid ≡ a.question.monoid
  unfolding normal
  monoid-kept = ap (λ f. f.monoid) (passed P).form-is

  asked_is : truth_asked s ≡ asks_truth a.question.monoid
  unfolding form_tree
  asked_is = monoid-node s (left 0) (node_at s 0) (form-is P (suc (left 0)) (omega arith)) ∙ ap asks_truth monoid-kept

  module _ (k : ℕ) (c : countable a.tables k ≡ true) where
    there : is_there a.tables k ≡ true
    unfolding countable
    there = ((and-eq-true_iff (is_there a.tables k) (leb (length (rows_of a.tables k)) 12)).0 c).0

    few : length (rows_of a.tables k) ≤ subset_rows
    unfolding countable
    few = leb-true (length (rows_of a.tables k)) 12 ((and-eq-true_iff (is_there a.tables k) (leb (length (rows_of a.tables k)) 12)).0 c).1

    abbrev subsets_count : ℕ
    subsets_count = 2 ^ length (rows_of a.tables k)

    count-is : {n : ℕ} → n ≡ 2 ^ rows_in (table_in s k) → n ≡ subsets_count
    count-is e = e ∙ ap (λ (r : ℕ). 2 ^ r) (rows-said P k there)

    ready : {n : ℕ} → n ≡ 2 ^ rows_in (table_in s k) → n ≤ 4096 → TruthsPre d s k n
    ready e l = record { number = number P k there few; few = l; each = λ m p. holds-pre P k there few m (omega (arith, count-is e, p)) }

    module _ {n t : ℕ} {s' : List ℕ} (e : n ≡ 2 ^ rows_in (table_in s k)) (R : TruthsPost d s k n s' t) where
      abbrev over : List Value → Tables
      over l = with_rows a.tables k l

      true-count : t ≡ trues (verdicts a.tables k a.question)
      unfolding verdicts
      true-count =
          R.is (λ m. over (kept m (rows_of a.tables k))) (λ m p. held-subset P k there few m (omega (arith, count-is e, p))) (suc (left 0)) (omega arith)
          ∙ count_same _ (λ m. as_bool (meaning canonical (over (kept m (rows_of a.tables k))) a.question)) n (λ m p. truth-is P k there few m (omega (arith, count-is e, p)) (suc (left 0)) (omega arith))
          ∙ ap (count_to (λ m. as_bool (meaning canonical (over (kept m (rows_of a.tables k))) a.question))) (count-is e)
          ∙ count-subsets (rows_of a.tables k) (λ l. as_bool (meaning canonical (over l) a.question))

      false-count : n - t ≡ falses (verdicts a.tables k a.question)
      false-count = omega (arith, true-count, count-is e, verdicts-count a.tables k a.question)

-- ---- the ways out
module _ {d : Bytes} {a : Accepted} {s : List ℕ} (P : Prepared d a s) (k : ℕ) (o : List ℤ) where
  pub settles-monoid : truth_asked s ≡ false → Settles (outages k o a) o 55 0 o
  unfolding outages require
  settles-monoid h = rw (sym (asked_is P) ∙ h) (settles-refused 55 refl)

  module _ (h : truth_asked s ≡ true) where
    pub settles-table : countable_in s k ≡ false → Settles (outages k o a) o 56 0 o
    unfolding outages require
    settles-table c = rw (sym (asked_is P) ∙ h, sym (countable-is P k) ∙ c) (settles-refused 56 refl)

    module _ (c : countable_in s k ≡ true) where
      pub settles-room : length o < 2 → Settles (outages k o a) o 32 0 o
      unfolding outages require
      settles-room l = rw (sym (asked_is P) ∙ h, sym (countable-is P k) ∙ c, lt-leb 2 (length o) l) (settles-refused 32 refl)

      countable-here : countable a.tables k ≡ true
      countable-here = sym (countable-is P k) ∙ c

      pub truths-pre : {n : ℕ} → n ≡ 2 ^ rows_in (table_in s k) → n ≤ 4096 → TruthsPre d s k n
      truths-pre = ready P k countable-here

      pub settles-counts : 2 ≤ length o → {n t : ℕ} {s' : List ℕ} → n ≡ 2 ^ rows_in (table_in s k) → TruthsPost d s k n s' t → {o' : List ℤ} → o' ≡ pos t ∷ pos (n - t) ∷ drop 2 o → Settles (outages k o a) o 0 2 o'
      unfolding outages require
      settles-counts l {n} {t} e R z =
          let v = verdicts a.tables k a.question in
          rw (sym (asked_is P) ∙ h, countable-here, le-leb 2 (length o) l)
          (settles-got (record { size = 2; front = pos (trues v) ∷ pos (falses v) ∷ [] }) refl (z ∙ ap₂ (λ (x y : ℕ). pos x ∷ pos y ∷ drop 2 o) (true-count P k countable-here e R) (false-count P k countable-here e R)))
