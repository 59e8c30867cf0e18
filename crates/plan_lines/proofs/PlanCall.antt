-- The whole call: the plan, the lines' length, the lines.
use mathlib.Core.Path.{◌≡◌, sym, ap}
use mathlib.Core.List.{List, ◌++◌}
use Prim.Native.Nat.{ℕ, ◌≤◌, ◌<◌}
use native.Mathlib.Omega.{arith}
use borrow.Author.Tests.{lt-leb, le-leb}
use lib.ListN.{length, drop, get_or}
use Rattle.spec_encoding.specs.Record.{Bytes, require}
use Rattle.base_scratch.specs.Map.{scratch_size}
use Rattle.form_words.specs.FormTree.{left}
use Rattle.spec_plan.specs.Planner.{plan_of}
use Rattle.spec_plan.specs.Lines.{lines}
use Rattle.spec_outcome.specs.Acceptance.{Accepted}
use Rattle.spec_outcome.specs.Outcome.{printed}
use Rattle.form_prepared.specs.PreparedQuestion.{Prepared}
use Rattle.spec_outcome.specs.Gives.{Settles}
use Rattle.form_prepared.proofs.SettledOutcome.{settles-refused, settles-got}
use Rattle.plan_marks.specs.PlanIn.{plan_at, plan_in}
use Rattle.plan_marks.specs.Contract.{UnmarkedForm, MakePlanPost}
use Rattle.std.specs.declared.result.Result.{Result}
use Rattle.std.specs.declared.result.Result.TheVariants.{Ok, Err}
use Rattle.base_refusals.specs.declared.Refusal.{Refusal}
use Rattle.base_refusals.specs.declared.Refusal.TheVariants.{LinesTooShort}
use Rattle.base_text.specs.LaidText.{text_limit, Lays, Text}
use Rattle.plan_lines.specs.PlanCall.{PlanLinesPost}
use Rattle.base_text.proofs.LaidText.{lays-as, first-same, first-length, second-length, second-text}

-- the refusal, 33 where there is none
abbrev refusal_of : Result ℕ Refusal → Refusal
refusal_of (Ok n) = LinesTooShort
refusal_of (Err e) = e

laid : {d : Bytes} {a : Accepted} {s : List ℕ} → Prepared d a s → UnmarkedForm a.form s
laid P = record { fits = P.fits; lent = P.lent; few = P.few; held = P.held; blank = P.blank; long = omega (arith, P.long) }

-- 33 and the buffer as it was, or the lines in it
module _ (a : Accepted) where
  abbrev lines_of : List ℕ
  lines_of = lines (plan_of a.form)

  lines-short : {b b' : List ℕ} → length b < length lines_of → b' ≡ b → Settles (printed b a) b 33 0 b'
  unfolding printed require
  lines-short {b} l e = rw (lt-leb (length lines_of) (length b) l) (settles-refused 33 e)

  lines-full : {b b' : List ℕ} {n : ℕ} → length lines_of ≤ length b → n ≡ length lines_of → b' ≡ lines_of ++ drop (length lines_of) b → Settles (printed b a) b 0 n b'
  unfolding printed require
  lines-full {b} l e f = rw (le-leb (length lines_of) (length b) l) (settles-got (record { size = length lines_of; front = lines_of }) e f)

module _ {s s₁ b b₁ : List ℕ} {n : ℕ} (M : MakePlanPost s s₁) (X : Text (left 0) (λ f. lines (plan_at f s₁)) 0 b 0 b₁ n) (short : length b < text_limit) where
  module _ {d : Bytes} {a : Accepted} (P : Prepared d a s) where
    same : lines (plan_at 2048 s₁) ≡ lines (plan_of a.form)
    unfolding plan_in
    same = ap lines (M.plan a.form (laid P))

    first : Lays 0 (lines (plan_of a.form)) b 0 b₁ n
    first = lays-as same (X.is 2048 (omega arith))

    behind : (j : ℕ) → scratch_size ≤ j → get_or s₁ j 0 ≡ get_or s j 0
    behind j p = M.behind a.form (laid P) j (omega arith)

  pub print-short : length b₁ < n → PlanLinesPost s b s₁ b₁ (Err LinesTooShort)
  print-short l = record {
    is = λ d a P. lines-short a (omega (arith, first-length (first P), ap length (first-same (first P)))) (first-same (first P));
    behind = λ d a P j p. behind P j p;
    short = λ e q. sym (ap refusal_of q);
  }

  pub print-full : {b₂ : List ℕ} {r : ℕ} → n ≤ length b₁ → Text (left 0) (λ f. lines (plan_at f s₁)) n b₁ 0 b₂ r → PlanLinesPost s b s₁ b₂ (Ok r)
  print-full {b₂} {r} l Y = record {
    is = λ d a P. let fits : n ≤ length b = omega (arith, ap length (first-same (first P))) in let second = lays-as (same P) (Y.is 2048 (omega arith)) in
        lines-full a (omega (arith, first-length (first P), fits)) (second-length (first P) short fits second) (second-text (first P) short fits second);
    behind = λ d a P j p. behind P j p;
    short = λ e q. sym (ap refusal_of q);
  }
