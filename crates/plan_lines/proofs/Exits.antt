-- One law for each way out of the writers.
use mathlib.Core.Path.{◌≡◌, refl, sym, ap, subst, ◌∙◌}
use mathlib.Core.Bool.{Bool, true, false}
use mathlib.Core.List.{List, [], ◌∷◌, ◌++◌, append_assoc, append-nil}
use Prim.Native.Nat.{ℕ, zero, suc, pred, ◌+◌, ◌-◌, ◌≤◌, ◌<◌}
use native.Mathlib.Omega.{arith}
use borrow.Author.Tests.{le-leb, lt-leb, eq-eqb, ne_eqb}
use lib.Dec.{eqb}
use lib.IntN.{ℤ, pos}
use Rattle.spec_calculus.specs.Lists.{pick}
use Rattle.spec_calculus.specs.Syntax.{and}
use Rattle.spec_calculus.specs.Syntax as Sy
use Rattle.base_syntax.specs.declared.Monoid.{Monoid}
use Rattle.base_syntax.specs.MonoidWord.{monoid_of}
use Rattle.base_syntax.specs.declared.BinOp.{BinOp}
use Rattle.base_syntax.specs.declared.Fun.{Fun}
use Rattle.base_syntax.specs.declared.Fun.TheVariants.{Choice, Open}
use Rattle.base_syntax.specs.Numbers.{bin_of, fun_of, lent_of}
use Rattle.base_windows.specs.KeptCalendars.{calendar_in}
use Rattle.spec_calendar.specs.Hours.{Calendar}
use Rattle.form_words.specs.declared.FormNode.{FormNode}
use Rattle.form_words.specs.declared.FormNode.TheVariants as N
use Rattle.form_words.specs.declared.Clause.{Clause}
use Rattle.form_words.specs.declared.Clause.TheVariants as Cl
use Rattle.form_words.specs.NodeWord.{next}
use Rattle.form_words.specs.FormTree.{left}
use Rattle.base_scratch.specs.Map.{form_words}
use Rattle.form_words.specs.Look.{Looks, LooksC}
use Rattle.form_words.proofs.NodeWords.{next_past}
use Rattle.spec_plan.specs.Plan.{PTerm, ptruth, Source, table, unit, nest}
use Rattle.spec_plan.specs.Plan as Pl
use Rattle.spec_plan.specs.Planner.{conj}
use Rattle.spec_plan.specs.Lines.{ascii, digits, decimal, signed_decimal, monoid_name, bin_name, fun_name, show_term, show_terms, show_source, show_last, show_op, show_ops, lines}
use Rattle.plan_marks.specs.Marks.{mark_at, slot_by}
use Rattle.plan_marks.specs.PlanIn.{term_by, term_in, terms_in, head_by, head_in, conds_by, conds_in, grows_by, grows_in, op_in, or_else, own_in, ops_by, inner_by, ops_in, ops_in_f, inner_in, plan_at}
use Rattle.base_text.specs.LaidText.{Lays, Text}
use Rattle.plan_lines.specs.PartTexts.{slot_text, cell_text, open_text, operator_text, monoid_text, grower, grower_text, condition_text, opens, closes, rest_text, GrowsPost, nest_text, GrowersPost, OutermostPost}
use Rattle.base_text.proofs.LaidText.{text-by, lays-nil, lays-two, lays-as}
use Rattle.base_text.proofs.Decimals.{decimal-text}
use Rattle.plan_lines.proofs.JoinedConditions.{conj-text}

-- ---- numbers and places
pub truth-is : {lim p r : ℕ} {b c : Bool} {o o' : List ℕ} → b ≡ c → Lays lim (show_term (ptruth c)) o p o' r → Lays lim (show_term (ptruth b)) o p o' r
truth-is e X = lays-as (ap (λ (b : Bool). show_term (ptruth b)) (sym e)) X

pub slot-none : {lim p r m : ℕ} {o o' : List ℕ} → m ≡ 0 → Lays lim (ascii "0") o p o' r → Lays lim (slot_text m) o p o' r
unfolding show_term slot_by signed_decimal decimal digits ascii
slot-none e X = lays-as (ap slot_text (sym e)) X

pub slot-place : (m : ℕ) {lim p q r : ℕ} {o o₁ o₂ : List ℕ} → (m ≡ 0 → ⊥) → Lays lim (ascii "$") o p o₁ q → Text (m - 1) (λ f. digits f (m - 1)) lim o₁ q o₂ r → Lays lim (slot_text m) o p o₂ r
unfolding show_term slot_by
slot-place zero n X Y = absurd (n refl)
slot-place (suc m) n X Y = lays-two X (lays-as (ap decimal (omega arith)) (decimal-text Y))

pub cell-is : (m : ℕ) {lim p q r t u v c : ℕ} {o o₁ o₂ o₃ o₄ o₅ : List ℕ} → Lays lim (ascii "(. ") o p o₁ q → Text c (λ f. digits f c) lim o₁ q o₂ r → Lays lim (ascii " ") o₂ r o₃ t → Lays lim (slot_text m) o₃ t o₄ u → Lays lim (ascii ")") o₄ u o₅ v → Lays lim (cell_text c m) o p o₅ v
unfolding show_term
cell-is m A B C D E = lays-two A (lays-two (decimal-text B) (lays-two C (lays-two D E)))

-- ---- one step of reading
module _ {s : List ℕ} {i : ℕ} {n : FormNode} (H : Looks s i n) where
  abbrev pub term_node : ℕ → PTerm
  term_node f = term_by (calendar_in s) (λ j. term_in f s j) (λ j e. terms_in f s j e) i (mark_at s i) n

  pub term-lays : {lim p r : ℕ} {o o' : List ℕ} → ((f : ℕ) → left i < suc f → Lays lim (show_term (term_node f)) o p o' r) → Text (left i) (λ f. show_term (term_in f s i)) lim o p o' r
  unfolding term_in
  term-lays h = text-by (λ f l. lays-as (ap (λ (x : FormNode). show_term (term_by (calendar_in s) (λ j. term_in f s j) (λ j e. terms_in f s j e) i (mark_at s i) x)) H.is) (h f l))

  abbrev ops_node : ℕ → List Pl.Op
  ops_node f = ops_by (λ j. ops_in f s j) (λ j e. ops_in_f f s j e) (λ m. own_in f Pl.outer s i ++ (inner_in f s (i + 1) ++ (nest (pred (mark_at s i)) (monoid_of m) (head_in f s (i + 1)) (conj (conds_in f s 0 (i + 1))) ∷ []))) i n

  pub ops-lays : {lim p r : ℕ} {o o' : List ℕ} → ((f : ℕ) → left i < suc f → Lays lim (show_ops (ops_node f)) o p o' r) → Text (left i) (λ f. show_ops (ops_in f s i)) lim o p o' r
  unfolding ops_in
  ops-lays h = text-by (λ f l. lays-as (ap (λ (x : FormNode). show_ops (ops_by (λ j. ops_in f s j) (λ j e. ops_in_f f s j e) (λ m. own_in f Pl.outer s i ++ (inner_in f s (i + 1) ++ (nest (pred (mark_at s i)) (monoid_of m) (head_in f s (i + 1)) (conj (conds_in f s 0 (i + 1))) ∷ []))) i x)) H.is) (h f l))

module _ {s : List ℕ} {i : ℕ} {d : Clause} (H : LooksC s i d) where
  head-lays : {lim p r : ℕ} {o o' : List ℕ} → ((f : ℕ) → left i + 1 < suc f → Lays lim (show_term (head_by (λ j. term_in f s j) (λ j. head_in f s j) i d)) o p o' r) → Text (left i + 1) (λ f. show_term (head_in f s i)) lim o p o' r
  unfolding head_in
  head-lays h = text-by (λ f l. lays-as (ap (λ (x : Clause). show_term (head_by (λ j. term_in f s j) (λ j. head_in f s j) i x)) H.is) (h f l))

  conds-lays : (F : List PTerm → List ℕ) (m : ℕ) {lim p r : ℕ} {o o' : List ℕ} → ((f : ℕ) → left i + 1 < suc f → Lays lim (F (conds_by (λ j. term_in f s j) (λ j. conds_in f s m j) (eqb (mark_at s i) m) i d)) o p o' r) → Text (left i + 1) (λ f. F (conds_in f s m i)) lim o p o' r
  unfolding conds_in
  conds-lays F m h = text-by (λ f l. lays-as (ap (λ (x : Clause). F (conds_by (λ j. term_in f s j) (λ j. conds_in f s m j) (eqb (mark_at s i) m) i x)) H.is) (h f l))

  inner-lays : {lim p r : ℕ} {o o' : List ℕ} → ((f : ℕ) → left i + 1 < suc f → Lays lim (show_ops (inner_by (λ j. ops_in f s j) (λ j. inner_in f s j) i d)) o p o' r) → Text (left i + 1) (λ f. show_ops (inner_in f s i)) lim o p o' r
  unfolding ops_in
  inner-lays h = text-by (λ f l. lays-as (ap (λ (x : Clause). show_ops (inner_by (λ j. ops_in f s j) (λ j. inner_in f s j) i x)) H.is) (h f l))

  grows-is : (f : ℕ) (O : Source → ℕ → Pl.Op) → grows_in (suc f) O s i ≡ grows_by O (λ j. grows_in f O s j) i (mark_at s i) d
  unfolding grows_in
  grows-is f O = ap (grows_by O (λ j. grows_in f O s j) i (mark_at s i)) (sym H.is)

-- ---- term
pub term-number : {s : List ℕ} {i lim p r : ℕ} {z : ℤ} {o o' : List ℕ} → Looks s i (N.Number z) → Lays lim (signed_decimal z) o p o' r → Text (left i) (λ f. show_term (term_in f s i)) lim o p o' r
unfolding show_term
term-number H X = term-lays H (λ f l. X)

pub term-zero : {s : List ℕ} {i lim p r : ℕ} {n : FormNode} {o o' : List ℕ} (H : Looks s i n) → ((f : ℕ) → term_node H f ≡ Pl.pnum (pos 0)) → Lays lim (ascii "0") o p o' r → Text (left i) (λ f. show_term (term_in f s i)) lim o p o' r
unfolding show_term signed_decimal decimal digits ascii
term-zero H h X = term-lays H (λ f l. lays-as (ap show_term (sym (h f))) X)

pub term-record : {s : List ℕ} {i e lim p q r t : ℕ} {o o₁ o₂ o₃ : List ℕ} → Looks s i (N.Record e) → Lays lim (ascii "(rec") o p o₁ q → Text (left (i + 1) + 1) (λ f. show_terms (terms_in f s (i + 1) e)) lim o₁ q o₂ r → Lays lim (ascii ")") o₂ r o₃ t →
    Text (left i) (λ f. show_term (term_in f s i)) lim o p o₃ t
unfolding show_term
term-record H A B C = term-lays H (λ f l. lays-two A (lays-two (B.is f (omega (arith, H.inside.0, H.inside.1))) C))

pub term-binary : {s : List ℕ} {i j lim p q r t u v : ℕ} {w : BinOp} {o o₁ o₂ o₃ o₄ o₅ : List ℕ} → Looks s i (N.Binary w j) → Lays lim (open_text w) o p o₁ q → Text (left (i + 1)) (λ f. show_term (term_in f s (i + 1))) lim o₁ q o₂ r → Lays lim (ascii " ") o₂ r o₃ t →
    Text (left j) (λ f. show_term (term_in f s j)) lim o₃ t o₄ u → Lays lim (ascii ")") o₄ u o₅ v → Text (left i) (λ f. show_term (term_in f s i)) lim o p o₅ v
unfolding show_term
term-binary {s} {i} {j} {lim} {p} {q} {r} {t} {u} {v} {w} H A B C D E = term-lays H (λ f l. lays-as
    (append_assoc (ascii "(") (ascii (bin_name (bin_of w)) ++ ascii " ") _ ∙ ap (λ (x : List ℕ). ascii "(" ++ x) (append_assoc (ascii (bin_name (bin_of w))) (ascii " ") _))
    (lays-two A (lays-two (B.is f (omega (arith, H.inside.0, H.inside.1))) (lays-two C (lays-two (D.is f (omega (arith, H.inside.0, H.inside.1))) E)))))

-- the operators of document 02: by name, whatever the calendar holds
same_name : (K : ℕ → Calendar) (w : Fun) → fun_name (fun_of w) ≡ fun_name (lent_of K w)
unfolding fun_name
same_name K Choice = refl
same_name K (Open n) = refl

pub name-choice : {lim p q : ℕ} {o o₁ : List ℕ} {w : Fun} → w ≡ Choice → Lays lim (ascii "(if") o p o₁ q → Lays lim (operator_text w) o p o₁ q
unfolding ascii fun_name
name-choice e A = rw e A

pub name-open : {lim p q r n : ℕ} {o o₁ o₂ : List ℕ} {w : Fun} → w ≡ Open n → Lays lim (ascii "(open ") o p o₁ q → Text n (λ f. digits f n) lim o₁ q o₂ r → Lays lim (operator_text w) o p o₂ r
unfolding ascii fun_name
name-open e A B = rw e (lays-two A (decimal-text B))

pub term-operator : {s : List ℕ} {i e lim p q r t : ℕ} {w : Fun} {o o₁ o₂ o₃ : List ℕ} → Looks s i (N.Operator w e) → Lays lim (operator_text w) o p o₁ q → Text (left (i + 1) + 1) (λ f. show_terms (terms_in f s (i + 1) e)) lim o₁ q o₂ r → Lays lim (ascii ")") o₂ r o₃ t →
    Text (left i) (λ f. show_term (term_in f s i)) lim o p o₃ t
unfolding show_term
term-operator {s} {w = w} H A B C = term-lays H (λ f l. lays-as (append_assoc (ascii "(") (fun_name (lent_of (calendar_in s) w)) _)
    (lays-two (lays-as (ap (λ (x : List ℕ). ascii "(" ++ x) (same_name (calendar_in s) w)) A) (lays-two (B.is f (omega (arith, H.inside.0, H.inside.1))) C)))

pub term-negation : {s : List ℕ} {i lim p q r t : ℕ} {o o₁ o₂ o₃ : List ℕ} → Looks s i N.Negation → Lays lim (ascii "(not ") o p o₁ q → Text (left (i + 1)) (λ f. show_term (term_in f s (i + 1))) lim o₁ q o₂ r → Lays lim (ascii ")") o₂ r o₃ t →
    Text (left i) (λ f. show_term (term_in f s i)) lim o p o₃ t
unfolding show_term
term-negation H A B C = term-lays H (λ f l. lays-two A (lays-two (B.is f (omega (arith, H.inside))) C))

pub terms-end : (s : List ℕ) (i : ℕ) (e : ℕ) {lim p : ℕ} {o : List ℕ} → e ≤ i → Text (left i + 1) (λ f. show_terms (terms_in f s i e)) lim o p o p
unfolding term_in show_term pick
terms-end s i e {lim} {p} {o} l = text-by (λ f h. lays-as (ap (λ (t : Bool). show_terms (pick t Pl.pnil (Pl.pcons (term_in f s i) (terms_in f s (next s i) e)))) (sym (le-leb e i l))) (lays-nil lim p o))

pub terms-more : (s : List ℕ) (i : ℕ) (e : ℕ) {j : ℕ} {lim p q r t : ℕ} {o o₁ o₂ o₃ : List ℕ} → i < e → e ≤ form_words → Lays lim (ascii " ") o p o₁ q → Text (left i) (λ f. show_term (term_in f s i)) lim o₁ q o₂ r → j ≡ next s i →
    Text (left j + 1) (λ f. show_terms (terms_in f s j e)) lim o₂ r o₃ t → Text (left i + 1) (λ f. show_terms (terms_in f s i e)) lim o p o₃ t
unfolding term_in show_term pick
terms-more s i e {j} l top A B J C = text-by (λ f h. lays-as (ap (λ (x : Bool). show_terms (pick x Pl.pnil (Pl.pcons (term_in f s i) (terms_in f s (next s i) e)))) (sym (lt-leb e i l)))
    (lays-two A (lays-two (B.is f (omega arith)) (lays-as (ap (λ (x : ℕ). show_terms (terms_in f s x e)) J) (C.is f (omega (arith, J, next_past s i (omega arith))))))))

-- ---- head
pub head-generator : {s : List ℕ} {i g k lim p r : ℕ} {o o' : List ℕ} → LooksC s i (Cl.Generator g k) → Text (left (i + 1) + 1) (λ f. show_term (head_in f s (i + 1))) lim o p o' r → Text (left i + 1) (λ f. show_term (head_in f s i)) lim o p o' r
head-generator H T = head-lays H (λ f l. T.is f (omega (arith, H.inside.0)))

pub head-condition : {s : List ℕ} {i j lim p r : ℕ} {o o' : List ℕ} → LooksC s i (Cl.Condition j) → Text (left j + 1) (λ f. show_term (head_in f s j)) lim o p o' r → Text (left i + 1) (λ f. show_term (head_in f s i)) lim o p o' r
head-condition H T = head-lays H (λ f l. T.is f (omega (arith, H.inside.0, H.inside.1)))

pub head-head : {s : List ℕ} {i lim p r : ℕ} {o o' : List ℕ} → LooksC s i Cl.Head → Text (left i) (λ f. show_term (term_in f s i)) lim o p o' r → Text (left i + 1) (λ f. show_term (head_in f s i)) lim o p o' r
head-head H T = head-lays H (λ f l. T.is f (omega arith))

-- ---- conditions: F is what is written of them
module _ (F : List PTerm → List ℕ) (m : ℕ) where
  pub conds-generator : {s : List ℕ} {i g k lim p r : ℕ} {o o' : List ℕ} → LooksC s i (Cl.Generator g k) → Text (left (i + 1) + 1) (λ f. F (conds_in f s m (i + 1))) lim o p o' r → Text (left i + 1) (λ f. F (conds_in f s m i)) lim o p o' r
  conds-generator H T = conds-lays H F m (λ f l. T.is f (omega (arith, H.inside.0)))

  pub conds-skip : {s : List ℕ} {i j a lim p r : ℕ} {o o' : List ℕ} → LooksC s i (Cl.Condition j) → a ≡ mark_at s i → (a ≡ m → ⊥) → Text (left j + 1) (λ f. F (conds_in f s m j)) lim o p o' r → Text (left i + 1) (λ f. F (conds_in f s m i)) lim o p o' r
  unfolding pick
  conds-skip {s} {i} {j} H e n T = conds-lays H F m (λ f l. lays-as
      (ap (λ (t : Bool). F (pick t (term_in f s (i + 1) ∷ conds_in f s m j) (conds_in f s m j))) (sym (ne_eqb (mark_at s i) m (λ x. n (e ∙ x)))))
      (T.is f (omega (arith, H.inside.0, H.inside.1))))

  conds-take : {s : List ℕ} {i j a lim p r : ℕ} {o o' : List ℕ} (H : LooksC s i (Cl.Condition j)) → a ≡ mark_at s i → a ≡ m → ((f : ℕ) → left i + 1 < suc f → Lays lim (F (term_in f s (i + 1) ∷ conds_in f s m j)) o p o' r) → Text (left i + 1) (λ f. F (conds_in f s m i)) lim o p o' r
  unfolding pick
  conds-take {s} {i} {j} H e y T = conds-lays H F m (λ f l. lays-as (ap (λ (t : Bool). F (pick t (term_in f s (i + 1) ∷ conds_in f s m j) (conds_in f s m j))) (sym (eq-eqb (mark_at s i) m (sym e ∙ y)))) (T f l))

  conds-none : {s : List ℕ} {i lim p r : ℕ} {o o' : List ℕ} → LooksC s i Cl.Head → Lays lim (F []) o p o' r → Text (left i + 1) (λ f. F (conds_in f s m i)) lim o p o' r
  conds-none H X = conds-lays H F m (λ f l. X)

pub openings-later : {m i j a lim p q r : ℕ} {b : Bool} {s o o₁ o₂ : List ℕ} → LooksC s i (Cl.Condition j) → a ≡ mark_at s i → a ≡ m → b ≡ true → Lays lim (ascii "(and ") o p o₁ q → Text (left j + 1) (λ f. opens true (conds_in f s m j)) lim o₁ q o₂ r → Text (left i + 1) (λ f. opens b (conds_in f s m i)) lim o p o₂ r
unfolding opens
openings-later {m} {i} {j} {a} {lim} {p} {q} {r} {b} {s} {o} {o₁} {o₂} H e y t A B = subst (λ (c : Bool). Text (left i + 1) (λ f. opens c (conds_in f s m i)) lim o p o₂ r) (sym t)
    (conds-take (opens true) m H e y (λ f l. lays-two A (B.is f (omega (arith, H.inside.0, H.inside.1)))))

pub openings-first : {m i j a lim p r : ℕ} {b : Bool} {s o o' : List ℕ} → LooksC s i (Cl.Condition j) → a ≡ mark_at s i → a ≡ m → b ≡ false → Text (left j + 1) (λ f. opens true (conds_in f s m j)) lim o p o' r → Text (left i + 1) (λ f. opens b (conds_in f s m i)) lim o p o' r
unfolding opens
openings-first {m} {i} {j} {a} {lim} {p} {r} {b} {s} {o} {o'} H e y t B = subst (λ (c : Bool). Text (left i + 1) (λ f. opens c (conds_in f s m i)) lim o p o' r) (sym t)
    (conds-take (opens false) m H e y (λ f l. B.is f (omega (arith, H.inside.0, H.inside.1))))

pub openings-head : (m : ℕ) {i lim p : ℕ} (b : Bool) {s o : List ℕ} → LooksC s i Cl.Head → Text (left i + 1) (λ f. opens b (conds_in f s m i)) lim o p o p
unfolding opens
openings-head m {i} {lim} {p} b {s} {o} H = conds-none (opens b) m H (lays-nil lim p o)

pub closings-condition : (b : Bool) {m i j a lim p q r : ℕ} {s o o₁ o₂ : List ℕ} → LooksC s i (Cl.Condition j) → a ≡ mark_at s i → a ≡ m → Text (left (i + 1)) (λ f. condition_text b (term_in f s (i + 1))) lim o p o₁ q →
    Text (left j + 1) (λ f. closes true (conds_in f s m j)) lim o₁ q o₂ r → Text (left i + 1) (λ f. closes b (conds_in f s m i)) lim o p o₂ r
unfolding closes
closings-condition b {m} {i} {j} {a} {lim} {p} {q} {r} H e y A B = conds-take (closes b) m H e y (λ f l. lays-two (A.is f (omega (arith, H.inside.0, H.inside.1))) (B.is f (omega (arith, H.inside.0, H.inside.1))))

pub closings-later : (m : ℕ) {i lim p : ℕ} {b : Bool} {s o : List ℕ} → LooksC s i Cl.Head → b ≡ true → Text (left i + 1) (λ f. closes b (conds_in f s m i)) lim o p o p
unfolding closes
closings-later m {i} {lim} {p} {b} {s} {o} H t = subst (λ (c : Bool). Text (left i + 1) (λ f. closes c (conds_in f s m i)) lim o p o p) (sym t) (conds-none (closes true) m H (lays-nil lim p o))

pub closings-none : (m : ℕ) {i lim p r : ℕ} {b : Bool} {s o o' : List ℕ} → LooksC s i Cl.Head → b ≡ false → Lays lim (ascii "true") o p o' r → Text (left i + 1) (λ f. closes b (conds_in f s m i)) lim o p o' r
unfolding closes
closings-none m {i} {lim} {p} {r} {b} {s} {o} {o'} H t X = subst (λ (c : Bool). Text (left i + 1) (λ f. closes c (conds_in f s m i)) lim o p o' r) (sym t) (conds-none (closes false) m H X)

pub condition-later : (s : List ℕ) (i : ℕ) {lim p q r t : ℕ} {b : Bool} {o o₁ o₂ o₃ : List ℕ} → b ≡ true → Lays lim (ascii " ") o p o₁ q → Text (left i) (λ f. show_term (term_in f s i)) lim o₁ q o₂ r → Lays lim (ascii ")") o₂ r o₃ t → Text (left i) (λ f. condition_text b (term_in f s i)) lim o p o₃ t
condition-later s i e A B C = record { is = λ f l. lays-as (ap (λ (c : Bool). condition_text c (term_in f s i)) (sym e)) (lays-two A (lays-two (B.is f l) C)) }

pub condition-first : (s : List ℕ) (i : ℕ) {lim p r : ℕ} {b : Bool} {o o' : List ℕ} → b ≡ false → Text (left i) (λ f. show_term (term_in f s i)) lim o p o' r → Text (left i) (λ f. condition_text b (term_in f s i)) lim o p o' r
condition-first s i e B = record { is = λ f l. lays-as (ap (λ (c : Bool). condition_text c (term_in f s i)) (sym e)) (B.is f l) }

-- ---- the rest of a line
pub rest-is : (s : List ℕ) (i : ℕ) (m : ℕ) {lim p q r t u : ℕ} {o o₁ o₂ o₃ o₄ : List ℕ} → Lays lim (ascii " ") o p o₁ q → Text (left i + 1) (λ f. opens false (conds_in f s m i)) lim o₁ q o₂ r → Text (left i + 1) (λ f. closes false (conds_in f s m i)) lim o₂ r o₃ t →
    Lays lim (ascii "\n") o₃ t o₄ u → Text (left i + 1) (λ f. rest_text (conj (conds_in f s m i))) lim o p o₄ u
rest-is s i m A B C D = record {
  is = λ f l. lays-as
      (ap (λ (x : List ℕ). ascii " " ++ x) (sym (append_assoc (opens false (conds_in f s m i)) (closes false (conds_in f s m i)) (ascii "\n")) ∙ ap (λ (x : List ℕ). x ++ ascii "\n") (sym (conj-text (conds_in f s m i)))))
      (lays-two A (lays-two (B.is f l) (lays-two (C.is f l) D)));
}

-- a line that begins with join or outer
grower-line : (b : Bool) (a : Source) (c : PTerm) → grower_text b ++ (show_source a ++ rest_text c) ≡ show_op (grower b a c)
unfolding show_op
grower-line true a c = refl
grower-line false a c = refl

pub grow-is : (s : List ℕ) (c : ℕ) (m : ℕ) (b : Bool) {k lim p q r t : ℕ} {o o₁ o₂ o₃ : List ℕ} → Lays lim (grower_text b) o p o₁ q → Text k (λ f. digits f k) lim o₁ q o₂ r → Text (left c + 1) (λ f. rest_text (conj (conds_in f s m c))) lim o₂ r o₃ t →
    Text (left c + 1) (λ f. show_op (op_in f (grower b) s c (table k) m)) lim o p o₃ t
unfolding show_source
grow-is s c m b {k} {lim} {p} {q} {r} {t} A B C = record { is = λ f l. lays-as (grower-line b (table k) (conj (conds_in f s m c))) (lays-two A (lays-two (decimal-text B) (C.is f l))) }

pub unit-is : (s : List ℕ) (c : ℕ) (m : ℕ) (b : Bool) {lim p q r t : ℕ} {o o₁ o₂ o₃ : List ℕ} → Lays lim (grower_text b) o p o₁ q → Lays lim (ascii "unit") o₁ q o₂ r → Text (left c + 1) (λ f. rest_text (conj (conds_in f s m c))) lim o₂ r o₃ t →
    Text (left c + 1) (λ f. show_op (op_in f (grower b) s c unit m)) lim o p o₃ t
unfolding show_source
unit-is s c m b {lim} {p} {q} {r} {t} A B C = record { is = λ f l. lays-as (grower-line b unit (conj (conds_in f s m c))) (lays-two A (lays-two B (C.is f l))) }

-- ---- generators
grows-by : {s : List ℕ} {i : ℕ} {d : Clause} {r : Bool} → LooksC s i d → ((f : ℕ) → left i + 1 < suc f → (O : Source → ℕ → Pl.Op) (u : Pl.Op) →
    or_else u (grows_by O (λ j. grows_in f O s j) i (mark_at s i) d) ≡ pick r (grows_by O (λ j. grows_in f O s j) i (mark_at s i) d) (u ∷ [])) → GrowsPost s i r
grows-by {s} {i} {d} {r} H h = record { is = elim [ zero ↦ λ l. absurd (omega arith) | suc f ↦ λ l O u. subst (λ (x : List Pl.Op). or_else u x ≡ pick r x (u ∷ [])) (sym (grows-is H f O)) (h f l O u) ] }

pub grows-generator : {s : List ℕ} {i g k : ℕ} → LooksC s i (Cl.Generator g k) → GrowsPost s i true
unfolding or_else pick
grows-generator H = grows-by H (λ f l O u. refl)

pub grows-condition : {s : List ℕ} {i j : ℕ} {r : Bool} → LooksC s i (Cl.Condition j) → GrowsPost s j r → GrowsPost s i r
grows-condition H G = grows-by H (λ f l O u. G.is f (omega (arith, H.inside.0, H.inside.1)) O u)

pub grows-head : {s : List ℕ} {i : ℕ} → LooksC s i Cl.Head → GrowsPost s i false
unfolding or_else pick
grows-head H = grows-by H (λ f l O u. refl)

growers-by : {s : List ℕ} {c i lim p r : ℕ} {b : Bool} {d : Clause} {o o' : List ℕ} → LooksC s i d → ((f : ℕ) → left i + 1 < suc f → (h : ℕ) → left c + 1 < h →
    Lays lim (show_ops (grows_by (op_in h (grower b) s c) (λ j. grows_in f (op_in h (grower b) s c) s j) i (mark_at s i) d)) o p o' r) → GrowersPost s c i b lim o p o' r
growers-by {s} {c} {i} {lim} {p} {r} {b} H q = record { is = elim [ zero ↦ λ l. absurd (omega arith) | suc f ↦ λ l h m. lays-as (ap show_ops (sym (grows-is H f (op_in h (grower b) s c)))) (q f l h m) ] }

pub growers-generator : {s : List ℕ} {c i g k a lim p q r : ℕ} {b : Bool} {o o₁ o₂ : List ℕ} → LooksC s i (Cl.Generator g k) → a ≡ mark_at s i → Text (left c + 1) (λ f. show_op (op_in f (grower b) s c (table k) a)) lim o p o₁ q → GrowersPost s c (i + 1) b lim o₁ q o₂ r →
    GrowersPost s c i b lim o p o₂ r
unfolding show_ops
growers-generator {s} {c} {i} {g} {k} {a} {lim} {p} {q} {r} {b} H e A B = growers-by H (λ f l h m. lays-two (lays-as (ap (λ (x : ℕ). show_op (op_in h (grower b) s c (table k) x)) e) (A.is h m)) (B.is f (omega (arith, H.inside.0)) h m))

pub growers-condition : {s : List ℕ} {c i j lim p r : ℕ} {b : Bool} {o o' : List ℕ} → LooksC s i (Cl.Condition j) → GrowersPost s c j b lim o p o' r → GrowersPost s c i b lim o p o' r
growers-condition H B = growers-by H (λ f l h m. B.is f (omega (arith, H.inside.0, H.inside.1)) h m)

pub growers-head : {s : List ℕ} {c i lim p : ℕ} {b : Bool} {o : List ℕ} → LooksC s i Cl.Head → GrowersPost s c i b lim o p o p
unfolding show_ops
growers-head {s} {c} {i} {lim} {p} {b} {o} H = growers-by H (λ f l h m. lays-nil lim p o)

pub own-some : (b : Bool) {s : List ℕ} {i lim p r : ℕ} {g : Bool} {o o' : List ℕ} → i < form_words → GrowsPost s (i + 1) g → g ≡ true → GrowersPost s (i + 1) (i + 1) b lim o p o' r → Text (left i - 1) (λ f. show_ops (own_in f (grower b) s i)) lim o p o' r
unfolding pick
own-some b {s} {i} {lim} {p} {r} {g} a G e X = record {
  is = λ f l. lays-as
      (ap show_ops (sym (G.is f (omega arith) (op_in f (grower b) s (i + 1)) (op_in f (grower b) s (i + 1) unit (mark_at s i))
      ∙ ap (λ (t : Bool). pick t (grows_in f (op_in f (grower b) s (i + 1)) s (i + 1)) (op_in f (grower b) s (i + 1) unit (mark_at s i) ∷ [])) e)))
      (X.is f (omega arith) f (omega arith));
}

pub own-unit : (b : Bool) {s : List ℕ} {i m lim p r : ℕ} {g : Bool} {o o' : List ℕ} → i < form_words → GrowsPost s (i + 1) g → g ≡ false → m ≡ mark_at s i → Text (left (i + 1) + 1) (λ f. show_op (op_in f (grower b) s (i + 1) unit m)) lim o p o' r → Text (left i - 1) (λ f. show_ops (own_in f (grower b) s i)) lim o p o' r
unfolding pick show_ops
own-unit b {s} {i} {m} {lim} {p} {r} {g} a G e q X = record {
  is = λ f l. lays-as
      (sym (append-nil (show_op (op_in f (grower b) s (i + 1) unit m))) ∙ ap (λ (x : ℕ). show_ops (op_in f (grower b) s (i + 1) unit x ∷ [])) q
      ∙ ap show_ops (sym (G.is f (omega arith) (op_in f (grower b) s (i + 1)) (op_in f (grower b) s (i + 1) unit (mark_at s i))
      ∙ ap (λ (t : Bool). pick t (grows_in f (op_in f (grower b) s (i + 1)) s (i + 1)) (op_in f (grower b) s (i + 1) unit (mark_at s i) ∷ [])) e)))
      (X.is f (omega arith));
}

-- ---- nest and reduce
pub last-is : (s : List ℕ) (c : ℕ) (m : Monoid) {lim p q r t : ℕ} {o o₁ o₂ o₃ : List ℕ} → Lays lim (monoid_text m) o p o₁ q → Text (left c + 1) (λ f. show_term (head_in f s c)) lim o₁ q o₂ r → Text (left c + 1) (λ f. rest_text (conj (conds_in f s 0 c))) lim o₂ r o₃ t →
    Text (left c + 1) (λ f. show_last (monoid_of m) (head_in f s c) (conj (conds_in f s 0 c))) lim o p o₃ t
unfolding show_last
last-is s c m {lim} {p} {q} {r} {t} A B C = record { is = λ f l. lays-as (append_assoc (ascii (monoid_name (monoid_of m))) (ascii " ") (show_term (head_in f s c) ++ rest_text (conj (conds_in f s 0 c)))) (lays-two A (lays-two (B.is f l) (C.is f l))) }

pub nest-is : (s : List ℕ) (i : ℕ) (m : Monoid) {k a lim p q r t u : ℕ} {o o₁ o₂ o₃ o₄ : List ℕ} → i < form_words → a ≡ mark_at s i → k ≡ pred a → Lays lim (ascii "nest ") o p o₁ q → Text k (λ f. digits f k) lim o₁ q o₂ r → Lays lim (ascii " ") o₂ r o₃ t →
    Text (left (i + 1) + 1) (λ f. show_last (monoid_of m) (head_in f s (i + 1)) (conj (conds_in f s 0 (i + 1)))) lim o₃ t o₄ u → Text (left i - 1) (λ f. nest_text f s i m) lim o p o₄ u
unfolding show_op
nest-is s i m {k} {a} {lim} {p} {q} {r} {t} {u} b e n A B C D = record {
  is = λ f l. lays-as
      (ap (λ (x : ℕ). ascii "nest " ++ (decimal x ++ (ascii " " ++ show_last (monoid_of m) (head_in f s (i + 1)) (conj (conds_in f s 0 (i + 1)))))) (n ∙ ap pred e))
      (lays-two A (lays-two (decimal-text B) (lays-two C (D.is f (omega arith)))));
}

-- ---- operators
pub show-append : (a b : List Pl.Op) → show_ops (a ++ b) ≡ show_ops a ++ show_ops b
unfolding show_ops
show-append [] b = refl
show-append (x ∷ a) b = ap (λ (y : List ℕ). show_op x ++ y) (show-append a b) ∙ sym (append_assoc (show_op x) (show_ops a) (show_ops b))

pub ops-none : {s : List ℕ} {i lim p : ℕ} {n : FormNode} {o : List ℕ} (H : Looks s i n) → ((f : ℕ) → ops_node H f ≡ []) → Text (left i) (λ f. show_ops (ops_in f s i)) lim o p o p
unfolding show_ops
ops-none {s} {i} {lim} {p} {n} {o} H h = ops-lays H (λ f l. lays-as (ap show_ops (sym (h f))) (lays-nil lim p o))

pub ops-record : {s : List ℕ} {i e lim p r : ℕ} {o o' : List ℕ} → Looks s i (N.Record e) → Text (left (i + 1) + 1) (λ f. show_ops (ops_in_f f s (i + 1) e)) lim o p o' r → Text (left i) (λ f. show_ops (ops_in f s i)) lim o p o' r
ops-record H A = ops-lays H (λ f l. A.is f (omega (arith, H.inside.0, H.inside.1)))

pub ops-binary : {s : List ℕ} {i j lim p q r : ℕ} {w : BinOp} {o o₁ o₂ : List ℕ} → Looks s i (N.Binary w j) → Text (left (i + 1)) (λ f. show_ops (ops_in f s (i + 1))) lim o p o₁ q → Text (left j) (λ f. show_ops (ops_in f s j)) lim o₁ q o₂ r → Text (left i) (λ f. show_ops (ops_in f s i)) lim o p o₂ r
ops-binary {s} {i} {j} H A B = ops-lays H (λ f l. lays-as (sym (show-append (ops_in f s (i + 1)) (ops_in f s j))) (lays-two (A.is f (omega (arith, H.inside.0, H.inside.1))) (B.is f (omega (arith, H.inside.0, H.inside.1)))))

pub ops-operator : {s : List ℕ} {i e lim p r : ℕ} {w : Fun} {o o' : List ℕ} → Looks s i (N.Operator w e) → Text (left (i + 1) + 1) (λ f. show_ops (ops_in_f f s (i + 1) e)) lim o p o' r → Text (left i) (λ f. show_ops (ops_in f s i)) lim o p o' r
ops-operator H A = ops-lays H (λ f l. A.is f (omega (arith, H.inside.0, H.inside.1)))

pub ops-negation : {s : List ℕ} {i lim p r : ℕ} {o o' : List ℕ} → Looks s i N.Negation → Text (left (i + 1)) (λ f. show_ops (ops_in f s (i + 1))) lim o p o' r → Text (left i) (λ f. show_ops (ops_in f s i)) lim o p o' r
ops-negation H A = ops-lays H (λ f l. A.is f (omega (arith, H.inside)))

-- the operators of the comprehension are those of its own generators at the fuel below
pub ops-comprehension : {s : List ℕ} {i lim p q r t : ℕ} {m : Monoid} {o o₁ o₂ o₃ : List ℕ} → Looks s i (N.Comprehension m) → Text (left i - 1) (λ f. show_ops (own_in f (grower true) s i)) lim o p o₁ q → Text (left (i + 1) + 1) (λ f. show_ops (inner_in f s (i + 1))) lim o₁ q o₂ r →
    Text (left i - 1) (λ f. nest_text f s i m) lim o₂ r o₃ t → Text (left i) (λ f. show_ops (ops_in f s i)) lim o p o₃ t
unfolding show_ops
ops-comprehension {s} {i} {lim} {p} {q} {r} {t} {m} H A B C = ops-lays H (λ f l. lays-as
    (ap (λ (x : List ℕ). show_ops (own_in f (grower true) s i) ++ (show_ops (inner_in f s (i + 1)) ++ x)) (sym (append-nil (nest_text f s i m)))
    ∙ sym (show-append (own_in f (grower true) s i) (inner_in f s (i + 1) ++ (nest (pred (mark_at s i)) (monoid_of m) (head_in f s (i + 1)) (conj (conds_in f s 0 (i + 1))) ∷ []))
    ∙ ap (λ (x : List ℕ). show_ops (own_in f (grower true) s i) ++ x) (show-append (inner_in f s (i + 1)) (nest (pred (mark_at s i)) (monoid_of m) (head_in f s (i + 1)) (conj (conds_in f s 0 (i + 1))) ∷ []))))
    (lays-two (A.is f (omega (arith, H.inside))) (lays-two (B.is f (omega (arith, H.inside))) (C.is f (omega (arith, H.inside))))))

pub upto-end : (s : List ℕ) (i : ℕ) (e : ℕ) {lim p : ℕ} {o : List ℕ} → e ≤ i → Text (left i + 1) (λ f. show_ops (ops_in_f f s i e)) lim o p o p
unfolding ops_in show_ops pick
upto-end s i e {lim} {p} {o} l = text-by (λ f h. lays-as (ap (λ (t : Bool). show_ops (pick t [] (ops_in f s i ++ ops_in_f f s (next s i) e))) (sym (le-leb e i l))) (lays-nil lim p o))

pub upto-more : (s : List ℕ) (i : ℕ) (e : ℕ) {j : ℕ} {lim p q r : ℕ} {o o₁ o₂ : List ℕ} → i < e → e ≤ form_words → Text (left i) (λ f. show_ops (ops_in f s i)) lim o p o₁ q → j ≡ next s i → Text (left j + 1) (λ f. show_ops (ops_in_f f s j e)) lim o₁ q o₂ r → Text (left i + 1) (λ f. show_ops (ops_in_f f s i e)) lim o p o₂ r
unfolding ops_in pick
upto-more s i e {j} l top A J B = text-by (λ f h. lays-as
    (ap (λ (x : ℕ). show_ops (ops_in f s i) ++ show_ops (ops_in_f f s x e)) J ∙ sym (show-append (ops_in f s i) (ops_in_f f s (next s i) e)) ∙ ap (λ (t : Bool). show_ops (pick t [] (ops_in f s i ++ ops_in_f f s (next s i) e))) (sym (lt-leb e i l)))
    (lays-two (A.is f (omega arith)) (B.is f (omega (arith, J, next_past s i (omega arith))))))

pub inside-generator : {s : List ℕ} {i g k lim p r : ℕ} {o o' : List ℕ} → LooksC s i (Cl.Generator g k) → Text (left (i + 1) + 1) (λ f. show_ops (inner_in f s (i + 1))) lim o p o' r → Text (left i + 1) (λ f. show_ops (inner_in f s i)) lim o p o' r
inside-generator H A = inner-lays H (λ f l. A.is f (omega (arith, H.inside.0)))

pub inside-condition : {s : List ℕ} {i j lim p q r : ℕ} {o o₁ o₂ : List ℕ} → LooksC s i (Cl.Condition j) → Text (left (i + 1)) (λ f. show_ops (ops_in f s (i + 1))) lim o p o₁ q → Text (left j + 1) (λ f. show_ops (inner_in f s j)) lim o₁ q o₂ r → Text (left i + 1) (λ f. show_ops (inner_in f s i)) lim o p o₂ r
inside-condition {s} {i} {j} H A B = inner-lays H (λ f l. lays-as (sym (show-append (ops_in f s (i + 1)) (inner_in f s j))) (lays-two (A.is f (omega (arith, H.inside.0, H.inside.1))) (B.is f (omega (arith, H.inside.0, H.inside.1)))))

pub inside-head : {s : List ℕ} {i lim p r : ℕ} {o o' : List ℕ} → LooksC s i Cl.Head → Text (left i) (λ f. show_ops (ops_in f s i)) lim o p o' r → Text (left i + 1) (λ f. show_ops (inner_in f s i)) lim o p o' r
inside-head H A = inner-lays H (λ f l. A.is f (omega arith))

-- ---- the whole
pub all-is : (s : List ℕ) {m : Monoid} {lim p q r t u : ℕ} {o o₁ o₂ o₃ o₄ o₅ : List ℕ} → Lays lim (ascii "one\n") o 0 o₁ p → Text (left 0 - 1) (λ f. show_ops (own_in f (grower false) s 0)) lim o₁ p o₂ q → Text (left 1 + 1) (λ f. show_ops (inner_in f s 1)) lim o₂ q o₃ r →
    Lays lim (ascii "reduce ") o₃ r o₄ t → OutermostPost s m → Text (left 1 + 1) (λ f. show_last (monoid_of m) (head_in f s 1) (conj (conds_in f s 0 1))) lim o₄ t o₅ u → Text (left 0) (λ f. lines (plan_at f s)) lim o 0 o₅ u
unfolding lines plan_at
all-is s {m} {lim} {p} {q} {r} {t} {u} A B C D e E = record {
  is = λ f l. lays-as
      (ap (λ (x : List ℕ). ascii "one\n" ++ x) (sym (append_assoc (show_ops (own_in f (grower false) s 0)) (show_ops (inner_in f s 1)) (ascii "reduce " ++ show_last (monoid_of m) (head_in f s 1) (conj (conds_in f s 0 1))))
      ∙ ap (λ (x : List ℕ). x ++ (ascii "reduce " ++ show_last (monoid_of m) (head_in f s 1) (conj (conds_in f s 0 1)))) (sym (show-append (own_in f (grower false) s 0) (inner_in f s 1)))
      ∙ ap (λ (x : Sy.Monoid). show_ops (own_in f (grower false) s 0 ++ inner_in f s 1) ++ (ascii "reduce " ++ show_last x (head_in f s 1) (conj (conds_in f s 0 1)))) e.is))
      (lays-two A (lays-two (B.is f (omega arith)) (lays-two (C.is f (omega arith)) (lays-two D (E.is f (omega arith))))));
}
