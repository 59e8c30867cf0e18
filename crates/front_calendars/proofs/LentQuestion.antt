-- Where a question lies in the words, the nodes pass exactly where every calendar that it names is lent.
use mathlib.Core.Path.{◌≡◌, refl, sym, ap, ap₂, ◌∙◌}
use mathlib.Core.List.{List}
use mathlib.Core.Bool.{Bool, true, false, ◌&&◌, and-true}
use Prim.Native.Nat.{ℕ, zero, suc, ◌+◌}
use native.Mathlib.Omega.{arith}
use lib.Dec.{eqb, ltb}
use lib.ListN.{get_or}
use borrow.Author.Tests.{eqb-true, eq-eqb}
use Rattle.spec_calculus.specs.Lists.{pick}
use Rattle.spec_calculus.specs.Syntax.{Fun, choice, is_open, Term, Terms, Quals, num, truth, name, field, rec, bin, negate, app, comp, table, tnil, tcons, qnil, gen, bind, cond, Question, as_term}
use Rattle.spec_checks.specs.Calendars.{named_lent_op, named_lent_t, named_lent_ts, named_lent_q, calendars_lent}
use Rattle.spec_encoding.specs.Reader.{Kind, kinds, unknown, open_k}
use Rattle.base_signed.proofs.SignedWords.{by-test}
use Rattle.front_words.specs.NodeWord.{node_kind_of, node_word}
use Rattle.front_words.specs.NodeTree.{arg_at}
use Rattle.front_words.specs.LaidTree.{nodes, nodes_l, nodes_q, operator, argued, LaidNode, Laid, LaidL, LaidQ}
use Rattle.front_scope.proofs.KindNumbers.{code, code_is, two-code}
use Rattle.front_calendars.specs.LentNodes.{lent_at, lent_from}

module _ (k : ℕ) (s : List ℕ) where
  -- ---- some nodes, then others
  and_assoc : (a b c : Bool) → ((a && b) && c) ≡ (a && (b && c))
  and_assoc true b c = refl
  and_assoc false b c = refl

  both : (m n i : ℕ) → lent_from k s i (m + n) ≡ (lent_from k s i m && lent_from k s (i + m) n)
  unfolding lent_from
  both zero n i = let p : 0 + n ≡ n = omega arith in let q : i ≡ i + 0 = omega arith in ap (lent_from k s i) p ∙ ap (λ x. lent_from k s x n) q
  both (suc m) n i =
      let q : suc m + n ≡ suc (m + n) = omega arith in
      ap (lent_from k s i) q ∙ ap (λ b. lent_at k s i && b) (both m n (i + 1) ∙ ap (λ x. lent_from k s (i + 1) m && lent_from k s x n) (let p : i + 1 + m ≡ i + suc m = omega arith in p))
      ∙ sym (and_assoc (lent_at k s i) (lent_from k s (i + 1) m) (lent_from k s (i + suc m) n))

  alone : (i : ℕ) → lent_from k s i 1 ≡ lent_at k s i
  unfolding lent_from
  alone i = and-true (lent_at k s i)

  -- a node behind others
  last : (m i j : ℕ) → j ≡ i + m → lent_from k s i (m + 1) ≡ (lent_from k s i m && lent_at k s j)
  last m i j e = both m 1 i ∙ ap (λ b. lent_from k s i m && b) (alone (i + m) ∙ ap (lent_at k s) (sym e))

  -- ---- one node
  other : {d a i : ℕ} {K : Kind} → LaidNode s d a i K → (code K ≡ 21 → ⊥) → lent_at k s i ≡ true
  unfolding lent_at pick
  other {i = i} {K} N h = by-test (eqb (node_kind_of (node_word s i)) 21)
      (λ t. absurd (h (ap code (sym N.kind ∙ ap (λ x. get_or kinds x unknown) (eqb-true (node_kind_of (node_word s i)) 21 t)))))
      (λ t. ap (λ b. pick b (ltb (arg_at s i) k) true) t)

  named : {d a i n : ℕ} → LaidNode s d a i open_k → arg_at s i ≡ n → lent_at k s i ≡ ltb n k
  unfolding lent_at pick
  named {i = i} N e =
      ap (λ b. pick b (ltb (arg_at s i) k) true) (eq-eqb (node_kind_of (node_word s i)) 21 (code_is 21 (node_kind_of (node_word s i)) (omega arith) (ap code N.kind))) ∙ ap (λ x. ltb x k) e

  plain : (b : Bool) {c : Bool} → c ≡ true → (b && c) ≡ b
  plain b e = ap (λ c. b && c) e ∙ and-true b

  turned : (a b : Bool) → (a && b) ≡ (b && a)
  turned true true = refl
  turned true false = refl
  turned false true = refl
  turned false false = refl

  op-lent : (f : Fun) (ts : Terms) {d a i : ℕ} → LaidNode s d a i (operator f) → arg_at s i ≡ argued f ts → lent_at k s i ≡ named_lent_op k f
  unfolding named_lent_op
  op-lent choice ts N e = other N (λ h. absurd (omega arith))
  op-lent (is_open n c) ts N e = named N e

  -- a qualifier's node behind its term, then the others
  behind : (t : Term) (qs : Quals) (d a : ℕ) {K : Kind} {x y : Bool} → LaidNode s d a (a + nodes t) K → (code K ≡ 21 → ⊥)
      → lent_from k s a (nodes t) ≡ x → lent_from k s (a + nodes t + 1) (nodes_q qs) ≡ y → lent_from k s a (nodes t + 1 + nodes_q qs) ≡ (x && y)
  behind t qs d a N h p q =
      both (nodes t + 1) (nodes_q qs) a
      ∙ ap₂ ◌&&◌ (last (nodes t) a (a + nodes t) refl ∙ plain _ (other N h) ∙ p) (ap (λ i. lent_from k s i (nodes_q qs)) (omega arith) ∙ q)

  mutual
    unfolding named_lent_t nodes lent_from

    lent_laid : (t : Term) (d a : ℕ) → Laid s d a t → lent_from k s a (nodes t) ≡ named_lent_t k t
    lent_laid (num z) d a L = alone a ∙ other L.0 (λ h. absurd (omega arith))
    lent_laid (truth b) d a L = alone a ∙ other L.0 (λ h. absurd (omega arith))
    lent_laid (name x) d a L = alone a ∙ other L.0 (λ h. absurd (omega arith))
    lent_laid (field i t) d a L = last (nodes t) a (a + nodes t) refl ∙ plain _ (other L.1 (λ h. absurd (omega arith))) ∙ lent_laid t d a L.0
    lent_laid (rec ts) d a L = last (nodes_l ts) a (a + nodes_l ts) refl ∙ plain _ (other L.1 (λ h. absurd (omega arith))) ∙ lent-laid_l ts d a L.0
    lent_laid (app f ts) d a L =
        last (nodes_l ts) a (a + nodes_l ts) refl ∙ ap₂ ◌&&◌ (lent-laid_l ts d a L.0) (op-lent f ts L.1 L.2) ∙ turned (named_lent_ts k ts) (named_lent_op k f)
    lent_laid (bin o t u) d a L =
        last (nodes t + nodes u) a (a + nodes t + nodes u) (omega arith) ∙ plain _ (other L.2 (λ h. omega (arith, two-code o)))
        ∙ both (nodes t) (nodes u) a ∙ ap₂ ◌&&◌ (lent_laid t d a L.0) (lent_laid u d (a + nodes t) L.1)
    lent_laid (negate t) d a L = last (nodes t) a (a + nodes t) refl ∙ plain _ (other L.1 (λ h. absurd (omega arith))) ∙ lent_laid t d a L.0
    lent_laid (comp m qs h) d a L =
        last (nodes_q qs + nodes h) a (a + nodes_q qs + nodes h) (omega arith) ∙ plain _ (other L.2 (λ e. absurd (omega arith)))
        ∙ both (nodes_q qs) (nodes h) a ∙ ap₂ ◌&&◌ (lent-laid_q qs (d + 1) a L.0) (lent_laid h (d + 1) (a + nodes_q qs) L.1)
    lent_laid (table j) d a L = alone a ∙ other L.0 (λ h. absurd (omega arith))

    lent-laid_l : (ts : Terms) (d a : ℕ) → LaidL s d a ts → lent_from k s a (nodes_l ts) ≡ named_lent_ts k ts
    lent-laid_l tnil d a L = refl
    lent-laid_l (tcons t ts) d a L = both (nodes t) (nodes_l ts) a ∙ ap₂ ◌&&◌ (lent_laid t d a L.0) (lent-laid_l ts d (a + nodes t) L.1)

    lent-laid_q : (qs : Quals) (d a : ℕ) → LaidQ s d a qs → lent_from k s a (nodes_q qs) ≡ named_lent_q k qs
    lent-laid_q qnil d a L = refl
    lent-laid_q (gen x t qs) d a L = behind t qs d a L.1 (λ h. absurd (omega arith)) (lent_laid t d a L.0) (lent-laid_q qs d (a + nodes t + 1) L.3)
    lent-laid_q (bind x t qs) d a L = behind t qs d a L.1 (λ h. absurd (omega arith)) (lent_laid t d a L.0) (lent-laid_q qs d (a + nodes t + 1) L.3)
    lent-laid_q (cond t qs) d a L = behind t qs d a L.1 (λ h. absurd (omega arith)) (lent_laid t d a L.0) (lent-laid_q qs d (a + nodes t + 1) L.2)

  pub question-lent : (q : Question) (n : ℕ) → Laid s 0 0 (as_term q) → n ≡ nodes (as_term q) → lent_from k s 0 n ≡ calendars_lent k q
  unfolding calendars_lent
  question-lent q n L e = ap (lent_from k s 0) e ∙ lent_laid (as_term q) 0 0 L
