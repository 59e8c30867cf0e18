-- What every question that is read has: at most 32 comprehensions inside one another, names below 256, constants within 32
-- bits signed, records of at most 8 terms, and operators of as many as they take.
use mathlib.Core.Path.{◌≡◌}
use Prim.Native.Nat.{ℕ, ◌^◌, ◌≤◌, ◌<◌}
use native.Mathlib.Omega.{arith}
use lib.Signed.{mag}
use Rattle.spec_calculus.specs.Syntax.{arity, Term, Terms, Quals, num, truth, name, field, rec, bin, negate, app, comp, table, tnil, tcons, qnil, gen, bind, cond, Question, as_term}
use Rattle.spec_encoding.specs.Record.{Bytes, got}
use Rattle.spec_encoding.specs.Reader.{read_question}
use Rattle.spec_encoding.proofs.QuestionLimits.{Keeps, question-kept}
use Rattle.spec_normal_form.proofs.Ranges.{ExactlyL}
use Rattle.front_words.specs.LaidTree.{count_l}
use Rattle.front_nodes.specs.QuestionTree.{nesting, nesting_l, nesting_q}
use Rattle.front_scope.specs.ScopePass.{Small, SmallL, SmallQ}

-- constants are "signed, four bytes each"; "record (1 to 8 terms)"; an operator has as many terms as it takes
abbrev mutual
  pub Literal : Term → Type 0
  Literal (num z) = mag z < 2 ^ 31
  Literal (truth b) = Unit {0}
  Literal (name x) = Unit {0}
  Literal (field i t) = Literal t
  Literal (rec ts) = (count_l ts ≤ 8) × LiteralL ts
  Literal (app f ts) = ExactlyL (arity f) ts × LiteralL ts
  Literal (bin o t u) = Literal t × Literal u
  Literal (negate t) = Literal t
  Literal (comp m qs h) = LiteralQ qs × Literal h
  Literal (table k) = Unit {0}

  pub LiteralL : Terms → Type 0
  LiteralL tnil = Unit {0}
  LiteralL (tcons t ts) = Literal t × LiteralL ts

  pub LiteralQ : Quals → Type 0
  LiteralQ qnil = Unit {0}
  LiteralQ (gen x t qs) = Literal t × LiteralQ qs
  LiteralQ (bind x t qs) = Literal t × LiteralQ qs
  LiteralQ (cond t qs) = Literal t × LiteralQ qs

abbrev Given : ℕ → Term → Type 0
Given d t = (nesting t ≤ d) × Small t × Literal t

abbrev GivenL : ℕ → ℕ → Terms → Type 0
GivenL d k ts = (nesting_l ts ≤ d) × SmallL ts × LiteralL ts × (count_l ts ≤ k)

abbrev GivenQ : ℕ → Quals → Type 0
GivenQ d qs = (nesting_q qs ≤ d) × SmallQ qs × LiteralQ qs

reader-keeps : Keeps Given GivenL GivenQ
unfolding nesting count_l arity
reader-keeps = record {
  number = λ d z m. (omega arith, tt, m);
  truth = λ d b. (omega arith, tt, tt);
  name = λ d x. (omega arith, tt, tt);
  field = λ d i t p. (omega (arith, p.0), p.1, p.2);
  record' = λ d t ts p q. (omega (arith, p.0, q.0), (p.1, q.1), (omega (arith, q.3), (p.2, q.2)));
  binary = λ d o t u p q. (omega (arith, p.0, q.0), (p.1, q.1), (p.2, q.2));
  negation = λ d t p. (omega (arith, p.0), p.1, p.2);
  choice = λ d t u v p q r. (omega (arith, p.0, q.0, r.0), (p.1, (q.1, (r.1, tt))), (tt, (p.2, (q.2, (r.2, tt)))));
  opening = λ d n t p. (omega (arith, p.0), (p.1, tt), (tt, (p.2, tt)));
  comprehension = λ d m qs h p q. (omega (arith, p.0, q.0), (p.1, q.1), (p.2, q.2));
  table = λ d k. (omega arith, tt, tt);
  deeper = λ d t p. (omega (arith, p.0), p.1, p.2);
  no-term = λ d k. (omega arith, tt, tt, omega arith);
  term = λ d k t ts p q. (omega (arith, p.0, q.0), (p.1, q.1), (p.2, q.2), omega (arith, q.3));
  no-qualifier = λ d. (omega arith, tt, tt);
  generator = λ d x t qs l p q. (omega (arith, p.0, q.0), (l, p.1, q.1), (p.2, q.2));
  binding = λ d x t qs l p q. (omega (arith, p.0, q.0), (l, p.1, q.1), (p.2, q.2));
  condition = λ d t qs p q. (omega (arith, p.0, q.0), (p.1, q.1), (p.2, q.2));
}

-- "23: a 33rd level", a name is "0 to 255", constants are four bytes and records of 1 to 8 terms
pub question-given : (l : Bytes) {q : Question} → read_question l ≡ got q → (nesting (as_term q) ≤ 32) × Small (as_term q) × Literal (as_term q)
unfolding nesting
question-given l e = let p = question-kept reader-keeps l e in (omega (arith, p.0.0, p.1.0), (p.0.1, p.1.1), (p.0.2, p.1.2))
