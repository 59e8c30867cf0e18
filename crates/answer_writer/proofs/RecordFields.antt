-- "5 record (1 to 8 terms)": no record of a question that is read is without fields, and none of its normal form is.
use mathlib.Core.Path.{◌≡◌, refl, sym, ap, ap₂, ◌∙◌}
use mathlib.Core.Bool.{Bool, true, false, ◌&&◌, ◌||◌, and-eq-true_iff}
use Prim.Native.Nat.{ℕ, zero, suc, ◌+◌}
use lib.Dec.{eqb}
use lib.ListN.{length}
use Rattle.spec_calendar.specs.Hours.{Calendar, calendar_of}
use Rattle.spec_calculus.specs.Lists.{upd}
use Rattle.spec_calculus.specs.Syntax.{Collection, Bin, plus, minus, times, equal, less, and, or, Term, Terms, Quals, num, truth, name, field, rec, bin, negate, app, comp, table, tnil, tcons, qnil, gen, bind, cond, Question}
use Rattle.spec_calculus.specs.Lending.{lend}
use Rattle.spec_encoding.specs.Record.{Bytes, got, and_then}
use Rattle.spec_encoding.specs.Reader.{read_question}
use Rattle.spec_hours.specs.CalendarBytes.{read_calendars}
use Rattle.spec_encoding.proofs.QuestionLimits.{Keeps, question-kept}
use Rattle.spec_normal_form.specs.Form.{as_form, gens, gens_c}
use Rattle.spec_normal_form.specs.Form as Nf
use Rattle.spec_normal_form.proofs.Lending.{lend_f, lend_fs, normal-lent}
use Rattle.spec_outcome.specs.Acceptance.{Lent, Posed, read_lent}
use Rattle.spec_outcome.proofs.Checks.{got-is, handed}
use Rattle.spec_normal_form.specs.Normal.{Sem, Sems, row, fields, both, nested, plain, snil, scons, nothing, quote, quotes, idempotent, ranges, nth, part, binary, before, SemEnv, norm, norms, walk, nowhere, normal}
use Rattle.answer_writer.specs.RecordFields.{filled, some_f, filled_f}

-- ---- questions
abbrev some_t : Terms → Type 0
some_t tnil = ⊥
some_t (tcons t ts) = Unit {0}

-- no record that an answer can show is without fields
abbrev mutual
  FilledT : Term → Type 0
  FilledT (num z) = Unit {0}
  FilledT (truth b) = Unit {0}
  FilledT (name x) = Unit {0}
  FilledT (field i t) = FilledT t
  FilledT (rec ts) = some_t ts × FilledL ts
  FilledT (bin o t u) = Unit {0}
  FilledT (negate t) = Unit {0}
  FilledT (app f ts) = Unit {0}
  FilledT (comp m qs h) = FilledQ qs × FilledT h
  FilledT (table k) = Unit {0}

  FilledL : Terms → Type 0
  FilledL tnil = Unit {0}
  FilledL (tcons t ts) = FilledT t × FilledL ts

  FilledQ : Quals → Type 0
  FilledQ qnil = Unit {0}
  FilledQ (gen x t qs) = FilledT t × FilledQ qs
  FilledQ (bind x t qs) = FilledT t × FilledQ qs
  FilledQ (cond t qs) = FilledQ qs

reader-keeps : Keeps (λ d t. FilledT t) (λ d k ts. FilledL ts) (λ d qs. FilledQ qs)
reader-keeps = record {
  number = λ d z m. tt;
  truth = λ d b. tt;
  name = λ d x. tt;
  field = λ d i t p. p;
  record' = λ d t ts p q. (tt, (p, q));
  binary = λ d o t u p q. tt;
  negation = λ d t p. tt;
  choice = λ d t u v p q r. tt;
  opening = λ d n t p. tt;
  comprehension = λ d m qs h p q. (p, q);
  table = λ d k. tt;
  deeper = λ d t p. p;
  no-term = λ d k. tt;
  term = λ d k t ts p q. (p, q);
  no-qualifier = λ d. tt;
  generator = λ d x t qs l p q. (p, q);
  binding = λ d x t qs l p q. (p, q);
  condition = λ d t qs p q. q;
}

-- ---- what a term comes to writes no such record
abbrev some_s : Sems → Type 0
some_s snil = ⊥
some_s (scons d ds) = Unit {0}

unfoldable mutual
  Full : Sem → Type 0
  Full (row g) = Unit {0}
  Full (fields ds) = some_s ds × FullL ds
  Full (both d e) = Unit {0}
  Full (nested m q h) = (b : Bool) (n : ℕ) → Full (h b n)
  Full (plain f) = (n : ℕ) → filled (f n) ≡ true

  FullL : Sems → Type 0
  FullL snil = Unit {0}
  FullL (scons d ds) = Full d × FullL ds

both_true : (a b : Bool) → a ≡ true → b ≡ true → a && b ≡ true
both_true a b p q = (and-eq-true_iff a b).1 (p, q)

quotes-some : (ds : Sems) (n : ℕ) → some_s ds → some_f (quotes ds n) ≡ true
unfolding quote filled
quotes-some snil n p = absurd p
quotes-some (scons d ds) n p = refl

mutual
  unfolding Full quote filled

  quote-full : (d : Sem) → Full d → (n : ℕ) → filled (quote d n) ≡ true
  quote-full (row g) p n = refl
  quote-full (fields ds) p n = both_true (some_f (quotes ds n)) (filled_f (quotes ds n)) (quotes-some ds n p.0) (quotes-full ds p.1 n)
  quote-full (both d e) p n = refl
  quote-full (nested m q h) p n = quote-full (h false n) (p false n) (n + gens_c (q false n))
  quote-full (plain f) p n = p n

  quotes-full : (ds : Sems) → FullL ds → (n : ℕ) → filled_f (quotes ds n) ≡ true
  quotes-full snil p n = refl
  quotes-full (scons d ds) p n = both_true (filled (quote d n)) (filled_f (quotes ds (n + gens (quote d n)))) (quote-full d p.0 n) (quotes-full ds p.1 (n + gens (quote d n)))

nothing-full : Full nothing
unfolding Full filled
nothing-full = λ n. refl

nth-full : (i : ℕ) (ds : Sems) → FullL ds → Full (nth i ds)
unfolding Full nth
nth-full i snil p = nothing-full
nth-full zero (scons d ds) p = p.0
nth-full (suc i) (scons d ds) p = nth-full i ds p.1

part-full : (i : ℕ) (d : Sem) → Full d → Full (part i d)
unfolding Full part filled
part-full i (row g) p = λ n. refl
part-full i (fields ds) p = nth-full i ds p.1
part-full i (both d e) p = nothing-full
part-full i (nested m q h) p = nothing-full
part-full i (plain f) p = nothing-full

binary-full : (o : Bin) (d e : Sem) → Full (binary o d e)
unfolding Full binary filled
binary-full plus d e = λ n. refl
binary-full minus d e = λ n. refl
binary-full times d e = λ n. refl
binary-full equal d e = λ n. refl
binary-full less d e = λ n. refl
binary-full and d e = tt
binary-full or d e = λ n. refl

ranges-full : (d : Sem) → Full d → (b : Bool) (n : ℕ) → Full (ranges d b n).head
unfolding Full ranges
ranges-full (row g) p b n = nothing-full
ranges-full (fields ds) p b n = nothing-full
ranges-full (both d e) p b n = nothing-full
ranges-full (nested m q h) p b n = p b n
ranges-full (plain f) p b n = nothing-full

abbrev FullE : SemEnv → Type 0
FullE δ = (x : ℕ) → Full (δ x)

upd-full : (x : ℕ) (d : Sem) (δ : SemEnv) → Full d → FullE δ → FullE (upd x d δ)
unfolding upd
upd-full x d δ p e y = go (eqb x y)
  where
    go : (b : Bool) → Full (elim b [ true ↦ d | false ↦ δ y ])
    go true = p
    go false = e y

-- Lending calendars leaves it as it is.
mutual
  unfolding lend_f filled

  filled-lent : (K : ℕ → Calendar) (t : Nf.Form) → filled (lend_f K t) ≡ filled t
  filled-lent K (Nf.num z) = refl
  filled-lent K (Nf.truth b) = refl
  filled-lent K (Nf.row g) = refl
  filled-lent K (Nf.cell i g) = refl
  filled-lent K (Nf.rec ts) = ap₂ ◌&&◌ (some-lent K ts) (filled_f-lent K ts)
  filled-lent K (Nf.bin o s t) = refl
  filled-lent K (Nf.negate t) = refl
  filled-lent K (Nf.app f ts) = refl
  filled-lent K (Nf.comp m q h) = filled-lent K h

  some-lent : (K : ℕ → Calendar) (ts : Nf.Forms) → some_f (lend_fs K ts) ≡ some_f ts
  some-lent K Nf.fnil = refl
  some-lent K (Nf.fcons t ts) = refl

  filled_f-lent : (K : ℕ → Calendar) (ts : Nf.Forms) → filled_f (lend_fs K ts) ≡ filled_f ts
  filled_f-lent K Nf.fnil = refl
  filled_f-lent K (Nf.fcons t ts) = ap₂ ◌&&◌ (filled-lent K t) (filled_f-lent K ts)

module _ (K : ℕ → Collection) where
  mutual
    unfolding norm Full filled before

    norm-full : (t : Term) → FilledT t → (δ : SemEnv) → FullE δ → Full (norm K t δ)
    norm-full (num z) p δ e = λ n. refl
    norm-full (truth b) p δ e = λ n. refl
    norm-full (name x) p δ e = e x
    norm-full (field i t) p δ e = part-full i (norm K t δ) (norm-full t p δ e)
    norm-full (rec ts) p δ e = (norms-some ts p.0 δ, norms-full ts p.1 δ e)
    norm-full (bin o t u) p δ e = binary-full o (norm K t δ) (norm K u δ)
    norm-full (negate t) p δ e = λ n. refl
    norm-full (app f ts) p δ e = λ n. refl
    norm-full (comp m qs h) p δ e = λ b n. walk-full qs p.0 (b || idempotent m) (λ ε. norm K h ε) (λ ε f. norm-full h p.1 ε f) δ e n
    norm-full (table k) p δ e = λ b n. tt

    norms-some : (ts : Terms) → some_t ts → (δ : SemEnv) → some_s (norms K ts δ)
    norms-some tnil p δ = p
    norms-some (tcons t ts) p δ = tt

    norms-full : (ts : Terms) → FilledL ts → (δ : SemEnv) → FullE δ → FullL (norms K ts δ)
    norms-full tnil p δ e = tt
    norms-full (tcons t ts) p δ e = (norm-full t p.0 δ e, norms-full ts p.1 δ e)

    walk-full : (qs : Quals) → FilledQ qs → (b : Bool) (h : SemEnv → Sem) → ((ε : SemEnv) → FullE ε → Full (h ε)) → (δ : SemEnv) → FullE δ → (n : ℕ) → Full (walk K qs b h δ n).head
    walk-full qnil p b h k δ e n = k δ e
    walk-full (gen x t qs) p b h k δ e n =
        let r = ranges (norm K t δ) b n in
        walk-full qs p.1 b h k (upd x r.head δ) (upd-full x r.head δ (ranges-full (norm K t δ) (norm-full t p.0 δ e) b n) e) (n + gens_c r.clauses)
    walk-full (bind x t qs) p b h k δ e n = walk-full qs p.1 b h k (upd x (norm K t δ) δ) (upd-full x (norm K t δ) δ (norm-full t p.0 δ e) e) n
    walk-full (cond t qs) p b h k δ e n = walk-full qs p b h k δ e _

  question-filled : (l : Bytes) {q : Question} → read_question l ≡ got q → filled (as_form (normal K q)) ≡ true
  unfolding normal filled Full
  question-filled l {q} r =
      let p = question-kept reader-keeps l r in
      quote-full _ (walk-full q.quals p.0 (idempotent q.monoid) (λ ε. norm K q.head ε) (λ ε f. norm-full q.head p.1 ε f) nowhere (λ x. tt) 0) _

  -- The normal form of a question that is read, with the calendars that it is lent.
  pub read-filled : (l : Lent) {p : Posed} → read_lent l ≡ got p → filled (as_form (normal K p.question)) ≡ true
  unfolding read_lent lend_f
  read-filled l {p} r =
      let c = handed (read_calendars l.calendars) (λ C. and_then (read_question l.question) (λ q. got (record { lent = length C; question = lend (calendar_of C) q }))) p r in
      let q = handed (read_question l.question) (λ q. got (record { lent = length c.0; question = lend (calendar_of c.0) q })) p c.1.1 in
      ap (λ (x : Posed). filled (as_form (normal K x.question))) (sym (got-is _ p q.1.1))
      ∙ ap (λ f. filled (as_form f)) (normal-lent (calendar_of c.0) K q.0)
      ∙ filled-lent (calendar_of c.0) (as_form (normal K q.0))
      ∙ question-filled l.question q.1.0
