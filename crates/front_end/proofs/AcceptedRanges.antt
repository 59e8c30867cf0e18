-- An accepted question has its constants, fields and tables in range: constants by reading; tables and fields by 25, since
-- there are at most 8 tables, of at most 8 columns, and records have at most 8 terms.
use mathlib.Core.Path.{◌≡◌, refl, sym, ap, subst, ◌∙◌}
use mathlib.Core.Bool.{Bool, true, false, ◌&&◌, and-eq-true_iff}
use Prim.Native.Nat.{ℕ, zero, suc, ◌≤◌, ◌<◌}
use native.Mathlib.Omega.{arith}
use borrow.Author.Tests.{ltb-true}
use lib.Dec.{eqb}
use Rattle.spec_calculus.specs.Lists.{upd}
use Rattle.spec_calculus.specs.Syntax.{Monoid, of, sum, max, some, all, Bin, plus, minus, times, equal, less, and, or, Fun, Term, Terms, Quals, num, name, field, rec, bin, negate, app, comp, table, tnil, tcons, qnil, gen, bind, cond, Question, as_term}
use Rattle.spec_calculus.specs.Syntax as Sy
use Rattle.spec_calculus.specs.Value.{Tables, columns_of}
use Rattle.spec_calculus.proofs.WellFormed.{WellFormed, columns-at-most, number-few}
use Rattle.spec_encoding.specs.Record.{Bytes, got}
use Rattle.spec_encoding.specs.Data.{read_data}
use Rattle.spec_encoding.specs.Reader.{read_question}
use Rattle.spec_encoding.proofs.Data.{read-well-formed}
use Rattle.spec_checks.specs.Types.{Ty, Tys, number, truth, record', coll, ynil, ycons, wrong, has, cells, type_at, Context, generators_fit}
use Rattle.spec_checks.proofs.Judgement.{operand, result, Takes, Gathers, Has, HasL, HasQ, untyped, same-type, question-typed}
use Rattle.spec_normal_form.proofs.Ranges.{OpInRange, InRange, InRangeL, InRangeQ, Ranges}
use Rattle.spec_checks.specs.Calendars.{named_lent_op, named_lent_t, named_lent_ts, named_lent_q, calendars_lent}
use Rattle.front_words.specs.LaidTree.{count_l}
use Rattle.front_end.proofs.QuestionLimits.{Literal, LiteralL, LiteralQ, question-given}

unfoldable width : Tys → ℕ
width ynil = 0
width (ycons t ts) = suc (width ts)

-- every record in it has at most 8 fields
unfoldable mutual
  Narrow : Ty → Type 0
  Narrow number = Unit {0}
  Narrow truth = Unit {0}
  Narrow (record' ts) = (width ts ≤ 8) × NarrowL ts
  Narrow (coll c t) = Narrow t

  NarrowL : Tys → Type 0
  NarrowL ynil = Unit {0}
  NarrowL (ycons t ts) = Narrow t × NarrowL ts

cells-narrow : (n : ℕ) → (width (cells n) ≡ n) × NarrowL (cells n)
unfolding cells width Narrow
cells-narrow zero = (refl, tt)
cells-narrow (suc n) = let a = cells-narrow n in (omega (arith, a.0), (tt, a.1))

at-narrow : (i : ℕ) (ts : Tys) (τ : Ty) → type_at i ts ≡ has τ → NarrowL ts → (i < width ts) × Narrow τ
unfolding type_at width Narrow
at-narrow i ynil τ e a = untyped e
at-narrow zero (ycons t ts) τ e a = (omega arith, subst Narrow (sym (same-type t τ e)) a.0)
at-narrow (suc i) (ycons t ts) τ e a = let b = at-narrow i ts τ e a.1 in (omega (arith, b.0), b.1)

result-narrow : (o : Bin) → Narrow (result o)
unfolding result Narrow
result-narrow plus = tt
result-narrow minus = tt
result-narrow times = tt
result-narrow equal = tt
result-narrow less = tt
result-narrow and = tt
result-narrow or = tt

takes-narrow : (f : Fun) (us : Tys) (τ : Ty) → Takes f us τ → Narrow τ
unfolding Narrow
takes-narrow Sy.choice us number h = tt
takes-narrow Sy.choice us truth h = tt
takes-narrow Sy.choice us (record' ts) h = absurd h.0
takes-narrow Sy.choice us (coll c τ) h = absurd h.0
takes-narrow (Sy.is_open n c) us τ h = subst Narrow (sym h.0) tt

gathers-narrow : (m : Monoid) (σ τ : Ty) → Narrow σ → Gathers m σ τ → Narrow τ
unfolding Narrow
gathers-narrow (of c) σ τ a g = subst Narrow (sym g) a
gathers-narrow sum σ τ a g = subst Narrow (sym g.1) tt
gathers-narrow max σ τ a g = subst Narrow (sym g.1) tt
gathers-narrow Sy.min σ τ a g = subst Narrow (sym g.1) tt
gathers-narrow some σ τ a g = subst Narrow (sym g.1) tt
gathers-narrow all σ τ a g = subst Narrow (sym g.1) tt

abbrev NarrowE : Context → Type 0
NarrowE Γ = (x : ℕ) (τ : Ty) → Γ x ≡ has τ → Narrow τ

upd-narrow : (x : ℕ) (σ : Ty) (Γ : Context) → Narrow σ → NarrowE Γ → NarrowE (upd x (has σ) Γ)
unfolding upd
upd-narrow x σ Γ a e y τ = go (eqb x y) refl
  where
    go : (b : Bool) → eqb x y ≡ b → upd x (has σ) Γ y ≡ has τ → Narrow τ
    go true p = rw (p, upd) (λ h. subst Narrow (sym (same-type σ τ h)) a)
    go false p = rw (p, upd) (e y τ)

-- a calendar's number that is lent is a byte
op-narrow : {k : ℕ} (f : Fun) → k ≤ 256 → named_lent_op k f ≡ true → OpInRange f
unfolding named_lent_op
op-narrow Sy.choice m v = tt
op-narrow {k} (Sy.is_open n c) m v = omega (arith, ltb-true n k v, m)

first : (a b : Bool) → (a && b) ≡ true → a ≡ true
first a b e = ((and-eq-true_iff a b).0 e).0

second : (a b : Bool) → (a && b) ≡ true → b ≡ true
second a b e = ((and-eq-true_iff a b).0 e).1

module _ {T : Tables} (W : WellFormed T) {k : ℕ} (m' : k ≤ 256) where
  mutual
    unfolding Narrow count_l width named_lent_t

    narrow : (t : Term) (Γ : Context) (τ : Ty) → Literal t → named_lent_t k t ≡ true → NarrowE Γ → Has T Γ t τ → Narrow τ × InRange t
    narrow (num z) Γ τ l v e h = (subst Narrow (sym h) tt, l)
    narrow (Sy.truth b) Γ τ l v e h = (subst Narrow (sym h) tt, tt)
    narrow (name x) Γ τ l v e h = (e x τ h, tt)
    narrow (field i t) Γ τ l v e h =
        let a = narrow t Γ (record' h.0) l v e h.1 in
        let b = at-narrow i h.0 τ h.2 a.0.1 in
        (b.1, (omega (arith, b.0, a.0.0), a.1))
    narrow (rec ts) Γ τ l v e h =
        let a = narrow_l ts Γ h.0 l.1 v e h.1 in
        (subst Narrow (sym h.2) (omega (arith, a.0, l.0), a.1), a.2)
    narrow (app f ts) Γ τ l v e h = (takes-narrow f h.0 τ h.2, (l.0, (narrow_l ts Γ h.0 l.1 (second (named_lent_op k f) (named_lent_ts k ts) v) e h.1).2, op-narrow f m' (first (named_lent_op k f) (named_lent_ts k ts) v)))
    narrow (bin o s t) Γ τ l v e h =
        (subst Narrow (sym h.2) (result-narrow o), ((narrow s Γ (operand o) l.0 (first (named_lent_t k s) (named_lent_t k t) v) e h.0).1, (narrow t Γ (operand o) l.1 (second (named_lent_t k s) (named_lent_t k t) v) e h.1).1))
    narrow (negate t) Γ τ l v e h = (subst Narrow (sym h.1) tt, (narrow t Γ truth l v e h.0).1)
    narrow (comp m qs t) Γ τ l v e h =
        let a = narrow_q qs m Γ h.0 l.0 (first (named_lent_q k qs) (named_lent_t k t) v) e h.2 in
        let b = narrow t h.0 h.1 l.1 (second (named_lent_q k qs) (named_lent_t k t) v) a.0 h.3 in
        (gathers-narrow m h.1 τ b.0 h.4, (a.1, b.1))
    narrow (table k) Γ τ l v e h =
        let a = cells-narrow (columns_of T k) in
        (subst Narrow (sym h.1) (omega (arith, a.0, columns-at-most W k), a.1), omega (arith, number-few W k h.0))

    narrow_l : (ts : Terms) (Γ : Context) (us : Tys) → LiteralL ts → named_lent_ts k ts ≡ true → NarrowE Γ → HasL T Γ ts us → (width us ≡ count_l ts) × NarrowL us × InRangeL ts
    narrow_l tnil Γ us l v e h = (ap width h, subst NarrowL (sym h) tt, tt)
    narrow_l (tcons t ts) Γ us l v e h =
        let a = narrow t Γ h.0 l.0 (first (named_lent_t k t) (named_lent_ts k ts) v) e h.2 in
        let b = narrow_l ts Γ h.1 l.1 (second (named_lent_t k t) (named_lent_ts k ts) v) e h.3 in
        (ap width h.4 ∙ ap suc b.0, subst NarrowL (sym h.4) (a.0, b.1), (a.1, b.2))

    narrow_q : (qs : Quals) (m : Monoid) (Γ Δ : Context) → LiteralQ qs → named_lent_q k qs ≡ true → NarrowE Γ → HasQ T m Γ qs Δ → NarrowE Δ × InRangeQ qs
    narrow_q qnil m Γ Δ l v e h = (subst NarrowE h e, tt)
    narrow_q (gen x t qs) m Γ Δ l v e h =
        let a = narrow t Γ (coll h.0 h.1) l.0 (first (named_lent_t k t) (named_lent_q k qs) v) e h.2 in
        let b = narrow_q qs m (upd x (has h.1) Γ) Δ l.1 (second (named_lent_t k t) (named_lent_q k qs) v) (upd-narrow x h.1 Γ a.0 e) h.4 in
        (b.0, (a.1, b.1))
    narrow_q (bind x t qs) m Γ Δ l v e h =
        let a = narrow t Γ h.0 l.0 (first (named_lent_t k t) (named_lent_q k qs) v) e h.1 in
        let b = narrow_q qs m (upd x (has h.0) Γ) Δ l.1 (second (named_lent_t k t) (named_lent_q k qs) v) (upd-narrow x h.0 Γ a.0 e) h.2 in
        (b.0, (a.1, b.1))
    narrow_q (cond t qs) m Γ Δ l v e h =
        let b = narrow_q qs m Γ Δ l.1 (second (named_lent_t k t) (named_lent_q k qs) v) e h.1 in
        (b.0, ((narrow t Γ truth l.0 (first (named_lent_t k t) (named_lent_q k qs) v) e h.0).1, b.1))

-- Where the data and a question are read, and 25, 42 and 26 let it pass, its constants, fields, tables and calendars are in range.
pub read-ranges : (d l : Bytes) {T : Tables} {q : Question} {k : ℕ} → read_data d ≡ got T → read_question l ≡ got q → k ≤ 256 → calendars_lent k q ≡ true → generators_fit T q ≡ true → Ranges q
unfolding calendars_lent
read-ranges d l {T} {q} D L m v g =
    let h = question-typed T q g in
    (narrow (read-well-formed d D) m (as_term q) (λ x. wrong) h.0 (question-given l L).2 v (λ x τ e. untyped e) h.1).1
