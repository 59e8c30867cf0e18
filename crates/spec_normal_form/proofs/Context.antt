-- A rule in any place of a question, and rules one after another, leave the normal form the same.
use mathlib.Core.Path.{◌≡◌, refl, sym, ap, fun_ext, ◌∙◌}
use mathlib.Core.Bool.{Bool, ◌||◌}
use Prim.Native.Nat.{ℕ}
use Rattle.spec_calculus.specs.Lists.{upd}
use Rattle.spec_calculus.specs.Syntax.{Collection, sum, Term, field, rec, bin, negate, app, comp, gen, bind, cond, Question, as_term}
use Rattle.spec_normal_form.specs.Form.{Form, NormalForm, as_form, done}
use Rattle.spec_normal_form.specs.Form as Nf
use Rattle.spec_normal_form.specs.Normal.{Sem, fields, plain, scons, quote, idempotent, condition, ranges, part, binary, applied, before, SemEnv, norm, norms, walk, nowhere, normal}
use Rattle.spec_normal_form.specs.Place.{Place, Places, PlaceQ, put, put_l, put_q}
use Rattle.spec_normal_form.specs.Place as Pl
use Rattle.spec_normal_form.specs.Rules.{Rewrites, none, onwards}
use Rattle.spec_normal_form.proofs.WriteOut.{normal-is-quote}
use Rattle.spec_normal_form.proofs.Locality.{comp-cong}
use Rattle.spec_normal_form.proofs.Rules.{rule-keeps}

module _ (K : ℕ → Collection) (s t : Term) (e : (δ : SemEnv) → norm K s δ ≡ norm K t δ) where
  mutual
    unfolding norm put

    pub place-keeps : (p : Place) (δ : SemEnv) → norm K (put p s) δ ≡ norm K (put p t) δ
    place-keeps Pl.hole δ = e δ
    place-keeps (Pl.field i p) δ = ap (part i) (place-keeps p δ)
    place-keeps (Pl.rec p) δ = ap fields (place_l-keeps p δ)
    place-keeps (Pl.app f p) δ = ap (applied f) (place_l-keeps p δ)
    place-keeps (Pl.bin_left o p u) δ = ap (λ d. binary o d (norm K u δ)) (place-keeps p δ)
    place-keeps (Pl.bin_right o u p) δ = ap (binary o (norm K u δ)) (place-keeps p δ)
    place-keeps (Pl.negate p) δ = ap (λ d. plain (λ n. Nf.negate (quote d n))) (place-keeps p δ)
    place-keeps (Pl.quals m p h) δ = comp-cong K m (put_q p s) (put_q p t) (λ ε. norm K h ε) (λ ε. norm K h ε) δ δ (λ b n. place_q-keeps p (b || idempotent m) (λ ε. norm K h ε) δ n)
    place-keeps (Pl.head m q p) δ = comp-cong K m q q (λ ε. norm K (put p s) ε) (λ ε. norm K (put p t) ε) δ δ (λ b n. ap (λ h. walk K q (b || idempotent m) h δ n) (fun_ext λ ε. place-keeps p ε))

    place_l-keeps : (p : Places) (δ : SemEnv) → norms K (put_l p s) δ ≡ norms K (put_l p t) δ
    place_l-keeps (Pl.here p ts) δ = ap (λ d. scons d (norms K ts δ)) (place-keeps p δ)
    place_l-keeps (Pl.there u p) δ = ap (scons (norm K u δ)) (place_l-keeps p δ)

    place_q-keeps : (p : PlaceQ) (b : Bool) (h : SemEnv → Sem) (δ : SemEnv) (n : ℕ) → walk K (put_q p s) b h δ n ≡ walk K (put_q p t) b h δ n
    place_q-keeps (Pl.gen x p q) b h δ n = ap (λ d. before (ranges d b n).clauses n (λ j. walk K q b h (upd x (ranges d b n).head δ) j)) (place-keeps p δ)
    place_q-keeps (Pl.bind x p q) b h δ n = ap (λ d. walk K q b h (upd x d δ) n) (place-keeps p δ)
    place_q-keeps (Pl.cond p q) b h δ n = ap (λ d. before (condition d b n) n (λ j. walk K q b h δ j)) (place-keeps p δ)
    place_q-keeps (Pl.past_gen x u p) b h δ n = ap (before (ranges (norm K u δ) b n).clauses n) (fun_ext λ j. place_q-keeps p b h (upd x (ranges (norm K u δ) b n).head δ) j)
    place_q-keeps (Pl.past_bind x u p) b h δ n = place_q-keeps p b h (upd x (norm K u δ) δ) n
    place_q-keeps (Pl.past_cond u p) b h δ n = ap (before (condition (norm K u δ) b n) n) (fun_ext λ j. place_q-keeps p b h δ j)

rewriting-keeps : (K : ℕ → Collection) (t : Term) {u : Term} → Rewrites K t u → (δ : SemEnv) → norm K t δ ≡ norm K u δ
rewriting-keeps K t none δ = refl
rewriting-keeps K t (onwards {r} {s} p w a) δ = rewriting-keeps K t w δ ∙ place-keeps K r s (λ ε. rule-keeps K a ε) p δ

-- a normal form, back from its form
abbrev alone : Form → NormalForm
alone t = record { monoid = sum; clauses = done; head = t }

outermost : Form → NormalForm
outermost (Nf.comp m q h) = record { monoid = m; clauses = q; head = h }
outermost (Nf.num z) = alone (Nf.num z)
outermost (Nf.truth b) = alone (Nf.truth b)
outermost (Nf.row g) = alone (Nf.row g)
outermost (Nf.cell i g) = alone (Nf.cell i g)
outermost (Nf.rec ts) = alone (Nf.rec ts)
outermost (Nf.app f ts) = alone (Nf.app f ts)
outermost (Nf.bin o s t) = alone (Nf.bin o s t)
outermost (Nf.negate t) = alone (Nf.negate t)

pub same-form : (f g : NormalForm) → as_form f ≡ as_form g → f ≡ g
unfolding outermost
same-form f g e = ap outermost e

-- Document 01: a question to which the rules are applied, each in any place and in any order, keeps its normal form.
pub normal-kept : (K : ℕ → Collection) (q r : Question) → Rewrites K (as_term q) (as_term r) → normal K q ≡ normal K r
normal-kept K q r w = same-form (normal K q) (normal K r) (normal-is-quote K q ∙ ap (λ d. quote d 0) (rewriting-keeps K (as_term q) w nowhere) ∙ sym (normal-is-quote K r))
