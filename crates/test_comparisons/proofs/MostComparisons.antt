-- "At most 3 times n times the binary digits of n comparisons of two elements" (document 02, E3), over the contract of the call: all ordering steps of an
-- answer together take no more than that for each of its bags and sets.
use mathlib.Core.Path.{◌≡◌, sym, ap, subst, ◌∙◌}
use mathlib.Core.List.{List, [], ◌∷◌, map}
use Prim.Native.Nat.{ℕ, ◌+◌, ◌≤◌}
use native.Mathlib.Omega.{arith}
use lib.ListN.{length, length-map}
use lib.IntN.{ℤ}
use Rattle.spec_calculus.specs.Syntax.{Collection, list, bag, set}
use Rattle.spec_calculus.specs.Value.{Value, Values, vnil, vcons, to_list}
use Rattle.spec_calculus.specs.Monoid.{raw}
use Rattle.spec_encoding.specs.Record.{Bytes, Result, refused, got, and_then}
use Rattle.spec_encoding.proofs.Refusals.{Only, only_then, only-require}
use Rattle.spec_checks.specs.Types.{Ty, Tys, number, record', ynil, ycons}
use Rattle.spec_checks.specs.Types as Ty
use Rattle.spec_checks.proofs.Refold.{arrange_as}
use Rattle.spec_normal_form.specs.Form.{as_form, normal_value}
use Rattle.spec_outcome.specs.Acceptance.{Lent, Accepted, examine}
use Rattle.spec_outcome.specs.Outcome.{Answer, scratch_words, written, looped}
use Rattle.spec_outcome.specs.Gives.{Gives}
use Rattle.spec_outcome.proofs.Checks.{got-is, handed}
use Rattle.answer_types.specs.Shape.{type_of}
use Rattle.answer_sort.specs.Ordering.{ordering}
use Rattle.answer_sort.proofs.Ordering.{ordering-most}
use Rattle.answer_canonical.specs.Comparisons.{total, parts, own, inside, inside_each}
use Rattle.engine.specs.declared.Reply.{Reply}
use Rattle.engine.proofs.Outcomes.{answers, checks-only}
use Rattle.test_comparisons.specs.ComparedAnswer.{comparisons_of, retold, counted, compared}
use Rattle.test_comparisons.specs.MostComparisons.{most_by, most_own, most_inside, most_inside_each, most_of}

-- each step is within its bound, and so are all of them
step-most : (c : Collection) (l : List Value) → (ordering c l).comparisons ≤ most_by c (length l)
unfolding ordering most_by
step-most list l = omega arith
step-most bag l = ordering-most bag l
step-most set l = ordering-most set l

own-most : (t : Ty) (v : Value) → own t v ≤ most_own t v
unfolding own most_own
own-most number v = omega arith
own-most Ty.truth v = omega arith
own-most (record' ts) v = omega arith
own-most (Ty.coll c t) v =
    let l = to_list (parts v) in
    subst (λ n. (ordering c (map (arrange_as t) l)).comparisons ≤ most_by c n) (length-map l (arrange_as t)) (step-most c (map (arrange_as t) l))

total-most : (f g : Value → ℕ) → ((v : Value) → f v ≤ g v) → (l : List Value) → total (map f l) ≤ total (map g l)
unfolding total
total-most f g h [] = omega arith
total-most f g h (v ∷ l) = omega (arith, h v, total-most f g h l)

mutual
  unfolding inside most_inside

  inside-most : (t : Ty) (v : Value) → inside t v ≤ most_inside t v
  inside-most number v = omega arith
  inside-most Ty.truth v = omega arith
  inside-most (record' ts) v = each-most ts (parts v)
  inside-most (Ty.coll c t) v = total-most (λ w. inside t w + own t w) (λ w. most_inside t w + most_own t w) (λ w. omega (arith, inside-most t w, own-most t w)) (to_list (parts v))

  each-most : (ts : Tys) (vs : Values) → inside_each ts vs ≤ most_inside_each ts vs
  each-most ynil vs = omega arith
  each-most (ycons t ts) vnil = omega arith
  each-most (ycons t ts) (vcons v vs) = omega (arith, inside-most t v, own-most t v, each-most ts vs)

answer-most : (a : Accepted) → comparisons_of a ≤ most_of a
answer-most a =
    let t = type_of (λ g. 0) (as_form a.form) in
    let v = normal_value raw a.tables a.form in
    omega (arith, inside-most t v, own-most t v)

-- the length of an answer that is told again
retold-size : (k : ℕ) (x : Result (Answer ℤ)) (y : Answer ℤ) → retold k x ≡ got y → y.size ≡ k
unfolding retold
retold-size k (refused n) y e = let o : ◌≡◌ {A = ℕ} 0 1 = cc in absurd (omega (arith, o))
retold-size k (got x) y e = sym (ap (λ (z : Answer ℤ). z.size) (got-is (record { size = k; front = x.front }) y e))

-- the count of an answer: no more than that of the question that was accepted
pub record Few (d : Bytes) (l : Lent) (k : ℕ) : Type 0 where
  pub accepted : Accepted
  pub is : examine d l ≡ got accepted
  pub few : k ≤ most_of accepted

pub comparisons-most : (d : Bytes) (l : Lent) (s : List ℕ) (b : List ℤ) {r : Reply} {c : List ℤ} {u : List ℕ}
    → Gives (compared d l s b) r.number r.length c u → r.number ≡ 0 → Few d l r.length
unfolding compared retold written
comparisons-most d l s b {r} C z =
    let g = answers scratch_words s b (and_then (examine d l) (counted b)) (only_then (λ n. n ≡ 0 → ⊥) (examine d l) (counted b) (checks-only d l) only) (sym C.number ∙ z) in
    let h = handed (examine d l) (counted b) g.answer g.is in
    let k : r.length ≡ comparisons_of h.0 = C.size ∙ g.size ∙ retold-size (comparisons_of h.0) (written looped b h.0) g.answer h.1.1 in
    record { accepted = h.0; is = h.1.0; few = omega (arith, k, answer-most h.0) }
  where
    only : (a : Accepted) → Only (λ n. n ≡ 0 → ⊥) (counted b a)
    only a = go (written looped b a) (only-require (λ n. n ≡ 0 → ⊥) 32 _ _ (λ z. absurd (omega (arith, z))) tt)
      where
        go : (x : Result (Answer ℤ)) → Only (λ n. n ≡ 0 → ⊥) x → Only (λ n. n ≡ 0 → ⊥) (retold (comparisons_of a) x)
        go (refused n) p = p
        go (got y) p = tt
