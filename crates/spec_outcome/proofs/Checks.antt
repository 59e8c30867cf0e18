-- What the checks hand on, and by which numbers they refuse.
use mathlib.Core.Path.{◌≡◌, refl, subst, sym, ◌∙◌}
use mathlib.Core.List.{List, [], ◌∷◌}
use mathlib.Core.Bool.{Bool, true, false}
use Prim.Native.Nat.{ℕ, ◌≤◌}
use native.Mathlib.Omega.{arith}
use borrow.Author.Tests.{leb-true}
use Rattle.spec_calculus.specs.Syntax.{Question}
use Rattle.spec_calculus.specs.Value.{Tables, kind_of, bound_of}
use Rattle.spec_calculus.proofs.Lists.{All}
use Rattle.spec_encoding.specs.Record.{Bytes, Result, refused, got, and_then, require}
use Rattle.spec_encoding.specs.Data.{read_data}
use Rattle.spec_encoding.specs.Reader.{read_question}
use Rattle.spec_hours.specs.CalendarBytes.{calendars_fit, most_calendars, read_calendars}
use Rattle.spec_encoding.proofs.Refusals.{Only, only_then, only-require, data-only, question-only}
use Rattle.spec_checks.specs.Scope.{names_hold}
use Rattle.spec_checks.specs.Types.{types_fit, generators_fit}
use Rattle.spec_checks.specs.Calendars.{calendars_lent}
use Rattle.spec_normal_form.specs.Normal.{normal}
use Rattle.spec_normal_form.specs.Size.{size_fits, nodes}
use Rattle.spec_normal_form.specs.Bound.{Declared, within, numbers_fit}
use Rattle.spec_normal_form.specs.Form.{as_form}
use Rattle.spec_normal_form.proofs.GeneratorNumbers.{Numbered, normal-numbered}
use Rattle.spec_normal_form.proofs.GeneratorTables.{Named, numbers-fit-as}
use Rattle.spec_outcome.specs.Acceptance.{Lent, read_lent, Accepted, judge, examine}

pub got-is : {A : Type 0} (x y : A) → ◌≡◌ {A = Result A} (got x) (got y) → x ≡ y
got-is x y h = cc

-- what passed a rule kept it
pub passed : {A : Type 0} (n : ℕ) (b : Bool) (r : Result A) (a : A) → require n b r ≡ got a → (b ≡ true) × (r ≡ got a)
unfolding require
passed n true r a e = (refl, e)
passed n false r a e = (cc, cc)

-- what is handed on after two steps
pub handed : {A B : Type 0} (r : Result A) (k : A → Result B) (b : B) → and_then r k ≡ got b → (a : A) × ((r ≡ got a) × (k a ≡ got b))
unfolding and_then
handed (refused n) k b e = let o : ◌≡◌ {A = ℕ} 0 1 = cc in absurd (omega arith)
handed (got a) k b e = (a, (refl, e))

-- What every question that the checks hand on has passed.
pub record Passed (a : Accepted) : Type 0 where
  pub form-is : a.form ≡ normal (kind_of a.tables) a.question
  pub names : names_hold a.question ≡ true
  pub types : types_fit a.tables a.question ≡ true
  pub calendars : calendars_lent a.lent a.question ≡ true
  pub generators : generators_fit a.tables a.question ≡ true
  pub size : size_fits a.form ≡ true
  pub numbers : numbers_fit (bound_of a.tables) a.form ≡ true

-- its normal form is numbered in order, and has at most 512 nodes
module _ {a : Accepted} (P : Passed a) where
  pub form-numbered : Numbered (as_form a.form) 0
  form-numbered = subst (λ f. Numbered (as_form f) 0) (sym P.form-is) (normal-numbered (kind_of a.tables) a.question P.names)

  pub form-nodes : nodes (as_form a.form) ≤ 512
  unfolding size_fits
  form-nodes = leb-true (nodes (as_form a.form)) 512 P.size

  -- its numbers fit under whatever says of each generator what its table's columns declare
  pub form-within : (C : Declared) → Named C (bound_of a.tables) (as_form a.form) → within C (as_form a.form) ≡ true
  form-within C N = numbers-fit-as (bound_of a.tables) C a.form form-numbered N ∙ P.numbers

pub judged : (T : Tables) (k : ℕ) (q : Question) (a : Accepted) → judge T k q ≡ got a → Passed a
unfolding judge
judged T k q a e =
    let f = normal (kind_of T) q in
    let x : Accepted = record { tables = T; lent = k; question = q; form = f } in
    let p = passed 24 (names_hold q) (require 25 (types_fit T q) (require 42 (calendars_lent k q) (require 26 (generators_fit T q) (require 27 (size_fits f) (require 28 (numbers_fit (bound_of T) f) (got x)))))) a e in
    let r = passed 25 (types_fit T q) (require 42 (calendars_lent k q) (require 26 (generators_fit T q) (require 27 (size_fits f) (require 28 (numbers_fit (bound_of T) f) (got x))))) a p.1 in
    let v = passed 42 (calendars_lent k q) (require 26 (generators_fit T q) (require 27 (size_fits f) (require 28 (numbers_fit (bound_of T) f) (got x)))) a r.1 in
    let s = passed 26 (generators_fit T q) (require 27 (size_fits f) (require 28 (numbers_fit (bound_of T) f) (got x))) a v.1 in
    let t = passed 27 (size_fits f) (require 28 (numbers_fit (bound_of T) f) (got x)) a s.1 in
    let u = passed 28 (numbers_fit (bound_of T) f) (got x) a t.1 in
    subst Passed (got-is x a u.1) (record { form-is = refl; names = p.0; types = r.0; calendars = v.0; generators = s.0; size = t.0; numbers = u.0 })

pub examined : (d : Bytes) (l : Lent) (a : Accepted) → examine d l ≡ got a → Passed a
unfolding examine
examined d l a e =
    let t = handed (read_data d) (λ T. and_then (read_lent l) (λ p. judge T p.lent p.question)) a e in
    let p = handed (read_lent l) (λ p. judge t.0 p.lent p.question) a t.1.1 in
    judged t.0 p.0.lent p.0.question a p.1.1

-- The checks refuse by no other number than these of documents 01 and 02 (E4, E5, E9): behind data and calendars by those of whoever types the question.
abbrev pub question_numbers : List ℕ
question_numbers = 21 ∷ 22 ∷ 23 ∷ 24 ∷ 25 ∷ 42 ∷ 26 ∷ 27 ∷ 28 ∷ []

abbrev pub numbers : List ℕ
numbers = 11 ∷ 12 ∷ 13 ∷ 43 ∷ 50 ∷ 51 ∷ 41 ∷ question_numbers

pub examine-behind : (P : ℕ → Type 0) → All P question_numbers → (d : Bytes) (l : Lent) → Only P (read_data d) → Only P (read_calendars l.calendars) → Only P (examine d l)
unfolding examine read_lent judge
examine-behind P (p21, (p22, (p23, (p24, (p25, (p42, (p26, (p27, (p28, z))))))))) d l p c =
    only_then P (read_data d) _ p (λ T.
    only_then P (read_lent l) _ (only_then P (read_calendars l.calendars) _ c (λ C. only_then P (read_question l.question) _ (question-only P p21 p22 p23 l.question) (λ q. tt))) (λ q.
    only-require P 24 _ _ p24 (only-require P 25 _ _ p25 (only-require P 42 _ _ p42 (only-require P 26 _ _ p26 (only-require P 27 _ _ p27 (only-require P 28 _ _ p28 tt)))))))

calendars-only : (P : ℕ → Type 0) → P 41 → (l : Bytes) → Only P (read_calendars l)
unfolding read_calendars
calendars-only P p41 l = only-require P 41 (calendars_fit most_calendars l) _ p41 tt

pub examine-only : (P : ℕ → Type 0) → All P numbers → (d : Bytes) (l : Lent) → Only P (examine d l)
examine-only P (p11, (p12, (p13, (p43, (p50, (p51, (p41, p))))))) d l = examine-behind P p d l (data-only P p11 p12 p13 p43 p50 p51 d) (calendars-only P p41 l.calendars)
