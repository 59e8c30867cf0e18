-- What `finish` leaves in the buffer, from the raw words of a question's value in normal form: the written form, then zeros up
-- to G, then what was there before.
use mathlib.Core.Path.{◌≡◌, sym, ap, subst, ◌∙◌}
use mathlib.Core.Bool.{false}
use mathlib.Core.List.{List, ◌++◌, append_assoc}
use Prim.Native.Nat.{ℕ, ◌-◌, ◌<◌}
use native.Mathlib.Omega.{arith}
use lib.ListN.{length, drop, replicate, length-append, length-replicate}
use lib.IntN.{ℤ, pos}
use Rattle.spec_calculus.specs.Value.{Value, Tables}
use Rattle.spec_calculus.specs.Monoid.{canonical, raw}
use Rattle.spec_calculus.proofs.WellFormed.{WellFormed}
use Rattle.spec_checks.proofs.Refold.{arrange_as}
use Rattle.spec_normal_form.specs.Form.{NormalForm, as_form, normal_value}
use Rattle.spec_normal_form.proofs.RawArranged.{normal-arranged}
use Rattle.spec_outcome.specs.WrittenForm.{words}
use Rattle.spec_outcome.proofs.AnswerLength.{answer-within-G}
use Rattle.form_words.specs.FormTree.{form_tree, left}
use Rattle.answer_types.specs.Columns.{columns}
use Rattle.answer_types.specs.Shape.{type_of, type_at}
use Rattle.answer_types.specs.TypedValues.{Of}
use Rattle.answer_types.proofs.RawValueType.{Rooted, Solid, normal-of}
use Rattle.answer_canonical.specs.CompactingWalk.{FinishPost}
use Rattle.answer_canonical.proofs.ArrangedValues.{arrange-type}

abbrev pub Answered : Tables → NormalForm → List ℤ → List ℤ → ℕ → Type 0
Answered D t R o' r =
    let ws = words (normal_value canonical D t) in
    (o' ≡ ws ++ (replicate (length (words (normal_value raw D t)) - length ws) (pos 0) ++ R)) × (r ≡ length ws)

module _ {s : List ℕ} {i : ℕ} {o o' : List ℤ} {r : ℕ} (K : FinishPost s i o o' r) where
  -- Where place i holds the normal form t and the raw words of its value stand in front, its written words do afterwards.
  pub normal-written : (f : ℕ) → left i < f → {D : Tables} (t : NormalForm) → form_tree f s i ≡ as_form t → WellFormed D → Solid (as_form t) → Rooted (columns s) D (λ g. false) (as_form t) → (R : List ℤ) → o ≡ words (normal_value raw D t) ++ R → Answered D t R o' r
  normal-written f k {D} t e W n h R q =
      let v : Value = normal_value raw D t in
      let ty : type_at f s i ≡ type_of (columns s) (as_form t) = ap (type_of (columns s)) e in
      let same : arrange_as (type_at f s i) v ≡ normal_value canonical D t = ap (λ u. arrange_as u v) ty ∙ arrange-type (columns s) (as_form t) v ∙ sym (normal-arranged D t) in
      subst (λ (u : Value). (o' ≡ words u ++ (replicate (length (words v) - length (words u)) (pos 0) ++ R)) × (r ≡ length (words u))) same
      (K.is f k R v (subst (λ u. Of u v) (sym ty) (normal-of W (columns s) t n h)) q)

-- The front of an answer, as its outcome has it, is G words long.
pub front-G : (D : Tables) (t : NormalForm) → let ws = words (normal_value canonical D t) in let G = length (words (normal_value raw D t)) in length (ws ++ replicate (G - length ws) (pos 0)) ≡ G
front-G D t =
    let ws : List ℤ = words (normal_value canonical D t) in
    let n : ℕ = length (words (normal_value raw D t)) - length ws in
    length-append ws (replicate n (pos 0)) ∙ omega (arith, length-replicate n (pos 0), answer-within-G D t)

-- So from a buffer b whose first G words are the raw words, it becomes that front and what stands behind it in b.
pub answer-front : (D : Tables) (t : NormalForm) (b o' : List ℤ) (r : ℕ) →
    let ws = words (normal_value canonical D t) in let G = length (words (normal_value raw D t)) in let front = ws ++ replicate (G - length ws) (pos 0) in
    Answered D t (drop G b) o' r → (o' ≡ front ++ drop (length front) b) × (r ≡ length ws)
answer-front D t b o' r (e, n) =
    let ws : List ℤ = words (normal_value canonical D t) in
    let z : List ℤ = replicate (length (words (normal_value raw D t)) - length ws) (pos 0) in
    (e ∙ sym (append_assoc ws z (drop (length (words (normal_value raw D t))) b)) ∙ ap (λ (k : ℕ). (ws ++ z) ++ drop k b) (sym (front-G D t)), n)
