-- How long an answer is: never longer than G, which is the length with each set written as a bag.
use mathlib.Core.Path.{◌≡◌, refl, sym, ap, ap₂, subst, ◌∙◌, fun_ext}
use mathlib.Core.Logic.{◌≢◌}
use mathlib.Core.List.{List, [], ◌∷◌, foldr, map}
use mathlib.Core.Bool.{Bool, true, false}
use Prim.Native.Nat.{ℕ, suc, ◌+◌, ◌≤◌}
use native.Mathlib.Nat.{le_refl, le_trans}
use native.Mathlib.Omega.{arith}
use lib.ListN.{length, length-append}
use Rattle.spec_calculus.specs.Syntax.{Collection, list, bag, set, of, Question}
use Rattle.spec_calculus.specs.Value.{Value, Values, vnil, vcons, to_list, from_list, Tables, kind_of}
use Rattle.spec_calculus.specs.Value as Va
use Rattle.spec_calculus.specs.Order.{le_v, insert, put}
use Rattle.spec_calculus.specs.Monoid.{Entry, fold_by, ordered, canonical, raw}
use Rattle.spec_calculus.specs.Meaning.{meaning}
use Rattle.spec_calculus.specs.Rearrangement.{Rearranged}
use Rattle.spec_calculus.proofs.Sorting.{rearranged-refl, fold-rearranged, insert-rearranged, put-eq, put-lt, put-gt}
use Rattle.spec_calculus.proofs.Folds.{to-from, fold-of}
use Rattle.spec_checks.specs.Types.{Ty, Tys, number, truth, record', coll, ynil, ycons, generators_fit}
use Rattle.spec_checks.proofs.Refold.{on_parts, by_parts, refold, refolds}
use Rattle.spec_normal_form.specs.Form.{Form, NormalForm, as_form, normal_value}
use Rattle.spec_normal_form.specs.Normal.{normal}
use Rattle.spec_normal_form.proofs.RawArranged.{shape, arrange, normal-refold, normal-arranged}
use Rattle.spec_normal_form.proofs.Meaning.{normal-keeps}
use Rattle.spec_outcome.specs.WrittenForm.{words, words_l}
use Rattle.spec_outcome.specs.Acceptance.{Accepted}
use Rattle.spec_outcome.specs.Outcome.{G}

abbrev size : Value → ℕ
size v = length (words v)

-- the words of all elements
abbrev add : Value → ℕ → ℕ
add v n = size v + n

unfoldable total : List Value → ℕ
total l = foldr add 0 l

words-total : (vs : Values) → length (words_l vs) ≡ total (to_list vs)
unfolding words total
words-total vnil = refl
words-total (vcons v vs) = length-append (words v) (words_l vs) ∙ ap (add v) (words-total vs)

coll-size : (vs : Values) → size (Va.coll vs) ≡ suc (total (to_list vs))
unfolding words
coll-size vs = ap suc (words-total vs)

insert-total : (v : Value) (l : List Value) → total (insert le_v v l) ≡ size v + total l
unfolding total
insert-total v l = fold-rearranged add (λ x y n. omega arith) 0 (insert-rearranged le_v v l)

put-total : (v : Value) (l : List Value) → total (put le_v v l) ≤ size v + total l
unfolding total put
put-total v [] = le_refl (size v + 0)
put-total v (w ∷ l) = go (le_v v w) (le_v w v) refl refl (put-total v l)
  where
    go : (b c : Bool) → le_v v w ≡ b → le_v w v ≡ c → total (put le_v v l) ≤ size v + total l → total (put le_v v (w ∷ l)) ≤ size v + total (w ∷ l)
    go true true p q r = rw (put-eq le_v v w l p q) (omega arith)
    go true false p q r = rw (put-lt le_v v w l p q) (omega arith)
    go false c p q r = rw (put-gt le_v v w l p) (omega arith)

-- "at most" and "equal"
record Compares (R : ℕ → ℕ → Type 0) : Type 0 where
  self : (n : ℕ) → R n n
  chain : {a b c : ℕ} → R a b → R b c → R a c
  next : {a b : ℕ} → R a b → R (suc a) (suc b)
  sums : {a b c d : ℕ} → R a b → R c d → R (a + c) (b + d)

at_most : Compares ◌≤◌
at_most = record { self = le_refl; chain = le_trans; next = λ p. omega arith; sums = λ p q. omega arith }

equal : Compares (λ a b. a ≡ b)
equal = record { self = λ n. refl; chain = λ p q. p ∙ q; next = λ p. ap suc p; sums = λ p q. ap₂ ◌+◌ p q }

-- where an element that enters a collection adds its own words, or at most those: what is folded anew has as many words as
-- before, or at most as many
module _ {R : ℕ → ℕ → Type 0} (C : Compares R) (E : Entry) (enters : (c : Collection) (v : Value) (l : List Value) → R (total (E c v l)) (size v + total l)) where
  map-total : (f : Value → Value) → ((v : Value) → R (size (f v)) (size v)) → (l : List Value) → R (total (map f l)) (total l)
  unfolding total
  map-total f h [] = C.self 0
  map-total f h (v ∷ l) = C.sums (h v) (map-total f h l)

  entries-total : (c : Collection) (l : List Value) → R (total (foldr (E c) [] l)) (total l)
  unfolding total
  entries-total c [] = C.self 0
  entries-total c (v ∷ l) = C.chain (enters c v (foldr (E c) [] l)) (C.sums (C.self (size v)) (entries-total c l))

  fold-size : (c : Collection) (f : Value → Value) → ((v : Value) → R (size (f v)) (size v)) → (vs : Values) → R (size (fold_by E (of c) (map f (to_list vs)))) (size (Va.coll vs))
  fold-size c f h vs =
      let l = map f (to_list vs) in
      rw (fold-of E c l, coll-size (from_list (foldr (E c) [] l)), to-from (foldr (E c) [] l), coll-size vs) (C.next (C.chain (entries-total c l) (map-total f h (to_list vs))))

  mutual
    unfolding refold words

    refold-size : (t : Ty) (v : Value) → R (size (refold E t v)) (size v)
    refold-size number v = C.self (size v)
    refold-size truth v = C.self (size v)
    refold-size (record' ts) v = by_parts (λ w u. R (size w) (size u)) (λ w. C.self (size w)) _ _ (λ vs. refolds-size ts vs) (λ vs. C.self (size (Va.coll vs))) v
    refold-size (coll c t) v = by_parts (λ w u. R (size w) (size u)) (λ w. C.self (size w)) _ _ (λ vs. C.self (size (Va.rec vs))) (λ vs. fold-size c (λ w. refold E t w) (λ w. refold-size t w) vs) v

    refolds-size : (ts : Tys) (vs : Values) → R (length (words_l (refolds E ts vs))) (length (words_l vs))
    refolds-size ynil vs = C.self (length (words_l vs))
    refolds-size (ycons t ts) vnil = C.self 0
    refolds-size (ycons t ts) (vcons v vs) = rw (length-append (words (refold E t v)) (words_l (refolds E ts vs)), length-append (words v) (words_l vs)) (C.sums (refold-size t v) (refolds-size ts vs))

ordered-enters : (c : Collection) (v : Value) (l : List Value) → total (ordered c v l) ≤ size v + total l
unfolding ordered total
ordered-enters list v l = le_refl (size v + total l)
ordered-enters bag v l = omega (arith, insert-total v l)
ordered-enters set v l = put-total v l

-- A value arranged has at most as many words.
pub arrange-shorter : (f : Form) (v : Value) → length (words (arrange f v)) ≤ length (words v)
arrange-shorter f v = refold-size at_most ordered ordered-enters (shape f) v

-- An answer is never longer than G.
pub answer-within-G : (T : Tables) (f : NormalForm) → length (words (normal_value canonical T f)) ≤ length (words (normal_value raw T f))
answer-within-G T f = rw (normal-arranged T f) (arrange-shorter (as_form f) (normal_value raw T f))

-- an entry by which no element is lost, wherever it then stands
abbrev pub Keeping : Entry → Type 0
Keeping E = (c : Collection) (v : Value) (l : List Value) → Rearranged (E c v l) (v ∷ l)

-- By such an entry the value is as long as the raw one.
pub kept-length : (E : Entry) → Keeping E → (T : Tables) (f : NormalForm) → length (words (normal_value (fold_by E) T f)) ≡ length (words (normal_value raw T f))
unfolding total
kept-length E h T f = ap size (normal-refold E T f) ∙ refold-size equal E (λ c v l. fold-rearranged add (λ x y n. omega arith) 0 (h c v l)) (shape (as_form f)) (normal_value raw T f)

-- with each set written as a bag
unfoldable pub bagged : Entry
bagged list v l = v ∷ l
bagged bag v l = insert le_v v l
bagged set v l = insert le_v v l

bagged-keeps : Keeping bagged
unfolding bagged
bagged-keeps list v l = rearranged-refl (v ∷ l)
bagged-keeps bag v l = insert-rearranged le_v v l
bagged-keeps set v l = insert-rearranged le_v v l

-- The order in which the elements stand does not change the length: the raw value is as long as the one with each set
-- written as a bag.
pub bagged-length : (T : Tables) (f : NormalForm) → length (words (normal_value (fold_by bagged) T f)) ≡ length (words (normal_value raw T f))
bagged-length T f = kept-length bagged bagged-keeps T f

-- "G being the answer's length in normal form with each set written as a bag"
pub G-bagged : (a : Accepted) → G a ≡ length (words (normal_value (fold_by bagged) a.tables a.form))
unfolding G
G-bagged a = sym (bagged-length a.tables a.form)

-- no set in a value of the type
abbrev mutual
  pub NoSet : Ty → Type 0
  NoSet number = Unit {0}
  NoSet truth = Unit {0}
  NoSet (record' ts) = NoSets ts
  NoSet (coll c t) = (c ≢ set) × NoSet t

  pub NoSets : Tys → Type 0
  NoSets ynil = Unit {0}
  NoSets (ycons t ts) = NoSet t × NoSets ts

no-set-entry : (c : Collection) → c ≢ set → ordered c ≡ bagged c
unfolding ordered bagged
no-set-entry list h = refl
no-set-entry bag h = refl
no-set-entry set h = absurd (h refl)

no-set-fold : (c : Collection) → c ≢ set → (l : List Value) → fold_by ordered (of c) l ≡ fold_by bagged (of c) l
no-set-fold c h l = fold-of ordered c l ∙ ap (λ e. Va.coll (from_list (foldr e [] l))) (no-set-entry c h) ∙ sym (fold-of bagged c l)

mutual
  unfolding refold

  no-set-refold : (t : Ty) → NoSet t → (v : Value) → refold ordered t v ≡ refold bagged t v
  no-set-refold number h v = refl
  no-set-refold truth h v = refl
  no-set-refold (record' ts) h v = ap (λ r. on_parts r Va.coll v) (fun_ext λ vs. ap Va.rec (no-sets-refold ts h vs))
  no-set-refold (coll c t) h v = ap (λ k. on_parts Va.rec k v) (fun_ext λ vs. ap (λ f. fold_by ordered (of c) (map f (to_list vs))) (fun_ext λ w. no-set-refold t h.1 w) ∙ no-set-fold c h.0 _)

  no-sets-refold : (ts : Tys) → NoSets ts → (vs : Values) → refolds ordered ts vs ≡ refolds bagged ts vs
  no-sets-refold ynil h vs = refl
  no-sets-refold (ycons t ts) h vnil = refl
  no-sets-refold (ycons t ts) h (vcons v vs) = ap₂ vcons (no-set-refold t h.0 v) (no-sets-refold ts h.1 vs)

-- An answer in which no set stands is as long as G.
pub no-set-G : (T : Tables) (f : NormalForm) → NoSet (shape (as_form f)) → length (words (normal_value canonical T f)) ≡ length (words (normal_value raw T f))
no-set-G T f h = ap size (normal-arranged T f ∙ no-set-refold (shape (as_form f)) h (normal_value raw T f) ∙ sym (normal-refold bagged T f)) ∙ bagged-length T f

-- The answer by loops of a question that passes 25 and 26 is never longer than G.
pub loops-within-G : (T : Tables) (q : Question) → generators_fit T q ≡ true → length (words (meaning canonical T q)) ≤ length (words (normal_value raw T (normal (kind_of T) q)))
loops-within-G T q h = subst (λ v. length (words v) ≤ length (words (normal_value raw T (normal (kind_of T) q)))) (normal-keeps T q h) (answer-within-G T (normal (kind_of T) q))
