-- Heads merged one behind the other, as they come, are the monoid over all of them.
use mathlib.Core.Path.{◌≡◌, refl, sym, ap, ◌∙◌}
use mathlib.Core.Logic.{◌≢◌}
use mathlib.Core.List.{List, [], ◌∷◌, ◌++◌, foldl, foldr, append_assoc, append-nil}
use mathlib.Core.Bool.{true≢false}
use Rattle.spec_calculus.specs.Syntax.{Collection, list, Monoid, of, sum, max, min, some, all}
use Rattle.spec_calculus.specs.Value.{Value, coll, from_list, elems}
use Rattle.spec_calculus.specs.Monoid.{start, step, finish, ordered, canonical, raw}
use Rattle.spec_calculus.proofs.Sorting.{Commuting}
use Rattle.spec_calculus.proofs.Folds.{to-from, fold-foldr, step-comm, raw_of, raw-canonical}
use Rattle.plan_machine.specs.Machine.{behind, merge}

-- every head of this list, in its order
abbrev pub merges : Monoid → Value → List Value → Value
merges m a l = foldl (merge m) a l

pub merges-append : (m : Monoid) (a : Value) (k l : List Value) → merges m a (k ++ l) ≡ merges m (merges m a k) l
merges-append m a [] l = refl
merges-append m a (v ∷ k) l = merges-append m (merge m a v) k l

-- a collection's elements enter behind
merges-of : (c : Collection) (k l : List Value) → merges (of c) (coll (from_list k)) l ≡ coll (from_list (k ++ l))
unfolding merge step behind elems
merges-of c k [] = ap (λ x. coll (from_list x)) (sym (append-nil k))
merges-of c k (v ∷ l) = ap (λ x. merges (of c) (coll (from_list (x ++ v ∷ []))) l) (to-from k) ∙ merges-of c (k ++ v ∷ []) l ∙ ap (λ x. coll (from_list x)) (append_assoc k (v ∷ []) l)

-- steps that may change places
module _ {A B : Type 0} (op : A → B → B) (c : Commuting op) where
  first-in : (v : A) (b : B) (l : List A) → foldr op (op v b) l ≡ op v (foldr op b l)
  first-in v b [] = refl
  first-in v b (w ∷ l) = ap (op w) (first-in v b l) ∙ c w v (foldr op b l)

  left-right : (b : B) (l : List A) → foldl (λ x v. op v x) b l ≡ foldr op b l
  left-right b [] = refl
  left-right b (v ∷ l) = left-right (op v b) l ∙ first-in v b l

merges-scalar : (m : Monoid) → m ≢ of list → ((c : Collection) → m ≢ of c) → merge m ≡ (λ a v. step ordered m v a) → (l : List Value) → finish m (merges m (start m) l) ≡ raw m l
unfolding canonical
merges-scalar m h k e l = ap (λ f. finish m (foldl f (start m) l)) e ∙ ap (finish m) (left-right (step ordered m) (step-comm m h) (start m) l) ∙ sym (fold-foldr ordered m l) ∙ sym (raw-canonical m k l)

pub merged : (m : Monoid) (l : List Value) → finish m (merges m (start m) l) ≡ raw m l
unfolding start merge step finish
merged (of c) l = merges-of c [] l ∙ sym (raw_of c l)
merged sum l = merges-scalar sum (λ e. true≢false (cc)) (λ c e. true≢false (cc)) refl l
merged max l = merges-scalar max (λ e. true≢false (cc)) (λ c e. true≢false (cc)) refl l
merged min l = merges-scalar min (λ e. true≢false (cc)) (λ c e. true≢false (cc)) refl l
merged some l = merges-scalar some (λ e. true≢false (cc)) (λ c e. true≢false (cc)) refl l
merged all l = merges-scalar all (λ e. true≢false (cc)) (λ c e. true≢false (cc)) refl l
