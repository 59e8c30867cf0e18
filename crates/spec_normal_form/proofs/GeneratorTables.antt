-- Each generator of a normal form has its own table's bounds: what 28 takes for a cell is what its column declares.
use mathlib.Core.Path.{◌≡◌, refl, sym, ap, ap₂, subst, ◌∙◌}
use mathlib.Core.List.{List, [], ◌∷◌, ◌++◌, append_assoc}
use mathlib.Core.Bool.{Bool, true, false, ◌&&◌}
use Prim.Native.Nat.{ℕ, suc, ◌+◌, ◌<◌, ◌^◌}
use native.Mathlib.Omega.{arith}
use borrow.Author.Tests.{ltb-true, ltb-false}
use lib.Dec.{ltb, leb}
use lib.ListN.{length, get_or, length-append}
use Rattle.spec_calculus.specs.Syntax.{Collection, Question}
use Rattle.spec_checks.specs.Scope.{names_hold}
use Rattle.spec_normal_form.specs.Form.{Form, Forms, Clauses, NormalForm, num, truth, row, cell, rec, bin, negate, app, comp, fnil, fcons, done, gen, cond, gens, gens_f, gens_c, as_form}
use Rattle.spec_normal_form.specs.Normal.{normal}
use Rattle.spec_normal_form.specs.Bound.{own_gens, bin_bound, app_bound, comp_bound, Declared, bound, bounds, within, within_f, within_c, tables_of, tables_of_f, tables_of_c, declared, numbers_fit}
use Rattle.spec_normal_form.proofs.GeneratorNumbers.{Numbered, NumberedF, NumberedC, normal-numbered}

-- C says of each generator of the form what D says of its table
module _ {A : Type 0} (C D : ℕ → A) where
  abbrev mutual
    pub Named : Form → Type 0
    Named (num z) = Unit {0}
    Named (truth b) = Unit {0}
    Named (row g) = Unit {0}
    Named (cell i g) = Unit {0}
    Named (rec ts) = NamedF ts
    Named (app f ts) = NamedF ts
    Named (bin o s t) = Named s × Named t
    Named (negate t) = Named t
    Named (comp m q h) = NamedC q × Named h

    pub NamedF : Forms → Type 0
    NamedF fnil = Unit {0}
    NamedF (fcons t ts) = Named t × NamedF ts

    pub NamedC : Clauses → Type 0
    NamedC done = Unit {0}
    NamedC (gen g k q) = (C g ≡ D k) × NamedC q
    NamedC (cond t q) = Named t × NamedC q

-- What is made of what C says is what is made of what D says.
module _ {A B : Type 0} (f : A → B) (C D : ℕ → A) where
  mutual
    pub named-map : (t : Form) → Named C D t → Named (λ g. f (C g)) (λ k. f (D k)) t
    named-map (num z) h = tt
    named-map (truth b) h = tt
    named-map (row g) h = tt
    named-map (cell i g) h = tt
    named-map (rec ts) h = named-map_f ts h
    named-map (app o ts) h = named-map_f ts h
    named-map (bin o s t) h = (named-map s h.0, named-map t h.1)
    named-map (negate t) h = named-map t h
    named-map (comp m q t) h = (named-map_c q h.0, named-map t h.1)

    named-map_f : (ts : Forms) → NamedF C D ts → NamedF (λ g. f (C g)) (λ k. f (D k)) ts
    named-map_f fnil h = tt
    named-map_f (fcons t ts) h = (named-map t h.0, named-map_f ts h.1)

    pub named-map_c : (q : Clauses) → NamedC C D q → NamedC (λ g. f (C g)) (λ k. f (D k)) q
    named-map_c done h = tt
    named-map_c (gen g k q) h = (ap f h.0, named-map_c q h.1)
    named-map_c (cond t q) h = (named-map t h.0, named-map_c q h.1)

-- ---- as many tables as generators
mutual
  unfolding tables_of gens

  tables-count : (t : Form) → length (tables_of t) ≡ gens t
  tables-count (num z) = refl
  tables-count (truth b) = refl
  tables-count (row g) = refl
  tables-count (cell i g) = refl
  tables-count (rec ts) = tables-count_f ts
  tables-count (app f ts) = tables-count_f ts
  tables-count (bin o s t) = length-append (tables_of s) (tables_of t) ∙ ap₂ ◌+◌ (tables-count s) (tables-count t)
  tables-count (negate t) = tables-count t
  tables-count (comp m q h) = length-append (tables_of_c q) (tables_of h) ∙ ap₂ ◌+◌ (tables-count_c q) (tables-count h)

  tables-count_f : (ts : Forms) → length (tables_of_f ts) ≡ gens_f ts
  tables-count_f fnil = refl
  tables-count_f (fcons t ts) = length-append (tables_of t) (tables_of_f ts) ∙ ap₂ ◌+◌ (tables-count t) (tables-count_f ts)

  tables-count_c : (q : Clauses) → length (tables_of_c q) ≡ gens_c q
  tables-count_c done = refl
  tables-count_c (gen g k q) = ap suc (tables-count_c q)
  tables-count_c (cond t q) = length-append (tables_of t) (tables_of_c q) ∙ ap₂ ◌+◌ (tables-count t) (tables-count_c q)

-- ---- generators that are numbered in written order, by the list of their tables
at_length : (a : List ℕ) (k : ℕ) (b : List ℕ) → get_or (a ++ (k ∷ b)) (length a) 0 ≡ k
at_length [] k b = refl
at_length (x ∷ a) k b = at_length a k b

module _ {A : Type 0} (D : ℕ → A) (l : List ℕ) where
  abbrev By : ℕ → A
  By g = D (get_or l g 0)

  -- the list is a, then these tables, then b
  abbrev Cut : List ℕ → List ℕ → List ℕ → Type 0
  Cut a m b = l ≡ a ++ (m ++ b)

  left : (a m n b : List ℕ) → Cut a (m ++ n) b → Cut a m (n ++ b)
  left a m n b e = e ∙ ap (λ r. a ++ r) (append_assoc m n b)

  right : (a m n b : List ℕ) → Cut a (m ++ n) b → Cut (a ++ m) n b
  right a m n b e = left a m n b e ∙ sym (append_assoc a m (n ++ b))

  longer : (a m : List ℕ) {i j : ℕ} → length a ≡ i → length m ≡ j → length (a ++ m) ≡ i + j
  longer a m p q = length-append a m ∙ ap₂ ◌+◌ p q

  mutual
    unfolding tables_of gens

    named : (t : Form) (i : ℕ) (a b : List ℕ) → Numbered t i → length a ≡ i → Cut a (tables_of t) b → Named By D t
    named (num z) i a b h p e = tt
    named (truth c) i a b h p e = tt
    named (row g) i a b h p e = tt
    named (cell j g) i a b h p e = tt
    named (rec ts) i a b h p e = named_f ts i a b h p e
    named (app f ts) i a b h p e = named_f ts i a b h p e
    named (bin o s t) i a b h p e =
        let m = tables_of s in
        (named s i a (tables_of t ++ b) h.0 p (left a m (tables_of t) b e), named t (i + gens s) (a ++ m) b h.1 (longer a m p (tables-count s)) (right a m (tables_of t) b e))
    named (negate t) i a b h p e = named t i a b h p e
    named (comp m q t) i a b h p e =
        let n = tables_of_c q in
        (named_c q i a (tables_of t ++ b) h.0 p (left a n (tables_of t) b e), named t (i + gens_c q) (a ++ n) b h.1 (longer a n p (tables-count_c q)) (right a n (tables_of t) b e))

    named_f : (ts : Forms) (i : ℕ) (a b : List ℕ) → NumberedF ts i → length a ≡ i → Cut a (tables_of_f ts) b → NamedF By D ts
    named_f fnil i a b h p e = tt
    named_f (fcons t ts) i a b h p e =
        let m = tables_of t in
        (named t i a (tables_of_f ts ++ b) h.0 p (left a m (tables_of_f ts) b e), named_f ts (i + gens t) (a ++ m) b h.1 (longer a m p (tables-count t)) (right a m (tables_of_f ts) b e))

    named_c : (q : Clauses) (i : ℕ) (a b : List ℕ) → NumberedC q i → length a ≡ i → Cut a (tables_of_c q) b → NamedC By D q
    named_c done i a b h p e = tt
    named_c (gen g k q) i a b h p e = (
      ap D (ap₂ (λ r n. get_or r n 0) e (h.0 ∙ sym p) ∙ at_length a k (tables_of_c q ++ b)),
      named_c q (suc i) (a ++ (k ∷ [])) b h.1 (longer a (k ∷ []) p refl ∙ omega arith) (right a (k ∷ []) (tables_of_c q) b e),
    )
    named_c (cond t q) i a b h p e =
        let m = tables_of t in
        (named t i a (tables_of_c q ++ b) h.0 p (left a m (tables_of_c q) b e), named_c q (i + gens t) (a ++ m) b h.1 (longer a m p (tables-count t)) (right a m (tables_of_c q) b e))

-- Where a form's generators are numbered in written order, each has what its own table's columns declare.
pub declared-named : (B : ℕ → ℕ → ℕ) (t : Form) → Numbered t 0 → Named (declared B t) B t
unfolding declared
declared-named B t h = named B (tables_of t) t 0 [] [] h refl (sym (append-nil (tables_of t)))
  where
    append-nil : (l : List ℕ) → l ++ [] ≡ l
    append-nil [] = refl
    append-nil (x ∷ l) = ap (λ r. x ∷ r) (append-nil l)

-- Where the names of a question hold (24), so it is in its normal form.
pub normal-named : (K : ℕ → Collection) (B : ℕ → ℕ → ℕ) (q : Question) → names_hold q ≡ true → Named (declared B (as_form (normal K q))) B (as_form (normal K q))
normal-named K B q h = declared-named B (as_form (normal K q)) (normal-numbered K q h)

-- ---- whatever else says so of its generators has the same bounds
module _ (C D B : Declared) where
  -- they agree on the generators below i
  abbrev Agree : ℕ → Type 0
  Agree i = (g : ℕ) → g < i → C g ≡ D g

  agree-one : {k : ℕ} (i : ℕ) → C i ≡ B k → D i ≡ B k → Agree i → Agree (suc i)
  agree-one i p q h g l = go (ltb g i) refl
    where
      go : (b : Bool) → ltb g i ≡ b → C g ≡ D g
      go true e = h g (ltb-true g i e)
      go false e = let j : i ≡ g = omega (arith, ltb-false g i e, l) in subst (λ x. C x ≡ D x) j (p ∙ sym q)

  agree-plus : (i j k : ℕ) → Agree (i + j + k) → Agree (i + (j + k))
  agree-plus i j k h g l = h g (omega (arith, l))

  mutual
    unfolding gens

    agree : (t : Form) (i : ℕ) → Numbered t i → Named C B t → Named D B t → Agree i → Agree (i + gens t)
    agree (num z) i n c d h = λ g l. h g (omega (arith, l))
    agree (truth b) i n c d h = λ g l. h g (omega (arith, l))
    agree (row x) i n c d h = λ g l. h g (omega (arith, l))
    agree (cell j x) i n c d h = λ g l. h g (omega (arith, l))
    agree (rec ts) i n c d h = agree_f ts i n c d h
    agree (app f ts) i n c d h = agree_f ts i n c d h
    agree (bin o s t) i n c d h = agree-plus i (gens s) (gens t) (agree t (i + gens s) n.1 c.1 d.1 (agree s i n.0 c.0 d.0 h))
    agree (negate t) i n c d h = agree t i n c d h
    agree (comp m q t) i n c d h = agree-plus i (gens_c q) (gens t) (agree t (i + gens_c q) n.1 c.1 d.1 (agree_c q i n.0 c.0 d.0 h))

    agree_f : (ts : Forms) (i : ℕ) → NumberedF ts i → NamedF C B ts → NamedF D B ts → Agree i → Agree (i + gens_f ts)
    agree_f fnil i n c d h = λ g l. h g (omega (arith, l))
    agree_f (fcons t ts) i n c d h = agree-plus i (gens t) (gens_f ts) (agree_f ts (i + gens t) n.1 c.1 d.1 (agree t i n.0 c.0 d.0 h))

    agree_c : (q : Clauses) (i : ℕ) → NumberedC q i → NamedC C B q → NamedC D B q → Agree i → Agree (i + gens_c q)
    agree_c done i n c d h = λ g l. h g (omega (arith, l))
    agree_c (gen x k q) i n c d h =
        let own : Agree (suc i) = agree-one i (subst (λ y. C y ≡ B k) n.0 c.0) (subst (λ y. D y ≡ B k) n.0 d.0) h in
        λ g l. agree_c q (suc i) n.1 c.1 d.1 own g (omega (arith, l))
    agree_c (cond t q) i n c d h = agree-plus i (gens t) (gens_c q) (agree_c q (i + gens t) n.1 c.1 d.1 (agree t i n.0 c.0 d.0 h))

  mutual
    unfolding bound

    same-bound : (t : Form) (i : ℕ) → Numbered t i → Named C B t → Named D B t → Agree i → bound C t ≡ bound D t
    same-bound (num z) i n c d h = refl
    same-bound (truth b) i n c d h = refl
    same-bound (row g) i n c d h = refl
    same-bound (cell j g) i n c d h = cc (h g n)
    same-bound (rec ts) i n c d h = refl
    same-bound (app f ts) i n c d h = ap (app_bound f) (same-bounds ts i n c d h)
    same-bound (bin o s t) i n c d h = ap₂ (bin_bound o) (same-bound s i n.0 c.0 d.0 h) (same-bound t (i + gens s) n.1 c.1 d.1 (agree s i n.0 c.0 d.0 h))
    same-bound (negate t) i n c d h = refl
    same-bound (comp m q t) i n c d h = ap (comp_bound m (own_gens q)) (same-bound t (i + gens_c q) n.1 c.1 d.1 (agree_c q i n.0 c.0 d.0 h))

    same-bounds : (ts : Forms) (i : ℕ) → NumberedF ts i → NamedF C B ts → NamedF D B ts → Agree i → bounds C ts ≡ bounds D ts
    same-bounds fnil i n c d h = refl
    same-bounds (fcons t ts) i n c d h = ap₂ ◌∷◌ (same-bound t i n.0 c.0 d.0 h) (same-bounds ts (i + gens t) n.1 c.1 d.1 (agree t i n.0 c.0 d.0 h))

  abbrev smallest : ℕ → Bool
  smallest b = leb b (2 ^ 62)

  mutual
    unfolding within

    same-within : (t : Form) (i : ℕ) → Numbered t i → Named C B t → Named D B t → Agree i → within C t ≡ within D t
    same-within (num z) i n c d h = ap smallest (same-bound (num z) i n c d h)
    same-within (truth b) i n c d h = refl
    same-within (row g) i n c d h = refl
    same-within (cell j g) i n c d h = ap smallest (same-bound (cell j g) i n c d h)
    same-within (rec ts) i n c d h = same-within_f ts i n c d h
    same-within (app f ts) i n c d h = ap₂ (λ b w. smallest b && w) (same-bound (app f ts) i n c d h) (same-within_f ts i n c d h)
    same-within (bin o s t) i n c d h = ap₂ (λ b w. smallest b && w) (same-bound (bin o s t) i n c d h)
        (ap₂ ◌&&◌ (same-within s i n.0 c.0 d.0 h) (same-within t (i + gens s) n.1 c.1 d.1 (agree s i n.0 c.0 d.0 h)))
    same-within (negate t) i n c d h = same-within t i n c d h
    same-within (comp m q t) i n c d h = ap₂ (λ b w. smallest b && w) (same-bound (comp m q t) i n c d h)
        (ap₂ ◌&&◌ (same-within_c q i n.0 c.0 d.0 h) (same-within t (i + gens_c q) n.1 c.1 d.1 (agree_c q i n.0 c.0 d.0 h)))

    same-within_f : (ts : Forms) (i : ℕ) → NumberedF ts i → NamedF C B ts → NamedF D B ts → Agree i → within_f C ts ≡ within_f D ts
    same-within_f fnil i n c d h = refl
    same-within_f (fcons t ts) i n c d h = ap₂ ◌&&◌ (same-within t i n.0 c.0 d.0 h) (same-within_f ts (i + gens t) n.1 c.1 d.1 (agree t i n.0 c.0 d.0 h))

    same-within_c : (q : Clauses) (i : ℕ) → NumberedC q i → NamedC C B q → NamedC D B q → Agree i → within_c C q ≡ within_c D q
    same-within_c done i n c d h = refl
    same-within_c (gen x k q) i n c d h = same-within_c q (suc i) n.1 c.1 d.1 (agree-one i (subst (λ y. C y ≡ B k) n.0 c.0) (subst (λ y. D y ≡ B k) n.0 d.0) h)
    same-within_c (cond t q) i n c d h = ap₂ ◌&&◌ (same-within t i n.0 c.0 d.0 h) (same-within_c q (i + gens t) n.1 c.1 d.1 (agree t i n.0 c.0 d.0 h))

-- 28 by anything that says of each generator what its table's columns declare.
pub numbers-fit-as : (B C : Declared) (f : NormalForm) → Numbered (as_form f) 0 → Named C B (as_form f) → within C (as_form f) ≡ numbers_fit B f
unfolding numbers_fit
numbers-fit-as B C f n c = let t = as_form f in same-within C (declared B t) B t 0 n c (declared-named B t n) (λ g l. absurd (omega (arith, l)))
