-- Where no record is without fields, every element has a word, so no count is above the answer's length: an answer that fits a
-- buffer of less than 2^62 words has its counts as they are.
use mathlib.Core.Path.{◌≡◌, refl, sym, ap, ap₂, subst, ◌∙◌}
use mathlib.Core.List.{List, [], ◌∷◌, ◌++◌, map}
use mathlib.Core.Bool.{Bool, true, false}
use Prim.Native.Nat.{ℕ, suc, ◌+◌, ◌≤◌}
use native.Mathlib.Omega.{arith}
use lib.Dec.{eqb}
use lib.ListN.{length, length-append}
use lib.IntN.{ℤ, pos}
use Rattle.spec_calculus.specs.Lists.{upd}
use Rattle.spec_calculus.specs.Syntax as Sy
use Rattle.spec_calculus.specs.Syntax.{Monoid, of, sum, max, some, all, Bin, plus, minus, times, equal, less, and, or, Fun, choice, is_open}
use Rattle.spec_calculus.specs.Value.{Value, Values, vnil, vcons, num, truth, rec, coll, count, from_list, junk, field_of, bin_v, not_v, scalar, choice_v, app_v, rows_of}
use Rattle.spec_calculus.specs.Monoid.{raw}
use Rattle.spec_calculus.specs.Meaning.{Env}
use Rattle.spec_calculus.proofs.Lists.{All, all-guard, all-bind}
use Rattle.spec_calculus.proofs.Folds.{raw_of}
use Rattle.spec_calculus.proofs.WellFormed.{WellFormedRow, row_field}
use Rattle.spec_calculus.proofs.Truths.{both}
use Rattle.spec_encoding.specs.Record.{Bytes}
use Rattle.spec_normal_form.specs.Form.{Form, Forms, Clauses, row, cell, bin, negate, app, comp, fnil, fcons, done, gen, cond, value, values, loops}
use Rattle.spec_normal_form.specs.Form as Fo
use Rattle.base_syntax.proofs.MergedWords.{OfMonoid, fold-made}
use Rattle.form_env.specs.Environment.{env_of, tables_in, Held}
use Rattle.form_env.proofs.BoundRows.{each_row, table-each}
use Rattle.spec_outcome.specs.WrittenForm.{words, words_l}
use Rattle.base_signed.specs.Limit.{number_limit}
use Rattle.answer_writer.specs.LaidWords.{cut_words, cut_words_l}
use Rattle.answer_writer.specs.RecordFields.{filled, some_f, filled_f}

-- Cutting counts changes no length.
mutual
  unfolding words cut_words

  pub cut-length : (v : Value) → length (cut_words v) ≡ length (words v)
  cut-length (num z) = refl
  cut-length (truth b) = refl
  cut-length (rec vs) = cut-lengths vs
  cut-length (coll vs) = ap suc (cut-lengths vs)

  cut-lengths : (vs : Values) → length (cut_words_l vs) ≡ length (words_l vs)
  cut-lengths vnil = refl
  cut-lengths (vcons v vs) = length-append (cut_words v) (cut_words_l vs) ∙ ap₂ ◌+◌ (cut-length v) (cut-lengths vs) ∙ sym (length-append (words v) (words_l vs))

-- at least one word, and no count is cut where the words are at most 2^62
pub record ExactCounts (v : Value) : Type 0 where
  pub some : 1 ≤ length (words v)
  pub exact : length (words v) ≤ number_limit → cut_words v ≡ words v

whole-num : (z : ℤ) → ExactCounts (num z)
unfolding words cut_words
whole-num z = record { some = omega arith; exact = λ l. refl }

whole-truth : (b : Bool) → ExactCounts (truth b)
unfolding words cut_words
whole-truth b = record { some = omega arith; exact = λ l. refl }

whole-bin : (o : Bin) (v w : Value) → ExactCounts (bin_v o v w)
unfolding bin_v
whole-bin plus v w = whole-num _
whole-bin minus v w = whole-num _
whole-bin times v w = whole-num _
whole-bin equal v w = whole-truth _
whole-bin less v w = whole-truth _
whole-bin and v w = whole-truth _
whole-bin or v w = whole-truth _

whole-not : (v : Value) → ExactCounts (not_v v)
unfolding not_v
whole-not v = whole-truth _

whole-scalar : (v : Value) → ExactCounts (scalar v)
unfolding scalar
whole-scalar (num z) = whole-num z
whole-scalar (truth b) = whole-truth b
whole-scalar (rec vs) = whole-num _
whole-scalar (coll vs) = whole-num _

whole-app : (f : Fun) (vs : Values) → ExactCounts (app_v f vs)
unfolding app_v choice_v
whole-app choice vs = whole-scalar _
whole-app (is_open n c) vs = whole-truth _

-- two lists of words, one behind the other
both-exact : {a b c d : List ℤ} → (length b ≤ number_limit → a ≡ b) → (length d ≤ number_limit → c ≡ d) → length (b ++ d) ≤ number_limit → a ++ c ≡ b ++ d
both-exact {a} {b} {c} {d} p q l = ap₂ ◌++◌ (p (omega (arith, length-append b d))) (q (omega (arith, length-append b d)))

-- ---- collections
elements : (l : List Value) → All ExactCounts l → (count (from_list l) ≤ length (words_l (from_list l))) × (length (words_l (from_list l)) ≤ number_limit → cut_words_l (from_list l) ≡ words_l (from_list l))
unfolding words cut_words count
elements [] h = (omega arith, λ l. refl)
elements (v ∷ l) h = let r = elements l h.1 in (
  omega (arith, r.0, h.0.some, length-append (words v) (words_l (from_list l))),
  both-exact {a = cut_words v} {b = words v} {c = cut_words_l (from_list l)} {d = words_l (from_list l)} h.0.exact r.1,
)

whole-coll : (l : List Value) → All ExactCounts l → ExactCounts (coll (from_list l))
unfolding words cut_words
whole-coll l h = let r = elements l h in record { some = omega arith; exact = λ p. ap₂ ◌∷◌ (ap pos (omega (arith, r.0))) (r.1 (omega arith)) }

whole-fold : (m : Monoid) (l : List Value) → All ExactCounts l → ExactCounts (raw m l)
whole-fold m l h = go m (fold-made m l)
  where
    go : (m : Monoid) → OfMonoid m (raw m l) → ExactCounts (raw m l)
    go (of c) e = subst ExactCounts (sym (raw_of c l)) (whole-coll l h)
    go sum e = subst ExactCounts (sym e) (whole-num _)
    go max e = subst ExactCounts (sym e) (whole-num _)
    go Sy.min e = subst ExactCounts (sym e) (whole-num _)
    go some e = subst ExactCounts (sym e) (whole-truth _)
    go all e = subst ExactCounts (sym e) (whole-truth _)

-- ---- rows
cells_are : (zs : List ℤ) → (cut_words_l (from_list (map num zs)) ≡ words_l (from_list (map num zs))) × (length (words_l (from_list (map num zs))) ≡ length zs)
unfolding words cut_words
cells_are [] = (refl, refl)
cells_are (z ∷ zs) = (ap (λ (l : List ℤ). z ∷ l) (cells_are zs).0, ap suc (cells_are zs).1)

-- what a generator stands for
pub record Standing (v : Value) : Type 0 where
  pub whole : ExactCounts v
  pub fields : (c : ℕ) → ExactCounts (field_of c v)

row-whole : (n : ℕ) (v : Value) → 1 ≤ n → WellFormedRow n v → Standing v
row-whole n v p r = record { whole = subst ExactCounts (sym r.is) here; fields = λ c. subst ExactCounts (sym (row_field r c)) (whole-num _) }
  where
    here : ExactCounts (rec (from_list (map num r.cells)))
    here = unfold words cut_words in record { some = omega (arith, (cells_are r.cells).1, r.width); exact = λ l. (cells_are r.cells).0 }

none-whole : Standing junk
unfolding field_of
none-whole = record { whole = whole-num _; fields = λ c. whole-num _ }

abbrev Rows : Env → Type 0
Rows ρ = (g : ℕ) → Standing (ρ g)

rows-upd : (g : ℕ) {v : Value} (ρ : Env) → Standing v → Rows ρ → Rows (upd g v ρ)
unfolding upd
rows-upd g {v} ρ s R x = go (eqb g x)
  where
    go : (b : Bool) → Standing (elim b [ true ↦ v | false ↦ ρ x ])
    go true = s
    go false = R x

-- ---- forms
abbrev value_of : Bytes → Form → Env → Value
value_of d t ρ = value raw (tables_in d) t ρ

module _ {d : Bytes} {s : List ℕ} (H : Held d (tables_in d) s) where
  loops-whole : (k : Env → List Value) → ((σ : Env) → Rows σ → All ExactCounts (k σ)) → (q : Clauses) (ρ : Env) → Rows ρ → All ExactCounts (loops raw (tables_in d) q k ρ)
  unfolding loops
  loops-whole k h done ρ R = h ρ R
  loops-whole k h (gen g t q) ρ R = all-bind Standing ExactCounts (λ v. loops raw (tables_in d) q k (upd g v ρ)) (rows_of (tables_in d) t) (table-each H Standing row-whole t)
      (λ v r. loops-whole k h q (upd g v ρ) (rows-upd g ρ r R))
  loops-whole k h (cond t q) ρ R = all-guard ExactCounts _ (loops raw (tables_in d) q k ρ) (loops-whole k h q ρ R)

  mutual
    unfolding value filled words cut_words

    form-whole : (t : Form) → filled t ≡ true → (ρ : Env) → Rows ρ → ExactCounts (value_of d t ρ)
    form-whole (Fo.num z) w ρ R = whole-num z
    form-whole (Fo.truth b) w ρ R = whole-truth b
    form-whole (row g) w ρ R = (R g).whole
    form-whole (cell c g) w ρ R = (R g).fields c
    form-whole (Fo.rec ts) w ρ R = let p = both (some_f ts) (filled_f ts) w in record { some = fields-some ts p.0 p.1 ρ R; exact = fields-exact ts p.1 ρ R }
    form-whole (bin o t u) w ρ R = whole-bin o (value_of d t ρ) (value_of d u ρ)
    form-whole (negate t) w ρ R = whole-not (value_of d t ρ)
    form-whole (app f ts) w ρ R = whole-app f (values raw (tables_in d) ts ρ)
    form-whole (comp m q h) w ρ R = whole-fold m (loops raw (tables_in d) q (λ σ. value_of d h σ ∷ []) ρ) (loops-whole (λ σ. value_of d h σ ∷ []) (λ σ S. (form-whole h w σ S, tt)) q ρ R)

    fields-some : (ts : Forms) → some_f ts ≡ true → filled_f ts ≡ true → (ρ : Env) → Rows ρ → 1 ≤ length (words_l (values raw (tables_in d) ts ρ))
    fields-some fnil e w ρ R = let z : ◌≡◌ {A = ℕ} 0 1 = cc in absurd (omega arith)
    fields-some (fcons t ts) e w ρ R = omega (arith, (form-whole t (both (filled t) (filled_f ts) w).0 ρ R).some, length-append (words (value_of d t ρ)) (words_l (values raw (tables_in d) ts ρ)))

    fields-exact : (ts : Forms) → filled_f ts ≡ true → (ρ : Env) → Rows ρ → length (words_l (values raw (tables_in d) ts ρ)) ≤ number_limit → cut_words_l (values raw (tables_in d) ts ρ) ≡ words_l (values raw (tables_in d) ts ρ)
    fields-exact fnil w ρ R = λ l. refl
    fields-exact (fcons t ts) w ρ R = let p = both (filled t) (filled_f ts) w in
        both-exact {a = cut_words (value_of d t ρ)} {b = words (value_of d t ρ)} {c = cut_words_l (values raw (tables_in d) ts ρ)} {d = words_l (values raw (tables_in d) ts ρ)}
        (form-whole t p.0 ρ R).exact (fields-exact ts p.1 ρ R)

  -- A value of at most 2^62 words has no count that is cut.
  pub cut-exact : (t : Form) → filled t ≡ true → length (words (value_of d t (env_of (tables_in d) s))) ≤ number_limit → cut_words (value_of d t (env_of (tables_in d) s)) ≡ words (value_of d t (env_of (tables_in d) s))
  cut-exact t w = (form-whole t w (env_of (tables_in d) s) (each_row H Standing row-whole none-whole)).exact
