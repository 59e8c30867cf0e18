-- Laws of writing out: clauses one behind the other, and the two ways in which a comprehension stands as a condition.
use mathlib.Core.Path.{◌≡◌, refl, sym, ap, subst, fun_ext, ◌∙◌}
use mathlib.Core.List.{List}
use mathlib.Core.Bool.{Bool, true, false}
use Prim.Native.Nat.{ℕ, ◌+◌}
use native.Mathlib.Omega.{arith}
use Rattle.spec_calculus.specs.Lists.{bind_l, guard, upd}
use Rattle.spec_calculus.specs.Syntax.{Collection, Monoid, Question, as_term}
use Rattle.spec_calculus.specs.Value.{Value, as_bool, Tables, rows_of}
use Rattle.spec_calculus.specs.Monoid.{Fold}
use Rattle.spec_calculus.specs.Meaning.{Env}
use Rattle.spec_normal_form.specs.Form.{Clauses, comp, done, gen, cond, ◌⊕◌, gens, gens_c, value, loops, as_form}
use Rattle.spec_normal_form.specs.Normal.{Sem, nested, quote, idempotent, gives_way, one, condition, Splice, before, norm, walk, nowhere, normal}

pub gens-append : (w q : Clauses) → gens_c (w ⊕ q) ≡ gens_c w + gens_c q
unfolding gens ◌⊕◌
gens-append done q = omega arith
gens-append (gen g k w) q = omega (arith, gens-append w q)
gens-append (cond t w) q = omega (arith, gens-append w q)

-- the next number behind two parts
pub next-number : (n : ℕ) (w q : Clauses) → n + gens_c (w ⊕ q) ≡ (n + gens_c w) + gens_c q
next-number n w q = omega (arith, gens-append w q)

pub ⊕-assoc : (a b c : Clauses) → (a ⊕ b) ⊕ c ≡ a ⊕ (b ⊕ c)
unfolding ◌⊕◌
⊕-assoc done b c = refl
⊕-assoc (gen g k a) b c = ap (gen g k) (⊕-assoc a b c)
⊕-assoc (cond t a) b c = ap (cond t) (⊕-assoc a b c)

-- the loops of two parts are those of the second inside those of the first
pub loops-append : (F : Fold) (T : Tables) (w q : Clauses) (k : Env → List Value) (ρ : Env) → loops F T (w ⊕ q) k ρ ≡ loops F T w (λ σ. loops F T q k σ) ρ
unfolding value ◌⊕◌
loops-append F T done q k ρ = refl
loops-append F T (gen g t w) q k ρ = ap (bind_l (rows_of T t)) (fun_ext (λ v. loops-append F T w q k (upd g v ρ)))
loops-append F T (cond t w) q k ρ = ap (guard (as_bool (value F T t ρ))) (loops-append F T w q k ρ)

-- a splice with these clauses in front, and one of these clauses
abbrev pub in_front : Clauses → Splice → Splice
in_front w s = record { clauses = w ⊕ s.clauses; head = s.head }

abbrev pub splice_of : Sem → Clauses → Splice
splice_of d w = record { clauses = w; head = d }

pub before-append : (w q : Clauses) (n : ℕ) (k : ℕ → Splice) → before (w ⊕ q) n k ≡ in_front w (before q (n + gens_c w) k)
unfolding before
before-append w q n k =
    let i = (n + gens_c w) + gens_c q in
    ap (λ j. in_front (w ⊕ q) (k j)) (next-number n w q) ∙ ap (splice_of (k i).head) (⊕-assoc w q (k i).clauses)

-- a comprehension that gives way as a condition, and one that does not
pub condition-gives-way : (m : Monoid) (q : Bool → ℕ → Clauses) (h : Bool → ℕ → Sem) (b : Bool) (n : ℕ) → gives_way m b ≡ true → condition (nested m q h) b n ≡ q b n ⊕ condition (h b n) b (n + gens_c (q b n))
unfolding condition
condition-gives-way m q h b n p = rw (p, condition)

pub condition-stays : (m : Monoid) (q : Bool → ℕ → Clauses) (h : Bool → ℕ → Sem) (b : Bool) (n : ℕ) → gives_way m b ≡ false → condition (nested m q h) b n ≡ one (quote (nested m q h) n)
unfolding condition
condition-stays m q h b n p = rw (p, condition)

-- so whatever holds of both is a fact about its condition
pub condition-cases : (P : Clauses → Type 0) (m : Monoid) (q : Bool → ℕ → Clauses) (h : Bool → ℕ → Sem) (b : Bool) (n : ℕ)
    → (gives_way m b ≡ true → P (q b n ⊕ condition (h b n) b (n + gens_c (q b n)))) → (gives_way m b ≡ false → P (one (quote (nested m q h) n))) → P (condition (nested m q h) b n)
condition-cases P m q h b n f g = go (gives_way m b) refl
  where
    go : (v : Bool) → gives_way m b ≡ v → P (condition (nested m q h) b n)
    go true p = subst P (sym (condition-gives-way m q h b n p)) (f p)
    go false p = subst P (sym (condition-stays m q h b n p)) (g p)

-- the normal form of a question is what the question, as a term, comes to, written out from 0
pub normal-is-quote : (K : ℕ → Collection) (q : Question) → as_form (normal K q) ≡ quote (norm K (as_term q) nowhere) 0
unfolding normal norm quote
normal-is-quote K q =
    let w = walk K q.quals (idempotent q.monoid) (λ ε. norm K q.head ε) nowhere 0 in
    ap (λ n. comp q.monoid w.clauses (quote w.head n)) (omega arith)
