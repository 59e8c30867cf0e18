-- The binders' words are right for a question that lies in the words if each qualifier that binds a name is the one that the
-- word of its name holds: so one loop over the nodes can make them right.
use mathlib.Core.Path.{◌≡◌, sym, ap, subst, ◌∙◌}
use mathlib.Core.List.{List}
use Prim.Native.Nat.{ℕ, ◌+◌, ◌<◌, ◌≤◌}
use native.Mathlib.Omega.{arith}
use Rattle.spec_calculus.specs.Syntax.{Term, Terms, Quals, num, truth, name, field, rec, bin, negate, app, comp, table, tnil, tcons, qnil, gen, bind, cond, Question, as_term}
use Rattle.spec_encoding.specs.Reader.{Kind, unknown, number, truth_k, name_k, field_k, record', not, table_k, comprehension, generator, binding, condition, choice_k, open_k, two_terms}
use lib.ListN.{get_or}
use Rattle.base_scratch.specs.Map.{binders_at, most_nodes}
use Rattle.front_words.specs.NodeTree.{kind_at, arg_at}
use Rattle.front_words.specs.LaidTree.{nodes, nodes_l, nodes_q, Laid, LaidL, LaidQ}
use Rattle.front_words.specs.Binders.{binder_word}
use Rattle.front_nodes.specs.QuestionTree.{BindersAt, BindersAtL, BindersAtQ, BindersRight}
use Rattle.front_words.proofs.NodeWords.{binder-at}

-- what binds a name
abbrev pub Binding : Kind → Type 0
Binding number = ⊥
Binding truth_k = ⊥
Binding name_k = ⊥
Binding field_k = ⊥
Binding record' = ⊥
Binding choice_k = ⊥
Binding open_k = ⊥
Binding (two_terms o) = ⊥
Binding not = ⊥
Binding comprehension = ⊥
Binding table_k = ⊥
Binding generator = Unit {0}
Binding binding = Unit {0}
Binding condition = ⊥
Binding unknown = ⊥

-- each qualifier below n that binds a name is in the name's word
abbrev pub EachBound : List ℕ → ℕ → Type 0
EachBound s n = (y : ℕ) → y < n → Binding (kind_at s y) → (arg_at s y < most_nodes) × (get_or s (binders_at + arg_at s y) 0 ≡ y + 1)

module _ (s : List ℕ) (n : ℕ) (E : EachBound s n) where
  at-binder : (y x : ℕ) (K : Kind) → y < n → kind_at s y ≡ K → Binding K → arg_at s y ≡ x → binder_word s x ≡ y + 1
  at-binder y x K h e b q = let w = E y h (subst Binding (sym e) b) in ap (binder_word s) (sym q) ∙ sym (binder-at s (arg_at s y) w.0) ∙ w.1

  mutual
    unfolding nodes

    bound : (t : Term) (d a : ℕ) → Laid s d a t → a + nodes t ≤ n → BindersAt s a t
    bound (num z) d a L h = tt
    bound (truth b) d a L h = tt
    bound (name x) d a L h = tt
    bound (field i t) d a L h = bound t d a L.0 (omega arith)
    bound (rec ts) d a L h = bound_l ts d a L.0 (omega arith)
    bound (app f ts) d a L h = bound_l ts d a L.0 (omega arith)
    bound (bin o t u) d a L h = (bound t d a L.0 (omega arith), bound u d (a + nodes t) L.1 (omega arith))
    bound (negate t) d a L h = bound t d a L.0 (omega arith)
    bound (comp m qs t) d a L h = (bound_q qs (d + 1) a L.0 (omega arith), bound t (d + 1) (a + nodes_q qs) L.1 (omega arith))
    bound (table k) d a L h = tt

    bound_l : (ts : Terms) (d a : ℕ) → LaidL s d a ts → a + nodes_l ts ≤ n → BindersAtL s a ts
    bound_l tnil d a L h = tt
    bound_l (tcons t ts) d a L h = (bound t d a L.0 (omega arith), bound_l ts d (a + nodes t) L.1 (omega arith))

    bound_q : (qs : Quals) (d a : ℕ) → LaidQ s d a qs → a + nodes_q qs ≤ n → BindersAtQ s a qs
    bound_q qnil d a L h = tt
    bound_q (gen x t qs) d a L h =
        (bound t d a L.0 (omega arith), at-binder (a + nodes t) x generator (omega arith) L.1.kind tt L.2, bound_q qs d (a + nodes t + 1) L.3 (omega arith))
    bound_q (bind x t qs) d a L h =
        (bound t d a L.0 (omega arith), at-binder (a + nodes t) x binding (omega arith) L.1.kind tt L.2, bound_q qs d (a + nodes t + 1) L.3 (omega arith))
    bound_q (cond t qs) d a L h = (bound t d a L.0 (omega arith), bound_q qs d (a + nodes t + 1) L.2 (omega arith))

pub each-bound : (s : List ℕ) (q : Question) → Laid s 0 0 (as_term q) → EachBound s (nodes (as_term q)) → BindersRight s q
each-bound s q L E = bound s (nodes (as_term q)) E (as_term q) 0 0 L (omega arith)
