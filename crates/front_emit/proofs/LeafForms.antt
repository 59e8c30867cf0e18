-- Forms with no nodes below them.
use mathlib.Core.Path.{◌≡◌, refl, sym, ap, subst, ◌∙◌}
use mathlib.Core.Bool.{Bool, true, false}
use mathlib.Core.List.{List, [], ◌∷◌}
use Prim.Native.Nat.{ℕ, ◌+◌, ◌-◌, ◌*◌, ◌^◌, ◌<◌, ◌≤◌}
use native.Mathlib.Omega.{arith}
use types.Run.{OneOf, miss}
use denote.Enum.Declared.{tag_of}
use lib.Dec.{ltb}
use borrow.Author.Tests.{ltb-true, ltb-false}
use lib.IntN.{ℤ, pos, negsuc}
use Rattle.spec_calculus.specs.Lists.{pick}
use Rattle.spec_normal_form.specs.Normal.{nothing, quote}
use Rattle.spec_encoding.specs.Reader as Re
use Rattle.front_theory.specs.NodeTable.{Node, nnum, ntruth, nname, nfield, nrec, nbin, nnegate, napp, ncomp, ntable, ngen, nbind, ncond, nbad}
use Rattle.front_theory.specs.CappedOffsets.{limit}
use Rattle.front_theory.specs.FormWords.{words}
use Rattle.base_scratch.specs.Map.{form_words, most_nodes}
use Rattle.form_words.specs.FormWords.{number_arg}
use Rattle.front_words.specs.NodeWord.{arg_of, node_word}
use Rattle.front_words.specs.NodeTree.{kind_at, arg_at}
use Rattle.base_syntax.specs.Numbers.{constant_of, fun_of, fun_arg}
use Rattle.base_syntax.specs.declared.Fun.{Fun}
use Rattle.front_nodes.specs.NodeTable.{above, name_by, node_by, nodes_of}
use Rattle.front_nodes.proofs.PostOrder.{by-pick}
use Rattle.front_resolve.specs.Resolved.{Resolved, FormAt}
use Rattle.front_resolve.specs.declared.Form.{Form}
use Rattle.front_resolve.specs.declared.Form.TheVariants.{Number, Truth, Row, Cell, Record, Two, Not, Comp, Table, Operator, Bad}
use Rattle.front_resolve.specs.contracts.Form as form
use Rattle.front_emit.specs.declared.WriterState.{WriterState}
use Rattle.std.proofs.Common.{Option, Some, None}
use Rattle.front_emit.specs.WriterResult.{LeafPost, Emitted}
use Rattle.front_emit.specs.WriterStart.{place_s, table_s, simple_s, FormRoom, TermOf, SimplePre, Headed, a_record, an_operator, Termed, HeadingIs, HeadingOfPost}
use Rattle.front_emit.proofs.WriterExits.{leaf-num, leaf-truth, leaf-row, leaf-cell, leaf-arg}
use Rattle.front_emit.proofs.TermCalls.{form_s, some_word, headed-record, headed-operator}

-- ---- a number's argument is that of its node
number-kept : (a : ℕ) → a ≡ number_arg (constant_of a)
number-kept a = go (ltb a 0x80000000) refl
  where
    go : (b : Bool) → ltb a 0x80000000 ≡ b → a ≡ number_arg (elim b [ true ↦ negsuc (0x7fffffff - a) | false ↦ pos (a - 0x80000000) ])
    go true t = omega (arith, ltb-true a 0x80000000 t)
    go false t = omega (arith, ltb-false a 0x80000000 t)

-- what a node with argument a says of it
abbrev Says : ℕ → Node → Type 0
Says a (nnum z) = a ≡ number_arg z
Says a (ntruth b) = Unit {0}
Says a (nname x d) = Unit {0}
Says a (nfield k c) = Unit {0}
Says a (nrec cs) = Unit {0}
Says a (napp f cs) = Unit {0}
Says a (nbin o b c) = Unit {0}
Says a (nnegate c) = Unit {0}
Says a (ncomp m cs k) = Unit {0}
Says a (ntable k) = Unit {0}
Says a (ngen c) = Unit {0}
Says a (nbind c) = Unit {0}
Says a (ncond c) = Unit {0}
Says a nbad = Unit {0}

says-above : (a i : ℕ) (y : Node) → Says a y → Says a (above i y)
unfolding above
says-above a i y h = by-pick (Says a) (ltb 0 i) y nbad (λ t. h) (λ t. tt)

says-name : (a : ℕ) (s : List ℕ) (i w : ℕ) → Says a (name_by s i w)
unfolding name_by
says-name a s i w = by-pick (Says a) _ _ nbad (λ t. by-pick (Says a) _ _ nbad (λ u. by-pick (Says a) _ _ nbad (λ x. tt) (λ x. tt)) (λ u. tt)) (λ t. tt)

says-kind : (s : List ℕ) (i : ℕ) (K : Re.Kind) → Says (arg_at s i) (node_by s i K)
says-kind s i Re.number = number-kept (arg_at s i)
says-kind s i Re.truth_k = tt
says-kind s i Re.name_k = says-name (arg_at s i) s i _
says-kind s i Re.field_k = says-above (arg_at s i) i _ tt
says-kind s i Re.record' = tt
says-kind s i Re.choice_k = tt
says-kind s i Re.open_k = tt
says-kind s i (Re.two_terms o) = says-above (arg_at s i) i _ tt
says-kind s i Re.not = says-above (arg_at s i) i _ tt
says-kind s i Re.comprehension = says-above (arg_at s i) i _ tt
says-kind s i Re.table_k = tt
says-kind s i Re.generator = says-above (arg_at s i) i _ tt
says-kind s i Re.binding = says-above (arg_at s i) i _ tt
says-kind s i Re.condition = says-above (arg_at s i) i _ tt
says-kind s i Re.unknown = tt

pub number-arg : (s : List ℕ) (i : ℕ) (z : ℤ) → nodes_of s i ≡ nnum z → arg_at s i ≡ number_arg z
unfolding nodes_of
number-arg s i z e = subst (Says (arg_at s i)) e (by-pick (Says (arg_at s i)) (ltb i most_nodes) (node_by s i (kind_at s i)) nbad (λ t. says-kind s i (kind_at s i)) (λ t. tt))

-- ---- which forms have terms
-- all but a record and an operator
abbrev pub termless : List ℕ
termless = 0 ∷ 1 ∷ 2 ∷ 3 ∷ 5 ∷ 6 ∷ 7 ∷ 8 ∷ 10 ∷ []

untermed : {f : Form} {k a : ℕ} → OneOf termless (tag_of form.the_type f) → Headed f k a → ⊥
untermed w a_record = miss termless 4 tt w
untermed w (an_operator o) = miss termless 9 tt w

module _ {f : Form} where
  pub terms-record : f ≡ Record → HeadingOfPost f (Some (5, 0))
  terms-record e = record { is = headed-record e }

  pub terms-operator : {o : Fun} {a : ℕ} → f ≡ Operator o → a ≡ fun_arg (fun_of o) → HeadingOfPost f (Some (11, a))
  terms-operator e p = record { is = headed-operator e p }

  pub no-terms : OneOf termless (tag_of form.the_type f) → HeadingOfPost f None
  no-terms w = record { is = λ h. untermed w h.2 }

  module _ {r : Option (ℕ × ℕ)} (H : HeadingOfPost f r) where
    pub heading-terms : {k a : ℕ} → r ≡ Some (k, a) → Headed f k a
    heading-terms e = subst (HeadingIs f) e H.is

    pub heading-other : r ≡ None → Termed f → ⊥
    heading-other e = subst (HeadingIs f) e H.is

-- ---- forms with no nodes below them
-- all but an operator of two terms, a "not" and a comprehension
abbrev pub leaves : List ℕ
leaves = 0 ∷ 1 ∷ 2 ∷ 3 ∷ 4 ∷ 8 ∷ 9 ∷ 10 ∷ []

leaf-form : (s : List ℕ) (h : Resolved) (f : Form) → (Termed f → ⊥) → OneOf leaves (tag_of form.the_type f) → form_s s h f ≡ simple_s s f
leaf-form s h (Number z) u w = refl
leaf-form s h (Truth b) u w = refl
leaf-form s h (Row g) u w = refl
leaf-form s h (Cell k g) u w = refl
leaf-form s h Record u w = absurd (u (5, 0, a_record))
leaf-form s h (Two o a b) u w = absurd (miss leaves 5 tt w)
leaf-form s h (Not c) u w = absurd (miss leaves 6 tt w)
leaf-form s h (Comp m k) u w = absurd (miss leaves 7 tt w)
leaf-form s h (Table k) u w = refl
leaf-form s h (Operator f) u w = absurd (u (11, fun_arg (fun_of f), an_operator f))
leaf-form s h Bad u w = refl

module _ {s : List ℕ} (h : Resolved) {st : WriterState} (u : Termed h.form → ⊥) (w : OneOf leaves (tag_of form.the_type h.form)) where
  pub simple-starts : TermOf s h st → SimplePre s h.form h.node st
  simple-starts S = record { depth = h.depth; form = S.fine.form; room = subst (λ d. FormRoom st (words (quote d st.next))) (leaf-form s h h.form u w) S.starts.room }

  pub simple-written : {s' : List ℕ} {r : WriterState} → Emitted (simple_s s h.form) s st s' r → Emitted (place_s s h) s st s' r
  simple-written {s'} {r} E = subst (λ d. Emitted d s st s' r) (sym (leaf-form s h h.form u w)) E

-- what none of number, truth, row, cell and table comes to
abbrev pub others : List ℕ
others = 4 ∷ 5 ∷ 6 ∷ 7 ∷ 9 ∷ 10 ∷ []

other-form : (s : List ℕ) (f : Form) → OneOf others (tag_of form.the_type f) → nothing ≡ simple_s s f
other-form s (Number z) w = absurd (miss others 0 tt w)
other-form s (Truth b) w = absurd (miss others 1 tt w)
other-form s (Row g) w = absurd (miss others 2 tt w)
other-form s (Cell k g) w = absurd (miss others 3 tt w)
other-form s Record w = refl
other-form s (Two o a b) w = refl
other-form s (Not c) w = refl
other-form s (Comp m k) w = refl
other-form s (Table k) w = absurd (miss others 8 tt w)
other-form s (Operator f) w = refl
other-form s Bad w = refl

module _ {s : List ℕ} {f : Form} {i : ℕ} {st : WriterState} (S : SimplePre s f i st) where
  pub one_place : st.place < form_words
  one_place = let v = S.room.room in omega (arith, some_word (quote (simple_s s f) st.next))

  form_of : {g : Form} → f ≡ g → FormAt s i S.depth g
  form_of e = subst (FormAt s i S.depth) e S.form

  pub cell-small : {k g : ℕ} → f ≡ Cell k g → (k < 2 ^ 33) × (g ≤ limit)
  cell-small e = form_of e

  pub row_small : {g : ℕ} → f ≡ Row g → g ≤ limit
  row_small e = form_of e

  pub table-starts : {k : ℕ} → f ≡ Table k → FormRoom st 3 × (k < 2 ^ 33)
  unfolding quote words
  table-starts e = (subst (λ (g : Form). FormRoom st (words (quote (simple_s s g) st.next))) e S.room, (form_of e).1)

  module _ {s' : List ℕ} {r : WriterState} where
    simply : {g : Form} → f ≡ g → Emitted (simple_s s g) s st s' r → Emitted (simple_s s f) s st s' r
    simply e E = subst (λ (g : Form). Emitted (simple_s s g) s st s' r) (sym e) E

    pub simple-number : {z : ℤ} {w a : ℕ} → f ≡ Number z → w ≡ node_word s i → a ≡ arg_of w → LeafPost 1 a s st s' r → Emitted (simple_s s f) s st s' r
    simple-number {z} e p q L = simply e (leaf-num z (leaf-arg (q ∙ ap arg_of p ∙ number-arg s i z (form_of e).0) L))

    pub simple-truth : {b : Bool} {a : ℕ} → f ≡ Truth b → a ≡ pick b 1 0 → LeafPost 2 a s st s' r → Emitted (simple_s s f) s st s' r
    simple-truth {b} e q L = simply e (leaf-truth b (leaf-arg q L))

    pub simple-row : {g : ℕ} → f ≡ Row g → LeafPost 3 g s st s' r → Emitted (simple_s s f) s st s' r
    simple-row {g} e L = simply e (leaf-row g L)

    pub simple-cell : {k g : ℕ} → f ≡ Cell k g → LeafPost 4 (1024 * k + g) s st s' r → Emitted (simple_s s f) s st s' r
    simple-cell {k} {g} e L = simply e (leaf-cell k g L)

    pub simple-table : {k : ℕ} → f ≡ Table k → Emitted (table_s s k) s st s' r → Emitted (simple_s s f) s st s' r
    simple-table e E = simply e E

    pub simple-rest : OneOf others (tag_of form.the_type f) → LeafPost 1 2147483648 s st s' r → Emitted (simple_s s f) s st s' r
    simple-rest w L = subst (λ d. Emitted d s st s' r) (other-form s f w) (leaf-num (pos 0) L)
