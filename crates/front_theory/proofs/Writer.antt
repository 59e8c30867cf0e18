-- The writer of a normal form: one law for each way in which it writes.
use mathlib.Core.Path.{◌≡◌, refl, sym, ap, ap₂, ◌∙◌}
use mathlib.Core.Bool.{Bool, true, false, ◌||◌}
use mathlib.Core.List.{List, [], ◌∷◌, ◌++◌}
use Prim.Native.Nat.{ℕ, suc, ◌+◌}
use native.Mathlib.Omega.{arith}
use lib.IntN.{ℤ}
use Rattle.spec_calculus.specs.Syntax.{Collection, Monoid, of, Bin, plus, minus, times, equal, less, and, or, Fun}
use Rattle.spec_normal_form.specs.Form.{Form, Forms, Clauses, fcons, done, ◌⊕◌, gens, gens_f, gens_c}
use Rattle.spec_normal_form.specs.Form as Nf
use Rattle.spec_normal_form.specs.Normal.{Sem, Sems, row, fields, both, nested, plain, snil, scons, quote, quotes, idempotent, gives_way, one, condition, ranges, binary, applied}
use Rattle.spec_normal_form.proofs.WriteOut.{gens-append, next-number, ⊕-assoc, condition-gives-way, condition-stays}
use Rattle.spec_normal_form.specs.NoRule.{NotAnd}
use Rattle.spec_normal_form.proofs.FixedPoint.{quote-binary}
use Rattle.front_theory.specs.NodeTable.{Node, Nodes}
use Rattle.front_theory.specs.NodeForms.{Env, enter, At, qual_of, clauses_of, comp_of}
use Rattle.front_theory.specs.FormWords.{Word, word, wnum, wtruth, wrow, wcell, wrec, wnegate, wcond, wbin, wcomp, wgen, words, words_f, words_c, flat, flat_f, flat_c}
use Rattle.front_theory.specs.Writer.{Writer, state, puts, mark, mark_gen, tell, tell_f, tell_c, Emits, EmitsF, EmitsC, EmitsG, EmitsN, EmitsQ}
use Rattle.front_theory.proofs.FormCounts.{flat_append}
use Rattle.front_theory.specs.FormWords.{wapp}

-- What stays one condition: neither an "and" nor a comprehension that gives way.
abbrev pub OneCondition : Sem → Bool → Type 0
OneCondition (row g) v = Unit {0}
OneCondition (fields ds) v = Unit {0}
OneCondition (both a b) v = ⊥
OneCondition (nested m q h) v = gives_way m v ≡ false
OneCondition (plain f) v = Unit {0}

pub condition-whole : (d : Sem) (v : Bool) → OneCondition d v → (n : ℕ) → condition d v n ≡ one (quote d n)
unfolding condition quote
condition-whole (row g) v w n = refl
condition-whole (fields ds) v w n = refl
condition-whole (both a b) v w n = absurd w
condition-whole (nested m q h) v w n = condition-stays m q h v n w
condition-whole (plain f) v w n = refl

pub binary-whole : (o : Bin) (a b : Sem) (v : Bool) → NotAnd o → OneCondition (binary o a b) v
unfolding binary
binary-whole plus a b v w = tt
binary-whole minus a b v w = tt
binary-whole times a b v w = tt
binary-whole equal a b v w = tt
binary-whole less a b v w = tt
binary-whole and a b v w = w
binary-whole or a b v w = tt

-- What no generator can range over.
abbrev pub Never : Sem → Type 0
Never (row g) = Unit {0}
Never (fields ds) = Unit {0}
Never (both a b) = Unit {0}
Never (nested m q h) = ⊥
Never (plain f) = Unit {0}

pub ranges-never : (d : Sem) (v : Bool) (n : ℕ) → Never d → (ranges d v n).clauses ≡ one (Nf.truth false)
unfolding ranges
ranges-never (row g) v n w = refl
ranges-never (fields ds) v n w = refl
ranges-never (both a b) v n w = refl
ranges-never (nested m q h) v n w = absurd w
ranges-never (plain f) v n w = refl

-- Qualifiers one behind the other.
pub clauses-append : (N : Nodes) (A : At) (D : ℕ) (e : Env) (v : Bool) (n : ℕ) (cs ds : List ℕ)
    → clauses_of N A D e v n (cs ++ ds) ≡ clauses_of N A D e v n cs ⊕ clauses_of N A D e v (n + gens_c (clauses_of N A D e v n cs)) ds
unfolding clauses_of ◌⊕◌ gens
clauses-append N A D e v n [] ds = ap (λ a. clauses_of N A D e v a ds) (omega arith)
clauses-append N A D e v n (c ∷ cs) ds =
    let w = qual_of A D e v n (N c) in
    let q = clauses_of N A D e v (n + gens_c w) cs in
    ap (λ a. w ⊕ a) (clauses-append N A D e v (n + gens_c w) cs ds) ∙ sym (⊕-assoc w q (clauses_of N A D e v ((n + gens_c w) + gens_c q) ds))
    ∙ ap (λ a. (w ⊕ q) ⊕ clauses_of N A D e v a ds) (sym (next-number n w q))

module _ {B : Type 0} (put : Word → B → B) where
  puts-append : (k l : List Word) (o : B) → puts put (k ++ l) o ≡ puts put l (puts put k o)
  unfolding puts
  puts-append [] l o = refl
  puts-append (x ∷ k) l o = puts-append k l (put x o)

  both_told : (k l : List Word) (a b : ℕ) (s : Writer B) → state (puts put (k ++ l) s.buffer) (s.next + (a + b)) ≡ state (puts put l (puts put k s.buffer)) ((s.next + a) + b)
  both_told k l a b s = ap₂ state (puts-append k l s.buffer) (omega arith)

  no-more : (s : Writer B) → state s.buffer (s.next + 0) ≡ s
  no-more s = ap (state s.buffer) (omega arith)

  tell-bin : (o : Bin) (a b : Form) (s : Writer B) → tell put (Nf.bin o a b) s ≡ tell put b (tell put a (mark put (word (wbin o) (words a + words b)) s))
  unfolding flat puts gens
  tell-bin o a b s = both_told (flat a) (flat b) (gens a) (gens b) (mark put (word (wbin o) (words a + words b)) s)

  tell-comp : (m : Monoid) (q : Clauses) (h : Form) (s : Writer B) → tell put (Nf.comp m q h) s ≡ tell put h (tell_c put q (mark put (word (wcomp m) (words_c q + words h)) s))
  unfolding flat puts gens
  tell-comp m q h s = both_told (flat_c q) (flat h) (gens_c q) (gens h) (mark put (word (wcomp m) (words_c q + words h)) s)

  tell-cons : (t : Form) (ts : Forms) (s : Writer B) → tell_f put (fcons t ts) s ≡ tell_f put ts (tell put t s)
  unfolding flat gens
  tell-cons t ts s = both_told (flat t) (flat_f ts) (gens t) (gens_f ts) s

  tell-append : (w q : Clauses) (s : Writer B) → tell_c put (w ⊕ q) s ≡ tell_c put q (tell_c put w s)
  tell-append w q s = ap₂ (λ l n. state (puts put l s.buffer) (s.next + n)) (flat_append w q) (gens-append w q) ∙ both_told (flat_c w) (flat_c q) (gens_c w) (gens_c q) s

  pub tell-one : (t : Form) (s : Writer B) → tell_c put (one t) s ≡ tell put t (mark put (word wcond (words t)) s)
  unfolding flat puts gens
  tell-one t s = both_told (flat t) [] (gens t) 0 (mark put (word wcond (words t)) s) ∙ no-more (tell put t (mark put (word wcond (words t)) s))

  -- Clauses without words are skipped.
  pub tell_none : (w : Clauses) (s : Writer B) → words_c w ≡ 0 → tell_c put w s ≡ s
  unfolding flat puts gens words
  tell_none done s e = no-more s
  tell_none (Nf.gen g k w) s e = absurd (omega (arith, e))
  tell_none (Nf.cond t w) s e = absurd (omega (arith, e))

  -- As a term: a number, a truth, a row, a cell.
  pub emit-num : (z : ℤ) (s r : Writer B) → r ≡ mark put (word (wnum z) 0) s → Emits put (plain (λ n. Nf.num z)) s r
  unfolding quote flat puts gens
  emit-num z s r e = e ∙ sym (no-more (mark put (word (wnum z) 0) s))

  pub emit-truth : (b : Bool) (s r : Writer B) → r ≡ mark put (word (wtruth b) 0) s → Emits put (plain (λ n. Nf.truth b)) s r
  unfolding quote flat puts gens
  emit-truth b s r e = e ∙ sym (no-more (mark put (word (wtruth b) 0) s))

  pub emit-row : (g : ℕ) (s r : Writer B) → r ≡ mark put (word (wrow g) 0) s → Emits put (row g) s r
  unfolding quote flat puts gens
  emit-row g s r e = e ∙ sym (no-more (mark put (word (wrow g) 0) s))

  pub emit-cell : (i g : ℕ) (s r : Writer B) → r ≡ mark put (word (wcell i g) 0) s → Emits put (plain (λ n. Nf.cell i g)) s r
  unfolding quote flat puts gens
  emit-cell i g s r e = e ∙ sym (no-more (mark put (word (wcell i g) 0) s))

  -- a record, then its terms
  pub emit-rec : (ds : Sems) (s p r : Writer B) → p ≡ mark put (word wrec (words_f (quotes ds s.next))) s → EmitsF put ds p r → Emits put (fields ds) s r
  unfolding quote flat puts gens
  emit-rec ds s p r e f = f ∙ ap (λ x. tell_f put (quotes ds x.next) x) e

  pub emit-no-field : (s : Writer B) → EmitsF put snil s s
  unfolding quote flat puts gens
  emit-no-field s = sym (no-more s)

  pub emit-field : (d : Sem) (ds : Sems) (s q r : Writer B) → Emits put d s q → EmitsF put ds q r → EmitsF put (scons d ds) s r
  unfolding quote
  emit-field d ds s q r f g =
      let t = quote d s.next in
      g ∙ ap (λ x. tell_f put (quotes ds x.next) x) f ∙ sym (tell-cons t (quotes ds (s.next + gens t)) s)

  -- an operator, then its two terms
  pub emit-bin : (o : Bin) (a b : Sem) (s p q r : Writer B) → p ≡ mark put (word (wbin o) (words (quote a s.next) + words (quote b (s.next + gens (quote a s.next))))) s
      → Emits put a p q → Emits put b q r → Emits put (binary o a b) s r
  emit-bin o a b s p q r e f g =
      let t = quote a s.next in
      g ∙ ap (λ x. tell put (quote b x.next) x) (f ∙ ap (λ x. tell put (quote a x.next) x) e) ∙ sym (tell-bin o t (quote b (s.next + gens t)) s)
      ∙ ap (λ x. tell put x s) (sym (quote-binary o a b s.next))

  pub emit-negate : (a : Sem) (s p r : Writer B) → p ≡ mark put (word wnegate (words (quote a s.next))) s → Emits put a p r → Emits put (plain (λ n. Nf.negate (quote a n))) s r
  unfolding quote flat puts gens
  emit-negate a s p r e f = f ∙ ap (λ x. tell put (quote a x.next) x) e

  pub emit-app : (f : Fun) (ds : Sems) (s p r : Writer B) → p ≡ mark put (word (wapp f) (words_f (quotes ds s.next))) s → EmitsF put ds p r → Emits put (applied f ds) s r
  unfolding quote flat puts gens
  emit-app f ds s p r e g = g ∙ ap (λ x. tell_f put (quotes ds x.next) x) e

  -- a comprehension, then its clauses, then its head
  emit-nested : (m : Monoid) (q : Bool → ℕ → Clauses) (h : Bool → ℕ → Sem) (s p y r : Writer B)
      → p ≡ mark put (word (wcomp m) (words_c (q false s.next) + words (quote (h false s.next) (s.next + gens_c (q false s.next))))) s
      → y ≡ tell_c put (q false s.next) p → Emits put (h false s.next) y r → Emits put (nested m q h) s r
  unfolding quote
  emit-nested m q h s p y r e f g =
      let w = q false s.next in
      g ∙ ap (λ x. tell put (quote (h false s.next) x.next) x) (f ∙ ap (λ x. tell_c put w x) e) ∙ sym (tell-comp m w (quote (h false s.next) (s.next + gens_c w)) s)

  -- A comprehension's node: its copy is entered with the next number.
  pub emit-comp : (N : Nodes) (A : At) (m : Monoid) (cs : List ℕ) (k D : ℕ) (e : Env) (s p y r : Writer B)
      → p ≡ mark put (word (wcomp m) (words_c (clauses_of N A (suc D) (enter D s.next (idempotent m) e) (idempotent m) s.next cs)
      + words (quote (A k (suc D) (enter D s.next (idempotent m) e)) (s.next + gens_c (clauses_of N A (suc D) (enter D s.next (idempotent m) e) (idempotent m) s.next cs))))) s
      → EmitsQ put N A cs (suc D) (enter D s.next (idempotent m) e) (idempotent m) p y → Emits put (A k (suc D) (enter D s.next (idempotent m) e)) y r → Emits put (comp_of N A m cs k D e) s r
  emit-comp N A m cs k D e s p y r i f g =
      let x = idempotent m in
      emit-nested m (λ b n. clauses_of N A (suc D) (enter D n (b || x) e) (b || x) n cs) (λ b n. A k (suc D) (enter D n (b || x) e)) s p y r i
      (f ∙ ap (λ (a : Writer B). tell_c put (clauses_of N A (suc D) (enter D s.next x e) x a.next cs) p) i) g

  -- A table's node: its comprehension, one generator, one row.
  pub emit-table : (c : Collection) (k : ℕ) (s p y r : Writer B) → p ≡ mark put (word (wcomp (of c)) 2) s → y ≡ mark_gen put (word (wgen s.next k) 0) p → r ≡ mark put (word (wrow s.next) 0) y
      → Emits put (nested (of c) (λ b n. Nf.gen n k done) (λ b n. row n)) s r
  unfolding flat puts gens words quote
  emit-table c k s p y r i f g = emit-nested (of c) (λ b n. Nf.gen n k done) (λ b n. row n) s p y r i (f ∙ ap (state (put (word (wgen s.next k) 0) p.buffer)) (omega arith)) (emit-row s.next y r g)

  -- As a condition: "and" becomes two, "some" gives way to its qualifiers and its head, all else is one condition.
  pub emit-and : (a b : Sem) (v : Bool) (s q r : Writer B) → EmitsC put a v s q → EmitsC put b v q r → EmitsC put (both a b) v s r
  unfolding condition
  emit-and a b v s q r f g =
      let w = condition a v s.next in
      g ∙ ap (λ x. tell_c put (condition b v x.next) x) f ∙ sym (tell-append w (condition b v (s.next + gens_c w)) s)

  pub emit-some : (m : Monoid) (q : Bool → ℕ → Clauses) (h : Bool → ℕ → Sem) (v : Bool) (s y r : Writer B) → gives_way m v ≡ true → y ≡ tell_c put (q v s.next) s → EmitsC put (h v s.next) v y r
      → EmitsC put (nested m q h) v s r
  emit-some m q h v s y r e f g =
      let w = q v s.next in
      g ∙ ap (λ x. tell_c put (condition (h v s.next) v x.next) x) f ∙ sym (tell-append w (condition (h v s.next) v (s.next + gens_c w)) s)
      ∙ ap (λ a. tell_c put a s) (sym (condition-gives-way m q h v s.next e))

  -- As a generator's term: a comprehension gives way to its qualifiers, a table is its own generator, all else never runs.
  pub emit-spliced : (m : Monoid) (q : Bool → ℕ → Clauses) (h : Bool → ℕ → Sem) (v : Bool) (s r : Writer B) → r ≡ tell_c put (q v s.next) s → EmitsG put (nested m q h) v s r
  unfolding ranges
  emit-spliced m q h v s r e = e

  pub emit-over-table : (c : Collection) (k : ℕ) (v : Bool) (s r : Writer B) → r ≡ mark_gen put (word (wgen s.next k) 0) s → EmitsG put (nested (of c) (λ b n. Nf.gen n k done) (λ b n. row n)) v s r
  unfolding ranges flat puts gens
  emit-over-table c k v s r e = e ∙ ap (state (put (word (wgen s.next k) 0) s.buffer)) (omega arith)

  -- Qualifiers: none, one, and some behind others. A generator's or condition's node is EmitsG or EmitsC of its term; a
  -- binding writes nothing.
  pub emit-none : (N : Nodes) (A : At) (D : ℕ) (e : Env) (v : Bool) (s : Writer B) → EmitsQ put N A [] D e v s s
  unfolding clauses_of flat puts gens
  emit-none N A D e v s = sym (no-more s)

  pub emit-one : (N : Nodes) (A : At) (c : ℕ) (y : Node) (D : ℕ) (e : Env) (v : Bool) (s r : Writer B) → N c ≡ y → EmitsN put A y D e v s r → EmitsQ put N A (c ∷ []) D e v s r
  unfolding clauses_of
  emit-one N A c y D e v s r p f =
      let w = qual_of A D e v s.next (N c) in
      f ∙ ap (λ a. tell_c put (qual_of A D e v s.next a) s) (sym p) ∙ emit-none N A D e v (tell_c put w s) ∙ sym (tell-append w done s)

  pub emit-append : (N : Nodes) (A : At) (cs ds : List ℕ) (D : ℕ) (e : Env) (v : Bool) (s q r : Writer B) → EmitsQ put N A cs D e v s q → EmitsQ put N A ds D e v q r → EmitsQ put N A (cs ++ ds) D e v s r
  emit-append N A cs ds D e v s q r f g =
      let w = clauses_of N A D e v s.next cs in
      g ∙ ap (λ x. tell_c put (clauses_of N A D e v x.next ds) x) f ∙ sym (tell-append w (clauses_of N A D e v (s.next + gens_c w) ds) s)
      ∙ ap (λ a. tell_c put a s) (sym (clauses-append N A D e v s.next cs ds))
