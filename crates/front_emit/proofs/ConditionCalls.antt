-- A place as a generator's term and as a condition: what the calls ask, and what they come to.
use mathlib.Core.Path.{◌≡◌, refl, sym, ap₂, subst, ◌∙◌}
use mathlib.Core.Bool.{Bool, true, false}
use mathlib.Core.List.{List}
use Prim.Native.Nat.{ℕ, suc, ◌+◌, ◌^◌, ◌<◌, ◌≤◌}
use native.Mathlib.Omega.{arith}
use types.Run.{OneOf, miss}
use denote.Enum.Declared.{tag_of}
use Rattle.spec_calculus.specs.Syntax.{Bin, plus, minus, times, equal, less, and, or, some}
use Rattle.spec_normal_form.specs.Form.{Clauses, gens_c}
use Rattle.spec_normal_form.specs.Normal.{Sem, gives_way, condition, ranges, binary}
use Rattle.spec_normal_form.specs.NoRule.{NotAnd}
use lib.ListN.{length}
use Rattle.front_theory.specs.NodeForms.{Env, At, levels}
use Rattle.front_theory.specs.FormWords.{words, words_c}
use Rattle.front_theory.proofs.Writer.{OneCondition, condition-whole, binary-whole, Never, ranges-never}
use Rattle.base_syntax.specs.declared.Monoid.{Monoid}
use Rattle.base_syntax.specs.declared.Monoid.TheVariants as Mo
use Rattle.base_syntax.specs.MonoidWord.{monoid_of}
use Rattle.front_nodes.specs.NodeTable.{nodes_of, qualifiers_of}
use Rattle.base_syntax.specs.declared.BinOp.{BinOp}
use Rattle.front_resolve.specs.Resolved.{Resolved, env_of, Heads}
use Rattle.front_resolve.specs.declared.Form.{Form}
use Rattle.front_resolve.specs.declared.Form.TheVariants.{Number, Truth, Row, Cell, Record, Two, Not, Comp, Table, Operator, Bad}
use Rattle.front_resolve.specs.contracts.Form as form
use Rattle.front_resolve.proofs.Exits.{one_more, unranged}
use Rattle.front_emit.specs.declared.WriterState.{WriterState}
use Rattle.front_emit.specs.declared.Split.{Split}
use Rattle.front_emit.specs.declared.Split.TheVariants.{And, Some, One}
use Rattle.front_emit.specs.ConditionShape.{Single, SplitOfPost, IsComp}
use Rattle.front_emit.specs.WriterResult.{GeneratorPost, SinglePost, EmittedC, SourcePost, ClausePost, EmittedQ}
use Rattle.front_emit.specs.WriterResult as Wr
use Rattle.front_emit.specs.WriterStart.{collections, sem_s, place_s, flag_in, copy_env, copy_s, Copies, FormRoom, ConditionAt, ClausePre, ConditionOf, SourcePre, SinglePre, CopyOf}
use Rattle.front_emit.proofs.WriterExits.{laid_kept, laid_c, laid_q, moved_c, moved_q, room-left, table-source, both-done, yields-done, whole-done, spliced-done, never-source}
use Rattle.front_emit.proofs.TermCalls.{condition-place, source-place, condition-done, source-done, two-below, comp-below, form_s, form-is, child_s, form-at, node-inside, node-level, child-starts, again, later-starts, condition-before, room-condition, room_at, room-less}
use Rattle.front_emit.proofs.QualifierCalls.{head_s, words_append}
use Rattle.base_syntax.specs.Numbers.{bin_of}

-- ---- as a generator's term
binary-never : (o : Bin) (a b : Sem) → Never (binary o a b)
unfolding binary
binary-never plus a b = tt
binary-never minus a b = tt
binary-never times a b = tt
binary-never equal a b = tt
binary-never less a b = tt
binary-never and a b = tt
binary-never or a b = tt

form-never : (s : List ℕ) (h : Resolved) (f : Form) → OneOf unranged (tag_of form.the_type f) → Never (form_s s h f)
form-never s h (Number z) w = tt
form-never s h (Truth b) w = tt
form-never s h (Row g) w = tt
form-never s h (Cell k g) w = tt
form-never s h Record w = tt
form-never s h (Two o a b) w = binary-never (bin_of o) (child_s s h a) (child_s s h b)
form-never s h (Not c) w = tt
form-never s h (Comp m k) w = absurd (miss unranged 7 tt w)
form-never s h (Table k) w = absurd (miss unranged 8 tt w)
form-never s h (Operator f) w = tt
form-never s h Bad w = tt

module _ (v : Bool) {s : List ℕ} {h : Resolved} {st : WriterState} (S : SourcePre s h v st) where
  source-room : {f : Form} → h.form ≡ f → FormRoom st (words_c (ranges (form_s s h f) v st.next).clauses)
  source-room e = subst (λ d. FormRoom st (words_c (ranges d v st.next).clauses)) (form-is s h e) S.starts.room

  pub source-comp : {m : Monoid} {k : ℕ} → h.form ≡ Comp m k → CopyOf s h m v st × IsComp m h.form
  unfolding ranges
  source-comp {k = k} e = (again S (source-room e), record { head = k; is = e })

  pub source-table : {k : ℕ} → h.form ≡ Table k → FormRoom st 1 × (k < 2 ^ 33)
  unfolding ranges words
  source-table e = (source-room e, (form-at S e).1)

  pub source-never : OneOf unranged (tag_of form.the_type h.form) → FormRoom st 2
  unfolding words
  source-never w = subst (λ (c : Clauses). FormRoom st (words_c c)) (ranges-never (place_s s h) v st.next (form-never s h h.form w)) S.starts.room

module _ (v : Bool) {s : List ℕ} (h : Resolved) {st : WriterState} {s' : List ℕ} {r : WriterState} where
  pub spliced-written : {m : Monoid} {k : ℕ} → h.form ≡ Comp m k → EmittedQ (nodes_of s) (sem_s s) (qualifiers_of s h.node) (suc h.depth) (copy_env h m v st.next) (flag_in v m) s st s' r → SourcePost (place_s s h) v s st s' r
  spliced-written {m} {k} e E =
      subst (λ d. SourcePost d v s st s' r) (sym (form-is s h e)) (spliced-done (nodes_of s) (sem_s s) (monoid_of m) (qualifiers_of s h.node) k h.depth (env_of h.env) v E)

  pub table-written : {k : ℕ} → h.form ≡ Table k → GeneratorPost k s st s' r → SourcePost (place_s s h) v s st s' r
  table-written {k} e G = subst (λ d. SourcePost d v s st s' r) (sym (form-is s h e)) (table-source (collections s k) k v G)

  pub never-written : OneOf unranged (tag_of form.the_type h.form) → Wr.NeverPost s st s' r → SourcePost (place_s s h) v s st s' r
  never-written w E = never-source v (form-never s h h.form w) E

-- ---- as a condition
not-and : (o : BinOp) → (o ≡ BinOp.And → ⊥) → NotAnd (bin_of o)
not-and BinOp.Plus h = tt
not-and BinOp.Minus h = tt
not-and BinOp.Times h = tt
not-and BinOp.Equal h = tt
not-and BinOp.Less h = tt
not-and BinOp.And h = h refl
not-and BinOp.Or h = tt

single-whole : (s : List ℕ) (h : Resolved) (v : Bool) (f : Form) → Single f v → OneCondition (form_s s h f) v
unfolding gives_way
single-whole s h v (Number z) w = tt
single-whole s h v (Truth b) w = tt
single-whole s h v (Row g) w = tt
single-whole s h v (Cell k g) w = tt
single-whole s h v Record w = tt
single-whole s h v (Two o a b) w = binary-whole (bin_of o) (child_s s h a) (child_s s h b) v (not-and o w)
single-whole s h v (Not c) w = tt
single-whole s h v (Comp m k) w = w
single-whole s h v (Table k) w = refl
single-whole s h v (Operator f) w = tt
single-whole s h v Bad w = tt

module _ (v : Bool) {s : List ℕ} {h : Resolved} {st : WriterState} (S : ConditionOf s h v st) where
  pub single-starts : Single h.form v → SinglePre s h st
  single-starts w = again S (subst (λ (c : Clauses). FormRoom st (words_c c)) (condition-whole (place_s s h) v (single-whole s h v h.form w) st.next) S.starts.room)

  pub single-written : {s' : List ℕ} {r : WriterState} → Single h.form v → SinglePost (place_s s h) s st s' r → EmittedC (place_s s h) v s st s' r
  single-written w E = whole-done (single-whole s h v h.form w) E

  -- an "and"
  module _ {a b : ℕ} (e : h.form ≡ Two BinOp.And a b) where
    both-room : FormRoom st (words_c (condition (child_s s h a) v st.next) + words_c (condition (child_s s h b) v (st.next + gens_c (condition (child_s s h a) v st.next))))
    unfolding binary condition
    both-room =
        let w = condition (child_s s h a) v st.next in
        let R = subst (λ d. FormRoom st (words_c (condition d v st.next))) (form-is s h e) S.starts.room in
        room-less R (omega (arith, words_append w (condition (child_s s h b) v (st.next + gens_c w))))

    pub both_first : ConditionAt s a h.depth h.env v st
    both_first = let y = form-at S e in child-starts S (node-inside S y).0 (node-level S y).0 (room-less both-room (omega arith))

    module _ {s₁ : List ℕ} {q : WriterState} (E : EmittedC (child_s s h a) v s st s₁ q) where
      pub both-second : ConditionAt s₁ b h.depth h.env v q
      both-second =
          let y = form-at S e in
          let M = moved_c E in
          let K = laid_kept (laid_c E) in
          later-starts S K (node-inside S y).1 (node-level S y).1
          (room-condition K b h.depth (env_of h.env) v q (room_at (λ i. words_c (condition (child_s s h b) v i)) M.next (room-left _ M both-room)))

      pub both-written : {s₂ : List ℕ} {r : WriterState} → EmittedC (sem_s s₁ b h.depth (env_of h.env)) v s₁ q s₂ r → EmittedC (place_s s h) v s st s₂ r
      unfolding binary
      both-written {s₂} {r} F =
          subst (λ d. EmittedC d v s st s₂ r) (sym (form-is s h e)) (both-done E (condition-before (laid_kept (laid_c E)) b h.depth (env_of h.env) F))

-- a "some" that gives way
module _ {s : List ℕ} {h : Resolved} {st : WriterState} {k : ℕ} (S : ConditionOf s h true st) (e : h.form ≡ Comp Mo.Some k) where
  some-room : FormRoom st (words_c (copy_s s h Mo.Some true st.next) + words_c (condition (head_s s h Mo.Some k true st.next) true (st.next + gens_c (copy_s s h Mo.Some true st.next))))
  unfolding condition gives_way
  some-room =
      let w = copy_s s h Mo.Some true st.next in
      let R = subst (λ d. FormRoom st (words_c (condition d true st.next))) (form-is s h e) S.starts.room in
      room-less R (omega (arith, words_append w (condition (head_s s h Mo.Some k true st.next) true (st.next + gens_c w))))

  pub some_first : CopyOf s h Mo.Some true st × IsComp Mo.Some h.form
  some_first = (again S (room-less some-room (omega arith)), record { head = k; is = e })

  module _ {s₁ : List ℕ} {q : WriterState} (E : EmittedQ (nodes_of s) (sem_s s) (qualifiers_of s h.node) (suc h.depth) (copy_env h Mo.Some true st.next) (flag_in true Mo.Some) s st s₁ q)
      {l : List ℕ} (i : Copies h Mo.Some true st.next l) where
    head-is : (A : At) → A k (h.depth + 1) (env_of l) ≡ A k (suc h.depth) (copy_env h Mo.Some true st.next)
    head-is A = ap₂ (λ (D : ℕ) (a : Env). A k D a) (one_more h.depth) i.is

    pub some-second : ConditionAt s₁ k (h.depth + 1) l true q
    some-second =
        let y = (form-at S e).0 in
        let M = moved_q E in
        let K = laid_kept (laid_q E) in
        later-starts S K (node-inside S y).1 ((node-level S y).1 ∙ sym (one_more h.depth))
        (room-condition K k (h.depth + 1) (env_of l) true q (subst (λ d. FormRoom q (words_c (condition d true q.next))) (sym (head-is (sem_s s)))
        (room_at (λ b. words_c (condition (head_s s h Mo.Some k true st.next) true b)) M.next (room-left _ M some-room))))

    pub some_written : {s₂ : List ℕ} {r : WriterState} → EmittedC (sem_s s₁ k (h.depth + 1) (env_of l)) true s₁ q s₂ r → EmittedC (place_s s h) true s st s₂ r
    unfolding gives_way
    some_written {s₂} {r} F =
        subst (λ d. EmittedC d true s st s₂ r) (sym (form-is s h e))
        (yields-done (nodes_of s) (sem_s s) some (qualifiers_of s h.node) k h.depth (env_of h.env) true refl E
        (subst (λ d. EmittedC d true s₁ q s₂ r) (head-is (sem_s s)) (condition-before (laid_kept (laid_q E)) k (h.depth + 1) (env_of l) F)))

-- ---- casts of what calls answer
pub split-cast : {f : Form} {v : Bool} {r r' : Split} → SplitOfPost f v r → r ≡ r' → SplitOfPost f v r'
split-cast {f} {v} S e = subst (SplitOfPost f v) e S

pub yields-starts : (v : Bool) {s : List ℕ} {h : Resolved} {st : WriterState} → v ≡ true → ConditionOf s h v st → ConditionOf s h true st
yields-starts v {s} {h} {st} e S = subst (λ (x : Bool). ConditionOf s h x st) e S

pub yields-cast : {v : Bool} {d : Sem} {s s' : List ℕ} {st r : WriterState} → v ≡ true → EmittedC d true s st s' r → EmittedC d v s st s' r
yields-cast {d = d} {s} {s'} {st} {r} e E = subst (λ (x : Bool). EmittedC d x s st s' r) (sym e) E

-- ---- what is left of a clause: node j at depth d in the environment e
pub record ClauseLeft (g v : Bool) (s₀ : List ℕ) (i D : ℕ) (l : List ℕ) (st : WriterState) (s : List ℕ) (j d : ℕ) (e : List ℕ) (q : WriterState) : Type 0 where
  pub below : j ≤ i
  pub long : length e ≡ levels
  pub starts : ClausePre g s j d e v q
  pub rest : (s' : List ℕ) (r : WriterState) → ClausePost g (sem_s s j d (env_of e)) v s q s' r → ClausePost g (sem_s s₀ i D (env_of l)) v s₀ st s' r

module _ {g v : Bool} {s₀ : List ℕ} {i D : ℕ} {l : List ℕ} {st : WriterState} where
  pub left-first : length l ≡ levels → ClausePre g s₀ i D l v st → ClauseLeft g v s₀ i D l st s₀ i D l st
  left-first z S = record { below = omega arith; long = z; starts = S; rest = λ s' r E. E }

  module _ {s : List ℕ} {j d : ℕ} {e : List ℕ} {q : WriterState} (L : ClauseLeft g v s₀ i D l st s j d e q) {h : Resolved} (H : Heads s j d e h) where
    pub left-source : g ≡ true → SourcePre s h v q
    left-source p = source-place H v (subst (λ (x : Bool). ClausePre x s j d e v q) p L.starts)

    pub left-sourced : {s' : List ℕ} {r : WriterState} → g ≡ true → SourcePost (place_s s h) v s q s' r → ClausePost g (sem_s s₀ i D (env_of l)) v s₀ st s' r
    left-sourced {s'} {r} p E = L.rest s' r (subst (λ (x : Bool). ClausePost x (sem_s s j d (env_of e)) v s q s' r) (sym p) (source-done H E))

    module _ (p : g ≡ false) where
      pub left-condition : ConditionOf s h v q
      left-condition = condition-place H v (subst (λ (x : Bool). ClausePre x s j d e v q) p L.starts)

      left-done : {s' : List ℕ} {r : WriterState} → EmittedC (place_s s h) v s q s' r → ClausePost g (sem_s s₀ i D (env_of l)) v s₀ st s' r
      left-done {s'} {r} E = L.rest s' r (subst (λ (x : Bool). ClausePost x (sem_s s j d (env_of e)) v s q s' r) (sym p) (condition-done H E))

      pub left_one : {s' : List ℕ} {r : WriterState} → SplitOfPost h.form v One → SinglePost (place_s s h) s q s' r → ClausePost g (sem_s s₀ i D (env_of l)) v s₀ st s' r
      left_one w E = left-done (single-written v left-condition w.is E)

      -- the rest of it is node k
      left-on : {s₁ : List ℕ} {k b : ℕ} {m : List ℕ} {x : WriterState} → k < h.node → length m ≡ levels → ConditionAt s₁ k b m v x
          → ((s' : List ℕ) (r : WriterState) → EmittedC (sem_s s₁ k b (env_of m)) v s₁ x s' r → EmittedC (place_s s h) v s q s' r) → ClauseLeft g v s₀ i D l st s₁ k b m x
      left-on {s₁} {k} {b} {m} {x} c z S f =
          record {
            below = omega (arith, L.below, H.from.below, c);
            long = z;
            starts = subst (λ (y : Bool). ClausePre y s₁ k b m v x) (sym p) S;
            rest = λ s' r F. left-done (f s' r (subst (λ (y : Bool). ClausePost y (sem_s s₁ k b (env_of m)) v s₁ x s' r) p F));
          }

      pub left_and : {a b : ℕ} {s₁ : List ℕ} {x : WriterState} → SplitOfPost h.form v (And a b) → EmittedC (child_s s h a) v s q s₁ x → ClauseLeft g v s₀ i D l st s₁ b h.depth h.env x
      left_and w E = left-on (two-below left-condition w.is).1 H.from.fine.long (both-second v left-condition w.is E) (λ s' r F. both-written v left-condition w.is E F)

      pub left-some : {k : ℕ} {m : List ℕ} {s₁ : List ℕ} {x : WriterState} → SplitOfPost h.form v (Some k)
          → EmittedQ (nodes_of s) (sem_s s) (qualifiers_of s h.node) (suc h.depth) (copy_env h Mo.Some true q.next) (flag_in true Mo.Some) s q s₁ x × Copies h Mo.Some true q.next m
          → ClauseLeft g v s₀ i D l st s₁ k (h.depth + 1) m x
      left-some {k} {m} {s₁} {x} w E =
          let S = yields-starts v w.is.1 left-condition in
          left-on (comp-below left-condition w.is.0).0 E.1.long (subst (λ (y : Bool). ConditionAt s₁ k (h.depth + 1) m y x) (sym w.is.1) (some-second S w.is.0 E.0 E.1))
          (λ s' r F. yields-cast w.is.1 (some_written S w.is.0 E.0 E.1 (subst (λ (y : Bool). EmittedC (sem_s s₁ k (h.depth + 1) (env_of m)) y s₁ x s' r) w.is.1 F)))
