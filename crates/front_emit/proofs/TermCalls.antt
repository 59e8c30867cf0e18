-- What each call asks, from what the caller was given.
use mathlib.Core.Path.{◌≡◌, refl, sym, ap, ap₂, subst, subst₂, ◌∙◌}
use mathlib.Core.Bool.{Bool}
use mathlib.Core.List.{List, [], ◌∷◌}
use Prim.Native.Nat.{ℕ, zero, suc, ◌+◌, ◌^◌, ◌<◌, ◌≤◌}
use native.Mathlib.Omega.{arith}
use lib.ListN.{drop}
use Rattle.spec_calculus.specs.Syntax.{Bin}
use Rattle.spec_normal_form.specs.Form.{gens}
use Rattle.spec_normal_form.specs.Form as Nf
use Rattle.spec_normal_form.specs.Normal.{Sem, Sems, scons, quote, quotes, condition, ranges, binary}
use Rattle.front_theory.specs.NodeTable.{Node, Inside}
use Rattle.front_theory.specs.NodeForms.{Env, At, sems_of, levels}
use Rattle.front_theory.specs.FormWords.{words, words_f, words_c}
use Rattle.spec_normal_form.proofs.FixedPoint.{quote-binary}
use Rattle.base_syntax.specs.declared.Monoid.{Monoid}
use Rattle.base_scratch.specs.Map.{form_words, most_nodes}
use Rattle.front_nodes.specs.NodeTable.{depth_at, children_of, nodes_of}
use Rattle.front_nodes.specs.Look.{nth, ChildPost}
use Rattle.front_nodes.specs.Levels.{AllAt, Level}
use Rattle.base_syntax.specs.declared.Fun.{Fun}
use Rattle.base_syntax.specs.declared.Fun.TheVariants.{Choice, Open}
use Rattle.base_syntax.specs.declared.BinOp.{BinOp}
use Rattle.std.specs.declared.option.Option.TheVariants as Opt
use Rattle.front_nodes.proofs.PostOrder.{post-order}
use Rattle.front_resolve.specs.Resolved.{Resolved, env_of, form_sem, FormAt, Heads}
use Rattle.front_resolve.specs.declared.Form.{Form}
use Rattle.front_resolve.specs.declared.Form.TheVariants.{Record, Two, Not, Comp, Operator}
use Rattle.front_emit.specs.declared.WriterState.{WriterState}
use Rattle.front_emit.specs.WriterResult.{behind, ClosePost, Emitted, FieldsPost, EmittedC, SourcePost}
use Rattle.front_emit.specs.WriterStart.{collections, sem_s, place_s, fields_s, FormRoom, Starts, StartsAt, EmitPre, ConditionAt, SourceAt, TermOf, Headed, a_record, an_operator, Termed, FieldsPre, ConditionOf, SourcePre, SinglePre}
use Rattle.front_emit.proofs.QuestionKept.{QuestionKept, depth-kept, children-kept, fine-kept, sem-kept, ready-kept}
use Rattle.front_emit.proofs.WriterExits.{Moved, laid_kept, laid, moved, room-left, room-behind, closes-arg, rec-done, app-done, negate-done, binary-done, fields-none, fields-more}
use Rattle.base_syntax.specs.Numbers.{bin_of, op_arg, fun_arg, fun_of}

-- ---- a node's place
place_is : {s : List ℕ} {i D : ℕ} {l : List ℕ} {h : Resolved} → Heads s i D l h → place_s s h ≡ sem_s s i D (env_of l)
place_is {s} H = H.is (collections s)

module _ {s : List ℕ} {i D : ℕ} {l : List ℕ} {h : Resolved} {st : WriterState} (H : Heads s i D l h) where
  place-starts : (F : Sem → ℕ) → Starts s i D st (F (sem_s s i D (env_of l))) → StartsAt s h st (F (place_s s h))
  place-starts F S =
      record {
        starts =
            record {
              nodes = S.nodes;
              ready = S.ready;
              inside = omega (arith, H.from.below, S.inside);
              depth = H.from.level S.nodes S.ready.levelled S.inside S.depth;
              room = subst (λ d. FormRoom st (F d)) (sym (place_is H)) S.room;
            };
        fine = H.from.fine;
      }

  pub term-place : EmitPre s i D l st → TermOf s h st
  term-place S = place-starts (λ d. words (quote d st.next)) S

  pub condition-place : (v : Bool) → ConditionAt s i D l v st → ConditionOf s h v st
  condition-place v S = place-starts (λ d. words_c (condition d v st.next)) S

  pub source-place : (v : Bool) → SourceAt s i D l v st → SourcePre s h v st
  source-place v S = place-starts (λ d. words_c (ranges d v st.next).clauses) S

  pub term-done : {s' : List ℕ} {r : WriterState} → Emitted (place_s s h) s st s' r → Emitted (sem_s s i D (env_of l)) s st s' r
  term-done {s'} {r} E = subst (λ d. Emitted d s st s' r) (place_is H) E

  pub condition-done : {v : Bool} {s' : List ℕ} {r : WriterState} → EmittedC (place_s s h) v s st s' r → EmittedC (sem_s s i D (env_of l)) v s st s' r
  condition-done {v} {s'} {r} E = subst (λ d. EmittedC d v s st s' r) (place_is H) E

  pub source-done : {v : Bool} {s' : List ℕ} {r : WriterState} → SourcePost (place_s s h) v s st s' r → SourcePost (sem_s s i D (env_of l)) v s st s' r
  source-done {v} {s'} {r} E = subst (λ d. SourcePost d v s st s' r) (place_is H) E

-- ---- the node of a place
abbrev pub form_s : List ℕ → Resolved → Form → Sem
form_s s h f = form_sem (collections s) s h.node h.depth (env_of h.env) f

-- a node below it
abbrev pub child_s : List ℕ → Resolved → ℕ → Sem
child_s s h c = sem_s s c h.depth (env_of h.env)

pub form-is : (s : List ℕ) (h : Resolved) {f : Form} → h.form ≡ f → place_s s h ≡ form_s s h f
form-is s h e = ap (form_s s h) e

module _ {s : List ℕ} {h : Resolved} {st : WriterState} {k : ℕ} (S : StartsAt s h st k) where
  pub form-at : {f : Form} → h.form ≡ f → FormAt s h.node h.depth f
  form-at e = subst (FormAt s h.node h.depth) e S.fine.form

  pub node-inside : {y : Node} → nodes_of s h.node ≡ y → Inside h.node y
  node-inside e = subst (Inside h.node) e (post-order s h.node)

  pub node-level : {y : Node} → nodes_of s h.node ≡ y → Level (depth_at s) h.depth y
  node-level {y} e =
      subst (λ d. Level (depth_at s) d y) S.starts.depth (subst (Level (depth_at s) (depth_at s h.node)) e (S.starts.ready.levelled h.node S.starts.inside))

  in_table : h.node < most_nodes
  in_table = omega (arith, S.starts.inside, S.starts.ready.few)

  -- a node below it
  pub child-starts : {c D n : ℕ} {q : WriterState} → c < h.node → depth_at s c ≡ D → FormRoom q n → Starts s c D q n
  child-starts p e R = record { nodes = S.starts.nodes; ready = S.starts.ready; inside = omega (arith, S.starts.inside, p); depth = e; room = R }

  -- the place itself
  pub again : {n : ℕ} {q : WriterState} → FormRoom q n → StartsAt s h q n
  again R = record { starts = record { nodes = S.starts.nodes; ready = S.starts.ready; inside = S.starts.inside; depth = S.starts.depth; room = R }; fine = S.fine }

-- the same behind words that were written
module _ {s s' : List ℕ} {h : Resolved} {st : WriterState} {k : ℕ} (S : StartsAt s h st k) (H : QuestionKept s s') where
  pub later-starts : {c D n : ℕ} {q : WriterState} → c < h.node → depth_at s c ≡ D → FormRoom q n → Starts s' c D q n
  later-starts {c} p e R =
      let i : c < S.starts.nodes = omega (arith, S.starts.inside, p) in
      record { nodes = S.starts.nodes; ready = ready-kept H S.starts.ready; inside = i; depth = depth-kept H c (omega (arith, i, S.starts.ready.few)) ∙ e; room = R }

  pub place-later : {n : ℕ} {q : WriterState} → FormRoom q n → StartsAt s' h q n
  place-later R =
      let i = in_table S in
      record {
        starts = record { nodes = S.starts.nodes; ready = ready-kept H S.starts.ready; inside = S.starts.inside; depth = depth-kept H h.node i ∙ S.starts.depth; room = R };
        fine = fine-kept H i S.fine;
      }

-- what a node comes to is the same behind words that were written
module _ {s s' : List ℕ} (H : QuestionKept s s') where
  pub term-before : (c D : ℕ) (e : Env) {st r : WriterState} {o : List ℕ} → Emitted (sem_s s' c D e) s' st o r → Emitted (sem_s s c D e) s' st o r
  term-before c D e {st} {r} {o} E = subst (λ (A : At). Emitted (A c D e) s' st o r) (sem-kept H) E

  pub condition-before : (c D : ℕ) (e : Env) {v : Bool} {st r : WriterState} {o : List ℕ} → EmittedC (sem_s s' c D e) v s' st o r → EmittedC (sem_s s c D e) v s' st o r
  condition-before c D e {v} {st} {r} {o} E = subst (λ (A : At). EmittedC (A c D e) v s' st o r) (sem-kept H) E

  pub room-term : (c D : ℕ) (e : Env) (q : WriterState) → FormRoom q (words (quote (sem_s s c D e) q.next)) → FormRoom q (words (quote (sem_s s' c D e) q.next))
  room-term c D e q R = subst (λ (A : At). FormRoom q (words (quote (A c D e) q.next))) (sym (sem-kept H)) R

  pub room-condition : (c D : ℕ) (e : Env) (v : Bool) (q : WriterState) → FormRoom q (words_c (condition (sem_s s c D e) v q.next)) → FormRoom q (words_c (condition (sem_s s' c D e) v q.next))
  room-condition c D e v q R = subst (λ (A : At). FormRoom q (words_c (condition (A c D e) v q.next))) (sym (sem-kept H)) R

-- the next number is where the words before ended
pub room_at : {q : WriterState} {n : ℕ} (F : ℕ → ℕ) → q.next ≡ n → FormRoom q (F n) → FormRoom q (F q.next)
room_at {q} F e R = subst (λ a. FormRoom q (F a)) (sym e) R

pub room-less : {q : WriterState} {m k : ℕ} → FormRoom q m → k ≤ m → FormRoom q k
room-less R l = let v = R.room in record { numbered = R.numbered; room = omega arith }

-- ---- where a word may be closed
pub ends : {st q r : WriterState} {k g : ℕ} → q ≡ behind st → FormRoom q k → Moved q r k g → (st.place < r.place) × (r.place ≤ form_words)
ends e R M =
    let p = ap (λ (a : WriterState). a.place) e in
    let u = M.place in
    let v = R.room in
    (omega arith, omega arith)

pub ends-later : {st q x r : WriterState} {j f k g : ℕ} → q ≡ behind st → Moved q x j f → FormRoom x k → Moved x r k g → (st.place < r.place) × (r.place ≤ form_words)
ends-later e L R M =
    let p = ap (λ (a : WriterState). a.place) e in
    let u = M.place in
    let w = L.place in
    let v = R.room in
    (omega arith, omega arith)

-- ---- an operator
words-binary : (o : Bin) (a b : Sem) (n : ℕ) → words (quote (binary o a b) n) ≡ suc (words (quote a n) + words (quote b (n + gens (quote a n))))
unfolding words
words-binary o a b n = ap words (quote-binary o a b n)

module _ {s : List ℕ} {h : Resolved} {st : WriterState} {o : BinOp} {a b : ℕ} (S : TermOf s h st) (e : h.form ≡ Two o a b) where
  two-room : FormRoom st (suc (words (quote (child_s s h a) st.next) + words (quote (child_s s h b) (st.next + gens (quote (child_s s h a) st.next)))))
  two-room = subst (FormRoom st) (ap (λ d. words (quote d st.next)) (form-is s h e) ∙ words-binary (bin_of o) (child_s s h a) (child_s s h b) st.next) S.starts.room

  pub two-first : {q : WriterState} → q ≡ behind st → EmitPre s a h.depth h.env q
  two-first {q} p =
      let y = form-at S e in
      let n : q.next ≡ st.next = ap (λ (x : WriterState). x.next) p in
      child-starts S (node-inside S y).0 (node-level S y).0 (room_at (λ i. words (quote (child_s s h a) i)) n (room-less (room-behind _ p two-room) (omega arith)))

  pub two-second : {s₁ : List ℕ} {q x : WriterState} → q ≡ behind st → Emitted (child_s s h a) s q s₁ x → EmitPre s₁ b h.depth h.env x
  two-second {s₁} {q} {x} p E =
      let y = form-at S e in
      let n : q.next ≡ st.next = ap (λ (z : WriterState). z.next) p in
      let M = moved E in
      let K = laid_kept (laid E) in
      later-starts S K (node-inside S y).1 (node-level S y).1
      (room-term K b h.depth (env_of h.env) x (room_at (λ i. words (quote (child_s s h b) i)) M.next
      (room-left _ M (subst (λ i. FormRoom q (words (quote (child_s s h a) i) + words (quote (child_s s h b) (i + gens (quote (child_s s h a) i))))) (sym n) (room-behind _ p two-room)))))

  pub two-done : {s₁ s₂ s₃ : List ℕ} {q x y : WriterState} {w : ℕ} → q ≡ behind st → Emitted (child_s s h a) s q s₁ x → Emitted (sem_s s₁ b h.depth (env_of h.env)) s₁ x s₂ y → w ≡ op_arg (bin_of o)
      → ClosePost 6 w st.place y.place s₂ s₃ → Emitted (place_s s h) s st s₃ y
  two-done {s₃ = s₃} {y = y} p E F u C =
      subst (λ d. Emitted d s st s₃ y) (sym (form-is s h e)) (binary-done p (bin_of o) E (term-before (laid_kept (laid E)) b h.depth (env_of h.env) F) (closes-arg u C))

-- ---- "not"
module _ {s : List ℕ} {h : Resolved} {st : WriterState} {c : ℕ} (S : TermOf s h st) (e : h.form ≡ Not c) where
  pub not_first : {q : WriterState} → q ≡ behind st → EmitPre s c h.depth h.env q
  unfolding quote words
  not_first {q} p =
      let y = form-at S e in
      let n : q.next ≡ st.next = ap (λ (x : WriterState). x.next) p in
      let R = subst (λ d. FormRoom st (words (quote d st.next))) (form-is s h e) S.starts.room in
      child-starts S (node-inside S y) (node-level S y) (room_at (λ i. words (quote (child_s s h c) i)) n (room-behind _ p R))

  pub not_done : {s₁ s₂ : List ℕ} {q r : WriterState} → q ≡ behind st → Emitted (child_s s h c) s q s₁ r → ClosePost 7 0 st.place r.place s₁ s₂ → Emitted (place_s s h) s st s₂ r
  not_done {s₂ = s₂} {r = r} p E C = subst (λ d. Emitted d s st s₂ r) (sym (form-is s h e)) (negate-done p E C)

-- ---- a record or an operator
pub headed-record : {f : Form} → f ≡ Record → Headed f 5 0
headed-record e = subst (λ f. Headed f 5 0) (sym e) a_record

pub headed-operator : {f : Form} {o : Fun} {a : ℕ} → f ≡ Operator o → a ≡ fun_arg (fun_of o) → Headed f 11 a
headed-operator {o = o} e p = subst₂ (λ f a. Headed f 11 a) (sym e) (sym p) (an_operator o)

arg-small : (o : Fun) → fun_arg (fun_of o) < 2 ^ 50
arg-small Choice = omega arith
arg-small (Open n) = omega arith

pub headed-small : {f : Form} {k a : ℕ} → Headed f k a → (k < 16) × (a < 2 ^ 50)
headed-small a_record = omega arith
headed-small (an_operator o) = (omega arith, arg-small o)

terms-level : {s : List ℕ} {h : Resolved} {st : WriterState} {n : ℕ} → StartsAt s h st n → {f : Form} {k a : ℕ} → Headed f k a → h.form ≡ f → AllAt (depth_at s) h.depth (children_of s h.node)
terms-level S a_record e = node-level S (form-at S e)
terms-level S (an_operator o) e = node-level S (form-at S e)

module _ {s : List ℕ} {h : Resolved} {st : WriterState} (S : TermOf s h st) where
  terms-room : {f : Form} {k a : ℕ} → Headed f k a → h.form ≡ f → FormRoom st (suc (words_f (quotes (fields_s s h 0) st.next)))
  unfolding quote words
  terms-room a_record e = subst (λ d. FormRoom st (words (quote d st.next))) (form-is s h e) S.starts.room
  terms-room (an_operator o) e = subst (λ d. FormRoom st (words (quote d st.next))) (form-is s h e) S.starts.room

  pub record-first : {k a : ℕ} → Headed h.form k a → {q : WriterState} → q ≡ behind st → FieldsPre s h 0 q
  record-first H {q} p =
      let n : q.next ≡ st.next = ap (λ (x : WriterState). x.next) p in
      again S (room_at (λ i. words_f (quotes (fields_s s h 0) i)) n (room-behind _ p (terms-room H refl)))

  terms-done : {f : Form} {k a : ℕ} → Headed f k a → {s₁ s₂ : List ℕ} {q r : WriterState} → q ≡ behind st → FieldsPost (fields_s s h 0) s q s₁ r → ClosePost k a st.place r.place s₁ s₂ → Emitted (form_s s h f) s st s₂ r
  terms-done a_record p E C = rec-done p E C
  terms-done (an_operator o) p E C = app-done p (fun_of o) E C

  pub record-done : {k a : ℕ} → Headed h.form k a → {s₁ s₂ : List ℕ} {q r : WriterState} → q ≡ behind st → FieldsPost (fields_s s h 0) s q s₁ r → ClosePost k a st.place r.place s₁ s₂ → Emitted (place_s s h) s st s₂ r
  record-done H p E C = terms-done H p E C

-- the terms from k on: none, or one and those behind it
no-term : (k : ℕ) (cs : List ℕ) → nth k cs ≡ Opt.None → drop k cs ≡ []
unfolding nth
no-term zero [] e = refl
no-term (suc k) [] e = refl
no-term zero (c ∷ cs) e = let z : ◌≡◌ {A = ℕ} 0 1 = cc in absurd (omega arith)
no-term (suc k) (c ∷ cs) e = no-term k cs e

some-term : (k c : ℕ) (cs : List ℕ) → nth k cs ≡ Opt.Some c → drop k cs ≡ c ∷ drop (suc k) cs
unfolding nth
some-term k c [] e = let z : ◌≡◌ {A = ℕ} 0 1 = cc in absurd (omega arith)
some-term zero c (d ∷ cs) e = let z : d ≡ c = cc in ap (λ x. x ∷ cs) z
some-term (suc k) c (d ∷ cs) e = some-term k c cs e

term-level : (dep : ℕ → ℕ) (D k c : ℕ) (cs : List ℕ) → AllAt dep D cs → nth k cs ≡ Opt.Some c → dep c ≡ D
unfolding nth AllAt
term-level dep D k c [] a e = let z : ◌≡◌ {A = ℕ} 0 1 = cc in absurd (omega arith)
term-level dep D zero c (d ∷ cs) a e = let z : c ≡ d = cc in ap dep z ∙ a.0
term-level dep D (suc k) c (d ∷ cs) a e = term-level dep D k c cs a.1 e

-- every form has a word
pub some_word : (t : Nf.Form) → 0 < words t
unfolding words
some_word (Nf.num z) = omega arith
some_word (Nf.truth b) = omega arith
some_word (Nf.row g) = omega arith
some_word (Nf.cell k g) = omega arith
some_word (Nf.rec ts) = omega arith
some_word (Nf.app f ts) = omega arith
some_word (Nf.bin o t u) = omega arith
some_word (Nf.negate t) = omega arith
some_word (Nf.comp m q u) = omega arith

abbrev rest_s : List ℕ → Resolved → List ℕ → Sems
rest_s s h cs = sems_of (sem_s s) cs h.depth (env_of h.env)

pub no_fields : {s : List ℕ} {h : Resolved} {st : WriterState} {k n : ℕ} → StartsAt s h st n → ChildPost s h.node k Opt.None → FieldsPost (fields_s s h k) s st s st
unfolding sems_of
no_fields {s} {h} {st} {k} S P = subst (λ (l : List ℕ). FieldsPost (rest_s s h l) s st s st) (sym (no-term k (children_of s h.node) (sym P.is))) fields-none

module _ {s : List ℕ} {h : Resolved} {st : WriterState} {k c : ℕ} (S : FieldsPre s h k st) (T : Termed h.form) (P : ChildPost s h.node k (Opt.Some c)) where
  these : fields_s s h k ≡ scons (child_s s h c) (rest_s s h (drop (suc k) (children_of s h.node)))
  unfolding sems_of
  these = ap (rest_s s h) (some-term k c (children_of s h.node) (sym P.is))

  fields-room : FormRoom st (words (quote (child_s s h c) st.next) + words_f (quotes (rest_s s h (drop (suc k) (children_of s h.node))) (st.next + gens (quote (child_s s h c) st.next))))
  unfolding quote words
  fields-room = subst (λ ds. FormRoom st (words_f (quotes ds st.next))) these S.starts.room

  pub field-first : EmitPre s c h.depth h.env st
  field-first = child-starts S P.before (term-level (depth_at s) h.depth k c (children_of s h.node) (terms-level S T.2 refl) (sym P.is)) (room-less fields-room (omega arith))

  module _ {s₁ : List ℕ} {q : WriterState} (E : Emitted (child_s s h c) s st s₁ q) where
    next-fields : fields_s s₁ h (k + 1) ≡ rest_s s h (drop (suc k) (children_of s h.node))
    next-fields =
        let K = laid_kept (laid E) in
        let z : k + 1 ≡ suc k = omega arith in
        ap₂ (λ (A : At) (l : List ℕ). sems_of A l h.depth (env_of h.env)) (sem-kept K) (ap (drop (k + 1)) (children-kept K h.node (in_table S)) ∙ ap (λ i. drop i (children_of s h.node)) z)

    pub field_next : k ≤ st.place → FieldsPre s₁ h (k + 1) q × (k + 1 ≤ q.place)
    field_next l =
        let M = moved E in
        let u = M.place in (
          place-later S (laid_kept (laid E)) (subst (λ ds. FormRoom q (words_f (quotes ds q.next))) (sym next-fields)
              (room_at (λ i. words_f (quotes (rest_s s h (drop (suc k) (children_of s h.node))) i)) M.next (room-left _ M fields-room))),
          omega (arith, some_word (quote (child_s s h c) st.next)),
        )

    pub field-done : {s₂ : List ℕ} {r : WriterState} → FieldsPost (fields_s s₁ h (k + 1)) s₁ q s₂ r → FieldsPost (fields_s s h k) s st s₂ r
    field-done {s₂} {r} F = subst (λ ds. FieldsPost ds s st s₂ r) (sym these) (fields-more E (subst (λ ds. FieldsPost ds s₁ q s₂ r) next-fields F))

-- the terms from k on are left
pub record FieldsLeft (s₀ : List ℕ) (h : Resolved) (st : WriterState) (s : List ℕ) (k : ℕ) (q : WriterState) : Type 0 where
  pub starts : FieldsPre s h k q
  pub few : k ≤ q.place
  pub rest : (s' : List ℕ) (r : WriterState) → FieldsPost (fields_s s h k) s q s' r → FieldsPost (fields_s s₀ h 0) s₀ st s' r

pub left-all : {s : List ℕ} {h : Resolved} {st : WriterState} → FieldsPre s h 0 st → FieldsLeft s h st s 0 st
left-all S = record { starts = S; few = omega arith; rest = λ s' r E. E }

module _ {s₀ : List ℕ} {h : Resolved} {st : WriterState} {s : List ℕ} {k : ℕ} {q : WriterState} (L : FieldsLeft s₀ h st s k q) where
  pub left-none : ChildPost s h.node k Opt.None → FieldsPost (fields_s s₀ h 0) s₀ st s q
  left-none P = L.rest s q (no_fields L.starts P)

  pub left_less : {c : ℕ} {s₁ : List ℕ} {x : WriterState} → Termed h.form → ChildPost s h.node k (Opt.Some c) → Emitted (child_s s h c) s q s₁ x → FieldsLeft s₀ h st s₁ (k + 1) x
  left_less T P E =
      let n = field_next L.starts T P E L.few in
      record { starts = n.0; few = n.1; rest = λ s' r F. L.rest s' r (field-done L.starts T P E F) }

-- ---- the first place, and nodes below a node
pub has-place : {s : List ℕ} {h : Resolved} {st : WriterState} → TermOf s h st → st.place < form_words
has-place {s} {h} {st} S = let v = S.starts.room.room in omega (arith, some_word (quote (place_s s h) st.next))

module _ {s : List ℕ} {h : Resolved} {st : WriterState} {n : ℕ} (S : StartsAt s h st n) where
  pub two-below : {o : BinOp} {a b : ℕ} → h.form ≡ Two o a b → (a < h.node) × (b < h.node)
  two-below e = node-inside S (form-at S e)

  pub not-below : {c : ℕ} → h.form ≡ Not c → c < h.node
  not-below e = node-inside S (form-at S e)

  pub comp-below : {m : Monoid} {k : ℕ} → h.form ≡ Comp m k → (k < h.node) × (h.depth < levels)
  comp-below e = let y = form-at S e in ((node-inside S y.0).1, y.1)

-- ---- as one condition
module _ {s : List ℕ} {h : Resolved} {st : WriterState} (S : SinglePre s h st) where
  pub one-has-place : st.place < form_words
  unfolding words
  one-has-place = let v = S.starts.room.room in omega arith

  pub one-first : {q : WriterState} → q ≡ behind st → TermOf s h q
  unfolding words
  one-first {q} p =
      let n : q.next ≡ st.next = ap (λ (x : WriterState). x.next) p in
      again S (room_at (λ i. words (quote (place_s s h) i)) n (room-less (room-behind _ p S.starts.room) (omega arith)))
