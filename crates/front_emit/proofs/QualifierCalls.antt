-- What the calls for qualifiers and conditions ask, and what they come to.
use mathlib.Core.Path.{◌≡◌, refl, sym, ap, ap₂, subst, ◌∙◌}
use mathlib.Core.Bool.{Bool, false}
use mathlib.Core.List.{List, [], ◌∷◌, ◌++◌}
use Prim.Native.Nat.{ℕ, suc, ◌+◌, ◌-◌, ◌<◌, ◌≤◌}
use native.Mathlib.Omega.{arith}
use types.Run.{OneOf, miss}
use denote.Enum.Declared.{tag_of}
use Rattle.spec_normal_form.specs.Form.{Clauses, gens_c, ◌⊕◌}
use Rattle.spec_normal_form.specs.Form as Nf
use Rattle.spec_normal_form.specs.Normal.{Sem, quote}
use Rattle.spec_normal_form.specs.Size.{nodes_c}
use Rattle.front_theory.specs.NodeTable.{Node, Nodes}
use Rattle.front_theory.specs.NodeForms.{Env, At, qual_of, clauses_of, levels}
use Rattle.front_theory.specs.CappedOffsets.{limit}
use Rattle.front_theory.specs.FormWords.{words, words_c}
use Rattle.front_theory.specs.Writer.{tell_c}
use Rattle.front_theory.proofs.FormCounts.{Counts, counts-append}
use Rattle.front_theory.proofs.Writer.{clauses-append}
use Rattle.base_syntax.specs.declared.Monoid.{Monoid}
use Rattle.base_syntax.specs.MonoidWord.{monoid_of}
use Rattle.front_words.specs.NodeTree.{start_at}
use Rattle.front_sizes.specs.declared.FormSize.{FormSize}
use Rattle.front_sizes.specs.SizeWords.{condition_count}
use Rattle.front_nodes.specs.NodeTable.{depth_at, chain, qualifiers_of, nodes_of}
use Rattle.front_nodes.specs.Look.{node_named, LookPost}
use Rattle.front_nodes.specs.Levels.{AllAt, Level}
use Rattle.front_nodes.specs.declared.QueryNode.TheVariants as Nd
use Rattle.front_nodes.specs.declared.QueryNode as Dn
use Rattle.front_nodes.proofs.ReaderExits.{looked-inside}
use Rattle.front_nodes.proofs.QualifierChain.{chain-none, chain_more}
use Rattle.front_nodes.specs.contracts.QueryNode as node
use Rattle.front_resolve.specs.Resolved.{Resolved, env_of}
use Rattle.front_resolve.specs.declared.Form.TheVariants.{Comp}
use Rattle.front_resolve.proofs.Exits.{one_more}
use Rattle.front_emit.specs.declared.WriterState.{WriterState}
use Rattle.front_emit.specs.ConditionShape.{IsComp}
use Rattle.front_emit.specs.WriterResult.{put, state_of, behind, ClosePost, Emitted, QualifierPost, EmittedQ}
use Rattle.front_emit.specs.WriterStart.{sem_s, place_s, flag_in, copy_env, copy_s, Copies, FormRoom, StartsAt, EmitPre, ConditionAt, SourceAt, QualifierPre, QualifiersPre, TermOf, CopyOf}
use Rattle.front_emit.proofs.QuestionKept.{nodes-kept, depth-kept, sem-kept, ready-kept}
use Rattle.front_emit.proofs.WriterExits.{laid_kept, laid_q, moved_q, room-left, room-behind, closes-arg, comp-done, qual-none, quals-none, quals-more}
use Rattle.front_emit.proofs.TermCalls.{form-is, form-at, node-inside, node-level, again, later-starts, term-before, room-term, room_at, room-less}
use Rattle.base_syntax.specs.Numbers.{monoid_arg}

pub words_append : (w q : Clauses) → words_c (w ⊕ q) ≡ words_c w + words_c q
words_append w q = ap (λ (a : Counts). a.long) (counts-append w q)

-- ---- a copy of a comprehension
-- its head
abbrev pub head_s : List ℕ → Resolved → Monoid → ℕ → Bool → ℕ → Sem
head_s s h m k v n = sem_s s k (suc h.depth) (copy_env h m v n)

pub copy-ok : {s : List ℕ} {h : Resolved} {st : WriterState} {m : Monoid} {n : ℕ} → StartsAt s h st n → IsComp m h.form → (h.depth < levels) × (st.next ≤ limit)
copy-ok S C =
    let u = S.starts.room.numbered in
    let w = S.starts.room.room in
    ((form-at S C.is).1, omega arith)

module _ (s : List ℕ) (st : WriterState) {h : Resolved} {m : Monoid} {v : Bool} {l : List ℕ} {lo j e : ℕ} {w : Bool} (p : Copies h m v st.next l) (a : lo ≡ start_at s h.node) (b : j ≡ h.node - 1)
    (c : e ≡ start_at s j) (f : w ≡ flag_in v m) where
  copy-chain : chain s lo e ≡ qualifiers_of s h.node
  copy-chain = ap₂ (λ (x y : ℕ). chain s x y) a (c ∙ ap (start_at s) b)

  copy_clauses : clauses_of (nodes_of s) (sem_s s) (h.depth + 1) (env_of l) w st.next (chain s lo e) ≡ copy_s s h m v st.next
  copy_clauses =
      ap₂ (λ (D : ℕ) (cs : List ℕ). clauses_of (nodes_of s) (sem_s s) D (env_of l) w st.next cs) (one_more h.depth) copy-chain
      ∙ ap₂ (λ (x : Env) (y : Bool). clauses_of (nodes_of s) (sem_s s) (suc h.depth) x y st.next (qualifiers_of s h.node)) p.is f

  pub copy-starts : CopyOf s h m v st → IsComp m h.form → QualifiersPre s lo e (h.depth + 1) l w st
  copy-starts S C =
      record {
        nodes = S.starts.nodes;
        ready = S.starts.ready;
        inside = omega (arith, c, b, S.starts.inside);
        depth = subst (λ (D : ℕ). AllAt (depth_at s) D (chain s lo e)) (sym (one_more h.depth)) (subst (AllAt (depth_at s) (suc h.depth)) (sym copy-chain) (node-level S (form-at S C.is).0).0);
        room = subst (λ (x : Clauses). FormRoom st (words_c x)) (sym copy_clauses) S.starts.room;
      }

  pub copy_done : {s' : List ℕ} {r : WriterState} → EmittedQ (nodes_of s) (sem_s s) (chain s lo e) (h.depth + 1) (env_of l) w s st s' r
      → EmittedQ (nodes_of s) (sem_s s) (qualifiers_of s h.node) (suc h.depth) (copy_env h m v st.next) (flag_in v m) s st s' r
  copy_done E = record { is = E.is ∙ ap (λ (x : Clauses). tell_c put x (state_of s st)) copy_clauses }

-- ---- a comprehension as a term
module _ {s : List ℕ} {h : Resolved} {st : WriterState} {m : Monoid} {k : ℕ} (S : TermOf s h st) (e : h.form ≡ Comp m k) where
  comp-room : FormRoom st (suc (words_c (copy_s s h m false st.next) + words (quote (head_s s h m k false st.next) (st.next + gens_c (copy_s s h m false st.next)))))
  unfolding quote words
  comp-room = subst (λ d. FormRoom st (words (quote d st.next))) (form-is s h e) S.starts.room

  pub comp-first : {q : WriterState} → q ≡ behind st → CopyOf s h m false q × IsComp m h.form
  comp-first {q} p =
      let n : q.next ≡ st.next = ap (λ (x : WriterState). x.next) p in
      (again S (room_at (λ i. words_c (copy_s s h m false i)) n (room-less (room-behind _ p comp-room) (omega arith))), record { head = k; is = e })

  module _ {s₁ : List ℕ} {q x : WriterState} (p : q ≡ behind st) (E : EmittedQ (nodes_of s) (sem_s s) (qualifiers_of s h.node) (suc h.depth) (copy_env h m false q.next) (flag_in false m) s q s₁ x)
      {l : List ℕ} (i : Copies h m false q.next l) where
    head-is : (A : At) → A k (h.depth + 1) (env_of l) ≡ A k (suc h.depth) (copy_env h m false st.next)
    head-is A = ap₂ (λ (D : ℕ) (a : Env). A k D a) (one_more h.depth) (i.is ∙ ap (λ (y : WriterState). copy_env h m false y.next) p)

    pub comp-second : EmitPre s₁ k (h.depth + 1) l x
    comp-second =
        let y = (form-at S e).0 in
        let n : q.next ≡ st.next = ap (λ (z : WriterState). z.next) p in
        let M = moved_q E in
        let K = laid_kept (laid_q E) in
        let F : ℕ → ℕ → ℕ = λ a b. words (quote (head_s s h m k false a) b) in
        later-starts S K (node-inside S y).1 ((node-level S y).1 ∙ sym (one_more h.depth))
        (room-term K k (h.depth + 1) (env_of l) x (subst (λ d. FormRoom x (words (quote d x.next))) (sym (head-is (sem_s s)))
        (room_at (λ b. F st.next b) M.next (subst (λ a. FormRoom x (F a (q.next + gens_c (copy_s s h m false q.next)))) n
        (room-left _ M (subst (λ a. FormRoom q (words_c (copy_s s h m false a) + F a (a + gens_c (copy_s s h m false a)))) (sym n) (room-behind _ p comp-room)))))))

    pub comp-written : {s₂ s₃ : List ℕ} {y : WriterState} {w : ℕ} → Emitted (sem_s s₁ k (h.depth + 1) (env_of l)) s₁ x s₂ y → w ≡ monoid_arg (monoid_of m) → ClosePost 8 w st.place y.place s₂ s₃ → Emitted (place_s s h) s st s₃ y
    comp-written {s₂} {s₃} {y} F u C =
        subst (λ d. Emitted d s st s₃ y) (sym (form-is s h e))
        (comp-done p (nodes_of s) (sem_s s) (monoid_of m) (qualifiers_of s h.node) k h.depth (env_of h.env) E
        (subst (λ d. Emitted d s₁ x s₂ y) (head-is (sem_s s)) (term-before (laid_kept (laid_q E)) k (h.depth + 1) (env_of l) F)) (closes-arg u C))

-- ---- the qualifiers between lo and e
all_first : (dep : ℕ → ℕ) (D : ℕ) (cs ds : List ℕ) → AllAt dep D (cs ++ ds) → AllAt dep D cs
unfolding AllAt
all_first dep D [] ds a = tt
all_first dep D (c ∷ cs) ds a = (a.0, all_first dep D cs ds a.1)

all-last : (dep : ℕ → ℕ) (D x : ℕ) (cs : List ℕ) → AllAt dep D (cs ++ (x ∷ [])) → dep x ≡ D
unfolding AllAt
all-last dep D x [] a = a.0
all-last dep D x (c ∷ cs) a = all-last dep D x cs a.1

module _ (l : List ℕ) (v : Bool) {s : List ℕ} {lo e D : ℕ} {st : WriterState} (S : QualifiersPre s lo e D l v st) where
  pub quals-end : e ≤ lo → EmittedQ (nodes_of s) (sem_s s) (chain s lo e) D (env_of l) v s st s st
  quals-end p = quals-none (chain-none s lo e p)

  module _ {x b : ℕ} (p : lo < e) (i : x ≡ e - 1) (j : b ≡ start_at s x) where
    chain-is : chain s lo e ≡ chain s lo b ++ (x ∷ [])
    chain-is = chain_more s lo e p ∙ sym (ap (λ (y : ℕ). chain s lo y ++ (x ∷ [])) j ∙ ap (λ (y : ℕ). chain s lo (start_at s y) ++ (y ∷ [])) i)

    quals-room : FormRoom st (words_c (clauses_of (nodes_of s) (sem_s s) D (env_of l) v st.next (chain s lo b))
        + words_c (qual_of (sem_s s) D (env_of l) v (st.next + gens_c (clauses_of (nodes_of s) (sem_s s) D (env_of l) v st.next (chain s lo b))) (nodes_of s x)))
    unfolding clauses_of words
    quals-room =
        let N = nodes_of s in
        let A = sem_s s in
        let n = st.next in
        let g = clauses_of N A D (env_of l) v n (chain s lo b) in
        let w = qual_of A D (env_of l) v (n + gens_c g) (N x) in
        let R : FormRoom st (words_c (g ⊕ (w ⊕ Nf.done))) =
        subst (λ (c : Clauses). FormRoom st (words_c c)) (ap (clauses_of N A D (env_of l) v n) chain-is ∙ clauses-append N A D (env_of l) v n (chain s lo b) (x ∷ [])) S.room in
        room-less R (omega (arith, words_append g (w ⊕ Nf.done), words_append w Nf.done))

    pub quals-first : QualifiersPre s lo b D l v st
    quals-first =
        record {
          nodes = S.nodes;
          ready = S.ready;
          inside = omega (arith, i, j, S.inside);
          depth = all_first (depth_at s) D (chain s lo b) (x ∷ []) (subst (AllAt (depth_at s) D) chain-is S.depth);
          room = room-less quals-room (omega arith);
        }

    module _ {s₁ : List ℕ} {q : WriterState} (E : EmittedQ (nodes_of s) (sem_s s) (chain s lo b) D (env_of l) v s st s₁ q) where
      pub quals-second : QualifierPre s₁ x D l v q
      quals-second =
          let K = laid_kept (laid_q E) in
          let M = moved_q E in
          let h : x < S.nodes = omega (arith, i, p, S.inside) in
          record {
            nodes = S.nodes;
            ready = ready-kept K S.ready;
            inside = h;
            depth = depth-kept K x (omega (arith, h, S.ready.few)) ∙ all-last (depth_at s) D x (chain s lo b) (subst (AllAt (depth_at s) D) chain-is S.depth);
            room = subst (λ (N : Nodes). FormRoom q (words_c (qual_of (sem_s s₁) D (env_of l) v q.next (N x)))) (sym (nodes-kept K))
                (subst (λ (A : At). FormRoom q (words_c (qual_of A D (env_of l) v q.next (nodes_of s x)))) (sym (sem-kept K))
                (room_at (λ a. words_c (qual_of (sem_s s) D (env_of l) v a (nodes_of s x))) M.next (room-left _ M quals-room)));
          }

      pub quals-written : {s₂ : List ℕ} {r : WriterState} → QualifierPost (sem_s s₁) (nodes_of s₁ x) D (env_of l) v s₁ q s₂ r → EmittedQ (nodes_of s) (sem_s s) (chain s lo e) D (env_of l) v s st s₂ r
      quals-written {s₂} {r} F =
          let K = laid_kept (laid_q E) in
          quals-more chain-is E
          (subst (λ (N : Nodes). QualifierPost (sem_s s) (N x) D (env_of l) v s₁ q s₂ r) (nodes-kept K) (subst (λ (A : At). QualifierPost A (nodes_of s₁ x) D (env_of l) v s₁ q s₂ r) (sem-kept K) F))

-- ---- one qualifier
-- the nodes that write nothing: neither generator nor condition
abbrev pub silent : List ℕ
silent = 0 ∷ 1 ∷ 2 ∷ 3 ∷ 4 ∷ 5 ∷ 6 ∷ 7 ∷ 8 ∷ 10 ∷ 12 ∷ 13 ∷ []

silent-node : (s : List ℕ) (x : ℕ) (A : At) (D : ℕ) (e : Env) (v : Bool) (n : ℕ) (y : Dn.QueryNode) → OneOf silent (tag_of node.the_type y) → nodes_c (qual_of A D e v n (node_named s x y)) ≡ 0
unfolding nodes_c
silent-node s x A D e v n (Nd.Number z) h = refl
silent-node s x A D e v n (Nd.Truth b) h = refl
silent-node s x A D e v n (Nd.Name y d) h = refl
silent-node s x A D e v n (Nd.Field k c) h = refl
silent-node s x A D e v n Nd.Record h = refl
silent-node s x A D e v n (Nd.Two o a b) h = refl
silent-node s x A D e v n (Nd.Not c) h = refl
silent-node s x A D e v n (Nd.Comp m c) h = refl
silent-node s x A D e v n (Nd.Table k) h = refl
silent-node s x A D e v n (Nd.Gen c) h = absurd (miss silent 9 tt h)
silent-node s x A D e v n (Nd.Bind c) h = refl
silent-node s x A D e v n (Nd.Cond c) h = absurd (miss silent 11 tt h)
silent-node s x A D e v n (Nd.Operator f) h = refl
silent-node s x A D e v n Nd.Bad h = refl

module _ (l : List ℕ) (v : Bool) {s : List ℕ} {x D : ℕ} {st : WriterState} (S : QualifierPre s x D l v st) where
  -- its stored size is 0
  pub qual-skipped : {n : FormSize} → n ≡ condition_count s x v → n.size ≡ 0 → QualifierPost (sem_s s) (nodes_of s x) D (env_of l) v s st s st
  qual-skipped i z =
      qual-none (subst (λ (d : ℕ). nodes_c (qual_of (sem_s s) d (env_of l) v st.next (nodes_of s x)) ≡ 0) S.depth
      (S.ready.measured x S.inside v (sym (ap (λ (c : FormSize). c.size) i) ∙ z) (env_of l) st.next))

  pub qual-silent : {y : Dn.QueryNode} → LookPost s x y → OneOf silent (tag_of node.the_type y) → QualifierPost (sem_s s) (nodes_of s x) D (env_of l) v s st s st
  qual-silent {y} L h = qual-none (ap (λ (a : Node). nodes_c (qual_of (sem_s s) D (env_of l) v st.next a)) L.is ∙ silent-node s x (sem_s s) D (env_of l) v st.next y h)

  level : {y : Dn.QueryNode} → LookPost s x y → Level (depth_at s) D (node_named s x y)
  level {y} L = subst (λ (d : ℕ). Level (depth_at s) d (node_named s x y)) S.depth (subst (Level (depth_at s) (depth_at s x)) L.is (S.ready.levelled x S.inside))

  pub qual-source-first : {c : ℕ} → LookPost s x (Nd.Gen c) → SourceAt s c D l v st
  qual-source-first L =
      record {
        nodes = S.nodes;
        ready = S.ready;
        inside = omega (arith, looked-inside L, S.inside);
        depth = level L;
        room = subst (λ (y : Node). FormRoom st (words_c (qual_of (sem_s s) D (env_of l) v st.next y))) L.is S.room;
      }

  pub qual-condition-first : {c : ℕ} → LookPost s x (Nd.Cond c) → ConditionAt s c D l v st
  qual-condition-first L =
      record {
        nodes = S.nodes;
        ready = S.ready;
        inside = omega (arith, looked-inside L, S.inside);
        depth = level L;
        room = subst (λ (y : Node). FormRoom st (words_c (qual_of (sem_s s) D (env_of l) v st.next y))) L.is S.room;
      }
