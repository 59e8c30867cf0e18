-- One law for each way in which words are written: what was written with a node's own word last.
use mathlib.Core.Path.{◌≡◌, refl, sym, ap, ap₂, subst, ◌∙◌}
use mathlib.Core.Bool.{Bool, true, false, ◌||◌}
use mathlib.Core.List.{List, [], ◌∷◌, ◌++◌}
use Prim.Native.Nat.{ℕ, suc, ◌+◌, ◌-◌, ◌*◌, ◌<◌, ◌≤◌}
use native.Mathlib.Omega.{arith}
use lib.ListN.{length, get_or}
use lib.IntN.{ℤ}
use Rattle.spec_calculus.specs.Lists.{pick}
use Rattle.spec_calculus.specs.Syntax.{Collection, Monoid, of, Bin, Fun}
use Rattle.spec_normal_form.specs.Form.{Clauses, gens, gens_f, gens_c}
use Rattle.spec_normal_form.specs.Form as Nf
use Rattle.spec_normal_form.specs.Normal.{Sem, Sems, row, fields, both, nested, plain, snil, scons, quote, quotes, idempotent, gives_way, condition, binary, applied}
use Rattle.spec_normal_form.specs.Size.{nodes_c}
use Rattle.front_theory.specs.NodeTable.{Node, Nodes, ngen, ncond}
use Rattle.front_theory.specs.NodeForms.{Env, enter, At, qual_of, clauses_of, comp_of}
use Rattle.front_theory.specs.FormWords.{Label, Word, word, wnum, wtruth, wrow, wcell, wrec, wnegate, wcond, wbin, wapp, wcomp, wgen, words, words_f, words_c, flat, flat_f, flat_c}
use Rattle.front_theory.specs.Writer.{state, puts, mark, mark_gen, tell_c, Emits, EmitsF, EmitsQ}
use Rattle.front_theory.specs.Writer as No
use Rattle.front_theory.proofs.FormCounts.{sizes, sizes_f, sizes_c, flat-length, flat-length_f, flat-length_c}
use Rattle.front_theory.proofs.Writer as Em
use Rattle.form_words.specs.NodeWord.{pack}
use Rattle.form_words.specs.FormWords.{number_arg}
use Rattle.front_emit.specs.declared.WriterState.{WriterState}
use Rattle.front_emit.specs.WriterStart.{FormRoom}
use Rattle.front_emit.specs.WriterResult.{kind_in, arg_in, packed, Buffer, buffer, put, state_of, behind, numbered, LeafPost, ClosePost, GeneratorPost, Emitted, FieldsPost, EmittedC, SourcePost, QualifierPost, EmittedQ, SinglePost, NeverPost}
use Rattle.front_emit.proofs.LaidWords.{puts-place, puts-kept, late_s, put-late, laid-late}
use Rattle.front_emit.proofs.QuestionKept.{QuestionKept}
use Rattle.base_syntax.specs.Numbers.{op_arg, fun_arg, monoid_arg}

-- ---- where the words end
-- so many words were written, so many of them generators
pub record Moved (st r : WriterState) (k g : ℕ) : Type 0 where
  pub place : r.place ≡ st.place + k
  pub next : r.next ≡ st.next + g
  pub fewer : g ≤ k

-- these words, so many of them generators
pub record WordsLaid (l : List Word) (g : ℕ) (s : List ℕ) (st : WriterState) (s' : List ℕ) (r : WriterState) : Type 0 where
  pub is : state_of s' r ≡ state (puts put l (buffer s st.place)) (st.next + g)

module _ {s s' : List ℕ} {st r : WriterState} where
  laid-moved : {l : List Word} {g k : ℕ} → length l ≡ k → g ≤ k → WordsLaid l g s st s' r → Moved st r k g
  laid-moved {l} e f L =
      record {
        place = ap (λ (S : No.Writer Buffer). S.buffer.place) L.is ∙ puts-place l (buffer s st.place) ∙ ap (λ n. st.place + n) e;
        next = ap (λ (S : No.Writer Buffer). S.next) L.is;
        fewer = f;
      }

  pub laid_kept : {l : List Word} {g : ℕ} → WordsLaid l g s st s' r → QuestionKept s s'
  laid_kept {l} L = record { same = λ j h. ap (λ (S : No.Writer Buffer). get_or S.buffer.words j 0) L.is ∙ puts-kept l (buffer s st.place) j (λ p q. omega arith) }

  pub laid : {d : Sem} → Emitted d s st s' r → WordsLaid (flat (quote d st.next)) (gens (quote d st.next)) s st s' r
  laid E = record { is = E.is }

  pub laid_f : {ds : Sems} → FieldsPost ds s st s' r → WordsLaid (flat_f (quotes ds st.next)) (gens_f (quotes ds st.next)) s st s' r
  laid_f E = record { is = E.is }

  pub laid_c : {d : Sem} {v : Bool} → EmittedC d v s st s' r → WordsLaid (flat_c (condition d v st.next)) (gens_c (condition d v st.next)) s st s' r
  laid_c E = record { is = E.is }

  pub laid_q : {N : Nodes} {A : At} {cs : List ℕ} {D : ℕ} {e : Env} {v : Bool} → EmittedQ N A cs D e v s st s' r → WordsLaid (flat_c (clauses_of N A D e v st.next cs)) (gens_c (clauses_of N A D e v st.next cs)) s st s' r
  laid_q E = record { is = E.is }

  pub moved : {d : Sem} → Emitted d s st s' r → Moved st r (words (quote d st.next)) (gens (quote d st.next))
  moved {d} E = let t = quote d st.next in laid-moved (flat-length t) (sizes t).0 (laid E)

  pub moved_f : {ds : Sems} → FieldsPost ds s st s' r → Moved st r (words_f (quotes ds st.next)) (gens_f (quotes ds st.next))
  moved_f {ds} E = let ts = quotes ds st.next in laid-moved (flat-length_f ts) (sizes_f ts).0 (laid_f E)

  moves_c : (w : Clauses) → WordsLaid (flat_c w) (gens_c w) s st s' r → Moved st r (words_c w) (gens_c w)
  moves_c w L = laid-moved (flat-length_c w) (sizes_c w).0 L

  pub moved_c : {d : Sem} {v : Bool} → EmittedC d v s st s' r → Moved st r (words_c (condition d v st.next)) (gens_c (condition d v st.next))
  moved_c {d} {v} E = moves_c (condition d v st.next) (laid_c E)

  pub moved_q : {N : Nodes} {A : At} {cs : List ℕ} {D : ℕ} {e : Env} {v : Bool} → EmittedQ N A cs D e v s st s' r → Moved st r (words_c (clauses_of N A D e v st.next cs)) (gens_c (clauses_of N A D e v st.next cs))
  moved_q {N} {A} {cs} {D} {e} {v} E = moves_c (clauses_of N A D e v st.next cs) (laid_q E)

-- room for the rest
pub room-left : {st r : WriterState} {k g : ℕ} (a : ℕ) → Moved st r k g → FormRoom st (k + a) → FormRoom r a
room-left a M R =
    let p = M.place in
    let q = M.next in
    let f = M.fewer in
    let u = R.numbered in
    let v = R.room in
    record { numbered = omega arith; room = omega arith }

-- one place on
pub behind-place : (st : WriterState) {q : WriterState} → q ≡ behind st → q.place ≡ st.place + 1
behind-place st e = ap (λ (a : WriterState). a.place) e

pub numbered-place : (st : WriterState) {q : WriterState} → q ≡ numbered st → q.place ≡ st.place + 1
numbered-place st e = ap (λ (a : WriterState). a.place) e

pub room-behind : {st q : WriterState} (a : ℕ) → q ≡ behind st → FormRoom st (suc a) → FormRoom q a
room-behind {st} a e R =
    let u = R.numbered in
    let v = R.room in
    subst (λ (x : WriterState). FormRoom x a) (sym e) record { numbered = omega arith; room = omega arith }

-- ---- a node's own word, laid last
shut : (a : Label) (n p : ℕ) (y : WriterState) {s s' : List ℕ} → y.place ≡ p + 1 + n → ClosePost (kind_in a) (arg_in a) p y.place s s' → state_of s' y ≡ late_s p (packed (word a n)) (state_of s y)
shut a n p y {s} e C =
    let z : y.place - (p + 1) ≡ n = omega arith in
    ap (λ (l : List ℕ). state_of l y) C.is ∙ ap (λ b. late_s p (pack (kind_in a) b (arg_in a)) (state_of s y)) z

pub closes-arg : {k a b p e : ℕ} {s s' : List ℕ} → a ≡ b → ClosePost k a p e s s' → ClosePost k b p e s s'
closes-arg {k} {p = p} {e} {s} {s'} q C = subst (λ x. ClosePost k x p e s s') q C

module _ {s s' : List ℕ} {st r : WriterState} (p w : ℕ) (h : p < st.place) where
  late-term : {d : Sem} → Emitted d s st s' r → Emits put d (late_s p w (state_of s st)) (late_s p w (state_of s' r))
  late-term {d} E = let t = quote d st.next in laid-late p w (flat t) (gens t) (state_of s st) (state_of s' r) h E.is

  late-fields : {ds : Sems} → FieldsPost ds s st s' r → EmitsF put ds (late_s p w (state_of s st)) (late_s p w (state_of s' r))
  late-fields {ds} E = let t = quotes ds st.next in laid-late p w (flat_f t) (gens_f t) (state_of s st) (state_of s' r) h E.is

  late-quals : {N : Nodes} {A : At} {cs : List ℕ} {D : ℕ} {e : Env} {v : Bool} → EmittedQ N A cs D e v s st s' r → EmitsQ put N A cs D e v (late_s p w (state_of s st)) (late_s p w (state_of s' r))
  late-quals {N} {A} {cs} {D} {e} {v} E = let t = clauses_of N A D e v st.next cs in laid-late p w (flat_c t) (gens_c t) (state_of s st) (state_of s' r) h E.is

-- ---- as a term
module _ {s s₁ s₂ : List ℕ} {st q r : WriterState} (e : q ≡ behind st) where
  pub rec-done : {ds : Sems} → FieldsPost ds s q s₁ r → ClosePost 5 0 st.place r.place s₁ s₂ → Emitted (fields ds) s st s₂ r
  unfolding put
  rec-done {ds} E C =
      let E' : FieldsPost ds s (behind st) s₁ r = subst (λ (a : WriterState). FieldsPost ds s a s₁ r) e E in
      let x = word wrec (words_f (quotes ds st.next)) in
      let S = state_of s st in
      record { is = Em.emit-rec put ds S (mark put x S) (state_of s₂ r) refl (shut wrec x.below st.place r (moved_f E').place C ∙ late-fields st.place (packed x) (omega arith) E') }

  pub app-done : {ds : Sems} (f : Fun) → FieldsPost ds s q s₁ r → ClosePost 11 (fun_arg f) st.place r.place s₁ s₂ → Emitted (applied f ds) s st s₂ r
  unfolding put
  app-done {ds} f E C =
      let E' : FieldsPost ds s (behind st) s₁ r = subst (λ (a : WriterState). FieldsPost ds s a s₁ r) e E in
      let x = word (wapp f) (words_f (quotes ds st.next)) in
      let S = state_of s st in
      record { is = Em.emit-app put f ds S (mark put x S) (state_of s₂ r) refl (shut (wapp f) x.below st.place r (moved_f E').place C ∙ late-fields st.place (packed x) (omega arith) E') }

  pub negate-done : {d : Sem} → Emitted d s q s₁ r → ClosePost 7 0 st.place r.place s₁ s₂ → Emitted (plain (λ n. Nf.negate (quote d n))) s st s₂ r
  unfolding put
  negate-done {d} E C =
      let E' : Emitted d s (behind st) s₁ r = subst (λ (a : WriterState). Emitted d s a s₁ r) e E in
      let x = word wnegate (words (quote d st.next)) in
      let S = state_of s st in
      record { is = Em.emit-negate put d S (mark put x S) (state_of s₂ r) refl (shut wnegate x.below st.place r (moved E').place C ∙ late-term st.place (packed x) (omega arith) E') }

  -- as one condition
  pub one-done : {d : Sem} → Emitted d s q s₁ r → ClosePost 10 0 st.place r.place s₁ s₂ → SinglePost d s st s₂ r
  unfolding put
  one-done {d} E C =
      let E' : Emitted d s (behind st) s₁ r = subst (λ (a : WriterState). Emitted d s a s₁ r) e E in
      let t = quote d st.next in
      let x = word wcond (words t) in
      record { is = shut wcond x.below st.place r (moved E').place C ∙ late-term st.place (packed x) (omega arith) E' ∙ sym (Em.tell-one put t (state_of s st)) }

module _ {s s₁ s₂ s₃ : List ℕ} {st q x y : WriterState} (e : q ≡ behind st) where
  pub binary-done : {a b : Sem} (o : Bin) → Emitted a s q s₁ x → Emitted b s₁ x s₂ y → ClosePost 6 (op_arg o) st.place y.place s₂ s₃ → Emitted (binary o a b) s st s₃ y
  unfolding put
  binary-done {a} {b} o E F C =
      let E' : Emitted a s (behind st) s₁ x = subst (λ (c : WriterState). Emitted a s c s₁ x) e E in
      let M = moved E' in
      let n = st.next in
      let k = words (quote a n) in
      let l = words (quote b (n + gens (quote a n))) in
      let w = word (wbin o) (k + l) in
      let S = state_of s st in
      let u : y.place ≡ x.place + l = (moved F).place ∙ ap (λ i. x.place + words (quote b i)) M.next in
      let v = M.place in
      record {
        is = Em.emit-bin put o a b S (mark put w S) (late_s st.place (packed w) (state_of s₁ x)) (state_of s₃ y) refl (late-term st.place (packed w) (omega arith) E')
            (shut (wbin o) (k + l) st.place y (omega arith) C ∙ late-term st.place (packed w) (omega arith) F);
      }

  pub comp-done : (N : Nodes) (A : At) (m : Monoid) (cs : List ℕ) (k D : ℕ) (v : Env) → EmittedQ N A cs (suc D) (enter D q.next (idempotent m) v) (idempotent m) s q s₁ x
      → Emitted (A k (suc D) (enter D st.next (idempotent m) v)) s₁ x s₂ y → ClosePost 8 (monoid_arg m) st.place y.place s₂ s₃ → Emitted (comp_of N A m cs k D v) s st s₃ y
  unfolding put
  comp-done N A m cs k D v E F C =
      let n = st.next in
      let i = idempotent m in
      let a = enter D n i v in
      let E' : EmittedQ N A cs (suc D) a i s (behind st) s₁ x = subst (λ (c : WriterState). EmittedQ N A cs (suc D) (enter D c.next i v) i s c s₁ x) e E in
      let M = moved_q E' in
      let g = clauses_of N A (suc D) a i n cs in
      let b = words_c g in
      let l = words (quote (A k (suc D) a) (n + gens_c g)) in
      let w = word (wcomp m) (b + l) in
      let S = state_of s st in
      let z : y.place ≡ x.place + l = (moved F).place ∙ ap (λ j. x.place + words (quote (A k (suc D) a) j)) M.next in
      let u = M.place in
      record {
        is = Em.emit-comp put N A m cs k D v S (mark put w S) (late_s st.place (packed w) (state_of s₁ x)) (state_of s₃ y) refl (late-quals st.place (packed w) (omega arith) E')
            (shut (wcomp m) (b + l) st.place y (omega arith) C ∙ late-term st.place (packed w) (omega arith) F);
      }

-- ---- the terms of a record or an operator
pub fields-none : {s : List ℕ} {st : WriterState} → FieldsPost snil s st s st
fields-none {s} {st} = record { is = Em.emit-no-field put (state_of s st) }

pub fields-more : {d : Sem} {ds : Sems} {s s₁ s₂ : List ℕ} {st q r : WriterState} → Emitted d s st s₁ q → FieldsPost ds s₁ q s₂ r → FieldsPost (scons d ds) s st s₂ r
fields-more {d} {ds} {s} {s₁} {s₂} {st} {q} {r} E F = record { is = Em.emit-field put d ds (state_of s st) (state_of s₁ q) (state_of s₂ r) E.is F.is }

-- ---- one word
module _ {s s' : List ℕ} {st r : WriterState} where
  leaf-marks : (a : Label) → LeafPost (kind_in a) (arg_in a) s st s' r → state_of s' r ≡ mark put (word a 0) (state_of s st)
  unfolding put
  leaf-marks a L = ap₂ state_of L.is L.on

  pub leaf-num : (z : ℤ) → LeafPost 1 (number_arg z) s st s' r → Emitted (plain (λ n. Nf.num z)) s st s' r
  leaf-num z L = record { is = Em.emit-num put z (state_of s st) (state_of s' r) (leaf-marks (wnum z) L) }

  pub leaf-truth : (b : Bool) → LeafPost 2 (pick b 1 0) s st s' r → Emitted (plain (λ n. Nf.truth b)) s st s' r
  leaf-truth b L = record { is = Em.emit-truth put b (state_of s st) (state_of s' r) (leaf-marks (wtruth b) L) }

  pub leaf-row : (g : ℕ) → LeafPost 3 g s st s' r → Emitted (row g) s st s' r
  leaf-row g L = record { is = Em.emit-row put g (state_of s st) (state_of s' r) (leaf-marks (wrow g) L) }

  pub leaf-cell : (k g : ℕ) → LeafPost 4 (1024 * k + g) s st s' r → Emitted (plain (λ n. Nf.cell k g)) s st s' r
  leaf-cell k g L = record { is = Em.emit-cell put k g (state_of s st) (state_of s' r) (leaf-marks (wcell k g) L) }

  pub leaf-arg : {k a b : ℕ} → a ≡ b → LeafPost k a s st s' r → LeafPost k b s st s' r
  leaf-arg {k} e L = subst (λ x. LeafPost k x s st s' r) e L

  gen-marks : (k : ℕ) → GeneratorPost k s st s' r → state_of s' r ≡ mark_gen put (word (wgen st.next k) 0) (state_of s st)
  unfolding put
  gen-marks k G = let z : st.next + 1 ≡ suc st.next = omega arith in
      ap₂ state_of G.is G.on ∙ ap (λ n. state (put (word (wgen st.next k) 0) (buffer s st.place)) n) z

  -- a generator over a table
  pub table-source : (c : Collection) (k : ℕ) (v : Bool) → GeneratorPost k s st s' r → SourcePost (nested (of c) (λ b n. Nf.gen n k Nf.done) (λ b n. row n)) v s st s' r
  table-source c k v G = record { is = Em.emit-over-table put c k v (state_of s st) (state_of s' r) (gen-marks k G) }

-- a word before which another is laid late
late-mark : (S : No.Writer Buffer) {R : No.Writer Buffer} (p w : ℕ) (x : Word) → p < S.buffer.place → R ≡ mark put x S → late_s p w R ≡ mark put x (late_s p w S)
late-mark S p w x h e = ap (late_s p w) e ∙ ap (λ (b : Buffer). state b S.next) (sym (put-late p w x S.buffer h))

late-gen : (S : No.Writer Buffer) {R : No.Writer Buffer} (p w : ℕ) (x : Word) → p < S.buffer.place → R ≡ mark_gen put x S → late_s p w R ≡ mark_gen put x (late_s p w S)
late-gen S p w x h e = ap (late_s p w) e ∙ ap (λ (b : Buffer). state b (suc S.next)) (sym (put-late p w x S.buffer h))

-- a table that is no generator's term
pub table_done : {s s₁ s₂ s₃ : List ℕ} {st q x y : WriterState} (c : Collection) (k : ℕ) → q ≡ behind st → GeneratorPost k s q s₁ x → LeafPost 3 st.next s₁ x s₂ y → ClosePost 8 (monoid_arg (of c)) st.place y.place s₂ s₃
    → Emitted (nested (of c) (λ b n. Nf.gen n k Nf.done) (λ b n. row n)) s st s₃ y
unfolding put
table_done {s} {s₁} {s₂} {s₃} {st} {q} {x} {y} c k e G L C =
    let G' : GeneratorPost k s (behind st) s₁ x = subst (λ (a : WriterState). GeneratorPost k s a s₁ x) e G in
    let w = word (wcomp (of c)) 2 in
    let S = state_of s st in
    let T = late_s st.place (packed w) (state_of s₁ x) in
    let u = ap (λ (a : WriterState). a.place) L.on in
    let v = ap (λ (a : WriterState). a.place) G'.on in
    record {
      is = Em.emit-table put c k S (mark put w S) T (state_of s₃ y) refl (late-gen (state_of s (behind st)) st.place (packed w) (word (wgen st.next k) 0) (omega arith) (gen-marks k G'))
          (shut (wcomp (of c)) 2 st.place y (omega arith) C ∙ late-mark (state_of s₁ x) st.place (packed w) (word (wrow st.next) 0) (omega arith) (leaf-marks (wrow st.next) L));
    }

-- the condition that is never met
pub never_done : {s s₁ s₂ : List ℕ} {st q r : WriterState} → q ≡ behind st → LeafPost 2 0 s q s₁ r → ClosePost 10 0 st.place r.place s₁ s₂ → NeverPost s st s₂ r
unfolding put quote pick words
never_done {s} {s₁} {s₂} {st} {q} {r} e L C =
    let L' : LeafPost 2 0 s (behind st) s₁ r = subst (λ (a : WriterState). LeafPost 2 0 s a s₁ r) e L in
    let w = word wcond 1 in
    let S = state_of s st in
    let u = ap (λ (a : WriterState). a.place) L'.on in
    record {
      is = Em.emit-truth put false (mark put w S) (state_of s₂ r) (shut wcond 1 st.place r (omega arith) C ∙ late-mark (state_of s (behind st)) st.place (packed w) (word (wtruth false) 0) (omega arith) (leaf-marks (wtruth false) L'))
          ∙ sym (Em.tell-one put (Nf.truth false) S);
    }

-- ---- as a condition
module _ {s s₁ s₂ : List ℕ} {st q r : WriterState} where
  pub both-done : {a b : Sem} {v : Bool} → EmittedC a v s st s₁ q → EmittedC b v s₁ q s₂ r → EmittedC (both a b) v s st s₂ r
  both-done {a} {b} {v} E F = record { is = Em.emit-and put a b v (state_of s st) (state_of s₁ q) (state_of s₂ r) E.is F.is }

  -- a comprehension that gives way
  pub yields-done : (N : Nodes) (A : At) (m : Monoid) (cs : List ℕ) (k D : ℕ) (e : Env) (v : Bool) → gives_way m v ≡ true
      → EmittedQ N A cs (suc D) (enter D st.next (v || idempotent m) e) (v || idempotent m) s st s₁ q → EmittedC (A k (suc D) (enter D st.next (v || idempotent m) e)) v s₁ q s₂ r
      → EmittedC (comp_of N A m cs k D e) v s st s₂ r
  yields-done N A m cs k D e v g E F =
      let x = idempotent m in
      record {
        is = Em.emit-some put m (λ b n. clauses_of N A (suc D) (enter D n (b || x) e) (b || x) n cs) (λ b n. A k (suc D) (enter D n (b || x) e)) v
            (state_of s st) (state_of s₁ q) (state_of s₂ r) g E.is F.is;
      }

pub whole-done : {d : Sem} {v : Bool} {s s' : List ℕ} {st r : WriterState} → Em.OneCondition d v → SinglePost d s st s' r → EmittedC d v s st s' r
whole-done {d} {v} {s} {st = st} w E = record { is = E.is ∙ ap (λ c. tell_c put c (state_of s st)) (sym (Em.condition-whole d v w st.next)) }

-- ---- as a generator's term
pub spliced-done : (N : Nodes) (A : At) (m : Monoid) (cs : List ℕ) (k D : ℕ) (e : Env) (v : Bool) {s s' : List ℕ} {st r : WriterState}
    → EmittedQ N A cs (suc D) (enter D st.next (v || idempotent m) e) (v || idempotent m) s st s' r → SourcePost (comp_of N A m cs k D e) v s st s' r
spliced-done N A m cs k D e v {s} {s'} {st} {r} E =
    let x = idempotent m in
    record { is = Em.emit-spliced put m (λ b n. clauses_of N A (suc D) (enter D n (b || x) e) (b || x) n cs) (λ b n. A k (suc D) (enter D n (b || x) e)) v (state_of s st) (state_of s' r) E.is }

pub never-source : {d : Sem} (v : Bool) {s s' : List ℕ} {st r : WriterState} → Em.Never d → NeverPost s st s' r → SourcePost d v s st s' r
never-source {d} v {s} {st = st} w E = record { is = E.is ∙ ap (λ c. tell_c put c (state_of s st)) (sym (Em.ranges-never d v st.next w)) }

-- ---- qualifiers
module _ {A : At} {D : ℕ} {e : Env} {v : Bool} {s : List ℕ} {st : WriterState} where
  -- one that writes nothing
  pub qual-none : {y : Node} → nodes_c (qual_of A D e v st.next y) ≡ 0 → QualifierPost A y D e v s st s st
  qual-none {y} z =
      let w = qual_of A D e v st.next y in
      let u : words_c w ≡ 0 = omega (arith, z, (sizes_c w).1) in
      record { is = sym (Em.tell_none put w (state_of s st) u) }

  pub qual-source : {y : Node} {c : ℕ} {s' : List ℕ} {r : WriterState} → y ≡ ngen c → SourcePost (A c D e) v s st s' r → QualifierPost A y D e v s st s' r
  qual-source {s' = s'} {r} p E = subst (λ (x : Node). QualifierPost A x D e v s st s' r) (sym p) record { is = E.is }

  pub qual-condition : {y : Node} {c : ℕ} {s' : List ℕ} {r : WriterState} → y ≡ ncond c → EmittedC (A c D e) v s st s' r → QualifierPost A y D e v s st s' r
  qual-condition {s' = s'} {r} p E = subst (λ (x : Node). QualifierPost A x D e v s st s' r) (sym p) record { is = E.is }

module _ {N : Nodes} {A : At} {D : ℕ} {e : Env} {v : Bool} {s : List ℕ} {st : WriterState} where
  pub quals-none : {cs : List ℕ} → cs ≡ [] → EmittedQ N A cs D e v s st s st
  quals-none p = subst (λ (l : List ℕ). EmittedQ N A l D e v s st s st) (sym p) record { is = Em.emit-none put N A D e v (state_of s st) }

  pub quals-more : {cs ds : List ℕ} {x : ℕ} {s₁ s₂ : List ℕ} {q r : WriterState} → ds ≡ cs ++ (x ∷ []) → EmittedQ N A cs D e v s st s₁ q → QualifierPost A (N x) D e v s₁ q s₂ r → EmittedQ N A ds D e v s st s₂ r
  quals-more {cs} {x = x} {s₁} {s₂} {q} {r} p E F =
      subst (λ (l : List ℕ). EmittedQ N A l D e v s st s₂ r) (sym p)
      record {
        is = Em.emit-append put N A cs (x ∷ []) D e v (state_of s st) (state_of s₁ q) (state_of s₂ r) E.is (Em.emit-one put N A x (N x) D e v (state_of s₁ q) (state_of s₂ r) refl F.is);
      }
