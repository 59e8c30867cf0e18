-- The words that were laid are those of the form, and scratch holds them.
use mathlib.Core.Path.{◌≡◌, refl, sym, ap, ap₂, subst, ◌∙◌}
use mathlib.Core.Logic.{⊎_elim}
use mathlib.Core.List.{List, [], ◌∷◌, ◌++◌}
use Prim.Native.Nat.{ℕ, suc, ◌+◌, ◌*◌, ◌≤◌}
use native.Mathlib.Omega.{arith}
use lib.ListN.{length, get_or, length-set}
use lib.Seq.{get_or-set_same}
use Rattle.spec_normal_form.specs.Form.{Form, Forms, Clauses, num, truth, row, cell, rec, bin, negate, app, comp, fnil, fcons, done, gen, cond}
use Rattle.spec_normal_form.specs.Normal.{quote}
use Rattle.spec_normal_form.specs.Size.{nodes}
use Rattle.front_theory.specs.NodeForms.{outside}
use Rattle.front_theory.specs.FormWords.{Word, words, words_f, words_c}
use Rattle.front_theory.specs.FormWords as Wo
use Rattle.front_theory.specs.Writer.{puts}
use Rattle.front_theory.specs.Writer as No
use Rattle.front_theory.proofs.FormCounts.{sizes, flat-length}
use Rattle.front_theory.proofs.Locality.{sem-local}
use Rattle.form_words.specs.NodeWord.{pack}
use Rattle.form_words.specs.FormWords.{size, size_f, size_c, flat, flat_f, flat_c, Holds}
use Rattle.base_scratch.specs.Map.{form_at, form_words}
use Rattle.front_nodes.specs.NodeTable.{nodes_of}
use Rattle.front_nodes.proofs.PostOrder.{post-order}
use Rattle.front_resolve.specs.Resolved.{env_of, offsets}
use Rattle.front_emit.specs.declared.WriterState.{WriterState}
use Rattle.front_emit.specs.WriterResult.{packed, Buffer, buffer, put, Emitted}
use Rattle.front_emit.specs.WriterStart.{collections, sem_s, EmitPre}
use Rattle.front_emit.specs.WholeForm.{form_of, Writable, WriteFormPost}
use Rattle.front_emit.proofs.LaidWords.{puts-place, puts-kept}
use Rattle.base_syntax.specs.Numbers.{op_arg, fun_arg, monoid_arg}

-- ---- the words of a form, packed
packs : List Word → List ℕ
packs [] = []
packs (x ∷ l) = packed x ∷ packs l

packs-append : (k l : List Word) → packs (k ++ l) ≡ packs k ++ packs l
unfolding packs
packs-append [] l = refl
packs-append (x ∷ k) l = ap (λ r. packed x ∷ r) (packs-append k l)

mutual
  unfolding words size

  words_size : (t : Form) → words t ≡ size t
  words_size (num z) = refl
  words_size (truth b) = refl
  words_size (row g) = refl
  words_size (cell c g) = refl
  words_size (rec ts) = ap suc (words-size_f ts)
  words_size (app f ts) = ap suc (words-size_f ts)
  words_size (bin o t u) = ap suc (ap₂ ◌+◌ (words_size t) (words_size u))
  words_size (negate t) = ap suc (words_size t)
  words_size (comp m q t) = ap suc (ap₂ ◌+◌ (words-size_c q) (words_size t))

  words-size_f : (ts : Forms) → words_f ts ≡ size_f ts
  words-size_f fnil = refl
  words-size_f (fcons t ts) = ap₂ ◌+◌ (words_size t) (words-size_f ts)

  words-size_c : (q : Clauses) → words_c q ≡ size_c q
  words-size_c done = refl
  words-size_c (gen g k q) = ap suc (words-size_c q)
  words-size_c (cond t q) = ap suc (ap₂ ◌+◌ (words_size t) (words-size_c q))

mutual
  unfolding packs Wo.flat flat

  packed-flat : (t : Form) → packs (Wo.flat t) ≡ flat t
  packed-flat (num z) = refl
  packed-flat (truth b) = refl
  packed-flat (row g) = refl
  packed-flat (cell c g) = refl
  packed-flat (rec ts) = ap₂ (λ n l. pack 5 n 0 ∷ l) (words-size_f ts) (packed-flat_f ts)
  packed-flat (app f ts) = ap₂ (λ n l. pack 11 n (fun_arg f) ∷ l) (words-size_f ts) (packed-flat_f ts)
  packed-flat (bin o t u) =
      ap₂ (λ n l. pack 6 n (op_arg o) ∷ l) (ap₂ ◌+◌ (words_size t) (words_size u)) (packs-append (Wo.flat t) (Wo.flat u) ∙ ap₂ ◌++◌ (packed-flat t) (packed-flat u))
  packed-flat (negate t) = ap₂ (λ n l. pack 7 n 0 ∷ l) (words_size t) (packed-flat t)
  packed-flat (comp m q t) =
      ap₂ (λ n l. pack 8 n (monoid_arg m) ∷ l) (ap₂ ◌+◌ (words-size_c q) (words_size t)) (packs-append (Wo.flat_c q) (Wo.flat t) ∙ ap₂ ◌++◌ (packed-flat_c q) (packed-flat t))

  packed-flat_f : (ts : Forms) → packs (Wo.flat_f ts) ≡ flat_f ts
  packed-flat_f fnil = refl
  packed-flat_f (fcons t ts) = packs-append (Wo.flat t) (Wo.flat_f ts) ∙ ap₂ ◌++◌ (packed-flat t) (packed-flat_f ts)

  packed-flat_c : (q : Clauses) → packs (Wo.flat_c q) ≡ flat_c q
  packed-flat_c done = refl
  packed-flat_c (gen g k q) = ap (λ l. pack 9 0 (1024 * g + k) ∷ l) (packed-flat_c q)
  packed-flat_c (cond t q) = ap₂ (λ n l. pack 10 n 0 ∷ l) (words_size t) (packs-append (Wo.flat t) (Wo.flat_c q) ∙ ap₂ ◌++◌ (packed-flat t) (packed-flat_c q))

-- ---- words that were laid are held
puts-hold : (l : List Word) (b : Buffer) → form_at + b.place + length l ≤ length b.words → Holds (puts put l b).words b.place (packs l)
unfolding packs puts put
puts-hold [] b h = tt
puts-hold (x ∷ l) b h = (
  puts-kept l (put x b) (form_at + b.place) (λ p q. omega arith) ∙ get_or-set_same b.words (form_at + b.place) (packed x) 0 (omega arith),
  puts-hold l (put x b) (omega (arith, length-set b.words (form_at + b.place) (packed x))),
)

-- ---- the whole
-- no comprehension is around it, so no entry is read
root-sem : (s : List ℕ) (i : ℕ) (l : List ℕ) → sem_s s i 0 (env_of l) ≡ sem_s s i 0 outside
root-sem s i l = sem-local (collections s) (nodes_of s) (post-order s) (offsets s) i 0 (env_of l) outside (λ d h. absurd (omega arith))

abbrev start : WriterState
start = record { place = 0; next = 0 }

module _ {s : List ℕ} {i : ℕ} (W : Writable s i) (l : List ℕ) where
  pub whole-starts : EmitPre s i 0 l start
  whole-starts =
      let v = W.short in
      record {
        nodes = i + 1;
        ready = W.ready;
        inside = omega arith;
        depth = W.depth;
        room = record { numbered = omega arith; room = subst (λ d. 0 + words (quote d 0) ≤ form_words) (sym (root-sem s i l)) (omega arith) };
      }

  pub whole-done : {s' : List ℕ} {r : WriterState} → Emitted (sem_s s i 0 (env_of l)) s start s' r → WriteFormPost s i s' r.place
  whole-done {s'} {r} E =
      let t = form_of s i in
      let E' : Emitted (sem_s s i 0 outside) s start s' r = subst (λ d. Emitted d s start s' r) (root-sem s i l) E in
      let b = buffer s 0 in
      let w : s' ≡ (puts put (Wo.flat t) b).words = ap (λ (S : No.Writer Buffer). S.buffer.words) E'.is in
      let p : r.place ≡ (puts put (Wo.flat t) b).place = ap (λ (S : No.Writer Buffer). S.buffer.place) E'.is in
      let n = flat-length t in
      let v = puts-place (Wo.flat t) b in
      let c = W.short in
      let d = W.long in
      record {
        held = subst (λ k. Holds s' 0 k) (packed-flat t) (subst (λ o. Holds o 0 (packs (Wo.flat t))) (sym w) (puts-hold (Wo.flat t) b (omega arith)));
        number = p ∙ v ∙ omega arith ∙ words_size t;
        kept = λ j h. ap (λ (o : List ℕ). get_or o j 0) w ∙ puts-kept (Wo.flat t) b j (λ x y. ⊎_elim (λ a. omega arith) (λ a. omega arith) h);
      }

-- ---- the normal form
-- what the root writes is t
module _ (s : List ℕ) (i : ℕ) {t : Form} (e : form_of s i ≡ t) where
  pub form-short : nodes t ≤ form_words → words (form_of s i) ≤ form_words
  form-short h = let c = (sizes t).1 in subst (λ u. words u ≤ form_words) (sym e) (omega arith)

  pub form-held : {s' : List ℕ} {r : ℕ} → WriteFormPost s i s' r → Holds s' 0 (flat t) × (r ≡ size t)
  form-held {s'} W = (subst (λ u. Holds s' 0 (flat u)) e W.held, W.number ∙ ap size e)
