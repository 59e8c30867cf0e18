-- The writer of a normal form: its state, and what each of its passes must have written. A buffer is anything that takes a
-- word.
use Rattle.std.specs.Prelude.{◌≡◌, List, [], ◌∷◌, Bool, ℕ, suc, ◌+◌}
use Rattle.spec_normal_form.specs.Form.{Form, Forms, Clauses, gens, gens_f, gens_c}
use Rattle.spec_normal_form.specs.Normal.{Sem, Sems, quote, quotes, condition, ranges}
use Rattle.front_theory.specs.NodeTable.{Node, Nodes}
use Rattle.front_theory.specs.NodeForms.{Env, At, qual_of, clauses_of}
use Rattle.front_theory.specs.FormWords.{Word, flat, flat_f, flat_c}

-- what was written, and the next generator number
pub record Writer (B : Type 0) : Type 0 where
  pub buffer : B
  pub next : ℕ

abbrev pub state : {B : Type 0} → B → ℕ → Writer B
state o n = record { buffer = o; next = n }

unfoldable pub puts : {B : Type 0} → (Word → B → B) → List Word → B → B
puts put [] o = o
puts put (x ∷ l) o = puts put l (put x o)

-- one word more; one word more, which is a generator's
abbrev pub mark : {B : Type 0} → (Word → B → B) → Word → Writer B → Writer B
mark put x s = state (put x s.buffer) s.next

abbrev pub mark_gen : {B : Type 0} → (Word → B → B) → Word → Writer B → Writer B
mark_gen put x s = state (put x s.buffer) (suc s.next)

-- the words of a form, of forms, of clauses
abbrev pub tell : {B : Type 0} → (Word → B → B) → Form → Writer B → Writer B
tell put t s = state (puts put (flat t) s.buffer) (s.next + gens t)

abbrev pub tell_f : {B : Type 0} → (Word → B → B) → Forms → Writer B → Writer B
tell_f put ts s = state (puts put (flat_f ts) s.buffer) (s.next + gens_f ts)

abbrev pub tell_c : {B : Type 0} → (Word → B → B) → Clauses → Writer B → Writer B
tell_c put q s = state (puts put (flat_c q) s.buffer) (s.next + gens_c q)

-- From state s to state r, this was written: as a term, as the terms of a record, as a condition, as a generator's term.
abbrev pub Emits : {B : Type 0} → (Word → B → B) → Sem → Writer B → Writer B → Type 0
Emits put d s r = r ≡ tell put (quote d s.next) s

abbrev pub EmitsF : {B : Type 0} → (Word → B → B) → Sems → Writer B → Writer B → Type 0
EmitsF put ds s r = r ≡ tell_f put (quotes ds s.next) s

abbrev pub EmitsC : {B : Type 0} → (Word → B → B) → Sem → Bool → Writer B → Writer B → Type 0
EmitsC put d v s r = r ≡ tell_c put (condition d v s.next) s

abbrev pub EmitsG : {B : Type 0} → (Word → B → B) → Sem → Bool → Writer B → Writer B → Type 0
EmitsG put d v s r = r ≡ tell_c put (ranges d v s.next).clauses s

-- one qualifier, and qualifiers in order
abbrev pub EmitsN : {B : Type 0} → (Word → B → B) → At → Node → ℕ → Env → Bool → Writer B → Writer B → Type 0
EmitsN put A y D e v s r = r ≡ tell_c put (qual_of A D e v s.next y) s

abbrev pub EmitsQ : {B : Type 0} → (Word → B → B) → Nodes → At → List ℕ → ℕ → Env → Bool → Writer B → Writer B → Type 0
EmitsQ put N A cs D e v s r = r ≡ tell_c put (clauses_of N A D e v s.next cs) s
