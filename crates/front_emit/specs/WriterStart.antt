-- What a writer starts from: what the scratch says of the question, and room for what is written.
use Rattle.std.specs.Prelude.{Option, Some, None, ◌≡◌, Bool, true, false, ◌||◌, List, ℕ, suc, ◌+◌, ◌<◌, ◌≤◌, length, drop}
use Rattle.form_words.specs.Kinds.{record_kind, operator_kind}
use Rattle.spec_calculus.specs.Syntax.{Collection, of}
use Rattle.spec_encoding.specs.Data.{collection_of}
use Rattle.base_tables.specs.Description.{collection_in, table_in}
use Rattle.spec_normal_form.specs.Form.{Clauses}
use Rattle.spec_normal_form.specs.Form as Nf
use Rattle.spec_normal_form.specs.Normal.{Sem, Sems, row, nested, plain, nothing, quote, quotes, one, condition, ranges, idempotent}
use Rattle.spec_normal_form.specs.Size.{nodes_c}
use Rattle.front_theory.specs.NodeForms.{Env, levels, enter, At, qual_of, clauses_of, sems_of}
use Rattle.front_theory.specs.FormWords.{words, words_f, words_c}
use Rattle.base_syntax.specs.declared.Monoid.{Monoid}
use Rattle.base_syntax.specs.MonoidWord.{monoid_of}
use Rattle.base_syntax.specs.declared.Fun.{Fun}
use Rattle.base_syntax.specs.Numbers.{fun_of, fun_arg}
use Rattle.base_scratch.specs.Map.{form_words, most_nodes}
use Rattle.front_sizes.specs.SizeWords.{condition_count}
use Rattle.front_nodes.specs.NodeTable.{depth_at, children_of, chain, qualifiers_of, nodes_of}
use Rattle.front_nodes.specs.Levels.{AllAt, Levelled}
use Rattle.front_resolve.specs.Resolved.{Resolved, env_of, sem_n, place_sem, FormAt, Fine}
use Rattle.front_resolve.specs.declared.Form.{Form}
use Rattle.front_resolve.specs.declared.Form.TheVariants.{Number, Truth, Row, Cell, Record, Two, Not, Comp, Table, Operator, Bad}
use Rattle.front_emit.specs.declared.WriterState.{WriterState}

-- the collection of each table by its description; a list where there is no such table
unfoldable pub collections : List ℕ → ℕ → Collection
collections s k = collection_of (collection_in (table_in s k))

-- ---- what the scratch says of the question
-- what a node comes to, and a place
abbrev pub sem_s : List ℕ → At
sem_s s = sem_n (collections s) s

abbrev pub place_s : List ℕ → Resolved → Sem
place_s s h = place_sem (collections s) s h

-- a table that is no generator's term; a form with no nodes below it
abbrev pub table_s : List ℕ → ℕ → Sem
table_s s k = nested (of (collections s k)) (λ b n. Nf.gen n k Nf.done) (λ b n. row n)

abbrev pub simple_s : List ℕ → Form → Sem
simple_s s (Number z) = plain (λ n. Nf.num z)
simple_s s (Truth b) = plain (λ n. Nf.truth b)
simple_s s (Row g) = row g
simple_s s (Cell k g) = plain (λ n. Nf.cell k g)
simple_s s Record = nothing
simple_s s (Two o a b) = nothing
simple_s s (Not c) = nothing
simple_s s (Comp m k) = nothing
simple_s s (Table k) = table_s s k
simple_s s (Operator f) = nothing
simple_s s Bad = nothing

-- the terms of the record or operator at a place, from term k on
abbrev pub fields_s : List ℕ → Resolved → ℕ → Sems
fields_s s h k = sems_of (sem_s s) (drop k (children_of s h.node)) h.depth (env_of h.env)

-- A copy of the comprehension of m at a place, which begins with number n: whether "some" gives way in it, where v says
-- that it does around it; its environment; its qualifiers.
abbrev pub flag_in : Bool → Monoid → Bool
flag_in v m = v || idempotent (monoid_of m)

abbrev pub copy_env : Resolved → Monoid → Bool → ℕ → Env
copy_env h m v n = enter h.depth n (flag_in v m) (env_of h.env)

abbrev pub copy_s : List ℕ → Resolved → Monoid → Bool → ℕ → Clauses
copy_s s h m v n = clauses_of (nodes_of s) (sem_s s) (suc h.depth) (copy_env h m v n) (flag_in v m) n (qualifiers_of s h.node)

-- the words of that environment
pub record Copies (h : Resolved) (m : Monoid) (v : Bool) (n : ℕ) (l : List ℕ) : Type 0 where
  pub is : env_of l ≡ copy_env h m v n
  pub long : length l ≡ levels

-- ---- what a writer asks
-- A qualifier before n whose stored size is 0 writes nothing.
abbrev pub Measured : List ℕ → ℕ → Type 0
Measured s n = (x : ℕ) → x < n → (v : Bool) → (condition_count s x v).size ≡ 0 → (e : Env) (j : ℕ) → nodes_c (qual_of (sem_s s) (depth_at s x) e v j (nodes_of s x)) ≡ 0

-- The depths of the first n nodes agree, and their sizes are stored.
pub record SizedNodes (s : List ℕ) (n : ℕ) : Type 0 where
  pub few : n ≤ most_nodes
  pub levelled : Levelled (nodes_of s) (depth_at s) n
  pub measured : Measured s n

-- room for so many words; there are no more generators than words
pub record FormRoom (st : WriterState) (k : ℕ) : Type 0 where
  pub numbered : st.next ≤ st.place
  pub room : st.place + k ≤ form_words

-- node i at depth D, which writes so many words
pub record Starts (s : List ℕ) (i D : ℕ) (st : WriterState) (k : ℕ) : Type 0 where
  pub nodes : ℕ
  pub ready : SizedNodes s nodes
  pub inside : i < nodes
  pub depth : depth_at s i ≡ D
  pub room : FormRoom st k

-- the same of a place
pub record StartsAt (s : List ℕ) (h : Resolved) (st : WriterState) (k : ℕ) : Type 0 where
  pub starts : Starts s h.node h.depth st k
  pub fine : Fine s h

-- the same of the qualifiers between lo and e
pub record StartsQ (s : List ℕ) (lo e D : ℕ) (st : WriterState) (k : ℕ) : Type 0 where
  pub nodes : ℕ
  pub ready : SizedNodes s nodes
  pub inside : e ≤ nodes
  pub depth : AllAt (depth_at s) D (chain s lo e)
  pub room : FormRoom st k

-- the same of a form at node i, with no nodes below it
pub record SimplePre (s : List ℕ) (f : Form) (i : ℕ) (st : WriterState) : Type 0 where
  pub depth : ℕ
  pub form : FormAt s i depth f
  pub room : FormRoom st (words (quote (simple_s s f) st.next))

-- node i as a term, as a condition, as a generator's term
abbrev pub EmitPre : List ℕ → ℕ → ℕ → List ℕ → WriterState → Type 0
EmitPre s i D l st = Starts s i D st (words (quote (sem_s s i D (env_of l)) st.next))

abbrev pub ConditionAt : List ℕ → ℕ → ℕ → List ℕ → Bool → WriterState → Type 0
ConditionAt s i D l v st = Starts s i D st (words_c (condition (sem_s s i D (env_of l)) v st.next))

abbrev pub SourceAt : List ℕ → ℕ → ℕ → List ℕ → Bool → WriterState → Type 0
SourceAt s i D l v st = Starts s i D st (words_c (ranges (sem_s s i D (env_of l)) v st.next).clauses)

-- node i as the term of a qualifier, by whether that ranges
abbrev pub ClausePre : Bool → List ℕ → ℕ → ℕ → List ℕ → Bool → WriterState → Type 0
ClausePre true s i D l v st = SourceAt s i D l v st
ClausePre false s i D l v st = ConditionAt s i D l v st

-- qualifier x, and the qualifiers between lo and e
abbrev pub QualifierPre : List ℕ → ℕ → ℕ → List ℕ → Bool → WriterState → Type 0
QualifierPre s x D l v st = Starts s x D st (words_c (qual_of (sem_s s) D (env_of l) v st.next (nodes_of s x)))

abbrev pub QualifiersPre : List ℕ → ℕ → ℕ → ℕ → List ℕ → Bool → WriterState → Type 0
QualifiersPre s lo e D l v st = StartsQ s lo e D st (words_c (clauses_of (nodes_of s) (sem_s s) D (env_of l) v st.next (chain s lo e)))

-- the forms with any number of terms, and the kind and the argument of their word
pub data Headed : Form → ℕ → ℕ → Type 0 where
  a_record : Headed Record record_kind 0
  an_operator : (f : Fun) → Headed (Operator f) operator_kind (fun_arg (fun_of f))

abbrev pub Termed : Form → Type 0
Termed f = (k : ℕ) × (a : ℕ) × Headed f k a

abbrev pub HeadingIs : Form → Option (ℕ × ℕ) → Type 0
HeadingIs f (Some (k, a)) = Headed f k a
HeadingIs f None = Termed f → ⊥

pub record HeadingOfPost (f : Form) (r : Option (ℕ × ℕ)) : Type 0 where
  pub is : HeadingIs f r

-- a place as a term, its terms from term k on, as a condition, as a generator's term, as one condition, its qualifiers in
-- a copy
abbrev pub TermOf : List ℕ → Resolved → WriterState → Type 0
TermOf s h st = StartsAt s h st (words (quote (place_s s h) st.next))

abbrev pub FieldsPre : List ℕ → Resolved → ℕ → WriterState → Type 0
FieldsPre s h k st = StartsAt s h st (words_f (quotes (fields_s s h k) st.next))

abbrev pub ConditionOf : List ℕ → Resolved → Bool → WriterState → Type 0
ConditionOf s h v st = StartsAt s h st (words_c (condition (place_s s h) v st.next))

abbrev pub SourcePre : List ℕ → Resolved → Bool → WriterState → Type 0
SourcePre s h v st = StartsAt s h st (words_c (ranges (place_s s h) v st.next).clauses)

abbrev pub SinglePre : List ℕ → Resolved → WriterState → Type 0
SinglePre s h st = StartsAt s h st (words_c (one (quote (place_s s h) st.next)))

abbrev pub CopyOf : List ℕ → Resolved → Monoid → Bool → WriterState → Type 0
CopyOf s h m v st = StartsAt s h st (words_c (copy_s s h m v st.next))
