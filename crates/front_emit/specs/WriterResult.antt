-- What a writer leaves behind: the words of a form in scratch from its state's place on, and the state behind them.
use Rattle.std.specs.Prelude.{◌≡◌, List, Bool, true, false, ℕ, ◌+◌, ◌-◌, ◌*◌, set}
use Rattle.spec_calculus.specs.Lists.{pick}
use Rattle.spec_normal_form.specs.Form as Nf
use Rattle.spec_normal_form.specs.Normal.{Sem, Sems, quote, one}
use Rattle.front_theory.specs.NodeTable.{Node, Nodes}
use Rattle.front_theory.specs.NodeForms.{Env, At}
use Rattle.front_theory.specs.FormWords.{Label, Word, wnum, wtruth, wrow, wcell, wrec, wnegate, wcond, wbin, wapp, wcomp, wgen}
use Rattle.front_theory.specs.Writer.{state, tell_c, Emits, EmitsF, EmitsC, EmitsG, EmitsN, EmitsQ}
use Rattle.front_theory.specs.Writer as No
use Rattle.form_words.specs.NodeWord.{pack}
use Rattle.form_words.specs.FormWords.{number_arg}
use Rattle.form_words.specs.Kinds.{number_kind, truth_kind, row_kind, cell_kind, record_kind, binary_kind, negation_kind, comprehension_kind, generator_kind, condition_kind, operator_kind, pair_span}
use Rattle.base_scratch.specs.Map.{form_at}
use Rattle.front_emit.specs.declared.WriterState.{WriterState}
use Rattle.base_syntax.specs.Numbers.{op_arg, fun_arg, monoid_arg}

-- a word in scratch: kind, how many words are below it, argument
abbrev pub kind_in : Label → ℕ
kind_in (wnum z) = number_kind
kind_in (wtruth b) = truth_kind
kind_in (wrow g) = row_kind
kind_in (wcell c g) = cell_kind
kind_in wrec = record_kind
kind_in (wbin o) = binary_kind
kind_in wnegate = negation_kind
kind_in (wcomp m) = comprehension_kind
kind_in (wgen g k) = generator_kind
kind_in wcond = condition_kind
kind_in (wapp f) = operator_kind

abbrev pub arg_in : Label → ℕ
arg_in (wnum z) = number_arg z
arg_in (wtruth b) = pick b 1 0
arg_in (wrow g) = g
arg_in (wcell c g) = pair_span * c + g
arg_in wrec = 0
arg_in (wbin o) = op_arg o
arg_in wnegate = 0
arg_in (wcomp m) = monoid_arg m
arg_in (wgen g k) = pair_span * g + k
arg_in wcond = 0
arg_in (wapp f) = fun_arg f

abbrev pub packed : Word → ℕ
packed w = pack (kind_in w.label) w.below (arg_in w.label)

-- scratch, and the next place among the words of the normal form
pub record Buffer : Type 0 where
  pub words : List ℕ
  pub place : ℕ

abbrev pub buffer : List ℕ → ℕ → Buffer
buffer s p = record { words = s; place = p }

unfoldable pub put : Word → Buffer → Buffer
put w b = buffer (set b.words (form_at + b.place) (packed w)) (b.place + 1)

-- scratch with the writer's place, and its next generator number
abbrev pub state_of : List ℕ → WriterState → No.Writer Buffer
state_of s st = state (buffer s st.place) st.next

-- behind a word, and behind a generator's word
abbrev pub behind : WriterState → WriterState
behind st = record { place = st.place + 1; next = st.next }

abbrev pub numbered : WriterState → WriterState
numbered st = record { place = st.place + 1; next = st.next + 1 }

-- From scratch s and state st to scratch s' and state r, one word was written.
pub record LeafPost (k a : ℕ) (s : List ℕ) (st : WriterState) (s' : List ℕ) (r : WriterState) : Type 0 where
  pub is : s' ≡ set s (form_at + st.place) (pack k 0 a)
  pub on : r ≡ behind st

-- the word at p, below which the words end at e
pub record ClosePost (k a p e : ℕ) (s s' : List ℕ) : Type 0 where
  pub is : s' ≡ set s (form_at + p) (pack k (e - (p + 1)) a)

pub record GeneratorPost (k : ℕ) (s : List ℕ) (st : WriterState) (s' : List ℕ) (r : WriterState) : Type 0 where
  pub is : s' ≡ set s (form_at + st.place) (pack generator_kind 0 (pair_span * st.next + k))
  pub on : r ≡ numbered st

-- Just the words of this were written: as a term, as the terms of a record or an operator, as a condition, as a generator's term.
pub record Emitted (d : Sem) (s : List ℕ) (st : WriterState) (s' : List ℕ) (r : WriterState) : Type 0 where
  pub is : Emits put d (state_of s st) (state_of s' r)

pub record FieldsPost (ds : Sems) (s : List ℕ) (st : WriterState) (s' : List ℕ) (r : WriterState) : Type 0 where
  pub is : EmitsF put ds (state_of s st) (state_of s' r)

pub record EmittedC (d : Sem) (v : Bool) (s : List ℕ) (st : WriterState) (s' : List ℕ) (r : WriterState) : Type 0 where
  pub is : EmitsC put d v (state_of s st) (state_of s' r)

pub record SourcePost (d : Sem) (v : Bool) (s : List ℕ) (st : WriterState) (s' : List ℕ) (r : WriterState) : Type 0 where
  pub is : EmitsG put d v (state_of s st) (state_of s' r)

-- as the term of a qualifier, by whether that ranges
abbrev pub ClausePost : Bool → Sem → Bool → List ℕ → WriterState → List ℕ → WriterState → Type 0
ClausePost true d v s st s' r = SourcePost d v s st s' r
ClausePost false d v s st s' r = EmittedC d v s st s' r

-- one qualifier, and qualifiers in order
pub record QualifierPost (A : At) (y : Node) (D : ℕ) (e : Env) (v : Bool) (s : List ℕ) (st : WriterState) (s' : List ℕ) (r : WriterState) : Type 0 where
  pub is : EmitsN put A y D e v (state_of s st) (state_of s' r)

pub record EmittedQ (N : Nodes) (A : At) (cs : List ℕ) (D : ℕ) (e : Env) (v : Bool) (s : List ℕ) (st : WriterState) (s' : List ℕ) (r : WriterState) : Type 0 where
  pub is : EmitsQ put N A cs D e v (state_of s st) (state_of s' r)

-- one condition, whatever does not give way
pub record SinglePost (d : Sem) (s : List ℕ) (st : WriterState) (s' : List ℕ) (r : WriterState) : Type 0 where
  pub is : state_of s' r ≡ tell_c put (one (quote d st.next)) (state_of s st)

-- the condition that is never met
pub record NeverPost (s : List ℕ) (st : WriterState) (s' : List ℕ) (r : WriterState) : Type 0 where
  pub is : state_of s' r ≡ tell_c put (one (Nf.truth false)) (state_of s st)
