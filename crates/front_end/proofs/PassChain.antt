-- From one pass to the next: what each finds in scratch is what the one before it left there.
use mathlib.Core.Path.{◌≡◌, refl, sym, ap, subst, ◌∙◌}
use mathlib.Core.List.{List}
use mathlib.Core.Bool.{Bool, true}
use Prim.Native.Nat.{ℕ, zero, suc, ◌+◌, ◌-◌, ◌≤◌, ◌<◌}
use native.Mathlib.Omega.{arith}
use lib.ListN.{length, get_or}
use lib.Seq.{get_or-set_other}
use Rattle.spec_calculus.specs.Syntax.{Question, as_term}
use Rattle.spec_calculus.specs.Value.{Tables}
use Rattle.spec_encoding.specs.Record.{Bytes}
use Rattle.spec_encoding.specs.Reader.{Kind, kinds, unknown, number, truth_k, name_k, field_k, record', not, table_k, comprehension, generator, binding, condition, choice_k, open_k, two_terms}
use Rattle.spec_checks.specs.Scope.{names_hold}
use Rattle.base_tables.proofs.TableWords.{stored_same}
use Rattle.base_scratch.specs.Map.{nodes_at, binders_at, shapes_at}
use Rattle.front_words.specs.NodeWord.{node_kind_of, arg_of, node_word}
use Rattle.front_words.specs.NodeTree.{kind_at, arg_at}
use Rattle.front_words.proofs.NodeWords.{laid_same}
use Rattle.front_scope.specs.PassContract.{NamesHoldPost}
use Rattle.front_scope.specs.Binders.{binds_name, cleared, binders_of}
use Rattle.front_scope.proofs.Exits.{judged-is}
use Rattle.front_scope.proofs.BinderWords.{cleared-length, noted-up-length, binders-apart}
use Rattle.front_scope.proofs.OneBinder.{binders-right}
use Rattle.front_theory.specs.QuestionNodes.{no_names, Holds}
use Rattle.front_nodes.specs.NodeTable.{depth_at, nodes_of}
use Rattle.front_nodes.proofs.Binders.{Binding, each-bound}
use Rattle.front_nodes.proofs.TableHolds.{laid-holds}
use Rattle.front_nodes.proofs.Levels.{last-depth}
use Rattle.front_typing.specs.ShapeWords.{shaped, shaped_up_to, shape_of, shape_word, Judges}
use Rattle.front_typing.proofs.Exits.{shaped-length}
use Rattle.front_typing.proofs.QuestionTypes.{Checked}
use Rattle.front_end.specs.LoadedQuestion.{Loaded, ScopedQuestion, BehindKept}

-- ---- words that stay
pub apart-then : {s t u : List ℕ} → BehindKept s t → BehindKept t u → BehindKept s u
apart-then A B = record { long = B.long ∙ A.long; above = λ j l. B.above j l ∙ A.above j l }

module _ {d : Bytes} {T : Tables} {q : Question} {s s' : List ℕ} {n : ℕ} (long : length s' ≡ length s) where
  -- the tables' and the nodes' words
  pub loaded-same : ((j : ℕ) → j < binders_at → get_or s' j 0 ≡ get_or s j 0) → Loaded d T q s n → Loaded d T q s' n
  loaded-same front L =
      record {
        tables = L.tables;
        stored = stored_same s' (λ j h. front j (omega arith)) L.stored;
        laid = laid_same s s' 256 (λ i l. front (nodes_at + i) (omega arith)) (as_term q) 0 0 (omega (arith, L.count, L.few)) L.laid;
        count = L.count;
        some = L.some;
        few = L.few;
        small = L.small;
        deep = L.deep;
        long = omega (arith, long, L.long);
      }

  -- and the binders'
  pub ready-same : ((j : ℕ) → j < shapes_at → get_or s' j 0 ≡ get_or s j 0) → ScopedQuestion d T q s n → ScopedQuestion d T q s' n
  ready-same front R = record { loaded = loaded-same (λ j l. front j (omega arith)) R.loaded; names = R.names; bound = bound }
    where
      bound : (i : ℕ) → i < n → binds_name (kind_at s' i) ≡ true → (arg_at s' i < 256) × (get_or s' (binders_at + arg_at s' i) 0 ≡ i + 1)
      bound i l b =
          let few = R.loaded.few in
          let e : node_word s' i ≡ node_word s i = front (nodes_at + i) (omega arith) in
          let a : arg_at s' i ≡ arg_at s i = ap arg_of e in
          let w = R.bound i l (ap (λ (x : ℕ). binds_name (get_or kinds (node_kind_of x) unknown)) (sym e) ∙ b) in
          let z = w.0 in
          (omega (arith, a, z), ap (λ (x : ℕ). get_or s' (binders_at + x) 0) a ∙ front (binders_at + arg_at s i) (omega (arith, z)) ∙ w.1)

-- ---- 24, and the binders
binders-length : (s : List ℕ) (n : ℕ) → length (binders_of s n) ≡ length s
binders-length s n = noted-up-length (cleared s 256) n ∙ cleared-length s 256

pub binders-away : (s : List ℕ) (n : ℕ) → BehindKept s (binders_of s n)
binders-away s n = record { long = binders-length s n; above = λ j l. binders-apart j (λ y k e. omega arith) s n }

module _ {d : Bytes} {T : Tables} {q : Question} {s : List ℕ} {n : ℕ} (L : Loaded d T q s n) where
  pub names-said : {r : Bool} → NamesHoldPost s n r → r ≡ names_hold q
  names-said J = judged-is q L.laid (omega (arith, L.count)) L.small J

  pub made-ready : names_hold q ≡ true → ScopedQuestion d T q (binders_of s n) n
  made-ready h = record {
    loaded = loaded-same (binders-length s n) (λ j l. binders-apart j (λ y k e. omega arith) s n) L;
    names = h;
    bound = binders-right q L.laid (sym L.count) L.few (omega (arith, L.long)) h L.small;
  }

binding-binds : (K : Kind) → Binding K → binds_name K ≡ true
binding-binds generator b = refl
binding-binds binding b = refl
binding-binds number b = absurd b
binding-binds truth_k b = absurd b
binding-binds name_k b = absurd b
binding-binds field_k b = absurd b
binding-binds record' b = absurd b
binding-binds choice_k b = absurd b
binding-binds open_k b = absurd b
binding-binds (two_terms o) b = absurd b
binding-binds not b = absurd b
binding-binds comprehension b = absurd b
binding-binds table_k b = absurd b
binding-binds condition b = absurd b
binding-binds unknown b = absurd b

-- ---- 25 and 26
module _ {d : Bytes} {T : Tables} {q : Question} {s : List ℕ} {n : ℕ} (R : ScopedQuestion d T q s n) where
  pub ready-holds : Holds (nodes_of s) (depth_at s) (as_term q) (n - 1) 0 no_names
  ready-holds =
      let L = R.loaded in
      let e = L.count in
      subst (λ (x : ℕ). Holds (nodes_of s) (depth_at s) (as_term q) (x - 1) 0 no_names) (sym e)
      (laid-holds s q L.laid (omega (arith, e, L.few)) L.deep R.names
      (each-bound s q L.laid (λ y l b. R.bound y (omega (arith, e, l)) (binding-binds (kind_at s y) b))))

  pub ready-checked : Checked d T q s n
  ready-checked =
      let L = R.loaded in
      record { tables = L.tables; stored = L.stored; some = L.some; most = L.few; long = omega (arith, L.long); depth = depth_at s; holds = ready-holds }

  pub root-depth : depth_at s (n - 1) ≡ 0
  root-depth = ap (λ (x : ℕ). depth_at s (x - 1)) R.loaded.count ∙ last-depth s (as_term q) R.loaded.laid

module _ (b : Bool) (j : ℕ) where
  shaped-other : (s : List ℕ) (n : ℕ) → ((i : ℕ) → i < n → j ≡ shapes_at + i → ⊥) → get_or (shaped_up_to b s n) j 0 ≡ get_or s j 0
  unfolding shaped_up_to shaped
  shaped-other s zero h = refl
  shaped-other s (suc n) h =
      let t = shaped_up_to b s n in
      get_or-set_other t (shapes_at + n) j (shape_word (shape_of b t n)) 0 (h n (omega arith)) ∙ shaped-other s n (λ i l. h i (omega arith))

module _ {b : Bool} {s s' : List ℕ} {n : ℕ} {r : Bool} (J : Judges b s n s' r) where
  judges-long : length s' ≡ length s
  judges-long = ap length J.words ∙ shaped-length b s n

  pub judges-away : n ≤ 256 → BehindKept s s'
  judges-away h = record { long = judges-long; above = λ j l. ap (λ t. get_or t j 0) J.words ∙ shaped-other b j s n (λ i k e. omega arith) }

  pub judges-ready : {d : Bytes} {T : Tables} {q : Question} → ScopedQuestion d T q s n → ScopedQuestion d T q s' n
  judges-ready R = ready-same judges-long (λ j l. ap (λ t. get_or t j 0) J.words ∙ shaped-other b j s n (λ i k e. omega arith)) R
