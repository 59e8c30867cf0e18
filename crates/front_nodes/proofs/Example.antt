-- A question in the words: the premises of `laid-holds` hold of it, and its table is as it should be. The question:
-- bag { x.1 | x ← table 0, y := x.0, y < 5 }, where x is name 7 and y is name 9.
use mathlib.Core.Path.{◌≡◌, refl}
use mathlib.Core.List.{List, [], ◌∷◌, ◌++◌, map}
use mathlib.Core.Bool.{true}
use Prim.Native.Nat.{ℕ}
use native.Mathlib.Omega.{arith}
use lib.ListN.{replicate}
use lib.IntN.{pos}
use Rattle.spec_calculus.specs.Lists.{pick, upd}
use Rattle.spec_calculus.specs.Syntax.{bag, of, less, num, name, field, bin, table, qnil, gen, bind, cond, Question, as_term}
use Rattle.spec_checks.specs.Scope.{in_scope, binders, member, distinct, names_hold}
use Rattle.front_words.specs.NodeWord.{pack}
use Rattle.front_words.specs.LaidTree.{nodes, Laid}
use Rattle.front_theory.specs.NodeTable as No
use Rattle.front_theory.specs.QuestionNodes.{no_names, Holds}
use Rattle.front_words.specs.Binders.{binder_word}
use Rattle.front_nodes.specs.NodeTable.{depth_at, siblings, chain_upto, above, name_by, nodes_of}
use Rattle.front_nodes.specs.QuestionTree.{BindersRight, nesting}
use Rattle.front_nodes.proofs.TableHolds.{laid-holds}

abbrev question : Question
question =
    record {
      monoid = of bag;
      quals = gen 7 (table 0) (bind 9 (field 0 (name 7)) (cond (bin less (name 9) (num (pos 5))) qnil));
      head = field 1 (name 7);
    }

-- kind, argument, first node, depth
abbrev node_words : List ℕ
node_words =
    pack 15 0 0 1 ∷ pack 16 7 0 1 ∷ pack 3 7 2 1 ∷ pack 4 0 2 1 ∷ pack 17 9 2 1 ∷ pack 3 9 5 1 ∷ pack 1 2147483653 6 1 ∷ pack 10 0 5 1 ∷ pack 18 0 5 1
    ∷ pack 3 7 9 1 ∷ pack 4 1 9 1 ∷ pack 14 2 0 0 ∷ []

-- name 7 is bound by node 1, name 9 by node 4
abbrev scratch : List ℕ
scratch = replicate 16 0 ++ node_words ++ replicate 251 0 ++ (2 ∷ 0 ∷ 5 ∷ [])

lies : Laid scratch 0 0 (as_term question)
unfolding nodes pick
lies = (
  (
    (record { kind = refl; start = refl; depth = refl }, refl),
    record { kind = refl; start = refl; depth = refl },
    refl,
    (
      ((record { kind = refl; start = refl; depth = refl }, refl), record { kind = refl; start = refl; depth = refl }, refl),
      record { kind = refl; start = refl; depth = refl },
      refl,
      (((record { kind = refl; start = refl; depth = refl }, refl), (record { kind = refl; start = refl; depth = refl }, refl), record { kind = refl; start = refl; depth = refl }), record { kind = refl; start = refl; depth = refl }, tt),
    ),
  ),
  ((record { kind = refl; start = refl; depth = refl }, refl), record { kind = refl; start = refl; depth = refl }, refl),
  record { kind = refl; start = refl; depth = refl },
  refl,
  omega arith,
  omega arith,
)

bound : BindersRight scratch question
unfolding nodes binder_word pick
bound = ((tt, refl, (tt, refl, ((tt, tt), tt))), tt)

-- its decoded nodes
decoded : map (nodes_of scratch) (0 ∷ 1 ∷ 2 ∷ 3 ∷ 4 ∷ 5 ∷ 6 ∷ 7 ∷ 8 ∷ 9 ∷ 10 ∷ 11 ∷ 12 ∷ [])
    ≡ No.ntable 0 ∷ No.ngen 0 ∷ No.nname 1 0 ∷ No.nfield 0 2 ∷ No.nbind 3 ∷ No.nname 4 0 ∷ No.nnum (pos 5) ∷ No.nbin less 5 6 ∷ No.ncond 7 ∷ No.nname 1 0 ∷ No.nfield 1 9
    ∷ No.ncomp (of bag) (1 ∷ 4 ∷ 8 ∷ []) 10 ∷ No.nbad ∷ []
unfolding nodes_of name_by above chain_upto siblings binder_word pick
decoded = refl

-- its names hold, it is small enough, and so its last node holds it
names : names_hold question ≡ true
unfolding names_hold in_scope binders member distinct upd
names = refl

held : Holds (nodes_of scratch) (depth_at scratch) (as_term question) 11 0 no_names
unfolding nodes nesting
held = laid-holds scratch question lies (omega arith) (omega arith) names bound
