-- Plans and streams written out.
use mathlib.Core.Path.{◌≡◌, refl}
use mathlib.Core.List.{List, [], ◌∷◌}
use mathlib.Core.Bool.{true}
use Prim.Native.Nat.{ℕ}
use lib.IntN.{pos}
use Rattle.spec_calculus.specs.Lists.{bind_l, guard, pick, upd}
use Rattle.spec_calculus.specs.Syntax.{list, bag, of, sum, plus, equal}
use Rattle.spec_calculus.specs.Syntax as Sy
use Rattle.spec_calculus.specs.Value.{Value, Tables, Table, vnil, vcons, as_int, as_bool, elems, nth, field_of, eq_z, bin_v, rows_of}
use Rattle.spec_calculus.specs.Value as Va
use Rattle.spec_calculus.specs.Monoid.{Fold, start, step, total, finish, fold_by, ordered, canonical}
use Rattle.spec_normal_form.specs.Form.{NormalForm, num, cell, rec, bin, comp, fnil, fcons, done, gen, cond}
use Rattle.spec_plan.specs.Plan.{pnum, ptruth, place, pfield, prec, pbin, pnil, pcons, table, join, outer, nest, plan}
use Rattle.spec_plan.specs.Operators.{row, val, pad, value_of, at, eval_p, meets, whole, source_rows, numbered, matches, kept, matches_or_pad, number, same, enter, heads, groups, close, apply, exec, one, plan_value}
use Rattle.spec_plan.specs.Planner.{free, mentions, next, term, next_l, term_l, joined, conj, source, gens_of, conds_of, or_unit, plan_gens, sift, early, late, slot, slots, after, mentioned, last_of, home, grows_at, grows, ops, no_slots, plan_of}

pub pair : ℕ → ℕ → Value
pair a b = Va.rec (vcons (Va.num (pos a)) (vcons (Va.num (pos b)) vnil))

pub bag_of : List Value → Table
bag_of l = record { kind = bag; columns = 2; bounds = 2147483648 ∷ 2147483648 ∷ []; rows = l }

-- berths, two of them alike; bollards with the berth that they stand at; ropes with the bollard that they hang on
pub harbour : Tables
unfolding pair bag_of
harbour = bag_of (pair 1 90 ∷ pair 2 70 ∷ pair 2 70 ∷ pair 3 80 ∷ []) ∷ bag_of (pair 1 50 ∷ pair 1 60 ∷ pair 3 70 ∷ []) ∷ bag_of (pair 50 5 ∷ pair 50 6 ∷ []) ∷ []

-- for each berth the sum, over its bollards, of 1,000 and the sum over the bollard's ropes
pub deep : NormalForm
deep = record {
  monoid = of list;
  clauses = gen 0 0 done;
  head = rec (fcons (cell 0 0) (fcons
      (comp sum (gen 1 1 (cond (bin equal (cell 0 1) (cell 0 0)) done)) (bin plus (num (pos 1000)) (comp sum (gen 2 2 (cond (bin equal (cell 0 2) (cell 1 1)) done)) (cell 1 2)))) fnil));
}

opens : Unit {0}
unfolding pair bag_of harbour deep bind_l guard pick upd as_int as_bool elems nth field_of eq_z bin_v rows_of start step total finish fold_by ordered canonical value_of at eval_p meets whole source_rows numbered matches kept matches_or_pad number same enter heads groups close apply exec one plan_value free mentions next term next_l term_l joined conj source gens_of conds_of or_unit plan_gens sift early late slot slots after mentioned last_of home grows_at grows ops plan_of
opens = tt

pub deep-plan : plan_of deep ≡ plan
    (join (table 0) (ptruth true)
    ∷ outer (table 1) (pbin equal (pfield 0 (place 1)) (pfield 0 (place 0)))
    ∷ outer (table 2) (pbin equal (pfield 0 (place 2)) (pfield 1 (place 1)))
    ∷ nest 2 sum (pfield 1 (place 2)) (ptruth true)
    ∷ nest 1 sum (pbin plus (pnum (pos 1000)) (place 2)) (ptruth true)
    ∷ [])
    (of list) (prec (pcons (pfield 0 (place 0)) (pcons (place 1) pnil))) (ptruth true)
unfolding opens
deep-plan = refl

-- the stream behind its two outers: a bollard without ropes, two like berths without bollards
pub deep-stream : (F : Fold) → exec F harbour
    (join (table 0) (ptruth true)
    ∷ outer (table 1) (pbin equal (pfield 0 (place 1)) (pfield 0 (place 0)))
    ∷ outer (table 2) (pbin equal (pfield 0 (place 2)) (pfield 1 (place 1)))
    ∷ [])
    one
    ≡ (row 0 (pair 1 90) ∷ row 0 (pair 1 50) ∷ row 0 (pair 50 5) ∷ [])
    ∷ (row 0 (pair 1 90) ∷ row 0 (pair 1 50) ∷ row 1 (pair 50 6) ∷ [])
    ∷ (row 0 (pair 1 90) ∷ row 1 (pair 1 60) ∷ pad ∷ [])
    ∷ (row 1 (pair 2 70) ∷ pad ∷ pad ∷ [])
    ∷ (row 2 (pair 2 70) ∷ pad ∷ pad ∷ [])
    ∷ (row 3 (pair 3 80) ∷ row 2 (pair 3 70) ∷ pad ∷ [])
    ∷ []
unfolding opens
deep-stream F = refl

-- "or already padded anywhere, is kept once with a pad": also by an outer whose condition every table row would meet
pub padded-once : (F : Fold) → exec F harbour
    (join (table 0) (ptruth true)
    ∷ outer (table 1) (pbin equal (pfield 0 (place 1)) (pfield 0 (place 0)))
    ∷ outer (table 2) (ptruth true)
    ∷ [])
    one
    ≡ (row 0 (pair 1 90) ∷ row 0 (pair 1 50) ∷ row 0 (pair 50 5) ∷ [])
    ∷ (row 0 (pair 1 90) ∷ row 0 (pair 1 50) ∷ row 1 (pair 50 6) ∷ [])
    ∷ (row 0 (pair 1 90) ∷ row 1 (pair 1 60) ∷ row 0 (pair 50 5) ∷ [])
    ∷ (row 0 (pair 1 90) ∷ row 1 (pair 1 60) ∷ row 1 (pair 50 6) ∷ [])
    ∷ (row 1 (pair 2 70) ∷ pad ∷ pad ∷ [])
    ∷ (row 2 (pair 2 70) ∷ pad ∷ pad ∷ [])
    ∷ (row 3 (pair 3 80) ∷ row 2 (pair 3 70) ∷ row 0 (pair 50 5) ∷ [])
    ∷ (row 3 (pair 3 80) ∷ row 2 (pair 3 70) ∷ row 1 (pair 50 6) ∷ [])
    ∷ []
unfolding opens
padded-once F = refl

pub deep-value : plan_value canonical harbour (plan_of deep) ≡ Va.coll (vcons (pair 1 2011) (vcons (pair 2 0) (vcons (pair 2 0) (vcons (pair 3 1000) vnil))))
unfolding opens
deep-value = refl

-- a condition goes to the last generator that it mentions, or to the first
pub last-mentioned : plan_of (record { monoid = sum; clauses = gen 0 0 (gen 1 1 (cond (bin equal (cell 0 1) (cell 0 0)) (cond (bin equal (cell 0 0) (num (pos 1))) (cond (bin equal (num (pos 1)) (num (pos 1))) done)))); head = cell 1 1 })
    ≡ plan
    (join (table 0) (pbin Sy.and (pbin equal (pfield 0 (place 0)) (pnum (pos 1))) (pbin equal (pnum (pos 1)) (pnum (pos 1))))
    ∷ join (table 1) (pbin equal (pfield 0 (place 1)) (pfield 0 (place 0)))
    ∷ [])
    sum (pfield 1 (place 1)) (ptruth true)
unfolding opens
last-mentioned = refl

-- Rows that are the same, row numbers and all, become one: so `unnest` asks that neighbours differ.
pub melts : exec canonical harbour (ops (comp sum (gen 1 1 done) (cell 1 1)) 1 (upd 0 (place 0) no_slots)) ((row 0 (pair 1 90) ∷ []) ∷ (row 0 (pair 1 90) ∷ []) ∷ []) ≡ (row 0 (pair 1 90) ∷ val (Va.num (pos 360)) ∷ []) ∷ []
unfolding opens
melts = refl
