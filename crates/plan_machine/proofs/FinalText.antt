-- What an accumulator of a collection holds is a collection, over all moves; and the text at the end is the answer's words.
use native.Mathlib.Omega.{arith}
use mathlib.Core.Path.{◌≡◌, refl, sym, ap, ap₂, ◌∙◌, subst}
use mathlib.Core.Bool.{Bool, true, false}
use Prim.Native.Nat.{ℕ, suc, ◌+◌, ◌<◌}
use lib.IntN.{pos}
use lib.ListN.{length, length-append}
use Rattle.spec_calculus.specs.Lists.{pick, upd}
use Rattle.spec_calculus.specs.Value.{Value, Values, num, truth, rec, coll, vnil, vcons, Tables}
use Rattle.spec_calculus.specs.Monoid.{start}
use Rattle.spec_calculus.proofs.Lists.{upd-hit}
use Rattle.spec_plan.specs.Operators.{eval_p, meets}
use Rattle.spec_outcome.specs.WrittenForm.{words, words_l}
use Rattle.plan_machine.specs.Program.{End, Program, end, loop, inner, end_of}
use Rattle.plan_machine.specs.Machine.{merge, takes, zero_of}
use Rattle.plan_machine.specs.MachineWords.{Words, seek, Path, loop_p, in_p, past_p, before, Valid, last, row, ended, opened}
use Rattle.plan_machine.specs.MachineWords as Fl
use Rattle.plan_machine.specs.AnswerText.{words_to, words_to_l, collects}
use Rattle.plan_machine.proofs.Moves.{upd-miss, last-is}
use Rattle.plan_machine.proofs.HeadOrder.{When}
use Rattle.plan_machine.proofs.TextOverMoves.{IsCollection, merge-collection, start-collection}

-- where a comprehension that is open collects, its accumulator is a collection
abbrev Gathered : End → Value → Type 0
Gathered e a = When (collects e.monoid) (IsCollection a)

abbrev pub Gathers : Program → Words → Path → Type 0
Gathers q w Fl.start = Gathered (end_of q) (w.acc (before q))
Gathers q w (loop_p π s c p) = Gathers q w π
Gathers q w (in_p π i p) = Gathered (end_of i) (w.acc (Fl.pos π + before i)) × Gathers q w π
Gathers q w (past_p π i p) = Gathers q w π

module _ (T : Tables) (q : Program) where
  -- the accumulator in use, and any words that have the same behind it
  gathers-last : (π : Path) (x : Program) (w : Words) → Valid q π x → Gathers q w π → Gathered (end_of x) (w.acc (last q π))
  unfolding last end_of
  gathers-last Fl.start x w v g = subst (λ y. Gathered (end_of y) (w.acc (before q))) (sym v) g
  gathers-last (loop_p π s c p) x w v g = subst (λ y. Gathered (end_of y) (w.acc (last q π))) (sym v.0) (gathers-last π (loop s c p) w v.1 g)
  gathers-last (in_p π i p) x w v g = subst (λ y. Gathered (end_of y) (w.acc (Fl.pos π + before i))) (sym v.0) g.0
  gathers-last (past_p π i p) x w v g = subst (λ y. Gathered (end_of y) (w.acc (last q π))) (sym v.0) (gathers-last π (inner i p) w v.1 g)

  gathers-set : (π : Path) (x : Program) (w y : Words) → Valid q π x → Gathered (end_of x) (y.acc (last q π)) → ((j : ℕ) → last q π < j → w.acc j ≡ y.acc j) → Gathers q w π → Gathers q y π
  unfolding last end_of before
  gathers-set Fl.start x w y v a h g = subst (λ z. Gathered (end_of z) (y.acc (before q))) v a
  gathers-set (loop_p π s c p) x w y v a h g = gathers-set π (loop s c p) w y v.1 (subst (λ z. Gathered (end_of z) (y.acc (last q π))) v.0 a) h g
  gathers-set (in_p π i p) x w y v a h g =
      let l : Fl.pos π + before i < last q π = omega (arith, last-is T q π (inner i p) v.1) in
      let b : Gathered (end_of p) (y.acc (last q π)) = subst (Gathered (end_of p)) (h (last q π) l) (gathers-last π (inner i p) w v.1 g.1) in
      (subst (λ z. Gathered (end_of z) (y.acc (Fl.pos π + before i))) v.0 a, gathers-set π (inner i p) w y v.1 b (λ j k. h j (omega arith)) g.1)
  gathers-set (past_p π i p) x w y v a h g = gathers-set π (inner i p) w y v.1 (subst (λ z. Gathered (end_of z) (y.acc (last q π))) v.0 a) h g

  -- a cursor moves
  pub gathers-seek : (π : Path) (x : Program) (w : Words) (o n : ℕ) → Valid q π x → Gathers q w π → Gathers q (seek o n w) π
  gathers-seek π x w o n v g = gathers-set π x w (seek o n w) v (gathers-last π x w v g) (λ j k. refl) g

  zero-gathered : (i : Program) → Gathered (end_of i) (zero_of i)
  unfolding zero_of
  zero-gathered i = go (collects (end_of i).monoid) refl
    where
      go : (b : Bool) → collects (end_of i).monoid ≡ b → When b (IsCollection (start (end_of i).monoid))
      go true h = start-collection (end_of i).monoid h
      go false h = tt

  pub gathers-begin : (w : Words) → w.acc (before q) ≡ zero_of q → Gathers q w Fl.start
  gathers-begin w h = subst (Gathered (end_of q)) (sym h) (zero-gathered q)

  -- an inner comprehension is opened
  pub gathers-opened : (π : Path) (i p : Program) (w : Words) → Valid q π (inner i p) → Gathers q w π → Gathers q (opened i π w) (in_p π i p)
  unfolding before end_of
  gathers-opened π i p w v g =
      let n : ℕ = Fl.pos π + before i in
      let l : n < last q π = omega (arith, last-is T q π (inner i p) v) in
      let far : (j : ℕ) → n < j → (opened i π w).acc j ≡ w.acc j = λ j k. upd-miss n (zero_of i) w.acc j (λ e. omega (arith, e, k)) in (
        subst (Gathered (end_of i)) (sym (upd-hit n (zero_of i) w.acc)) (zero-gathered i),
        gathers-set π (inner i p) w (opened i π w) v (subst (Gathered (end_of p)) (sym (far (last q π) l)) (gathers-last π (inner i p) w v g)) (λ j k. sym (far j (omega (arith, l, k)))) g,
      )

  takes-gathered : (e : End) (π : Path) (w : Words) (a : Value) → Gathered e a → Gathered e (takes e (row T w π) a)
  unfolding takes
  takes-gathered e π w a h = go (collects e.monoid) refl (meets e.condition (row T w π)) h
    where
      go : (b : Bool) → collects e.monoid ≡ b → (d : Bool) → When b (IsCollection a) → When b (IsCollection (pick d (merge e.monoid a (eval_p e.head (row T w π))) a))
      go true k true h = unfold pick in merge-collection (eval_p e.head (row T w π)) e.monoid k a
      go true k false h = unfold pick in h
      go false k d h = tt

  -- a nest or the reduce takes a row
  pub gathers-ended : (π : Path) (e : End) (w : Words) → Valid q π (end e) → Gathers q w π → Gathers q (ended T e π w) π
  unfolding before end_of
  gathers-ended π e w v g =
      let l : Fl.pos π ≡ last q π = omega (arith, last-is T q π (end e) v) in
      let a : Value = w.acc (Fl.pos π) in
      let b : Value = takes e (row T w π) a in
      gathers-set π (end e) w (ended T e π w) v
      (subst (Gathered e) (sym (ap (upd (Fl.pos π) b w.acc) (sym l) ∙ upd-hit (Fl.pos π) b w.acc)) (takes-gathered e π w a (subst (λ i. Gathered e (w.acc i)) (sym l) (gathers-last π (end e) w v g))))
      (λ j k. sym (upd-miss (Fl.pos π) b w.acc j (λ x. omega (arith, x, l, k)))) g

  -- an inner collection that is used up
  pub gathers-shut : (π : Path) (i p : Program) (w : Words) → collects (end_of i).monoid ≡ true → Gathers q w (in_p π i p) → IsCollection (w.acc (Fl.pos π + before i))
  gathers-shut π i p w h g = subst (λ b. When b (IsCollection (w.acc (Fl.pos π + before i)))) h g.0

-- the words are as many where a count is cut
module _ (m : ℕ) where
  mutual
    unfolding words_to words

    pub words-length : (v : Value) → length (words_to m v) ≡ length (words v)
    words-length (num z) = refl
    words-length (truth b) = refl
    words-length (rec vs) = words_l-length vs
    words-length (coll vs) = ap suc (words_l-length vs)

    words_l-length : (vs : Values) → length (words_to_l m vs) ≡ length (words_l vs)
    words_l-length vnil = refl
    words_l-length (vcons v vs) = length-append (words_to m v) (words_to_l m vs) ∙ ap₂ ◌+◌ (words-length v) (words_l-length vs) ∙ sym (length-append (words v) (words_l vs))
