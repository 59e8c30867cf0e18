-- The inner collections that a row has passed were told, and each ends where the text of what was told up to it ends.
use mathlib.Core.Path.{◌≡◌, refl, sym, ap, subst, ◌∙◌}
use mathlib.Core.Logic.{inl, inr}
use mathlib.Core.List.{List, [], ◌∷◌, ◌++◌, append_assoc, append-nil}
use mathlib.Core.Bool.{Bool, true, false}
use Prim.Native.Nat.{ℕ, ◌+◌, ◌<◌}
use lib.ListN.{length}
use Rattle.spec_calculus.specs.Lists.{pick}
use Rattle.spec_calculus.specs.Syntax.{Monoid}
use Rattle.spec_calculus.proofs.Lists.{All, all-front}
use Rattle.spec_encoding.specs.Record.{Bytes}
use Rattle.spec_plan.specs.Plan.{PTerm, place}
use Rattle.spec_plan.specs.Operators.{val}
use Rattle.form_words.specs.NodeWord.{node_at}
use Rattle.answer_writer.specs.declared.WriteForm.TheVariants as Sh
use Rattle.answer_writer.specs.Shapes.{shape_of}
use Rattle.plan_machine.specs.Program.{Program, inner, end_of}
use Rattle.plan_machine.specs.Machine.{value_from}
use Rattle.plan_machine.specs.MachineWords.{Words, Path, start, loop_p, in_p, past_p, before, pos, Valid, row}
use Rattle.plan_machine.specs.AnswerText.{said, upto, head_parts, width, writes, told, text_back, text_into}
use Rattle.plan_machine.proofs.HeadOrder.{Begins, Steady, When, tidy-path}
use Rattle.plan_machine.proofs.TextOverMoves.{row-width, said-grown, past-text, told-ahead}
use Rattle.plan_machine.proofs.CollectionSpans.{Spans, Keeps, when-in}
use Rattle.plan_links.specs.Spots.{Spots, comp_of}
use Rattle.form_env.specs.Environment.{tables_in}
use Rattle.base_signed.specs.Limit.{number_limit}
use Rattle.exec_simulation.specs.WiredProgram.{end_i, ids, id_at}
use Rattle.exec_simulation.specs.PathPlaces.{inside, spots_at}
use Rattle.exec_simulation.specs.SimulationRelation.{LinkedPlan}
use Rattle.exec_simulation.proofs.PathWords.{number-low, end-id, comp-node}
use Rattle.exec_initial.specs.PassedComprehensions.{passes, Has}
use Rattle.exec_initial.proofs.CollectionNodes.{shape-collects}

begins-on : (ts us vs : List PTerm) → Begins ts us → Begins us vs → Begins ts vs
begins-on ts us vs a b = (a.0 ++ b.0, b.1 ∙ ap (λ (l : List PTerm). l ++ b.0) a.1 ∙ append_assoc ts a.0 b.0)

-- what of a head is told up to and with place n
abbrev pub upto_with : ℕ → Program → List PTerm
upto_with n x = upto n (head_parts x) ++ place n ∷ []

-- the collection at j, in place n, is told, and ends with the text of what is told up to it
pub record ToldAt {d : Bytes} (Q : LinkedPlan d) (w : Words) (r : Spans) (π : Path) (x : Program) (n j : ℕ) : Type 0 where
  pub begins : Begins (upto_with n x) (told Q.program π)
  pub operator : ℕ
  pub low : operator < length (ids Q.spots)
  pub id : id_at Q.spots operator ≡ end_i j
  pub ends : r.upto operator ≡ length (text_back number_limit (tables_in d) Q.program w π ++ said number_limit (row (tables_in d) w π) (upto_with n x))

module _ {d : Bytes} (Q : LinkedPlan d) (w : Words) (r : Spans) where
  abbrev q : Program
  q = Q.program

  abbrev sp : Spots
  sp = Q.spots

  -- the one passed last
  here : (π : Path) (i p : Program) → Valid q π (inner i p) → When (writes q (in_p π i p)) (r.upto (pos π + before i) ≡ length (text_into number_limit (tables_in d) q w (past_p π i p)))
      → shape_of (node_at Q.base (comp_of (inside (spots_at sp π)))) ≡ Sh.Collection → ToldAt Q w r (past_p π i p) p (width π) (comp_of (inside (spots_at sp π)))
  unfolding told pick pos spots_at
  here π i p v k c =
      let m : Monoid = (end_of i).monoid in
      let g : writes q (in_p π i p) ≡ true = Q.typed π i p v ∙ shape-collects m (sym (ap shape_of (comp-node Q (in_p π i p) i (refl, v))) ∙ c) in
      let t : told q (past_p π i p) ≡ upto_with (width π) p = ap (λ b. pick b (upto_with (width π) p) (told q π)) g in
      record {
        begins = ([], t ∙ sym (append-nil (upto_with (width π) p)));
        operator = pos π + before i;
        low = number-low Q (in_p π i p) i (refl, v);
        id = end-id Q (in_p π i p) i (refl, v);
        ends = when-in (writes q (in_p π i p)) g k ∙ ap (λ (ts : List PTerm). length (text_back number_limit (tables_in d) q w (past_p π i p) ++ said number_limit (row (tables_in d) w (past_p π i p)) ts)) t;
      }

  -- those before it
  grows : (π : Path) (i p : Program) → Valid q π (inner i p) → Begins (told q π) (told q (past_p π i p))
  unfolding told pick
  grows π i p v = go (writes q (in_p π i p)) refl
    where
      go : (b : Bool) → writes q (in_p π i p) ≡ b → Begins (told q π) (pick b (upto_with (width π) p) (told q π))
      go true e = begins-on (told q π) (upto (width π) (head_parts p)) (upto_with (width π) p) (told-ahead number_limit (tables_in d) q π i p w v Q.tidy e) (place (width π) ∷ [], refl)
      go false e = ([], sym (append-nil (told q π)))

  on : (π : Path) (i p : Program) (n j : ℕ) → Valid q π (inner i p) → ToldAt Q w r π (inner i p) n j → ToldAt Q w r (past_p π i p) p n j
  unfolding end_of row
  on π i p n j v E =
      let ts : List PTerm = upto_with n p in
      let f : All (Steady (width π)) ts = all-front (Steady (width π)) ts E.begins.0 (subst (All (Steady (width π))) E.begins.1 (tidy-path q Q.tidy π (inner i p) v).0) in
      record {
        begins = begins-on ts (told q π) (told q (past_p π i p)) E.begins (grows π i p v);
        operator = E.operator;
        low = E.low;
        id = E.id;
        ends = E.ends ∙ ap length (ap (λ y. y ++ said number_limit (row (tables_in d) w π) ts) (sym (past-text number_limit (tables_in d) q π i p w))
            ∙ ap (λ y. text_back number_limit (tables_in d) q w (past_p π i p) ++ y) (sym (said-grown number_limit (width π) (row (tables_in d) w π) (val (value_from i (w.acc (pos π + before i))) ∷ []) ts (row-width (tables_in d) w π) f)));
      }

  pub told-pass : (π : Path) (x : Program) → Valid q π x → Keeps number_limit (tables_in d) q true w r π → (n j : ℕ) → Has n j (passes sp π) → shape_of (node_at Q.base j) ≡ Sh.Collection → ToldAt Q w r π x n j
  unfolding passes
  told-pass start x v k n j h c = absurd h
  told-pass (loop_p π a t p) x v k n j h c = absurd h
  told-pass (in_p π i p) x v k n j h c = absurd h
  told-pass (past_p π i p) x v k n j (inl e) c = rw (v.0, e.0, e.1) (here π i p v.1 k.0 (subst (λ (y : ℕ). shape_of (node_at Q.base y) ≡ Sh.Collection) e.1 c))
  told-pass (past_p π i p) x v k n j (inr h) c = rw v.0 (on π i p n j v.1 (told-pass π (inner i p) v.1 k.1 n j h c))
