-- The joins and outers of the way that have offered a row still have, whatever a move writes.
use native.Mathlib.Omega.{arith}
use mathlib.Core.Path.{◌≡◌, sym, subst}
use Prim.Native.Nat.{ℕ, ◌≤◌, ◌<◌}
use Rattle.spec_calculus.proofs.Lists.{upd-hit}
use Rattle.spec_plan.specs.Plan.{PTerm, Source}
use Rattle.plan_machine.specs.Program.{Program}
use Rattle.plan_machine.specs.MachineWords.{Words, seek, Path, start, loop_p, in_p, past_p, pos, Begun, BegunBack}
use Rattle.plan_machine.proofs.Moves.{seek-outside}

-- it is read off the cursors below the place
pub begun-same : (π : Path) (w x : Words) → ((i : ℕ) → i < pos π → w.cur i ≡ x.cur i) → Begun w π → Begun x π
unfolding pos
begun-same start w x e h = tt
begun-same (loop_p π s c p) w x e h = (subst (λ n. 1 ≤ n) (e (pos π) (omega arith)) h.0, begun-same π w x (λ i l. e i (omega arith)) h.1)
begun-same (in_p π i p) w x e h = begun-same π w x e h
begun-same (past_p π i p) w x e h = begun-same π w x (λ j l. e j (omega arith)) h

pub begun-back : (π : Path) (w : Words) → Begun w π → BegunBack w π
begun-back start w h = tt
begun-back (loop_p π s c p) w h = h.1
begun-back (in_p π i p) w h = h
begun-back (past_p π i p) w h = begun-back π w h

-- the cursor at the place itself is set; and to one row more at least
module _ (π : Path) (n : ℕ) (w : Words) (h : Begun w π) where
  pub begun-seek : Begun (seek (pos π) n w) π
  begun-seek = begun-same π w (seek (pos π) n w) (seek-outside (pos π) n (pos π) w).below.curs h

  pub begun-offered : (s : Source) (c : PTerm) (p : Program) → 1 ≤ n → Begun (seek (pos π) n w) (loop_p π s c p)
  begun-offered s c p l = (subst (λ m. 1 ≤ m) (sym (upd-hit (pos π) n w.cur)) l, begun-seek)
