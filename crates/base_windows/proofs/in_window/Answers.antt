-- `base_windows::in_window`: the windows from the loop's on decide.
use mathlib.Core.Path.{ap}
use Prim.Native.Nat.{ℕ, ◌%◌}
use Rattle.base_windows.proofs.Exits.{far, seek-first, seek_found, seek-again, seek-last}
use Rattle.base_windows.proofs.in_window.Goals as goal

pub returns-then-n-ge-MOST_CALENDARS : goal.returns-then-n-ge-MOST_CALENDARS
returns-then-n-ge-MOST_CALENDARS c = far _ _ _ _ c.if-n-ge-MOST_CALENDARS.true

pub loop-k-init : goal.loop-k-init
loop-k-init c = seek-first _ _ _ _ c.if-n-ge-MOST_CALENDARS.false (ap (λ (x : ℕ). x % 64) c.load.ensures)

pub returns-then-window_holds : goal.returns-then-window_holds
returns-then-window_holds c = seek_found _ _ _ _ c.loop-k.invariant c.loop-k-test.true c.load-in-loop-k.ensures c.unpack.ensures c.window_holds.ensures c.if-window_holds.true

pub loop-k-preserved : goal.loop-k-preserved
loop-k-preserved c = seek-again _ _ _ _ c.loop-k.invariant c.loop-k-test.true c.load-in-loop-k.ensures c.unpack.ensures c.window_holds.ensures c.if-window_holds.false

pub returns : goal.returns
returns c = seek-last _ _ _ _ c.loop-k.invariant c.loop-k-test.false
