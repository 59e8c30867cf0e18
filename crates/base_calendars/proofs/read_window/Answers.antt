-- `base_calendars::read_window`: the three numbers of a window at their bytes.
use Prim.Native.Nat.{◌+◌, ◌*◌}
use Rattle.base_calendars.proofs.Windows.{window-read}
use Rattle.base_calendars.proofs.read_window.Goals as goal

pub returns : goal.returns
returns c = window-read c.args.c.now (1 + 5 * c.args.k) c.byte_at.ensures.0 c.two_at.ensures.0 c.two_at-2.ensures.0
