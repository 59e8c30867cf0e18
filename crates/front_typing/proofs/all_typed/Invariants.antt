use Prim.Native.Nat.{◌-◌}
use Rattle.front_typing.proofs.Exits.{Parts}
use Rattle.front_typing.proofs.all_typed.Given as goal

abbrev pub invariant-loop : goal.invariant-loop
invariant-loop l = Parts l.s l.i (l.end - l.counter) l.e
