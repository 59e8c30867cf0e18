use mathlib.Core.Path.{◌≡◌, refl, ◌∙◌}
use Prim.Native.Nat.{◌-◌}
use lib.ListN.{length, take}
use Rattle.base_text.specs.LaidText.{Lays}
use Rattle.base_text.proofs.LaidText.{lays-nil, said_more, said_all}
use borrow.Author.Rules.{rules}
use Rattle.base_text.proofs.say.Given as goal

abbrev pub invariant-loop-i : goal.invariant-loop-i
invariant-loop-i l = (length l.text ≡ length l.initial.text) × Lays l.limit (take l.i l.b) l.initial.text l.p l.text l.q
