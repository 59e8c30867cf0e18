use mathlib.Core.Path.{◌≡◌, refl, ap, ◌∙◌}
use Prim.Native.Nat.{◌-◌, ◌*◌, ◌≤◌}
use native.Mathlib.Omega.{arith}
use lib.ListN.{length, take}
use mir.Facts.{to_z-of_z}
use Rattle.base_signed.proofs.SignedWords.{fits}
use Rattle.spec_plan.specs.Lines.{ascii, signed_decimal}
use Rattle.base_text.specs.LaidText.{Lays}
use Rattle.base_text.proofs.LaidText.{lays-nil, lays-as}
use Rattle.spec_desk.specs.Desk.{spaced}
use Rattle.desk_text.proofs.DeskLines.{spaced-more, spaced-all, spaced-longer, spaced-most}
use borrow.Author.Rules.{rules}
use Rattle.desk_text.proofs.spaced_words.Given as goal

abbrev pub invariant-loop-i : goal.invariant-loop-i
invariant-loop-i l = (length l.text ≡ length l.initial.text) × (l.i ≤ length l.words) × Lays l.limit (spaced (take l.i l.words)) l.initial.text l.p l.text l.q × (length (spaced (take l.i l.words)) ≤ 21 * l.i)
