-- `print_signed`: a word has at most 20 bytes.
use Rattle.std.proofs.Common.{◌≤◌, ◌≡◌, length, ℕ, List, ℤ, to_z, of_z, w64}
use mathlib.Core.Path.{sym, subst}
use native.Mathlib.Omega.{arith}
use lib.Seq.{length-take-le}
use mir.Val.{SFits}
use mir.Facts.{to_z-of_z}
use Rattle.spec_plan.specs.Lines.{signed_decimal}
use Rattle.base_text.specs.LaidText.{Lays}
use Rattle.base_text.proofs.LaidText.{lays-reach}
use Rattle.base_text.proofs.Decimals.{word-most}
use Rattle.test_vectors.proofs.print_signed.Goals as goal

within : (x : ℤ) {lim r : ℕ} {o o' : List ℕ} → SFits w64 x → Lays lim (signed_decimal (to_z w64 (of_z w64 x))) o 0 o' r → length o' ≡ 20 → r ≤ length o'
within x f X e = omega (arith, lays-reach X (omega arith), word-most (to_z w64 (of_z w64 x)) (subst (SFits w64) (sym (to_z-of_z f)) f))

pub slice_bounds-digits-end : goal.slice_bounds-digits-end
slice_bounds-digits-end g c = within c.args.x c.ranges.x c.signed-n.ensures c.signed-n.auto.text

pub slice_bounds-write_all-end : goal.slice_bounds-write_all-end
slice_bounds-write_all-end g c = sym (length-take-le c.signed-n.result c.signed-n.new.text (within c.args.x c.ranges.x c.signed-n.ensures c.signed-n.auto.text))
