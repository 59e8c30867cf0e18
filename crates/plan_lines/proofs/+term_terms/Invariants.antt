use native.Mathlib.Omega.{arith}
use mathlib.Core.Path.{refl, ap}
use Prim.Native.Nat.{◌+◌}
use Rattle.form_words.specs.FormTree.{left}
use Rattle.form_words.proofs.NodeWords.{recast, next_past}
use mir.Facts.{to_z-of_z}
use Rattle.base_signed.proofs.SignedWords.{fits}
use Rattle.spec_plan.specs.Lines.{ascii, signed_decimal}
use Rattle.plan_lines.specs.PartTexts.{slot_text, cell_text}
use Rattle.base_text.proofs.LaidText.{lays-as}
use Rattle.plan_lines.proofs.Exits.{term-lays, term-number, term-zero, term-record, term-binary, term-negation, term-operator, terms-end, terms-more}
use borrow.Author.Rules.{rules}
use Prim.Native.Nat.{ℕ, ◌<◌}
use Rattle.plan_lines.proofs.+term_terms.Given as goal

abbrev pub decreases-term : goal.decreases-term
decreases-term l = left l.i

abbrev pub decreases-terms : goal.decreases-terms
decreases-terms l = left l.i + 1
