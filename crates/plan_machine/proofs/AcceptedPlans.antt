-- The operators of an accepted question's plan.
use Prim.Native.Nat.{suc, ◌≤◌}
use Rattle.spec_outcome.specs.Acceptance.{Accepted}
use Rattle.spec_outcome.proofs.Checks.{Passed, form-nodes}
use Rattle.plan_machine.specs.Program.{program_of}
use Rattle.plan_machine.specs.MachineWords.{before}
use Rattle.plan_machine.proofs.OperatorCount.{operators-fit}

-- Words by operator number have numbers below 1,022.
pub pass-operators : {a : Accepted} → Passed a → suc (before (program_of a.form)) ≤ 1022
pass-operators {a} p = operators-fit a.form (form-nodes p)
