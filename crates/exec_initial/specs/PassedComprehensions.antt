-- The inner comprehensions that a row has passed since it came behind the loops of its comprehension, the last in front.
use Rattle.std.specs.Prelude.{◌≡◌, ◌⊎◌, List, [], ◌∷◌, ℕ}
use Rattle.plan_machine.specs.MachineWords.{Path, start, loop_p, in_p, past_p}
use Rattle.plan_machine.specs.AnswerText.{width}
use Rattle.plan_links.specs.Spots.{Spots, comp_of}
use Rattle.exec_simulation.specs.PathPlaces.{inside, spots_at}

-- the place of its value, and its node
pub data Pass : Type 0 where
  pass : ℕ → ℕ → Pass

unfoldable pub passes : Spots → Path → List Pass
passes p start = []
passes p (loop_p π s c x) = []
passes p (in_p π i x) = []
passes p (past_p π i x) = pass (width π) (comp_of (inside (spots_at p π))) ∷ passes p π

-- the comprehension at j is among them, its value at place n
abbrev pub Has : ℕ → ℕ → List Pass → Type 0
Has n j [] = ⊥
Has n j (pass a b ∷ l) = ((n ≡ a) × (j ≡ b)) ⊎ Has n j l
