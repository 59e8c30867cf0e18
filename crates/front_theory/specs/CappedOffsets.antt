-- Offsets that are counted to 513 only. In parts that are never written, counts may go far beyond a word; in what is
-- written, a normal form of at most 512 nodes, every generator number is below 513 (proofs/CappedOffsets).
use Rattle.std.specs.Prelude.{Bool, ℕ, ◌+◌, ◌-◌, min}
use Rattle.front_theory.specs.NodeForms.{Offsets}

abbrev pub limit : ℕ
limit = 513

-- what is left of a number up to the limit: numbers from the limit on are not told apart
abbrev pub left : ℕ → ℕ
left n = limit - n

-- offsets from a table of stored counts, by generator and flag
abbrev pub saturated : (ℕ → Bool → ℕ) → Offsets
saturated stored x v n = min (n + stored x v) limit
