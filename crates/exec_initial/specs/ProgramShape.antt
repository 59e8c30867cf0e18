-- Every comprehension begins with a loop; those inside it stand behind its loops, and none of them is the outermost.
use Rattle.std.specs.Prelude.{◌≡◌, ◌<◌}
use Rattle.base_scratch.specs.Map.{form_words}
use Rattle.plan_links.specs.Spots.{Spots, end, loop, inner, comp_of}
use Rattle.exec_simulation.specs.WiredProgram.{Starts}

abbrev pub Shaped : Spots → Type 0
Shaped (end c) = Unit {0}
Shaped (loop i p) = Shaped p
Shaped (inner a p) = ((comp_of a ≡ 0 → ⊥) × (Starts a × (Starts p → ⊥))) × (Shaped a × Shaped p)

abbrev pub Within : Spots → Type 0
Within (end c) = c < form_words
Within (loop i p) = (i < form_words) × Within p
Within (inner a p) = Within a × Within p
