-- "a tariff, a record of kind 22: one byte of steps (1 to 16); the steps, each an upper draught .. and a rate ..; a minimum charge in cents; each number
-- four unsigned bytes" (document 02, E6).
use Rattle.std.specs.Prelude.{List, [], ◌∷◌, Bool, true, ◌&&◌, ℕ, zero, suc, ◌+◌, ◌*◌, eqb, ltb, leb, length}
use Rattle.spec_encoding.specs.Record.{Bytes, Result, got, require, byte, four, content_of}
use Rattle.spec_outcome.specs.Directions.{is_alone}
use Rattle.spec_tariff.specs.Tariff.{TariffStep, Tariff}

-- a step's: four of upper draught, four of rate
abbrev pub step_bytes : ℕ
step_bytes = 8

-- the step that begins at a byte of a content
unfoldable pub step_at : Bytes → ℕ → TariffStep
step_at c i = record { upper = four c i; rate = four c (i + 4) }

unfoldable pub steps_from : Bytes → ℕ → ℕ → List TariffStep
steps_from c i zero = []
steps_from c i (suc n) = step_at c i ∷ steps_from c (i + step_bytes) n

-- "one byte of steps ..; the steps ..; a minimum charge": of a record's content
unfoldable pub tariff_of : Bytes → Tariff
tariff_of c = record { steps = steps_from c 1 (byte c 0); minimum = four c (1 + step_bytes * byte c 0) }

-- "rising strictly"
unfoldable pub rising : List TariffStep → Bool
rising [] = true
rising (x ∷ []) = true
rising (x ∷ y ∷ l) = ltb x.upper y.upper && rising (y ∷ l)

-- "Rates and minimum are at most 10,000,000."
abbrev pub most_cents : ℕ
most_cents = 10000000

unfoldable pub rates_fit : List TariffStep → Bool
rates_fit [] = true
rates_fit (x ∷ l) = leb x.rate most_cents && rates_fit l

unfoldable pub tariff_fits : Tariff → Bool
tariff_fits t = rising t.steps && (rates_fit t.steps && leb t.minimum most_cents)

-- "one byte of steps (1 to 16)", and as many bytes as steps and minimum take
unfoldable pub layout_fits : Bytes → Bool
layout_fits c = leb 1 (byte c 0) && (leb (byte c 0) 16 && (eqb (length c) (5 + step_bytes * byte c 0) && tariff_fits (tariff_of c)))

-- one whole record of kind 22, nothing behind it
unfoldable pub is_tariff : Bytes → Bool
is_tariff l = is_alone 22 l && layout_fits (content_of l)

-- "44, a tariff outside these ranges or this layout"
unfoldable pub read_tariff : Bytes → Result Tariff
read_tariff l = require 44 (is_tariff l) (got (tariff_of (content_of l)))
