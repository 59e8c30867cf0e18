-- What the functions that read a tariff ask and give.
use Rattle.std.specs.Prelude.{◌≡◌, true, ℕ, ◌≤◌, ◌<◌, ◌^◌}
use Rattle.spec_encoding.specs.Record.{Bytes, content_of}
use Rattle.spec_tariff.specs.Tariff.{Tariff, rate_of, charge}
use Rattle.spec_tariff.specs.TariffBytes.{tariff_of, is_tariff}

-- the tariff of a record
abbrev pub tariff_in : Bytes → Tariff
tariff_in l = tariff_of (content_of l)

-- bytes that 44 lets pass
pub record IsTariff (l : Bytes) : Type 0 where
  pub is : is_tariff l ≡ true

-- the rate of a content for a draught: no step is deeper than four bytes can say
pub record RatePost (c : Bytes) (h r : ℕ) : Type 0 where
  pub is : r ≡ rate_of (tariff_of c).steps h
  pub small : r < 2 ^ 32
  pub deep : 2 ^ 32 ≤ h → r ≡ 0

pub record ChargePost (c : Bytes) (h r : ℕ) : Type 0 where
  pub is : r ≡ charge (tariff_of c) h
  pub small : r < 2 ^ 62
