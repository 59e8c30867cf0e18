-- Which rotas there are (document 02, E8).
use Rattle.std.specs.Prelude.{List, [], ◌∷◌, Bool, true, ◌&&◌, ℕ, leb, length}

-- "a rota of 1 to 4 seats, each with a quota of 1 to 1,000 offered rows a round": the quotas, one for each seat
unfoldable pub quota_fits : ℕ → Bool
quota_fits q = leb 1 q && leb q 1000

unfoldable pub quotas_fit : List ℕ → Bool
quotas_fit [] = true
quotas_fit (q ∷ qs) = quota_fits q && quotas_fit qs

unfoldable pub rota_fits : List ℕ → Bool
rota_fits qs = leb 1 (length qs) && (leb (length qs) 4 && quotas_fit qs)
