-- How many rows a plan offers. "A row offered is a pair, in the operators' definitions, of a stream row without a pad and a
-- table row" (document 02, E7).
use Rattle.std.specs.Prelude.{List, [], ◌∷◌, ℕ, suc, ◌+◌, ◌*◌, length}
use Rattle.spec_calculus.specs.Lists.{pick}
use Rattle.spec_calculus.specs.Value.{Tables}
use Rattle.spec_calculus.specs.Monoid.{Fold}
use Rattle.spec_plan.specs.Plan.{Op, join, outer, nest, Plan, plan}
use Rattle.spec_plan.specs.Operators.{Stream, whole, source_rows, apply, one}

-- the rows of a stream that have no pad
unfoldable pub wholes : Stream → ℕ
wholes [] = 0
wholes (r ∷ s) = pick (whole r) (suc (wholes s)) (wholes s)

-- the pairs that an operator over a stream offers
unfoldable pub offers_at : Tables → Op → Stream → ℕ
offers_at T (join t c) s = wholes s * length (source_rows T t)
offers_at T (outer t c) s = wholes s * length (source_rows T t)
offers_at T (nest k m h c) s = 0

-- and the operators of a plan, each over the stream that those before it build
unfoldable pub offers_in : Fold → Tables → List Op → Stream → ℕ
offers_in F T [] s = 0
offers_in F T (o ∷ os) s = offers_at T o s + offers_in F T os (apply F T o s)

unfoldable pub plan_offers : Fold → Tables → Plan → ℕ
plan_offers F T (plan os m h c) = offers_in F T os one
