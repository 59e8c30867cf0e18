-- A plan's lines as bytes, "from "one" to "reduce" with byte 10 after each".
use Rattle.std.specs.Prelude.{List, [], ◌∷◌, ◌++◌, Bool, true, false, ℕ, zero, suc, ◌+◌, ◌/◌, ◌%◌, ltb, ℤ, pos, negsuc}
use Prim.Native.Char.{code}
use Prim.Native.String.{String}
use Prim.Native.String as S
use Rattle.spec_calculus.specs.Syntax.{list, bag, set, Monoid, of, sum, max, min, some, all, Bin, plus, minus, times, equal, less, and, or, Fun, choice, is_open}
use Rattle.spec_plan.specs.Plan.{PTerm, PTerms, pnum, ptruth, place, pfield, prec, pbin, pnegate, papp, pnil, pcons, Source, table, unit, Op, join, outer, nest, Plan, plan}

unfoldable pub ascii : String → List ℕ
ascii S.[] = []
ascii (S.◌∷◌ c s) = code c ∷ ascii s

-- "numbers decimal": one digit more for each division by 10; n is fuel enough, for n / 10 is below n
unfoldable pub digits : ℕ → ℕ → List ℕ
digits zero n = (48 + n) ∷ []
digits (suc f) n = elim (ltb n 10) [ true ↦ (48 + n) ∷ [] | false ↦ digits f (n / 10) ++ ((48 + n % 10) ∷ []) ]

unfoldable pub decimal : ℕ → List ℕ
decimal n = digits n n

unfoldable pub signed_decimal : ℤ → List ℕ
signed_decimal (pos n) = decimal n
signed_decimal (negsuc n) = ascii "-" ++ decimal (suc n)

unfoldable pub monoid_name : Monoid → String
monoid_name (of list) = "list"
monoid_name (of bag) = "bag"
monoid_name (of set) = "set"
monoid_name sum = "sum"
monoid_name max = "max"
monoid_name min = "min"
monoid_name some = "some"
monoid_name all = "all"

-- "terms are prefix: . (field, index first), rec, +, -, *, =, <, and, or, not"
unfoldable pub bin_name : Bin → String
bin_name plus = "+"
bin_name minus = "-"
bin_name times = "*"
bin_name equal = "="
bin_name less = "<"
bin_name and = "and"
bin_name or = "or"

-- "it prints as (if c a b)" (document 02, E2); "Kind 21 prints as (open n e)" (E4)
unfoldable pub fun_name : Fun → List ℕ
fun_name choice = ascii "if"
fun_name (is_open n c) = ascii "open " ++ decimal n

-- "truths true or false"
unfoldable pub truth_name : Bool → String
truth_name true = "true"
truth_name false = "false"

unfoldable mutual
  pub show_term : PTerm → List ℕ
  show_term (pnum z) = signed_decimal z
  show_term (ptruth b) = ascii (truth_name b)
  show_term (place n) = ascii "$" ++ decimal n
  show_term (pfield i t) = ascii "(. " ++ (decimal i ++ (ascii " " ++ (show_term t ++ ascii ")")))
  show_term (prec ts) = ascii "(rec" ++ (show_terms ts ++ ascii ")")
  show_term (papp f ts) = ascii "(" ++ (fun_name f ++ (show_terms ts ++ ascii ")"))
  show_term (pbin o s t) = ascii "(" ++ (ascii (bin_name o) ++ (ascii " " ++ (show_term s ++ (ascii " " ++ (show_term t ++ ascii ")")))))
  show_term (pnegate t) = ascii "(not " ++ (show_term t ++ ascii ")")

  pub show_terms : PTerms → List ℕ
  show_terms pnil = []
  show_terms (pcons t ts) = ascii " " ++ (show_term t ++ show_terms ts)

unfoldable pub show_source : Source → List ℕ
show_source (table k) = decimal k
show_source unit = ascii "unit"

-- "the last three": monoid, head, condition; byte 10 ends the line
unfoldable pub show_last : Monoid → PTerm → PTerm → List ℕ
show_last m h c = ascii (monoid_name m) ++ (ascii " " ++ (show_term h ++ (ascii " " ++ (show_term c ++ ascii "\n"))))

unfoldable pub show_op : Op → List ℕ
show_op (join s c) = ascii "join " ++ (show_source s ++ (ascii " " ++ (show_term c ++ ascii "\n")))
show_op (outer s c) = ascii "outer " ++ (show_source s ++ (ascii " " ++ (show_term c ++ ascii "\n")))
show_op (nest k m h c) = ascii "nest " ++ (decimal k ++ (ascii " " ++ show_last m h c))

unfoldable pub show_ops : List Op → List ℕ
show_ops [] = []
show_ops (o ∷ os) = show_op o ++ show_ops os

unfoldable pub lines : Plan → List ℕ
lines (plan os m h c) = ascii "one\n" ++ (show_ops os ++ (ascii "reduce " ++ show_last m h c))
