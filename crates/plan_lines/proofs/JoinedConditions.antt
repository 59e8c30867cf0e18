-- Several conditions joined by "and", leftmost innermost: the openings, then the terms, each but the first closed.
use mathlib.Core.Path.{◌≡◌, refl, sym, ap, ◌∙◌}
use mathlib.Core.Bool.{true, false}
use mathlib.Core.List.{List, [], ◌∷◌, ◌++◌, append_assoc, append-nil}
use Prim.Native.Nat.{ℕ}
use Rattle.spec_calculus.specs.Syntax.{and}
use Rattle.spec_plan.specs.Plan.{PTerm, pbin}
use Rattle.spec_plan.specs.Planner.{joined, conj}
use Rattle.spec_plan.specs.Lines.{ascii, bin_name, truth_name, show_term}
use Rattle.plan_lines.specs.PartTexts.{condition_text, opens, closes}

-- an opening in front or behind the others
opens-turn : (l : List PTerm) (x : List ℕ) → opens true l ++ (ascii "(and " ++ x) ≡ ascii "(and " ++ (opens true l ++ x)
unfolding opens
opens-turn [] x = refl
opens-turn (t ∷ l) x = append_assoc (ascii "(and ") (opens true l) (ascii "(and " ++ x) ∙ ap (λ (y : List ℕ). ascii "(and " ++ y) (opens-turn l x) ∙ ap (λ (y : List ℕ). ascii "(and " ++ y) (sym (append_assoc (ascii "(and ") (opens true l) x)) ∙ refl

-- one more term
and-text : (a b : PTerm) (x : List ℕ) → show_term (pbin and a b) ++ x ≡ ascii "(and " ++ (show_term a ++ (condition_text true b ++ x))
unfolding show_term ascii bin_name
and-text a b x = ap (λ (y : List ℕ). 40 ∷ 97 ∷ 110 ∷ 100 ∷ 32 ∷ y)
    (append_assoc (show_term a) (32 ∷ (show_term b ++ (41 ∷ []))) x)

joined-text : (l : List PTerm) (a : PTerm) → show_term (joined a l) ≡ opens true l ++ (show_term a ++ closes true l)
unfolding joined opens closes
joined-text [] a = sym (append-nil (show_term a))
joined-text (b ∷ l) a = joined-text l (pbin and a b)
    ∙ ap (λ (y : List ℕ). opens true l ++ y) (and-text a b (closes true l))
    ∙ opens-turn l (show_term a ++ (condition_text true b ++ closes true l))
    ∙ sym (append_assoc (ascii "(and ") (opens true l) (show_term a ++ (condition_text true b ++ closes true l)))

pub conj-text : (l : List PTerm) → show_term (conj l) ≡ opens false l ++ closes false l
unfolding conj opens closes show_term truth_name
conj-text [] = refl
conj-text (a ∷ l) = joined-text l a
