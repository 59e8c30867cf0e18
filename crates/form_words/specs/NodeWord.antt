-- A node's word: its kind (4 bits), how many words are below it (10 bits), its argument (the rest). Words stand in
-- pre-order: a node's first child is the word behind it. Every word is read as some node, and places are cut at 512, the
-- end of the words, so reading is total.
use Rattle.std.specs.Prelude.{List, [], ◌∷◌, Bool, ℕ, ◌+◌, ◌*◌, ◌/◌, ◌%◌, min, ltb, leb, eqb, get_or}
use Rattle.spec_calculus.specs.Lists.{pick}
use Rattle.base_syntax.specs.Numbers.{op_at, fun_at, monoid_at, constant_of}
use Rattle.base_scratch.specs.Map.{form_at, form_words}
use Rattle.form_words.specs.declared.FormNode.{FormNode}
use Rattle.form_words.specs.declared.FormNode.TheVariants.{Number, Truth, Row, Cell, Record, Binary, Negation, Operator, Comprehension, Generator, Condition, Nothing}

abbrev pub word_at : List ℕ → ℕ → ℕ
word_at s i = get_or s (form_at + i) 0

abbrev pub form_kind_of : ℕ → ℕ
form_kind_of w = w % 16

abbrev pub below_of : ℕ → ℕ
below_of w = w / 16 % 1024

abbrev pub arg_of : ℕ → ℕ
arg_of w = w / 16384

abbrev pub pack : ℕ → ℕ → ℕ → ℕ
pack k b a = k + 16 * (b + 1024 * a)

-- the place behind the subtree at i
unfoldable pub next : List ℕ → ℕ → ℕ
next s i = min (i + 1 + below_of (word_at s i)) form_words

-- a place that lies before e; behind all words, where nothing stands, if it does not
abbrev pub upto_place : ℕ → ℕ → ℕ
upto_place i e = pick (ltb i e) i form_words

abbrev pub branch_place : List ℕ → ℕ → ℕ → Bool → ℕ
branch_place s i e other = pick other (upto_place (next s (next s i)) e) (upto_place (next s i) e)

-- The node with argument a at place i, for each kind from 0 on. The places in it are behind the record, of the second
-- operand, behind the condition, behind the operator. A cell is column and generator, a generator its number and its table, all below 1,024. The
-- bits of rows, cells, comprehensions, generators and conditions that are not read here are free: a plan is kept there.
abbrev pub kinds : List ℕ → ℕ → ℕ → List FormNode
kinds s i a =
    Nothing ∷ Number (constant_of a) ∷ Truth (eqb a 1) ∷ Row (a % 1024) ∷ Cell (a / 1024 % 1024) (a % 1024) ∷ Record (next s i)
    ∷ Binary (op_at a) (next s (i + 1)) ∷ Negation ∷ Comprehension (monoid_at (a % 8)) ∷ Generator (a / 1024 % 1024) (a % 1024)
    ∷ Condition (next s i) ∷ Operator (fun_at a) (next s i) ∷ []

unfoldable pub node_of : List ℕ → ℕ → ℕ → ℕ → FormNode
node_of s i k a = get_or (kinds s i a) k Nothing

unfoldable pub node_at : List ℕ → ℕ → FormNode
node_at s i = pick (leb form_words i) Nothing (node_of s i (form_kind_of (word_at s i)) (arg_of (word_at s i)))
