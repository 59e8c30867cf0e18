-- How much each node writes, counted to 513: ten bits a number. Of what is written two numbers are kept, its size and its
-- generators. A node has two words of three pairs each. The first word: as a term; as a condition, where "some" does not
-- give way and where it does. The second word: spliced, where "some" does not give way and where it does; and of a qualifier
-- how many generators the qualifiers before it write, where "some" does not give way and where it does.
use Rattle.std.specs.Prelude.{List, Bool, ℕ, ◌+◌, ◌*◌, ◌/◌, ◌%◌, ◌<◌, get_or}
use Rattle.spec_calculus.specs.Lists.{pick}
use Rattle.base_scratch.specs.Map.{sizes_at}
use Rattle.front_sizes.specs.declared.FormSize.{FormSize}

-- where word k of node i stands, and the word
abbrev pub place : ℕ → ℕ → ℕ
place i k = sizes_at + 2 * i + k

abbrev pub word_at : List ℕ → ℕ → ℕ → ℕ
word_at s i k = get_or s (place i k) 0

-- a pair as a number of 20 bits, three pairs as a word
abbrev pub pack_pair : FormSize → ℕ
pack_pair c = c.size + 1024 * c.gens

abbrev pub pack : FormSize → FormSize → FormSize → ℕ
pack a b c = pack_pair a + 1048576 * (pack_pair b + 1048576 * pack_pair c)

-- what a pair takes
pub record SmallSize (c : FormSize) : Type 0 where
  pub size : c.size < 1024
  pub gens : c.gens < 1024

-- the pair in the low 20 bits, and the three pairs of a word
abbrev pub pair_of : ℕ → FormSize
pair_of w = record { size = w % 1024; gens = w / 1024 % 1024 }

abbrev pub first_pair : ℕ → FormSize
first_pair w = pair_of w

abbrev pub second_pair : ℕ → FormSize
second_pair w = pair_of (w / 1048576)

abbrev pub third_pair : ℕ → FormSize
third_pair w = pair_of (w / 1099511627776)

-- Node i as a term, as a condition, spliced. Every scratch is read as some counts.
abbrev pub term_count : List ℕ → ℕ → FormSize
term_count s i = first_pair (word_at s i 0)

unfoldable pub condition_count : List ℕ → ℕ → Bool → FormSize
condition_count s i v = pick v (third_pair (word_at s i 0)) (second_pair (word_at s i 0))

unfoldable pub spliced_count : List ℕ → ℕ → Bool → FormSize
spliced_count s i v = pick v (second_pair (word_at s i 1)) (first_pair (word_at s i 1))

-- the offset of qualifier i: how many generators the qualifiers before it write
unfoldable pub stored : List ℕ → ℕ → Bool → ℕ
stored s i v = pick v (third_pair (word_at s i 1)).gens (third_pair (word_at s i 1)).size
