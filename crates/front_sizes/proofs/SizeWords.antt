-- A word of three pairs gives them back, and what is put for a node is read back.
use mathlib.Core.Path.{◌≡◌, ap, ◌∙◌}
use mathlib.Core.List.{List}
use mathlib.Core.Bool.{Bool, true, false}
use Prim.Native.Nat.{ℕ, ◌/◌, ◌%◌, ◌<◌}
use native.Mathlib.Omega.{arith}
use lib.ListN.{length, get_or, set}
use lib.Seq.{get_or-set_same, get_or-set_other}
use Rattle.spec_calculus.specs.Lists.{pick}
use Rattle.front_sizes.specs.declared.FormSize.{FormSize}
use Rattle.front_sizes.specs.SizeWords.{place, word_at, pack, SmallSize, pair_of, first_pair, second_pair, third_pair, term_count, condition_count, spliced_count, stored}

-- ---- unpacking
count : ℕ → ℕ → FormSize
count a b = record { size = a; gens = b }

pub pair_same : (w : ℕ) (c : FormSize) → w % 1024 ≡ c.size → w / 1024 % 1024 ≡ c.gens → pair_of w ≡ c
unfolding count
pair_same w c p q = ap (λ (x : ℕ). count x (w / 1024 % 1024)) p ∙ ap (count c.size) q

module _ (a b c : FormSize) (A : SmallSize a) (B : SmallSize b) (C : SmallSize c) where
  pub pack-first : first_pair (pack a b c) ≡ a
  pack-first = pair_same (pack a b c) a (omega arith) (omega arith)

  pub pack-second : second_pair (pack a b c) ≡ b
  pack-second = pair_same (pack a b c / 1048576) b (omega arith) (omega arith)

  pub pack-third : third_pair (pack a b c) ≡ c
  pack-third = pair_same (pack a b c / 1099511627776) c (omega arith) (omega arith)

-- ---- what is put is read back, and nothing else changes
module _ (s : List ℕ) (i : ℕ) (a b c : FormSize) (A : SmallSize a) (B : SmallSize b) (C : SmallSize c) where
  module _ (room : place i 0 < length s) where
    first-put : word_at (set s (place i 0) (pack a b c)) i 0 ≡ pack a b c
    first-put = get_or-set_same s (place i 0) (pack a b c) 0 room

    pub put-term : term_count (set s (place i 0) (pack a b c)) i ≡ a
    put-term = ap first_pair first-put ∙ pack-first a b c A B C

    pub put-condition : (v : Bool) → condition_count (set s (place i 0) (pack a b c)) i v ≡ pick v c b
    unfolding condition_count pick
    put-condition true = ap third_pair first-put ∙ pack-third a b c A B C
    put-condition false = ap second_pair first-put ∙ pack-second a b c A B C

  module _ (room : place i 1 < length s) where
    second-put : word_at (set s (place i 1) (pack a b c)) i 1 ≡ pack a b c
    second-put = get_or-set_same s (place i 1) (pack a b c) 0 room

    pub put-spliced : (v : Bool) → spliced_count (set s (place i 1) (pack a b c)) i v ≡ pick v b a
    unfolding spliced_count pick
    put-spliced true = ap second_pair second-put ∙ pack-second a b c A B C
    put-spliced false = ap first_pair second-put ∙ pack-first a b c A B C

    pub put-stored : (v : Bool) → stored (set s (place i 1) (pack a b c)) i v ≡ pick v c.gens c.size
    unfolding stored pick
    put-stored true = ap (λ (w : ℕ). (third_pair w).gens) second-put ∙ ap (λ (x : FormSize). x.gens) (pack-third a b c A B C)
    put-stored false = ap (λ (w : ℕ). (third_pair w).size) second-put ∙ ap (λ (x : FormSize). x.size) (pack-third a b c A B C)

-- the other words, and every word before the sizes
pub put_other : (s : List ℕ) (i k w j : ℕ) → (j ≡ place i k → ⊥) → get_or (set s (place i k) w) j 0 ≡ get_or s j 0
put_other s i k w j h = get_or-set_other s (place i k) j w 0 h

pub put_word : (s : List ℕ) (i k w j l : ℕ) → k < 2 → l < 2 → (i ≡ j → k ≡ l → ⊥) → word_at (set s (place i k) w) j l ≡ word_at s j l
put_word s i k w j l p q h = put_other s i k w (place j l) (λ e. h (omega arith) (omega arith))
