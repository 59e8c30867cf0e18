-- A node's word: its kind (5 bits), its argument (33 bits), the first node of its subtree (9 bits), and how many
-- comprehensions are around it (6 bits).
use Rattle.std.specs.Prelude.{List, ℕ, ◌+◌, ◌*◌, ◌/◌, ◌%◌, get_or}
use Rattle.base_scratch.specs.Map.{nodes_at}

abbrev pub node_kind_of : ℕ → ℕ
node_kind_of w = w % 32

abbrev pub arg_of : ℕ → ℕ
arg_of w = w / 32 % 8589934592

abbrev pub start_of : ℕ → ℕ
start_of w = w / 274877906944 % 512

abbrev pub depth_of : ℕ → ℕ
depth_of w = w / 140737488355328 % 64

abbrev pub pack : ℕ → ℕ → ℕ → ℕ → ℕ
pack k a s d = k + 32 * (a + 8589934592 * (s + 512 * d))

-- the word of node i
abbrev pub node_word : List ℕ → ℕ → ℕ
node_word s i = get_or s (nodes_at + i) 0
