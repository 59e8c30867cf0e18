-- Which scratch words hold what. Each phase has its own names for the words that it uses.
--
--   words         checks         by loops      a plan is made   a plan runs   settled
--   0             free
--   1 .. 8        the tables' descriptions, by number, in every phase
--   9 .. 15       free
--   16 .. 271     nodes          environment, from the normal form on
--   272 .. 527    binders                      registers        totals
--   528 .. 783    shapes                       registers        totals
--   784 .. 1295   sizes                        registers        starts
--   1296 .. 1807  normal form    the same      and its marks    and links     the same
--   1808 .. 1811  free, and between the portions of an unfinished question where it stands
--   1812 .. 1875  free, and from the normal form on the checkpoints of columns
--   1876 .. 1915  free
--   1916 .. 2047  the lent calendars, in every phase from the checks on
use Rattle.std.specs.Prelude.{ℕ, ◌+◌, ◌-◌, ◌*◌, ◌/◌}

-- how many words a call needs, and clears: spec_outcome's `scratch_words`. From this word on none is written.
abbrev pub scratch_size : ℕ
scratch_size = 2048

-- a description for each number of a table, 0 where there is none (base_tables/specs/DataReader)
abbrev pub descriptions_at : ℕ
descriptions_at = 1

-- ---- checks
-- a word for each node of the question, in post-order (front_words/specs/NodeWord)
abbrev pub nodes_at : ℕ
nodes_at = 16

abbrev pub most_nodes : ℕ
most_nodes = 256

-- for each name one more than the node that binds it (front_words/specs/Binders)
abbrev pub binders_at : ℕ
binders_at = nodes_at + most_nodes

abbrev pub names : ℕ
names = 256

-- a word for each node: its type at its head, with the node or the table that makes it (front_typing/specs/ShapeWords)
abbrev pub shapes_at : ℕ
shapes_at = binders_at + names

-- two words for each node: its sizes in the normal form (front_sizes/specs/SizeWords)
abbrev pub sizes_at : ℕ
sizes_at = shapes_at + most_nodes

-- ---- the normal form: its words stand from this word on, at most so many of them (form_words/specs/NodeWord)
abbrev pub form_at : ℕ
form_at = sizes_at + 2 * most_nodes

abbrev pub form_words : ℕ
form_words = 512

-- "27: a normal form over 512 nodes": a generator is two of them
abbrev pub generators : ℕ
generators = form_words / 2

-- ---- loops, and a plan that runs
-- the slot of each generator: its table and its row (form_env/specs/Environment)
abbrev pub env_at : ℕ
env_at = nodes_at

-- for each comprehension its total, or where its elements end; and where they begin (exec_state/specs/StateWords)
abbrev pub totals_at : ℕ
totals_at = env_at + generators

abbrev pub starts_at : ℕ
starts_at = totals_at + form_words

-- while a plan is made, the mark of each generator's place (plan_marks/specs/Marks)
abbrev pub registers_at : ℕ
registers_at = totals_at

-- ---- an unfinished question, between its portions (exec_portions/specs/UnfinishedQuestion)
abbrev pub stage_at : ℕ
stage_at = form_at + form_words

abbrev pub code_at : ℕ
code_at = stage_at + 1

abbrev pub limit_at : ℕ
limit_at = stage_at + 2

abbrev pub first_at : ℕ
first_at = stage_at + 3

-- ---- from the normal form on: a word for each column of each table, its checkpoint where the table is by columns (base_checkpoints/specs/Checkpoints)
abbrev pub checkpoints_at : ℕ
checkpoints_at = first_at + 1

abbrev pub checkpoints_end : ℕ
checkpoints_end = checkpoints_at + 64

-- ---- the lent calendars: four times a word with how many windows it has, and a word for each of 32 (base_windows/specs/KeptCalendars)
abbrev pub calendar_words : ℕ
calendar_words = 33

abbrev pub calendars_at : ℕ
calendars_at = scratch_size - 4 * calendar_words
