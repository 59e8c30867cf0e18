-- "Survey order must not show" (document 02, E14): two states of the tables that differ only in the order of the rows of bags and sets,
-- or also in how often a set's rows are repeated.
use Rattle.std.specs.Prelude.{◌≡◌, List, [], ◌∷◌, ◌++◌, ℕ, ◌+◌, ◌*◌, leb, length, take, ℤ}
use Rattle.spec_calculus.specs.Lists.{bind_l}
use Rattle.spec_calculus.specs.Syntax.{Collection, list, bag, set}
use Rattle.spec_calculus.specs.Value.{Value, Table, Tables}
use Rattle.spec_calculus.specs.Rearrangement.{Rearranged}
use Rattle.spec_calculus.proofs.Lists.{All}
use Rattle.spec_encoding.specs.Record.{Bytes, Result, refused, got}
use Rattle.spec_encoding.specs.Data.{collection_of}
use Rattle.spec_outcome.specs.Acceptance.{Lent}
use Rattle.spec_outcome.specs.Outcome.{Outcome, by_loops, by_plan}

-- ---- tables that were read
-- "rearranging the rows of any bag or set table": a list's rows stay where they are
abbrev pub Reordered : {A : Type 0} → Collection → List A → List A → Type 0
Reordered list l m = l ≡ m
Reordered bag l m = Rearranged l m
Reordered set l m = Rearranged l m

-- One table in two states, its rows related by R: by `Reordered`, or, "repeating a row of a set table", by calculus' `Alike`, which
-- lets the rows of a bag be rearranged, and those of a set also be repeated or lose repeats.
pub record Restated (R : Collection → List Value → List Value → Type 0) (t u : Table) : Type 0 where
  pub kind : t.kind ≡ u.kind
  pub columns : t.columns ≡ u.columns
  pub bounds : t.bounds ≡ u.bounds
  pub rows : R t.kind t.rows u.rows

-- all tables, each with the one of its number
abbrev pub Restates : (Collection → List Value → List Value → Type 0) → Tables → Tables → Type 0
Restates R [] [] = Unit {0}
Restates R [] (u ∷ U) = ⊥
Restates R (t ∷ T) [] = ⊥
Restates R (t ∷ T) (u ∷ U) = Restated R t u × Restates R T U

-- what two data are read as: refused by one number, or such tables
abbrev pub Rereads : (Collection → List Value → List Value → Type 0) → Result Tables → Result Tables → Type 0
Rereads R (refused m) (refused n) = m ≡ n
Rereads R (refused m) (got U) = ⊥
Rereads R (got T) (refused n) = ⊥
Rereads R (got T) (got U) = Restates R T U

-- ---- tables as bytes
-- "two bytes of content length, two bytes of kind, content; little-endian": the record of content c, and behind it d
abbrev pub record_bytes : (l₀ l₁ k₀ k₁ : ℕ) → Bytes → Bytes → Bytes
record_bytes l₀ l₁ k₀ k₁ c d = l₀ ∷ l₁ ∷ k₀ ∷ k₁ ∷ (c ++ d)

-- rows, each as its bytes, one behind the other
abbrev pub joined : List Bytes → Bytes
joined rs = bind_l rs (λ r. r)

-- "one byte of collection .., one byte of columns .., two bytes of rows .., then the cells row by row"; ahead of them the table's number (document 02, E9),
-- between row count and cells the columns' bounds (E5)
abbrev pub table_content : (j c w n₀ n₁ : ℕ) → Bytes → List Bytes → Bytes
table_content j c w n₀ n₁ b rs = j ∷ c ∷ w ∷ n₀ ∷ n₁ ∷ (b ++ joined rs)

-- length and count are those of bounds and rows; the bounds, and each row, have four bytes a column
pub record Counted (w l₀ l₁ n₀ n₁ : ℕ) (b : Bytes) (rs : List Bytes) : Type 0 where
  pub lengths : l₀ + 256 * l₁ ≡ 5 + (length b + length (joined rs))
  pub bounds : length b ≡ 4 * w
  pub counts : n₀ + 256 * n₁ ≡ length rs
  pub widths : All (λ r. length r ≡ 4 * w) rs

-- The same records, their numbers and bounds too, the rows of tables of kind 20 related by R; "within 1,024 rows", or beyond in both. Behind the last of them
-- stand the same bytes, whatever they are. A table of kind 23 is first turned into kind 20 (`Turned`).
pub data Rewritten (R : Collection → List Bytes → List Bytes → Type 0) : Bytes → Bytes → Type 0 where
  rest : (d : Bytes) → Rewritten R d d
  same : (l₀ l₁ k₀ k₁ : ℕ) (c : Bytes) {d e : Bytes} → l₀ + 256 * l₁ ≡ length c → Rewritten R d e → Rewritten R (record_bytes l₀ l₁ k₀ k₁ c d) (record_bytes l₀ l₁ k₀ k₁ c e)
  table : (j c w : ℕ) {l₀ l₁ n₀ n₁ m₀ m₁ o₀ o₁ : ℕ} (b : Bytes) (rs us : List Bytes) {d e : Bytes} → Counted w l₀ l₁ n₀ n₁ b rs → Counted w m₀ m₁ o₀ o₁ b us
      → leb (length rs) 1024 ≡ leb (length us) 1024 → R (collection_of c) rs us → Rewritten R d e
      → Rewritten R (record_bytes l₀ l₁ 20 0 (table_content j c w n₀ n₁ b rs) d) (record_bytes m₀ m₁ 20 0 (table_content j c w o₀ o₁ b us) e)

-- ---- answers
-- "by loops or by plan"
pub data Way : Type 0 where
  looping planning : Way

abbrev pub by : Way → Bytes → Lent → List ℕ → List ℤ → Outcome ℤ
by looping = by_loops
by planning = by_plan

-- the same number, "neither the answer's length nor a word before it" changed
pub record SameWords (o p : Outcome ℤ) : Type 0 where
  pub numbers : o.number ≡ p.number
  pub sizes : o.size ≡ p.size
  pub answers : take o.size o.buffer ≡ take p.size p.buffer
