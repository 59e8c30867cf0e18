-- The starred cases of "At the edges" as document 02 leaves them, and some of E1's, E2's, E5's and E9's own, as rows of one table. Each crate above shows its own side of all of them.
use Rattle.std.specs.Prelude.{List, [], ◌∷◌, ◌++◌, true, false, ℕ, ◌^◌, ℤ, pos, negsuc, replicate}
use Prim.Native.String.{String}
use Rattle.spec_calculus.specs.Syntax.{Collection, bag, set, Monoid, of, sum, max, min, some, all, plus, minus, times, equal, less, and, choice, Term, num, truth, name, field, rec, bin, app, comp, table, tnil, tcons, qnil, gen, cond, Question}
use Rattle.spec_calculus.specs.Value.{Value, vnil, vcons, coll, Table, Tables, no_table, no_tables}
use Rattle.spec_calculus.specs.Value as Va

-- a question over tables, and what it gives: its value, its written words and G; the lines of its plan; or the refusal's number; the
-- bytes of data, and the tables that they are read as, or the refusal's number
pub data Case : Type 0 where
  answers : Tables → Question → Value → List ℤ → ℕ → Case
  prints : Tables → Question → String → Case
  refuses : Tables → Question → ℕ → Case
  reads : List ℕ → Tables → Case
  declines : List ℕ → ℕ → Case

abbrev pub pair : ℕ → ℕ → Value
pair a b = Va.rec (vcons (Va.num (pos a)) (vcons (Va.num (pos b)) vnil))

-- of two columns and their bounds
abbrev pub declared : Collection → ℕ → ℕ → List Value → Table
declared c a b rows = record { kind = c; columns = 2; bounds = a ∷ b ∷ []; rows = rows }

-- "Columns declared 2^31 give the edge cases as printed." (document 02, E5)
abbrev pub table_of : Collection → List Value → Table
table_of c rows = declared c (2 ^ 31) (2 ^ 31) rows

abbrev pub berths : List Value
berths = pair 1 90 ∷ pair 2 70 ∷ []

abbrev pub twice : List Value
twice = pair 1 90 ∷ pair 1 90 ∷ []

abbrev pub bollards : List Value
bollards = pair 1 50 ∷ pair 1 60 ∷ []

-- table 0 alone, tables 0 and 1 (document 02, E9)
abbrev pub table_zero : Table → Tables
table_zero t = t ∷ replicate 7 no_table

abbrev pub tables_zero_one : Table → Table → Tables
tables_zero_one t u = t ∷ u ∷ replicate 6 no_table

-- a bag table 0 of berths, a bag table 1 of bollards
abbrev pub harbour : List Value → List Value → Tables
harbour b l = tables_zero_one (table_of bag b) (table_of bag l)

-- "records (b.0, sum of l.1 over l in table 1 where l.0 = b.0) for b in table 0"; b is name 0, and l's name, what is
-- taken, the monoid and the collection are left open
abbrev pub of_bollards : ℕ → Monoid → Term → Term
of_bollards x m h = comp m (gen x (table 1) (cond (bin equal (field 0 (name x)) (field 0 (name 0))) qnil)) h

abbrev pub per_bollard : Monoid → Term → Term
per_bollard m h = of_bollards 1 m h

abbrev pub per_berth : Collection → Term → Question
per_berth c h = record { monoid = of c; quals = gen 0 (table 0) qnil; head = rec (tcons (field 0 (name 0)) (tcons (per_bollard sum h) tnil)) }

abbrev pub load : Term
load = field 1 (name 1)

abbrev pub listing : Question
listing = per_berth bag load

-- over one table, and over nothing
abbrev pub over : Monoid → Term → Question
over m h = record { monoid = m; quals = gen 0 (table 0) qnil; head = h }

abbrev pub alone : Monoid → Term → Question
alone m h = record { monoid = m; quals = qnil; head = h }

-- the highest of the berths' highest drying heights, each 0 - l.1
abbrev pub highest : Question
highest = over max (per_bollard max (bin minus (num (pos 0)) load))

-- the least b.1 of the berths that have a bollard
abbrev pub shortest : Question
shortest = record { monoid = min; quals = gen 0 (table 0) (cond (comp some (gen 1 (table 1) qnil) (bin equal (field 0 (name 1)) (field 0 (name 0)))) qnil); head = field 1 (name 0) }

-- "(if c a b)" (document 02, E2)
abbrev pub either : Term → Term → Term → Term
either c a b = app choice (tcons c (tcons a (tcons b tnil)))

-- of each berth that has two bollards or more the sum of their l.1, of the others the greatest l.1 of all
abbrev pub loads : Question
loads = over (of bag) (either (bin less (num (pos 1)) (of_bollards 1 sum (num (pos 1)))) (of_bollards 2 sum (field 1 (name 2))) (comp max (gen 3 (table 1) qnil) (field 1 (name 3))))

-- the berths with 0 < b.1 and b.1 < 80
abbrev pub short : Question
short = record { monoid = of bag; quals = gen 0 (table 0) (cond (either (truth true) (bin and (bin less (num (pos 0)) (field 1 (name 0))) (bin less (field 1 (name 0)) (num (pos 80)))) (truth false)) qnil); head = field 0 (name 0) }

-- three generators, and a condition whose truth speaks of the first, its second branch of the second
abbrev pub thrice : Question
thrice = record { monoid = of bag; quals = gen 0 (table 0) (gen 1 (table 0) (gen 2 (table 0) (cond (either (bin less (field 0 (name 0)) (num (pos 2))) (truth true) (bin less (field 0 (name 1)) (num (pos 2)))) qnil))); head = field 0 (name 0) }

-- 2^62
abbrev pub greatest : Term
greatest = bin times (num (negsuc 2147483647)) (num (negsuc 2147483647))

-- sums of products of two bollards' l.1, and the greatest b.0 * b.0 * b.1
abbrev pub products : Question
products = record { monoid = sum; quals = gen 0 (table 0) (gen 1 (table 0) qnil); head = bin times (field 1 (name 0)) (field 1 (name 1)) }

abbrev pub of_three : Question
of_three = over max (bin times (bin times (field 0 (name 0)) (field 0 (name 0))) (field 1 (name 0)))

-- the greatest l.1 * l.1 * l.1 * b.1, where the l of table 1 stand in a comprehension of their own
abbrev pub of_both : Question
of_both = over max (bin times (comp max (gen 1 (table 1) qnil) (bin times (bin times (field 1 (name 1)) (field 1 (name 1))) (field 1 (name 1)))) (field 1 (name 0)))

-- the four bytes of a number below 256, and a bag table k of one column and one row with this bound and this cell; such a table 0
abbrev pub small : ℕ → List ℕ
small n = n ∷ 0 ∷ 0 ∷ 0 ∷ []

abbrev pub cell_of : ℕ → List ℕ → List ℕ → List ℕ
cell_of k b z = 13 ∷ 0 ∷ 20 ∷ 0 ∷ k ∷ 2 ∷ 1 ∷ 1 ∷ 0 ∷ (b ++ z)

abbrev pub one_cell : List ℕ → List ℕ → List ℕ
one_cell b z = cell_of 0 b z

-- such tables one behind the other, of these numbers; one of a collection that there is not
abbrev pub cells_of : List ℕ → List ℕ
cells_of [] = []
cells_of (k ∷ ks) = cell_of k (small 1) (small 1) ++ cells_of ks

abbrev pub broken : ℕ → List ℕ
broken k = 13 ∷ 0 ∷ 20 ∷ 0 ∷ k ∷ 4 ∷ 1 ∷ 1 ∷ 0 ∷ (small 1 ++ small 2)

-- tables 3 and 7, and no other
abbrev pub single : ℕ → Table
single n = record { kind = bag; columns = 1; bounds = n ∷ []; rows = Va.rec (vcons (Va.num (pos n)) vnil) ∷ [] }

abbrev pub apart : Tables
apart = no_table ∷ no_table ∷ no_table ∷ single 6 ∷ no_table ∷ no_table ∷ no_table ∷ single 5 ∷ []

-- the cells of two tables, added; the rows of one, counted
abbrev pub added : ℕ → ℕ → Question
added a b = record { monoid = of bag; quals = gen 0 (table a) (gen 1 (table b) qnil); head = bin plus (field 0 (name 0)) (field 0 (name 1)) }

abbrev pub how_many : ℕ → Question
how_many a = record { monoid = sum; quals = gen 0 (table a) qnil; head = num (pos 1) }

abbrev pub starred : List Case
starred =
    -- "The listing above": its answer, and its plan's lines
    answers (harbour berths bollards) listing (coll (vcons (pair 1 110) (vcons (pair 2 0) vnil))) (pos 2 ∷ pos 1 ∷ pos 110 ∷ pos 2 ∷ pos 0 ∷ []) 5
    ∷ prints (harbour berths bollards) listing "one\njoin 0 true\nouter 1 (= (. 0 $1) (. 0 $0))\nnest 1 sum (. 1 $1) true\nreduce bag (rec (. 0 $0) $1) true\n"
    -- "No berths: answer 0."
    ∷ answers (harbour [] bollards) listing (coll vnil) (pos 0 ∷ []) 1
    -- "No bollards: berth 1 with 0, berth 2 with 0."
    ∷ answers (harbour berths []) listing (coll (vcons (pair 1 0) (vcons (pair 2 0) vnil))) (pos 2 ∷ pos 1 ∷ pos 0 ∷ pos 2 ∷ pos 0 ∷ []) 5
    -- the same, counting bollards ("Counting a pad as a row, so a berth without bollards counts 1" is a slip)
    ∷ answers (harbour berths []) (per_berth bag (num (pos 1))) (coll (vcons (pair 1 0) (vcons (pair 2 0) vnil))) (pos 2 ∷ pos 1 ∷ pos 0 ∷ pos 2 ∷ pos 0 ∷ []) 5
    -- "Berth row (1, 90) twice, no other: 2 1 110 1 110."
    ∷ answers (harbour twice bollards) listing (coll (vcons (pair 1 110) (vcons (pair 1 110) vnil))) (pos 2 ∷ pos 1 ∷ pos 110 ∷ pos 1 ∷ pos 110 ∷ []) 5
    -- "As a set comprehension over the same rows: 1 1 110, with G 5."
    ∷ answers (harbour twice bollards) (per_berth set load) (coll (vcons (pair 1 110) vnil)) (pos 1 ∷ pos 1 ∷ pos 110 ∷ []) 5
    -- "Sum without qualifiers of 7: 7."
    ∷ answers no_tables (alone sum (num (pos 7))) (Va.num (pos 7)) (pos 7 ∷ []) 1
    -- "All over an empty table: true."
    ∷ answers (table_zero (table_of bag [])) (over all (truth false)) (Va.truth true) (pos 1 ∷ []) 1
    -- "The case "max of −3" becomes −3." (document 02, E1)
    ∷ answers no_tables (alone max (num (negsuc 2))) (Va.num (negsuc 2)) (negsuc 2 ∷ []) 1
    -- "max over at least one qualifying row is the greatest head; over none it is 0" (02, E1), and min mirrored
    ∷ answers (table_zero (table_of bag [])) (over max (field 1 (name 0))) (Va.num (pos 0)) (pos 0 ∷ []) 1
    ∷ answers (table_zero (table_of bag [])) (over min (bin times (field 1 (name 0)) (field 1 (name 0)))) (Va.num (pos 0)) (pos 0 ∷ []) 1
    ∷ answers no_tables (alone min (num (pos 3))) (Va.num (pos 3)) (pos 3 ∷ []) 1
    -- of berth 1 alone; the 0 of berth 2, which has no bollards, is a head like any other
    ∷ answers (harbour twice bollards) highest (Va.num (negsuc 49)) (negsuc 49 ∷ []) 1
    ∷ answers (harbour berths bollards) highest (Va.num (pos 0)) (pos 0 ∷ []) 1
    -- "max's bound, generators and rule for "some" conditions, and print it as "min""
    ∷ answers (table_zero (table_of set twice)) (over min (field 1 (name 0))) (Va.num (pos 90)) (pos 90 ∷ []) 1
    ∷ prints (harbour berths bollards) shortest "one\njoin 0 true\njoin 1 (= (. 0 $1) (. 0 $0))\nreduce min (. 1 $0) true\n"
    -- "A set-table generator in a sum: 26; in a set: accepted."
    ∷ refuses (table_zero (table_of set twice)) (over sum (field 1 (name 0))) 26
    ∷ answers (table_zero (table_of set twice)) (over (of set) (field 1 (name 0))) (coll (vcons (Va.num (pos 90)) vnil)) (pos 1 ∷ pos 90 ∷ []) 3
    -- "a truth, then two numbers or two truths, meaning the first of the two where the truth is true and else the second" (02, E2)
    ∷ answers (harbour berths bollards) (over (of bag) (either (bin equal (field 0 (name 0)) (num (pos 1))) (field 1 (name 0)) (num (pos 7)))) (coll (vcons (Va.num (pos 7)) (vcons (Va.num (pos 90)) vnil))) (pos 2 ∷ pos 7 ∷ pos 90 ∷ []) 3
    ∷ answers no_tables (alone all (either (truth false) (truth false) (truth true))) (Va.truth true) (pos 1 ∷ []) 1
    ∷ refuses no_tables (alone (of bag) (either (truth true) (num (pos 1)) (truth true))) 25
    ∷ refuses no_tables (alone sum (either (num (pos 1)) (num (pos 1)) (num (pos 2)))) 25
    ∷ refuses no_tables (alone (of bag) (either (truth true) (rec (tcons (num (pos 1)) tnil)) (rec (tcons (num (pos 1)) tnil)))) 25
    -- "Comprehensions inside it are planned in written order; it prints as (if c a b)."
    ∷ answers (harbour berths bollards) loads (coll (vcons (Va.num (pos 60)) (vcons (Va.num (pos 110)) vnil))) (pos 2 ∷ pos 60 ∷ pos 110 ∷ []) 3
    ∷ prints (harbour berths bollards) loads "one\njoin 0 true\nouter 1 (= (. 0 $1) (. 0 $0))\nnest 1 sum 1 true\nouter 1 (= (. 0 $2) (. 0 $0))\nnest 2 sum (. 1 $2) true\nouter 1 true\nnest 3 max (. 1 $3) true\nreduce bag (if (< 1 $1) $2 $3) true\n"
    -- a condition that is a choice is one condition, and goes by what any of its three terms mentions
    ∷ answers (harbour berths bollards) short (coll (vcons (Va.num (pos 2)) vnil)) (pos 1 ∷ pos 2 ∷ []) 2
    ∷ prints (harbour berths bollards) short "one\njoin 0 (if true (and (< 0 (. 1 $0)) (< (. 1 $0) 80)) false)\nreduce bag (. 0 $0) true\n"
    ∷ prints (harbour berths bollards) thrice "one\njoin 0 true\njoin 0 (if (< (. 0 $0) 2) true (< (. 0 $1) 2))\njoin 0 true\nreduce bag (. 0 $0) true\n"
    -- "Its bound is the larger one": 2^62, not the sum; of the second as of the first; and every number in it has its own
    ∷ answers no_tables (alone sum (either (truth true) greatest greatest)) (Va.num (pos 4611686018427387904)) (pos 4611686018427387904 ∷ []) 1
    ∷ refuses no_tables (alone sum (bin plus (either (truth true) (num (pos 1)) greatest) (num (pos 1)))) 28
    ∷ refuses no_tables (alone sum (bin plus (either (truth false) greatest (num (pos 1))) (num (pos 1)))) 28
    ∷ refuses no_tables (alone sum (either (truth true) (num (pos 1)) (bin plus greatest (num (pos 1))))) 28
    ∷ refuses no_tables (alone sum (either (bin less (bin plus greatest (num (pos 1))) (num (pos 1))) (num (pos 1)) (num (pos 2)))) 28
    -- "Sums of cell products are refused by 28 although no bollard carries over 300 tonnes .. the bound rule .. use[s] it for 2^31" (02, E5)
    ∷ answers (table_zero (declared bag 1 300 bollards)) products (Va.num (pos 12100)) (pos 12100 ∷ []) 1
    ∷ refuses (table_zero (table_of bag bollards)) products 28
    -- the bound of that column, of the table that the generator ranges over
    ∷ answers (table_zero (declared bag (2 ^ 31) 1 (pair 3 1 ∷ []))) of_three (Va.num (pos 9)) (pos 9 ∷ []) 1
    ∷ refuses (table_zero (declared bag (2 ^ 31) 2 (pair 3 1 ∷ []))) of_three 28
    ∷ answers (tables_zero_one (table_of bag berths) (declared bag 1 1 (pair 1 1 ∷ []))) of_both (Va.num (pos 90)) (pos 90 ∷ []) 1
    ∷ refuses (tables_zero_one (declared bag 1 1 []) (table_of bag [])) of_both 28
    -- a column of bound 0, and the other factor, which has its own
    ∷ answers (table_zero (declared bag 0 0 (pair 0 0 ∷ []))) (over sum (field 0 (name 0))) (Va.num (pos 0)) (pos 0 ∷ []) 1
    ∷ refuses (table_zero (declared bag 0 0 [])) (over sum (bin times (field 0 (name 0)) (bin plus greatest (num (pos 1))))) 28
    -- "Between its row count and its cells a table record now holds one four-byte unsigned bound per column"; without them the length does not match
    ∷ reads (21 ∷ 0 ∷ 20 ∷ 0 ∷ 0 ∷ 2 ∷ 2 ∷ 1 ∷ 0 ∷ (small 1 ++ (small 100 ++ (small 1 ++ (156 ∷ 255 ∷ 255 ∷ 255 ∷ []))))) (table_zero (declared bag 1 100 (Va.rec (vcons (Va.num (pos 1)) (vcons (Va.num (negsuc 99)) vnil)) ∷ [])))
    ∷ declines (9 ∷ 0 ∷ 20 ∷ 0 ∷ 0 ∷ 2 ∷ 1 ∷ 1 ∷ 0 ∷ small 5) 12
    -- "at most 2^31, and each cell's magnitude must not exceed it": -2^31 under 2^31 alone; 0 is a bound; a bound over 2^31 without rows
    ∷ reads (one_cell (0 ∷ 0 ∷ 0 ∷ 128 ∷ []) (0 ∷ 0 ∷ 0 ∷ 128 ∷ [])) (table_zero (record { kind = bag; columns = 1; bounds = 2 ^ 31 ∷ []; rows = Va.rec (vcons (Va.num (negsuc 2147483647)) vnil) ∷ [] }))
    ∷ declines (one_cell (255 ∷ 255 ∷ 255 ∷ 127 ∷ []) (0 ∷ 0 ∷ 0 ∷ 128 ∷ [])) 43
    ∷ declines (one_cell (small 0) (small 1)) 43
    ∷ declines (9 ∷ 0 ∷ 20 ∷ 0 ∷ 0 ∷ 2 ∷ 1 ∷ 0 ∷ 0 ∷ 1 ∷ 0 ∷ 0 ∷ 128 ∷ []) 43
    -- the bound of its own column
    ∷ declines (21 ∷ 0 ∷ 20 ∷ 0 ∷ 0 ∷ 2 ∷ 2 ∷ 1 ∷ 0 ∷ (small 1 ++ (small 100 ++ (small 100 ++ small 1)))) 43
    -- "at the same record, after 12": an earlier record's comes before a later one's 11, and a later one's is found too
    ∷ declines (one_cell (small 1) (small 2) ++ (0 ∷ [])) 43
    ∷ declines (broken 0) 12
    ∷ declines (one_cell (small 2) (small 2) ++ cell_of 1 (small 1) (small 2)) 43
    -- "Records may stand in any order and numbers may be skipped"; "The same records in another order give the same answer" (02, E9)
    ∷ reads (cell_of 7 (small 5) (small 5) ++ cell_of 3 (small 6) (small 6)) apart
    ∷ reads (cell_of 3 (small 6) (small 6) ++ cell_of 7 (small 5) (small 5)) apart
    ∷ answers apart (added 3 7) (coll (vcons (Va.num (pos 11)) vnil)) (pos 1 ∷ pos 11 ∷ []) 2
    ∷ prints apart (added 3 7) "one\njoin 3 true\njoin 7 true\nreduce bag (+ (. 0 $0) (. 0 $1)) true\n"
    -- "naming an absent number is 25": it is no table without rows
    ∷ refuses apart (how_many 0) 25
    ∷ refuses apart (how_many 255) 25
    -- "50, a number above 7; 51, a number already used; both at their record, after 12 and before 43"
    ∷ declines (cell_of 8 (small 1) (small 2)) 50
    ∷ declines (broken 8) 12
    ∷ declines (cell_of 3 (small 6) (small 6) ++ cell_of 3 (small 1) (small 2)) 51
    ∷ declines (cell_of 3 (small 6) (small 6) ++ broken 3) 12
    -- "The number is written as one byte .. ahead of the collection byte": a content without room for both is 12
    ∷ declines (4 ∷ 0 ∷ 20 ∷ 0 ∷ 2 ∷ 1 ∷ 0 ∷ 0 ∷ []) 12
    ∷ declines (1 ∷ 0 ∷ 20 ∷ 0 ∷ 8 ∷ []) 12
    -- "13: a ninth record", before its number, which is used; "earliest record first"
    ∷ declines (cells_of (0 ∷ 1 ∷ 2 ∷ 3 ∷ 4 ∷ 5 ∷ 6 ∷ 7 ∷ 0 ∷ [])) 13
    ∷ declines (cells_of (0 ∷ 1 ∷ 2 ∷ 3 ∷ 4 ∷ 5 ∷ 6 ∷ 0 ∷ 7 ∷ [])) 51
    ∷ declines (cell_of 0 (small 1) (small 2) ++ broken 1) 43
    ∷ declines (broken 1 ++ cell_of 0 (small 1) (small 2)) 12
    -- "11: a record cut short or not kind 20", before 12 and 50; "13: a ninth record", however short
    ∷ declines (1 ∷ 0 ∷ 21 ∷ 0 ∷ 8 ∷ []) 11
    ∷ declines (cells_of (0 ∷ 1 ∷ 2 ∷ 3 ∷ 4 ∷ 5 ∷ 6 ∷ 7 ∷ []) ++ (0 ∷ [])) 13
    ∷ []
