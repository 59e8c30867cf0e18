-- The tables of first days and of months: the leap-year rule over all of the first one, shown once.
use mathlib.Core.Path.{◌≡◌, sym, ap, ◌∙◌}
use mathlib.Core.List.{List, [], ◌∷◌}
use mathlib.Core.Bool.{Bool, true, false}
use Prim.Native.Nat.{ℕ, ◌+◌, ◌≤◌, ◌<◌}
use native.Mathlib.Omega.{arith}
use lib.Dec.{eqb, eqb→eq, ltb, leb, leb→le}
use lib.ListN.{get_or}
use borrow.Author.Tests.{lt-ltb, le-ltb}
use Rattle.spec_calendar.specs.Dates.{is_leap, leap_day, year_days, month_days, up_to, first_day, month_start}
use Rattle.spec_calendar.proofs.Table.{at}

-- "The first day number of each of the 400 years is a constant table": as the code has it
unfoldable pub first_days : List ℕ
first_days =
    0 ∷ 366 ∷ 731 ∷ 1096 ∷ 1461 ∷ 1827 ∷ 2192 ∷ 2557 ∷ 2922 ∷ 3288 ∷ 3653 ∷ 4018 ∷ 4383 ∷ 4749 ∷ 5114 ∷ 5479 ∷
    5844 ∷ 6210 ∷ 6575 ∷ 6940 ∷ 7305 ∷ 7671 ∷ 8036 ∷ 8401 ∷ 8766 ∷ 9132 ∷ 9497 ∷ 9862 ∷ 10227 ∷ 10593 ∷ 10958 ∷ 11323 ∷
    11688 ∷ 12054 ∷ 12419 ∷ 12784 ∷ 13149 ∷ 13515 ∷ 13880 ∷ 14245 ∷ 14610 ∷ 14976 ∷ 15341 ∷ 15706 ∷ 16071 ∷ 16437 ∷ 16802 ∷ 17167 ∷
    17532 ∷ 17898 ∷ 18263 ∷ 18628 ∷ 18993 ∷ 19359 ∷ 19724 ∷ 20089 ∷ 20454 ∷ 20820 ∷ 21185 ∷ 21550 ∷ 21915 ∷ 22281 ∷ 22646 ∷ 23011 ∷
    23376 ∷ 23742 ∷ 24107 ∷ 24472 ∷ 24837 ∷ 25203 ∷ 25568 ∷ 25933 ∷ 26298 ∷ 26664 ∷ 27029 ∷ 27394 ∷ 27759 ∷ 28125 ∷ 28490 ∷ 28855 ∷
    29220 ∷ 29586 ∷ 29951 ∷ 30316 ∷ 30681 ∷ 31047 ∷ 31412 ∷ 31777 ∷ 32142 ∷ 32508 ∷ 32873 ∷ 33238 ∷ 33603 ∷ 33969 ∷ 34334 ∷ 34699 ∷
    35064 ∷ 35430 ∷ 35795 ∷ 36160 ∷ 36525 ∷ 36890 ∷ 37255 ∷ 37620 ∷ 37985 ∷ 38351 ∷ 38716 ∷ 39081 ∷ 39446 ∷ 39812 ∷ 40177 ∷ 40542 ∷
    40907 ∷ 41273 ∷ 41638 ∷ 42003 ∷ 42368 ∷ 42734 ∷ 43099 ∷ 43464 ∷ 43829 ∷ 44195 ∷ 44560 ∷ 44925 ∷ 45290 ∷ 45656 ∷ 46021 ∷ 46386 ∷
    46751 ∷ 47117 ∷ 47482 ∷ 47847 ∷ 48212 ∷ 48578 ∷ 48943 ∷ 49308 ∷ 49673 ∷ 50039 ∷ 50404 ∷ 50769 ∷ 51134 ∷ 51500 ∷ 51865 ∷ 52230 ∷
    52595 ∷ 52961 ∷ 53326 ∷ 53691 ∷ 54056 ∷ 54422 ∷ 54787 ∷ 55152 ∷ 55517 ∷ 55883 ∷ 56248 ∷ 56613 ∷ 56978 ∷ 57344 ∷ 57709 ∷ 58074 ∷
    58439 ∷ 58805 ∷ 59170 ∷ 59535 ∷ 59900 ∷ 60266 ∷ 60631 ∷ 60996 ∷ 61361 ∷ 61727 ∷ 62092 ∷ 62457 ∷ 62822 ∷ 63188 ∷ 63553 ∷ 63918 ∷
    64283 ∷ 64649 ∷ 65014 ∷ 65379 ∷ 65744 ∷ 66110 ∷ 66475 ∷ 66840 ∷ 67205 ∷ 67571 ∷ 67936 ∷ 68301 ∷ 68666 ∷ 69032 ∷ 69397 ∷ 69762 ∷
    70127 ∷ 70493 ∷ 70858 ∷ 71223 ∷ 71588 ∷ 71954 ∷ 72319 ∷ 72684 ∷ 73049 ∷ 73414 ∷ 73779 ∷ 74144 ∷ 74509 ∷ 74875 ∷ 75240 ∷ 75605 ∷
    75970 ∷ 76336 ∷ 76701 ∷ 77066 ∷ 77431 ∷ 77797 ∷ 78162 ∷ 78527 ∷ 78892 ∷ 79258 ∷ 79623 ∷ 79988 ∷ 80353 ∷ 80719 ∷ 81084 ∷ 81449 ∷
    81814 ∷ 82180 ∷ 82545 ∷ 82910 ∷ 83275 ∷ 83641 ∷ 84006 ∷ 84371 ∷ 84736 ∷ 85102 ∷ 85467 ∷ 85832 ∷ 86197 ∷ 86563 ∷ 86928 ∷ 87293 ∷
    87658 ∷ 88024 ∷ 88389 ∷ 88754 ∷ 89119 ∷ 89485 ∷ 89850 ∷ 90215 ∷ 90580 ∷ 90946 ∷ 91311 ∷ 91676 ∷ 92041 ∷ 92407 ∷ 92772 ∷ 93137 ∷
    93502 ∷ 93868 ∷ 94233 ∷ 94598 ∷ 94963 ∷ 95329 ∷ 95694 ∷ 96059 ∷ 96424 ∷ 96790 ∷ 97155 ∷ 97520 ∷ 97885 ∷ 98251 ∷ 98616 ∷ 98981 ∷
    99346 ∷ 99712 ∷ 100077 ∷ 100442 ∷ 100807 ∷ 101173 ∷ 101538 ∷ 101903 ∷ 102268 ∷ 102634 ∷ 102999 ∷ 103364 ∷ 103729 ∷ 104095 ∷ 104460 ∷ 104825 ∷
    105190 ∷ 105556 ∷ 105921 ∷ 106286 ∷ 106651 ∷ 107017 ∷ 107382 ∷ 107747 ∷ 108112 ∷ 108478 ∷ 108843 ∷ 109208 ∷ 109573 ∷ 109938 ∷ 110303 ∷ 110668 ∷
    111033 ∷ 111399 ∷ 111764 ∷ 112129 ∷ 112494 ∷ 112860 ∷ 113225 ∷ 113590 ∷ 113955 ∷ 114321 ∷ 114686 ∷ 115051 ∷ 115416 ∷ 115782 ∷ 116147 ∷ 116512 ∷
    116877 ∷ 117243 ∷ 117608 ∷ 117973 ∷ 118338 ∷ 118704 ∷ 119069 ∷ 119434 ∷ 119799 ∷ 120165 ∷ 120530 ∷ 120895 ∷ 121260 ∷ 121626 ∷ 121991 ∷ 122356 ∷
    122721 ∷ 123087 ∷ 123452 ∷ 123817 ∷ 124182 ∷ 124548 ∷ 124913 ∷ 125278 ∷ 125643 ∷ 126009 ∷ 126374 ∷ 126739 ∷ 127104 ∷ 127470 ∷ 127835 ∷ 128200 ∷
    128565 ∷ 128931 ∷ 129296 ∷ 129661 ∷ 130026 ∷ 130392 ∷ 130757 ∷ 131122 ∷ 131487 ∷ 131853 ∷ 132218 ∷ 132583 ∷ 132948 ∷ 133314 ∷ 133679 ∷ 134044 ∷
    134409 ∷ 134775 ∷ 135140 ∷ 135505 ∷ 135870 ∷ 136236 ∷ 136601 ∷ 136966 ∷ 137331 ∷ 137697 ∷ 138062 ∷ 138427 ∷ 138792 ∷ 139158 ∷ 139523 ∷ 139888 ∷
    140253 ∷ 140619 ∷ 140984 ∷ 141349 ∷ 141714 ∷ 142080 ∷ 142445 ∷ 142810 ∷ 143175 ∷ 143541 ∷ 143906 ∷ 144271 ∷ 144636 ∷ 145002 ∷ 145367 ∷ 145732 ∷ []

is_first : ℕ → ℕ → Bool
is_first k x = eqb x (first_day k)

-- "the leap-year rule shown once over all of it": one test over all entries, which is computed, gives the rule at each
pub rule : (k : ℕ) → k < 400 → get_or first_days k 0 ≡ first_day k
unfolding first_days is_first first_day up_to year_days is_leap
rule k h = eqb→eq (get_or first_days k 0) (first_day k) (at is_first first_days tt k h)

-- ---- months
unfoldable pub month_starts : List ℕ
month_starts = 0 ∷ 31 ∷ 59 ∷ 90 ∷ 120 ∷ 151 ∷ 181 ∷ 212 ∷ 243 ∷ 273 ∷ 304 ∷ 334 ∷ 365 ∷ []

-- from March on a leap year's months begin a day later
abbrev late : Bool → ℕ → ℕ
late true k = leap_day (ltb 1 k)
late false k = 0

is_start : Bool → ℕ → ℕ → Bool
is_start l k x = eqb (x + late l k) (month_start l k)

starts : (l : Bool) (k : ℕ) → k ≤ 12 → get_or month_starts k 0 + late l k ≡ month_start l k
unfolding month_starts is_start month_start up_to month_days
starts true k h = eqb→eq (get_or month_starts k 0 + late true k) (month_start true k) (at (is_start true) month_starts tt k (omega arith))
starts false k h = eqb→eq (get_or month_starts k 0 + late false k) (month_start false k) (at (is_start false) month_starts tt k (omega arith))

small : ℕ → ℕ → Bool
small k x = leb x 365

pub starts-most : (k : ℕ) → k ≤ 12 → get_or month_starts k 0 ≤ 365
unfolding month_starts small
starts-most k h = leb→le (get_or month_starts k 0) 365 (at small month_starts tt k (omega arith))

-- the ways out of `month_start`
pub start-later : {l : Bool} (k : ℕ) → k ≤ 12 → 1 < k → l ≡ true → get_or month_starts k 0 + 1 ≡ month_start l k
start-later k h g e = ap (λ (n : ℕ). get_or month_starts k 0 + n) (sym (ap leap_day (lt-ltb 1 k g))) ∙ starts true k h ∙ ap (λ (b : Bool). month_start b k) (sym e)

pub start-early : {l : Bool} (k : ℕ) → k ≤ 12 → k ≤ 1 → l ≡ true → get_or month_starts k 0 ≡ month_start l k
start-early k h g e = omega (arith, ap leap_day (le-ltb 1 k g), starts true k h ∙ ap (λ (b : Bool). month_start b k) (sym e))

pub start_plain : {l : Bool} (k : ℕ) → k ≤ 12 → l ≡ false → get_or month_starts k 0 ≡ month_start l k
start_plain k h e = omega (arith, starts false k h ∙ ap (λ (b : Bool). month_start b k) (sym e))
