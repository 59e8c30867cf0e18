-- The first minute of a window from another on, and the first one of all windows.
use mathlib.Core.Path.{◌≡◌, refl, sym, ap, ◌∙◌}
use mathlib.Core.List.{[], ◌∷◌}
use mathlib.Core.Bool.{Bool, true, false, false≢true, ◌&&◌, ◌||◌, and-eq-true_iff}
use Prim.Native.Nat.{ℕ, ◌+◌, ◌-◌, ◌*◌, ◌/◌, ◌%◌, ◌≤◌, ◌<◌}
use native.Mathlib.Omega.{arith}
use lib.Dec.{eqb, ltb, leb}
use borrow.Author.Tests.{ltb-true, lt-ltb, leb-true, le-leb, lt-leb, eqb-true, eq-eqb, ne_eqb}
use Rattle.spec_calendar.specs.Dates.{weekday_of}
use Rattle.spec_calendar.specs.Hours.{Window, Calendar, holds, in_window}
use Rattle.base_hours.specs.Contract.{all_minutes, lies_in, lies_in_one, NextPost, LeastPost}

-- ---- window_holds
module _ (x : Window) (w m : ℕ) where
  pub other-weekday : (x.weekday ≡ w → ⊥) → false ≡ holds x w m
  unfolding holds
  other-weekday h = rw (ne_eqb x.weekday w h)

  module _ (e : x.weekday ≡ w) where
    pub not_yet : m < x.first → false ≡ holds x w m
    unfolding holds
    not_yet h = rw (eq-eqb x.weekday w e, lt-leb x.first m h)

    pub by_end : x.first ≤ m → ltb m x.end ≡ holds x w m
    unfolding holds
    by_end h = rw (eq-eqb x.weekday w e, le-leb x.first m h)

-- what it is to lie in a window
pub record Lies (x : Window) (u : ℕ) : Type 0 where
  pub weekday : x.weekday ≡ weekday_of (u / 1440)
  pub begun : x.first ≤ u % 1440
  pub before : u % 1440 < x.end

pub lies-is : (x : Window) (u : ℕ) → lies_in x u ≡ true → Lies x u
unfolding holds
lies-is x u e =
    let a = (and-eq-true_iff (eqb x.weekday (weekday_of (u / 1440))) (leb x.first (u % 1440) && ltb (u % 1440) x.end)).0 e in
    let b = (and-eq-true_iff (leb x.first (u % 1440)) (ltb (u % 1440) x.end)).0 a.1 in
    record { weekday = eqb-true _ _ a.0; begun = leb-true _ _ b.0; before = ltb-true _ _ b.1 }

pub is-lies : (x : Window) (u : ℕ) → Lies x u → lies_in x u ≡ true
unfolding holds
is-lies x u l = rw (eq-eqb x.weekday (weekday_of (u / 1440)) l.weekday, le-leb x.first (u % 1440) l.begun, lt-ltb (u % 1440) x.end l.before)

-- ---- next_in
module _ (x : Window) {f : ℕ} (h : f < all_minutes) where
  never : ((u : ℕ) → Lies x u → ⊥) → NextPost x f all_minutes
  never n = record { from = omega (arith, h); first = λ u p q s e. n u (lies-is x u e); lies = λ p. absurd (omega (arith, p)) }

  pub no-weekday : 6 < x.weekday → NextPost x f all_minutes
  no-weekday g = never (λ u l. omega (arith, l.weekday, g))

  pub no-minute : x.end ≤ x.first → NextPost x f all_minutes
  no-minute g = never (λ u l. omega (arith, l.begun, l.before, g))

  pub no-first : 1440 ≤ x.first → NextPost x f all_minutes
  no-first g = never (λ u l. omega (arith, l.begun, g))

  module _ (w : x.weekday ≤ 6) (n : x.first < x.end) (d : x.first < 1440) {v : ℕ} (ev : v ≡ weekday_of (f / 1440)) where
    -- days to the next one of this weekday
    abbrev ahead : ℕ
    ahead = (x.weekday + 7 - v) % 7

    abbrev start : ℕ
    start = (f / 1440 + ahead) * 1440 + x.first

    that-weekday : weekday_of (f / 1440 + ahead) ≡ x.weekday
    that-weekday = omega (arith, w, ev)

    no-sooner : (q : ℕ) → f / 1440 ≤ q → x.weekday ≡ weekday_of q → f / 1440 + ahead ≤ q
    no-sooner q l e = omega (arith, w, ev, l, e)

    -- no minute before the start lies in it
    not-before-start : (u : ℕ) → f ≤ u → Lies x u → start ≤ u
    not-before-start u p l =
        let s : f / 1440 + ahead ≤ u / 1440 = no-sooner (u / 1440) (omega (arith, p)) l.weekday in
        omega (arith, s, l.begun)

    start-day : start / 1440 ≡ f / 1440 + ahead
    start-day = omega (arith, d)

    start-minute : start % 1440 ≡ x.first
    start-minute = omega (arith, d)

    pub at-start : f ≤ start → NextPost x f start
    at-start p = record {
      from = p;
      first = λ u q r s e. absurd (omega (arith, not-before-start u q (lies-is x u e), r));
      lies = λ r. is-lies x start (record {
        weekday = sym that-weekday ∙ ap weekday_of (sym start-day);
        begun = omega (arith, start-minute);
        before = omega (arith, start-minute, n);
      });
    }

    -- the window of this day has begun
    module _ (p : start < f) where
      today : ahead ≡ 0
      today = omega (arith, p)

      this-weekday : x.weekday ≡ weekday_of (f / 1440)
      this-weekday = omega (arith, today, w, ev)

      pub at_once : f % 1440 < x.end → NextPost x f f
      at_once r = record {
        from = omega arith;
        first = λ u q t s e. absurd (omega (arith, q, t));
        lies = λ t. is-lies x f (record { weekday = this-weekday; begun = omega (arith, p, today); before = r });
      }

      module _ (r : x.end ≤ f % 1440) where
        later-day : (u : ℕ) → f ≤ u → Lies x u → start + 10080 ≤ u
        later-day u q l =
            let s : f / 1440 + 1 ≤ u / 1440 = omega (arith, q, l.before, r) in
            let t : f / 1440 + 7 ≤ u / 1440 = omega (arith, s, l.weekday, this-weekday) in
            omega (arith, t, today, l.begun)

        pub a-week-on : NextPost x f (start + 10080)
        a-week-on = record {
          from = omega (arith, today, d, r);
          first = λ u q t s e. absurd (omega (arith, later-day u q (lies-is x u e), t));
          lies = λ t. is-lies x (start + 10080) (record {
            weekday = omega (arith, this-weekday, today, d);
            begun = omega (arith, d);
            before = omega (arith, d, n);
          });
        }

-- ---- first_in: all windows, of which some are left
pub record Rest (whole left : Calendar) (f r : ℕ) : Type 0 where
  pub most : r ≤ all_minutes
  pub from : f ≤ r
  pub lies : r < all_minutes → lies_in_one whole r ≡ true
  pub stays : (u : ℕ) → f ≤ u → u < r → lies_in_one whole u ≡ true → lies_in_one left u ≡ true
  pub part : (u : ℕ) → lies_in_one left u ≡ true → lies_in_one whole u ≡ true

pub all_left : (c : Calendar) {f : ℕ} → f < all_minutes → Rest c c f all_minutes
all_left c h = record { most = omega arith; from = omega (arith, h); lies = λ p. absurd (omega (arith, p)); stays = λ u p q e. e; part = λ u e. e }

or_is : (a b : Bool) → (a || b) ≡ true → (a ≡ true → ⊥) → b ≡ true
or_is true b e n = absurd (n refl)
or_is false b e n = e

or-first : (a b : Bool) → a ≡ true → (a || b) ≡ true
or-first true b e = refl
or-first false b e = absurd (false≢true e)

or-second : (a b : Bool) → b ≡ true → (a || b) ≡ true
or-second true b e = refl
or-second false b e = e

module _ {whole : Calendar} {x : Window} {left : Calendar} {f r t : ℕ} (R : Rest whole (x ∷ left) f r) (N : NextPost x f t) where
  behind-it : (u : ℕ) → f ≤ u → u < r → u < t → lies_in_one whole u ≡ true → lies_in_one left u ≡ true
  unfolding in_window
  behind-it u p q s e = or_is (lies_in x u) (lies_in_one left u) (R.stays u p q e) (N.first u p s (omega (arith, q, R.most)))

  part_left : (u : ℕ) → lies_in_one left u ≡ true → lies_in_one whole u ≡ true
  unfolding in_window
  part_left u e = R.part u (or-second (lies_in x u) (lies_in_one left u) e)

  pub sooner : t < r → Rest whole left f t
  unfolding in_window
  sooner l = record {
    most = omega (arith, l, R.most);
    from = N.from;
    lies = λ p. R.part t (or-first (lies_in x t) (lies_in_one left t) (N.lies p));
    stays = λ u p q e. behind-it u p (omega (arith, q, l)) q e;
    part = part_left;
  }

  pub later : r ≤ t → Rest whole left f r
  later l = record { most = R.most; from = R.from; lies = R.lies; stays = λ u p q e. behind-it u p q (omega (arith, q, l)) e; part = part_left }

pub none_left : {whole : Calendar} {f r : ℕ} → Rest whole [] f r → LeastPost whole f r
unfolding in_window
none_left R = record { most = R.most; from = R.from; first = λ u p q e. false≢true (R.stays u p q e); lies = R.lies }
