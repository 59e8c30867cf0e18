-- Rows of a table by rows, one behind another, are a table: its description moved to them gives their cells.
use Rattle.std.proofs.Common.{◌≡◌, ℕ, ◌+◌, ◌-◌, ◌*◌, ◌<◌, ◌≤◌, Bool, true, false, eqb, ltb, sym, refl, ap, ◌∙◌, mul-add, arith, ltb-false, ltb-true}
use borrow.Author.Tests.{eqb-false}
use Rattle.spec_encoding.specs.Record.{Bytes, four, signed}
use Rattle.base_signed.proofs.SignedWords.{by-test}
use Rattle.base_tables.specs.Description.{one_row, one_position, columns_in, rows_in, kind_in, subset_in, position_in, cell_in}
use Rattle.base_tables.specs.Stretches.{Stretchable, StretchPre, StretchPost}
use Rattle.base_tables.proofs.TableCells.{word-by-rows, cell-found, cell-beside}

pub stretchable : {w : ℕ} {k : Bool} → k ≡ eqb (kind_in w) 1 → k ≡ false → subset_in w ≡ 0 → ltb (position_in w) 8589934592 ≡ true → Stretchable w
stretchable {w} e h z t = record { by_rows = omega (arith, eqb-false (kind_in w) 1 (sym e ∙ h)); full = z; low = ltb-true (position_in w) 8589934592 t }

-- a, b and v as `stretch` has them
module _ {w f m a b v : ℕ} (P : StretchPre w f m) (ea : a ≡ rows_in w) (eb : b ≡ columns_in w * f) (lb : b < 32768) (ev : v ≡ w - one_row * (a - m) + one_position * (4 * b)) where
  rows_are : rows_in v ≡ m
  rows_are = omega (arith, ea, ev, P.inside)

  columns-are : columns_in v ≡ columns_in w
  columns-are = omega (arith, ea, ev, P.inside)

  kind-is : kind_in v ≡ 0
  kind-is = omega (arith, ea, ev, P.inside, P.table.by_rows)

  subset-is : subset_in v ≡ 0
  subset-is = omega (arith, ea, ev, P.inside, P.table.full)

  position-is : position_in v ≡ position_in w + 4 * b
  position-is = omega (arith, ea, ev, P.inside)

  place_is : (r c : ℕ) → position_in w + 4 * b + 4 * (columns_in w * r + c) ≡ position_in w + 4 * (columns_in w * (f + r) + c)
  place_is r c = omega (arith, eb, mul-add (columns_in w) f r)

  cell-is : (d : Bytes) (r c : ℕ) → r < m → cell_in d v r c ≡ cell_in d w (f + r) c
  cell-is d r c l = by-test (ltb c (columns_in w))
      (λ t.
      let q : c < columns_in w = ltb-true c (columns_in w) t in
      cell-found d v r c rows_are columns-are l q
      ∙ ap signed (word-by-rows d v r c subset-is kind-is columns-are position-is ∙ ap (four d) (place_is r c) ∙ sym (word-by-rows d w (f + r) c P.table.full P.table.by_rows refl refl))
      ∙ sym (cell-found d w (f + r) c refl refl (omega (arith, l, P.inside)) q))
      (λ t.
      let q : columns_in w ≤ c = ltb-false c (columns_in w) t in
      cell-beside d v r c columns-are q ∙ sym (cell-beside d w (f + r) c refl q))

  pub stretched : StretchPost w f m v
  stretched = record { rows = rows_are; columns = columns-are; cell = cell-is }
