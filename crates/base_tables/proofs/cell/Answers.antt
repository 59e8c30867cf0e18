-- `base_tables::cell`: each way out is one of `cell_in`'s. Assumes nothing.
use Rattle.std.proofs.Common.{◌≡◌, ℕ, ◌/◌, ◌%◌, sym, refl, ap, ◌∙◌, arith, to_z-of_z}
use Rattle.spec_encoding.specs.Record.{Bytes, four}
use Rattle.base_signed.proofs.SignedWords.{fits}
use Rattle.base_tables.specs.Description.{one_kind, subset_in, kind_in, place_in, word_in}
use Rattle.base_tables.proofs.ByteReaders.{cell_below, cell-beside, cell-inside}
use Rattle.base_tables.proofs.TableCells.{word-by-rows}
use Rattle.base_tables.proofs.cell.Goals as goal

-- one test tells both that w has all its rows and that they stand one behind another
plain_word : (d : Bytes) (w r c : ℕ) {p x : ℕ} → w / one_kind % 8192 ≡ 0 → p ≡ place_in w r c → x ≡ four d p → x ≡ word_in d w r c
plain_word d w r c h ep ex =
    let z : subset_in w ≡ 0 = omega (arith, h) in
    let k : kind_in w ≡ 0 = omega (arith, h) in
    ex ∙ ap (four d) ep ∙ sym (word-by-rows d w r c z k refl refl)

pub returns-then-rows-r : goal.returns-then-rows-r
returns-then-rows-r c = cell_below c.rows.ensures c.if-rows-r.true

pub returns-then-width-c : goal.returns-then-width-c
returns-then-width-c c = cell-beside c.rows.ensures c.if-rows-r.false c.columns-width.ensures c.if-width-c.true

pub returns-then-w-eq0 : goal.returns-then-w-eq0
returns-then-w-eq0 c = rw (to_z-of_z (fits c.signed_of.type_inv))
    (cell-inside c.rows.ensures c.if-rows-r.false c.columns-width.ensures c.if-width-c.false c.signed_of.ensures
    (plain_word _ _ _ _ c.if-w-eq0.true c.place.ensures.0 c.four_at.ensures.0))

pub returns : goal.returns
returns c = rw (to_z-of_z (fits c.signed_of-2.type_inv))
    (cell-inside c.rows.ensures c.if-rows-r.false c.columns-width.ensures c.if-width-c.false c.signed_of-2.ensures c.cell_word.ensures.0)
