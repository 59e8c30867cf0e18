-- `base_tariff::tariff_fits`: one whole record of kind 22, and then its content.
use Rattle.base_tariff.proofs.Laws.{header-within, by-content, no-tariff}
use Rattle.base_tariff.proofs.tariff_fits.Goals as goal

pub slice_bounds-layout_fits-count : goal.slice_bounds-layout_fits-count
slice_bounds-layout_fits-count c = header-within c.args.l.now c.is_alone.ensures c.if-is_alone.true

pub slice_bounds-layout_fits-start : goal.slice_bounds-layout_fits-start
slice_bounds-layout_fits-start c = header-within c.args.l.now c.is_alone.ensures c.if-is_alone.true

pub returns-then-is_alone : goal.returns-then-is_alone
returns-then-is_alone c = by-content c.args.l.now c.is_alone.ensures c.if-is_alone.true c.layout_fits.ensures

pub returns : goal.returns
returns c = no-tariff c.args.l.now c.is_alone.ensures c.if-is_alone.false
