-- A turn reads one cell: the gap before it, its bytes, what it is. The first that is not of the form ends the row.
use mathlib.Core.Path.{refl, sym, ◌∙◌}
use Rattle.cells.proofs.Units.{cell-kept}
use Rattle.cells.proofs.Rows.{row-start, row_touches, row-none, row-turn, row-end, row-bad}
use Rattle.cells.proofs.cells.Goals as goal

pub loop-c-init : goal.loop-c-init
loop-c-init c = row-start c.args.text.now c.args.at c.args.n c.args.base c.args.entries.now c.requires.0

pub returns-then-touches : goal.returns-then-touches
returns-then-touches c = row-bad c.args.text.now c.args.at c.args.n c.args.base c.args.entries.now c.loop-c.invariant
    (row_touches c.args.text.now c.args.at c.args.n c.args.base c.args.entries.now c.loop-c.entries c.loop-c.end c.loop-c.out c.loop-c.c c.loop-c.invariant c.gap_end-start.result c.gap_end-start.ensures.0 c.loop-c-test.true (sym c.touches.ensures ∙ c.if-touches.true))

pub returns-then-size-eq0 : goal.returns-then-size-eq0
returns-then-size-eq0 c = row-bad c.args.text.now c.args.at c.args.n c.args.base c.args.entries.now c.loop-c.invariant
    (row-none c.args.text.now c.args.at c.args.n c.args.base c.args.entries.now c.loop-c.entries c.loop-c.end c.loop-c.out c.loop-c.c c.loop-c.invariant c.gap_end-start.result c.gap_end-start.ensures.0 c.cell_size-size.result c.cell_size-size.ensures.0 c.loop-c-test.true c.if-size-eq0.true)

pub loop-c-preserved : goal.loop-c-preserved
loop-c-preserved c = row-turn c.args.text.now c.args.at c.args.n c.args.base c.args.entries.now c.loop-c.entries c.loop-c.end c.loop-c.out c.loop-c.c c.loop-c.invariant c.gap_end-start.result c.gap_end-start.ensures.0 c.cell_size-size.result c.cell_size-size.ensures.0
    c.is_none-out.result _ c.unwrap_or.result c.loop-c-test.true c.requires.2 c.cell_size-size.ensures.1 (sym c.touches.ensures ∙ c.if-touches.false) c.if-size-eq0.false
    (cell-kept _ c.cell_at-found.result c.is_none-out.result c.unwrap_or.result c.cell_at-found.ensures c.is_none-out.ensures c.unwrap_or.ensures) refl

pub returns : goal.returns
returns c = row-end c.args.text.now c.args.at c.args.n c.args.base c.args.entries.now c.loop-c.entries c.loop-c.end c.loop-c.out c.loop-c.c c.loop-c-test.false c.loop-c.invariant
