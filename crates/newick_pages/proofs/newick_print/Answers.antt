-- The text stands at the front of the part that was lent, and the line end behind it; a refusal's line in its place.
use mathlib.Core.Path.{sym, ◌∙◌}
use native.Mathlib.Omega.{arith}
use Rattle.pages.proofs.Texts.{small_page}
use Rattle.newick_text.specs.Tree.{max_text}
use Rattle.newick_pages.proofs.Printing.{part_length, still-long, shows-refusal, line-room, shows-text}
use Rattle.newick_pages.proofs.newick_print.Goals as goal

pub returns-then-text-lt-PAGE : goal.returns-then-text-lt-PAGE
returns-then-text-lt-PAGE c = small_page _ _ _ c.if-text-lt-PAGE.true

pub slice_bounds-write_sheet-end-2 : goal.slice_bounds-write_sheet-end-2
slice_bounds-write_sheet-end-2 c = sym (part_length c.args.text.now max_text (omega (arith, c.if-text-lt-PAGE.false)))

pub put-requires : goal.put-requires
put-requires c = line-room c.args.s.now c.args.text.now c.write_sheet.new.text c.if-text-lt-PAGE.false c.write_sheet.auto.text c.in-Ok.end c.in-Ok.ensures

pub shape_of-text-in-Ok : goal.shape_of-text-in-Ok
shape_of-text-in-Ok c = c.put.auto.text ∙ still-long c.args.s.now c.args.text.now c.write_sheet.new.text c.if-text-lt-PAGE.false c.write_sheet.auto.text

pub returns-in-Ok : goal.returns-in-Ok
returns-in-Ok c = shows-text c.args.s.now c.args.text.now c.write_sheet.new.text c.if-text-lt-PAGE.false c.write_sheet.auto.text c.in-Ok.end c.in-Ok.ensures c.put.new.text c.put.result c.put.ensures

pub refused_line-requires : goal.refused_line-requires
refused_line-requires c = omega (arith, still-long c.args.s.now c.args.text.now c.write_sheet.new.text c.if-text-lt-PAGE.false c.write_sheet.auto.text, c.if-text-lt-PAGE.false)

pub shape_of-text-in-Err : goal.shape_of-text-in-Err
shape_of-text-in-Err c = c.refused_line.auto.text ∙ still-long c.args.s.now c.args.text.now c.write_sheet.new.text c.if-text-lt-PAGE.false c.write_sheet.auto.text

pub returns-in-Err : goal.returns-in-Err
returns-in-Err c = shows-refusal c.args.s.now c.args.text.now c.write_sheet.new.text c.if-text-lt-PAGE.false c.write_sheet.auto.text c.in-Err.refusal c.in-Err.ensures c.refused_line.new.text c.refused_line.result _ c.from.ensures c.refused_line.ensures
