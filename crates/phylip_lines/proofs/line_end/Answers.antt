-- Two bytes behind the blanks tell what ends the line; both it and the blanks are in the text.
use mathlib.Core.Path.{refl, sym}
use native.Mathlib.Omega.{arith}
use Rattle.phylip_lines.proofs.Ending.{end-within, end_read}
use Rattle.phylip_lines.proofs.line_end.Goals as goal

pub overflow_add-next : goal.overflow_add-next
overflow_add-next c = let e = c.blanks_end-end in
    let w = end-within c.args.text.now c.args.at e.result e.ensures.0 e.ensures.1 _ _ _ c.byte_at.ensures c.byte_at-2.ensures c.line_end_size-size.ensures in omega (arith, w)

pub returns-then-unended : goal.returns-then-unended
returns-then-unended c = let e = c.blanks_end-end in
    end_read c.args.text.now c.args.at e.result e.ensures.0 e.ensures.1 _ _ _ c.byte_at.ensures c.byte_at-2.ensures c.line_end_size-size.ensures _ c.unended.ensures _ (sym c.if-unended.true) refl

pub returns : goal.returns
returns c = let e = c.blanks_end-end in
    end_read c.args.text.now c.args.at e.result e.ensures.0 e.ensures.1 _ _ _ c.byte_at.ensures c.byte_at-2.ensures c.line_end_size-size.ensures _ c.unended.ensures _ (sym c.if-unended.false) refl
