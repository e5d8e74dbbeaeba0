-- The measure is the bytes left; the loop's invariant is the equivalence `Rest`.
use mathlib.Core.Path.{sym, ◌∙◌}
use native.Mathlib.Omega.{arith}
use Rattle.newick_form.proofs.Forming.{no_vertex, a-name, too_deep, opens, no-child, edgeless, child-other, closes_at, comma}
use Rattle.newick_form.proofs.+form.Goals as goal

pub returns-then-end-at : goal.returns-then-end-at
returns-then-end-at t c = let p = c.args in no_vertex p.text.now p.at p.room (λ e. c.if-byte_at-ne40.true (c.byte_at.ensures ∙ e)) c.name_end-end.result c.name_end-end.ensures.0 c.if-end-at.true

pub returns-then-byte_at-ne40 : goal.returns-then-byte_at-ne40
returns-then-byte_at-ne40 t c = let p = c.args in a-name p.text.now p.at p.room (λ e. c.if-byte_at-ne40.true (c.byte_at.ensures ∙ e)) c.name_end-end.result c.name_end-end.ensures.0 c.if-end-at.false c.name_end-end.ensures.1

pub returns-then-room-eq0 : goal.returns-then-room-eq0
returns-then-room-eq0 t c = let p = c.args in too_deep p.text.now p.at p.room (sym c.byte_at.ensures ∙ c.if-byte_at-ne40.false) c.if-room-eq0.true

pub loop-end-init : goal.loop-end-init
loop-end-init t c = let p = c.args in opens p.text.now p.at p.room (sym c.byte_at.ensures ∙ c.if-byte_at-ne40.false) (omega (arith, c.if-room-eq0.false))

pub returns-in_err-end : goal.returns-in_err-end
returns-in_err-end t c = let p = c.args in rw c.from_residual.ensures (no-child p.text.now p.at p.room c.loop-end.next c.loop-end.invariant c.in_err-end.ensures)

pub returns-then-edge-end : goal.returns-then-edge-end
returns-then-edge-end t c = let p = c.args in edgeless p.text.now p.at p.room c.loop-end.next c.loop-end.invariant c.in_ok-end.end c.in_ok-end.ensures c.edge_end-edge.result c.edge_end-edge.ensures.0 c.if-edge-end.true

pub returns-then-byte-eq41 : goal.returns-then-byte-eq41
returns-then-byte-eq41 t c = let p = c.args in closes_at p.text.now p.at p.room c.loop-end.next c.loop-end.invariant c.in_ok-end.end c.in_ok-end.ensures c.edge_end-edge.result c.edge_end-edge.ensures.0 c.if-edge-end.false (sym c.byte_at-byte.ensures ∙ c.if-byte-eq41.true)

pub returns-then-byte-ne44 : goal.returns-then-byte-ne44
returns-then-byte-ne44 t c = let p = c.args in child-other p.text.now p.at p.room c.loop-end.next c.loop-end.invariant c.in_ok-end.end c.in_ok-end.ensures c.edge_end-edge.result c.edge_end-edge.ensures.0 c.if-edge-end.false (λ e. c.if-byte-eq41.false (c.byte_at-byte.ensures ∙ e)) (λ e. c.if-byte-ne44.true (c.byte_at-byte.ensures ∙ e))

pub loop-end-preserved : goal.loop-end-preserved
loop-end-preserved t c = let p = c.args in comma p.text.now p.at p.room c.loop-end.next c.loop-end.invariant c.in_ok-end.end c.in_ok-end.ensures c.edge_end-edge.result c.edge_end-edge.ensures.0 c.if-edge-end.false (sym c.byte_at-byte.ensures ∙ c.if-byte-ne44.false)
