-- A cell a turn, behind those before it.
use mathlib.Core.Path.{ap}
use Prim.Native.Nat.{◌*◌}
use native.Mathlib.Omega.{arith}
use Rattle.phylip_text.specs.Text.{cell_written}
use Rattle.phylip_text.proofs.Sizes.{cells-long}
use Rattle.pieces.proofs.Written.{pieces-start, pieces-size, pieces_room, pieces-turn, pieces_end}
use Rattle.phylip_put.proofs.put_cells.Goals as goal

pub loop-j-init : goal.loop-j-init
loop-j-init c = pieces-start _ _ _ _

pub put_cell-next-requires : goal.put_cell-next-requires
put_cell-next-requires c = let t = c.loop-j.invariant in let w = cells-long c.args.distances.now c.args.i c.loop-j.j in pieces_room _ _ _ _ t (7 * c.loop-j.j) w 7 (omega (arith, c.requires.0))

pub loop-j-preserved : goal.loop-j-preserved
loop-j-preserved c = let t = c.loop-j.invariant in let w = cells-long c.args.distances.now c.args.i c.loop-j.j in pieces-turn _ _ _ _ t (7 * c.loop-j.j) w _ (omega arith) (omega (arith, c.requires.0)) (ap cell_written c.value.ensures) c.put_cell-next.ensures

pub shape_of-text : goal.shape_of-text
shape_of-text c = let t = c.loop-j.invariant in let w = cells-long c.args.distances.now c.args.i c.loop-j.j in pieces-size _ _ _ _ t (7 * c.loop-j.j) w (omega (arith, c.requires.0, t.few))

pub returns : goal.returns
returns c = pieces_end _ _ _ _ c.loop-j.invariant c.loop-j-test.false
