-- A row a turn, behind those before it.
use mathlib.Core.Path.{refl}
use Prim.Native.Nat.{◌*◌}
use native.Mathlib.Omega.{arith}
use Rattle.phylip_text.specs.Text.{widest_row}
use Rattle.phylip_text.proofs.Sizes.{rows_long}
use Rattle.pieces.proofs.Written.{pieces-start, pieces-size, pieces_room, pieces-turn, pieces_end}
use Rattle.phylip_put.proofs.put_rows.Goals as goal

pub loop-i-init : goal.loop-i-init
loop-i-init c = pieces-start _ _ _ _

pub put_row-next-requires : goal.put_row-next-requires
put_row-next-requires c = let t = c.loop-i.invariant in let w = rows_long c.args.n c.args.distances.now c.args.names.now c.loop-i.i c.requires.1 in (pieces_room _ _ _ _ t (widest_row * c.loop-i.i) w widest_row (omega (arith, c.requires.0)), omega arith, c.requires.1, c.requires.2, c.requires.3)

pub loop-i-preserved : goal.loop-i-preserved
loop-i-preserved c = let t = c.loop-i.invariant in let w = rows_long c.args.n c.args.distances.now c.args.names.now c.loop-i.i c.requires.1 in pieces-turn _ _ _ _ t (widest_row * c.loop-i.i) w _ (omega arith) (omega (arith, c.requires.0)) refl c.put_row-next.ensures

pub shape_of-text : goal.shape_of-text
shape_of-text c = let t = c.loop-i.invariant in let w = rows_long c.args.n c.args.distances.now c.args.names.now c.loop-i.i c.requires.1 in pieces-size _ _ _ _ t (widest_row * c.loop-i.i) w (omega (arith, c.requires.0, t.few))

pub returns : goal.returns
returns c = pieces_end _ _ _ _ c.loop-i.invariant c.loop-i-test.false
